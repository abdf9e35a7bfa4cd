-- Which trees this version evaluates, and what they ask for: at most one Set Position, which moves the tree's input by constants, through any number of groups.
use Rattle.std.specs.Prelude.{◌≡◌, ◌+◌, ◌≤◌, ℕ, List, length, codes, Option, Some, None, Bool}
use Rattle.gn_value.specs.declared.vector.V3.{V3}
use Rattle.gn_value.specs.declared.value.Value.{Value}
use Rattle.gn_value.specs.declared.value.Value.TheVariants.{Truth as truth, Vector as vector}
use Rattle.gn_tree.specs.Trees.{Tree}
use Rattle.gn_meaning.specs.Sites.{a_value, a_leaf, its_position, no_geometry, Way, the_tree, at_output, at_input, at_constant, Read, plain_read}
use Rattle.gn_meaning.specs.Reads.{read_at, Run, a_node, part_at}
use Rattle.gn_meaning.specs.Demand.{output_read}
use Rattle.gn_meaning.specs.Origins.{IsReadFrom}
use Rattle.gn_rows.specs.Carried.{value_through}

-- the geometry that a tree gives out: the empty one, the tree's input, or its input with the selected points moved to a position, or from their own if none is given, by an offset
pub data Plan : Type 0 where
  no_mesh : Plan
  the_input : Plan
  a_move : Bool → Option V3 → V3 → Plan

-- a tree has a plan only where its three constants go through at most this many conversions together, so that they stay below the limit on the steps of fields
abbrev pub conversion_limit : ℕ
conversion_limit = 4000

module _ (t : Tree) where
  -- the input reads a constant, which is that value after this many conversions
  abbrev pub Carries : Read → Value → ℕ → Type 0
  Carries r v count = (c : Value) × (kinds : List ℕ) × IsReadFrom t r (record { from = at_constant (a_value c); through = kinds }) × (v ≡ value_through c kinds) × (count ≡ length kinds)

  -- the input reads the tree's input
  abbrev pub ReadsInput : Read → Type 0
  ReadsInput r = IsReadFrom t r (plain_read (at_input the_tree 0))

  -- the position to move to: a constant, or each point's own
  abbrev pub MovesTo : Read → Option V3 → ℕ → Type 0
  MovesTo r None count = IsReadFrom t r (plain_read (at_constant (a_leaf its_position))) × (count ≡ 0)
  MovesTo r (Some p) count = Carries r (vector p) count

  -- the run moves the tree's input so
  pub record Moves (run : Run) (selected : Bool) (to : Option V3) (by : V3) : Type 0 where
    pub kind : run.kind.name ≡ codes "set_position"
    pub geometry : ReadsInput (read_at run.reads 0)
    pub selections : ℕ
    pub positions : ℕ
    pub offsets : ℕ
    pub selection : Carries (read_at run.reads 1) (truth selected) selections
    pub position : MovesTo (read_at run.reads 2) to positions
    pub offset : Carries (read_at run.reads 3) (vector by) offsets
    pub few : selections + positions + offsets ≤ conversion_limit

  pub data IsPlan : Plan → Type 0 where
    gives_nothing : IsReadFrom t (output_read t) (plain_read (at_constant no_geometry)) → IsPlan no_mesh
    gives_input : ReadsInput (output_read t) → IsPlan the_input
    gives_moved : (way : Way) (n : ℕ) (run : Run) (selected : Bool) (to : Option V3) (by : V3) → IsReadFrom t (output_read t) (plain_read (at_output way n 0)) → part_at t way n ≡ Some (a_node run) → Moves run selected to by → IsPlan (a_move selected to by)

  -- the tree asks for something else
  abbrev pub HasNoPlan : Type 0
  HasNoPlan = (plan : Plan) → ¬ IsPlan plan
