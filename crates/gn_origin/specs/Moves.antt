-- What the walks from the inputs of a Set Position end at.
use Rattle.std.specs.Prelude.{◌≡◌, ◌+◌, ◌≤◌, ◌<◌, ◌==◌, ℕ, Bool, true, false, codes, List, [], ◌∷◌, map, length, Option, Some, None, option_map, option_and_then}
use Rattle.gn_value.specs.declared.vector.V3.{V3}
use Rattle.gn_value.specs.declared.value.Value.{Value}
use Rattle.gn_value.specs.declared.value.Value.TheVariants.{Truth as truth, Vector as vector}
use Rattle.gn_tree.specs.Trees.{Tree}
use Rattle.gn_meaning.specs.Sites.{a_value, a_leaf, its_position, no_geometry, zero_at, at_output, Read, plain_read}
use Rattle.gn_meaning.specs.Reads.{kind_number, read_at, Run, a_node, part_at}
use Rattle.gn_plans.specs.declared.plans.Plan.{Plan as CodePlan}
use Rattle.gn_plans.specs.declared.plans.Plan.TheVariants.{Empty}
use Rattle.gn_origin.specs.declared.read.Constant.{Constant}
use Rattle.gn_origin.specs.declared.plans.Inputs.{Inputs}
use Rattle.gn_origin.specs.declared.plans.Carried.{Carried}
use Rattle.gn_origin.specs.declared.walk.Walk.{Walk}
use Rattle.gn_origin.specs.declared.read.Site.TheVariants as site
use Rattle.gn_origin.specs.declared.read.Site.{Site}
use Rattle.gn_origin.specs.declared.read.Constant.TheVariants as constant
use Rattle.gn_origin.specs.Frames.{Frames, way_of, AreOpen, IsMove}
use Rattle.gn_origin.specs.Reading.{IsElsewhere, IsRead, named_read}
use Rattle.gn_origin.specs.Walking.{tree_by, read_by, IsOrigin, AreSame, IsFoundBelow, Stands}
use Rattle.gn_plans.specs.Plans.{conversion_limit, a_move, Carries, MovesTo, Moves}
use Rattle.gn_rows.specs.Carried.{value_through}
use Rattle.gn_plans.specs.Answers.{plan_of}
use Rattle.gn_kinds.specs.declared.row.SocketKind.TheVariants.{Truth, Vector, Geometry}
use Rattle.gn_tree.specs.Trees.{Named, Node}
use Rattle.gn_tree.specs.Seen.{tree_of}
use Rattle.gn_rules.specs.Rules.{KeepsRules}
use Rattle.gn_rules.specs.Scopes.{Scope}
use Rattle.gn_meaning.specs.Demand.{output_read}
use Rattle.gn_meaning.specs.Forms.{HasForm}
use Rattle.gn_meaning.specs.Origins.{IsReadFrom}
use Rattle.gn_origin.specs.declared.groups.Lists.{Lists}
use Rattle.gn_origin.specs.Nodes.{HasGroups}

-- where the value that is read comes from, if that is an origin that a plan may have
abbrev pub EndsAt : Tree → Read → Option Walk → Type 0
EndsAt t r None = IsElsewhere t r
EndsAt t r (Some w) = (tree_by w ≡ t) × AreSame t r (read_by w) × IsOrigin t (read_by w).from × Stands w

-- the constant at which a walk ended, after the conversions, and how many they are
abbrev pub carried_at : Site → List ℕ → Option (Value × ℕ)
carried_at (site.Constant (constant.Value v)) kinds = Some (value_through v kinds, length kinds)
carried_at _ kinds = None

abbrev pub carried_by : Walk → Option (Value × ℕ)
carried_by w = carried_at w.site (map kind_number w.conversions.items)

abbrev pub carried_of : Carried → Value × ℕ
carried_of c = (c.value, c.conversions)

abbrev pub truth_in : Value × ℕ → Option (Bool × ℕ)
truth_in (truth b, count) = Some (b, count)
truth_in _ = None

abbrev pub vector_in : Value × ℕ → Option (V3 × ℕ)
vector_in (vector v, count) = Some (v, count)
vector_in _ = None

-- the position at which a walk ended: a constant, or each point's own
abbrev pub own_position : List ℕ → Option (Option V3 × ℕ)
own_position [] = Some (None, 0)
own_position (kind ∷ kinds) = None

abbrev pub position_at : Site → List ℕ → Option (Option V3 × ℕ)
position_at (site.Constant constant.Position) kinds = own_position kinds
position_at s kinds = option_map (λ x. (Some x.0, x.1)) (option_and_then vector_in (carried_at s kinds))

abbrev pub position_by : Walk → Option (Option V3 × ℕ)
position_by w = position_at w.site (map kind_number w.conversions.items)

-- what a Set Position that is run has at its inputs is what the code reads
pub record AreRead (t : Tree) (fs : Frames) (run : Run) (inputs : Inputs) : Type 0 where
  pub geometry : IsRead t fs inputs.geometry (read_at run.reads 0)
  pub selection : IsRead t fs inputs.selection (read_at run.reads 1)
  pub position : IsRead t fs inputs.position (read_at run.reads 2)
  pub offset : IsRead t fs inputs.offset (read_at run.reads 3)

module _ (t : Tree) (run : Run) where
  -- the constants of a run, few enough conversions behind them
  pub record HasConstants (selected : Bool) (to : Option V3) (by : V3) : Type 0 where
    pub selections : ℕ
    pub positions : ℕ
    pub offsets : ℕ
    pub selection : Carries t (read_at run.reads 1) (truth selected) selections
    pub position : MovesTo t (read_at run.reads 2) to positions
    pub offset : Carries t (read_at run.reads 3) (vector by) offsets
    pub few : selections + positions + offsets ≤ conversion_limit

  abbrev pub ConstantsAre : Option CodePlan → Type 0
  ConstantsAre None = (selected : Bool) (to : Option V3) (by : V3) → ¬ HasConstants selected to by
  ConstantsAre (Some plan) = (selected : Bool) × (to : Option V3) × (by : V3) × (plan_of plan ≡ a_move selected to by) × HasConstants selected to by

  abbrev pub MovesAs : Option CodePlan → Type 0
  MovesAs None = (selected : Bool) (to : Option V3) (by : V3) → ¬ Moves t run selected to by
  MovesAs (Some plan) = (selected : Bool) × (to : Option V3) × (by : V3) × (plan_of plan ≡ a_move selected to by) × Moves t run selected to by

-- ---- steps of the search for a plan

abbrev pub Limits : Bool × ℕ → Option V3 × ℕ → V3 × ℕ → Option CodePlan → Type 0
Limits selection position offset None = ¬ (selection.1 + position.1 + offset.1 ≤ conversion_limit)
Limits selection position offset (Some plan) = (plan_of plan ≡ a_move selection.0 position.0 offset.0) × (selection.1 + position.1 + offset.1 ≤ conversion_limit)

-- the tree keeps the rules, and the group nodes on the way are open
pub record IsReady (lists : Lists) (fs : Frames) : Type 0 where
  pub keeps : KeepsRules (tree_of lists.tree.now)
  pub form : HasForm (tree_of lists.tree.now)
  pub groups : HasGroups lists
  pub ways : AreOpen (tree_of lists.tree.now) fs

-- the tree's input, read without conversions
abbrev pub input_at : Site → List ℕ → Bool
input_at (site.Entry n s) kinds = length kinds == 0
input_at _ kinds = false

-- what a tree asks for that gives out a constant
abbrev pub constant_plan : Constant → Option CodePlan
constant_plan constant.NoGeometry = Some Empty
constant_plan _ = None

-- what the code reads by the names of a Set Position's inputs
pub record NamesRead (t : Tree) (fs : Frames) (s : Scope) (inputs : List Named) (x : Inputs) : Type 0 where
  pub geometry : IsRead t fs x.geometry (named_read s (way_of fs) inputs (codes "geometry") Geometry no_geometry)
  pub selection : IsRead t fs x.selection (named_read s (way_of fs) inputs (codes "selection") Truth (a_value (truth true)))
  pub position : IsRead t fs x.position (named_read s (way_of fs) inputs (codes "position") Vector (a_leaf its_position))
  pub offset : IsRead t fs x.offset (named_read s (way_of fs) inputs (codes "offset") Vector (zero_at Vector))

-- the Set Position is run so
abbrev pub IsMoveOf : Tree → Frames → ℕ → Node → Run → Type 0
IsMoveOf t fs n x run = IsMove t (way_of fs) n x × (part_at t (way_of fs) n ≡ Some (a_node run))

-- the origins of its inputs are found in at most that many steps
abbrev pub AreFoundBelow : Tree → ℕ → Run → Type 0
AreFoundBelow t n run = (i : ℕ) → i < 4 → IsFoundBelow t n (read_at run.reads i).from

-- and that of the output, and of the inputs of the Set Position that it comes from
pub record IsBounded (t : Tree) (n : ℕ) : Type 0 where
  pub output : IsFoundBelow t n (output_read t).from
  pub inputs : (fs : Frames) → AreOpen t fs → (m : ℕ) (x : Node) (run : Run) → IsReadFrom t (output_read t) (plain_read (at_output (way_of fs) m 0)) → IsMoveOf t fs m x run → AreFoundBelow t n run
