-- Where the values of a tree stand.
use Rattle.std.specs.Prelude.{ℕ, List, [], ◌∷◌, Some, None}
use Rattle.gn_lazy.specs.declared.path.PathStep.{PathStep}
use Rattle.gn_value.specs.declared.value.Value.{Value}
use Rattle.gn_value.specs.declared.value.Value.TheVariants.{Truth as truth, Int as int, Fixed as fixed, Vector as vector}
use Rattle.gn_value.specs.declared.value.ValueKind.TheVariants as value_kind
use Rattle.gn_value.specs.Values.{zero_of, fx, v3}
use Rattle.gn_value.specs.Arithmetic.{one}
use Rattle.gn_kinds.specs.declared.row.SocketKind.{SocketKind}
use Rattle.gn_kinds.specs.declared.row.SocketKind.TheVariants.{Truth, Int, Fixed, Vector, Geometry}
use Rattle.gn_kinds.specs.declared.row.DefaultValue.{DefaultValue}
use Rattle.gn_kinds.specs.declared.row.DefaultValue.TheVariants.{Zero, One, Constant as Written, Position, Index, Id}
use Rattle.gn_node_set.specs.Paths.{Path}
use Rattle.std.specs.Prelude.{pos, true}

-- ---- constants

-- what an element has by itself
pub data Leaf : Type 0 where
  its_position its_index its_id : Leaf

-- what an input has that nothing is linked to
pub data Constant : Type 0 where
  a_value : Value → Constant
  a_leaf : Leaf → Constant
  no_geometry : Constant

abbrev pub zero_at : SocketKind → Constant
zero_at Truth = a_value (zero_of value_kind.Truth)
zero_at Int = a_value (zero_of value_kind.Int)
zero_at Fixed = a_value (zero_of value_kind.Fixed)
zero_at Vector = a_value (zero_of value_kind.Vector)
zero_at Geometry = no_geometry

abbrev pub one_at : SocketKind → Constant
one_at Truth = a_value (truth true)
one_at Int = a_value (int (pos 1))
one_at Fixed = a_value (fixed (fx one))
one_at Vector = a_value (vector (v3 one one one))
one_at Geometry = no_geometry

abbrev pub default_at : SocketKind → DefaultValue → Constant
default_at kind Zero = zero_at kind
default_at kind One = one_at kind
default_at kind (Written v) = a_value v
default_at kind Position = a_leaf its_position
default_at kind Index = a_leaf its_index
default_at kind Id = a_leaf its_id

-- ---- ways and sites

-- the way to a list of nodes: the tree's own, or that in a group node or in a turn of a zone
pub data Way : Type 0 where
  the_tree : Way
  into : Way → PathStep → Way

abbrev pub plain_step : ℕ → PathStep
plain_step n = record { node = n; turn = None }

abbrev pub turn_step : ℕ → ℕ → PathStep
turn_step n k = record { node = n; turn = Some k }

-- the steps of the way, and then these
abbrev pub path_by : Way → Path → Path
path_by the_tree p = p
path_by (into way step) p = path_by way (step ∷ p)

-- the path of the node with that number in the list
abbrev pub path_of : Way → ℕ → Path
path_of way n = path_by way (plain_step n ∷ [])

-- where a value stands
pub data Site : Type 0 where
  -- an output of a node: its list, its number there, and the output's number
  at_output : Way → ℕ → ℕ → Site
  -- an input of a list of nodes
  at_input : Way → ℕ → Site
  -- an item of a zone before a turn: the zone's list and number, the turn, the item's number
  at_item : Way → ℕ → ℕ → ℕ → Site
  at_constant : Constant → Site
  -- no value stands here; a link that leads from nothing reads it
  nowhere : Site

-- what an input reads: the value at a site, converted to these kinds in turn
pub record Read : Type 0 where
  pub from : Site
  pub through : List ℕ

abbrev pub plain_read : Site → Read
plain_read site = record { from = site; through = [] }
