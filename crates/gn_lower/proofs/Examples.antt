-- A graph of the code, and what it gives by name.
use Rattle.std.proofs.Common.{◌≡◌, List, [], ◌∷◌, Some, None, pos, refl}
use Rattle.gn_value.specs.declared.value.Value.TheVariants.{Int as int}
use Rattle.gn_lazy.specs.declared.graph.Origin.TheVariants.{Input, Constant as Slot, Out}
use Rattle.gn_lazy.specs.Graphs.{no_nodes}
use Rattle.gn_kinds.specs.declared.row.SocketKind.TheVariants.{Geometry}
use Rattle.gn_kinds.specs.declared.row.DefaultValue.TheVariants.{Zero}
use Rattle.gn_node_set.specs.Meanings.{a_value}
use Rattle.gn_meaning.specs.Sites as sites
use Rattle.gn_meaning.specs.Sites.{default_at}
use Rattle.gn_table.specs.declared.constant.Constant.{Constant}
use Rattle.gn_table.specs.declared.constant.Constant.TheVariants.{Value, Position, NoGeometry}
use Rattle.gn_table.specs.Constants.{name_of}
use Rattle.gn_lower.specs.Lowered.{source_of, task_of}

two_constants : List Constant
two_constants = Value (int (pos 3)) ∷ Position ∷ []

the_input : source_of [] two_constants Input ≡ Some (a_value None)
the_input = refl

a_constant : source_of [] two_constants (Slot 0) ≡ Some (a_value (Some (sites.a_value (int (pos 3)))))
unfolding two_constants
a_constant = refl

a_leaf : source_of [] two_constants (Slot 1) ≡ Some (a_value (Some (sites.a_leaf sites.its_position)))
unfolding two_constants
a_leaf = refl

no_slot : source_of [] two_constants (Slot 2) ≡ None
unfolding two_constants
no_slot = refl

no_node : source_of [] two_constants (Out 0 0) ≡ None
no_node = refl

nothing_in_it : task_of (no_nodes 2) two_constants ≡ Some (record { nodes = []; roots = [] })
nothing_in_it = refl

default_of_geometry : name_of NoGeometry ≡ default_at Geometry Zero
default_of_geometry = refl
