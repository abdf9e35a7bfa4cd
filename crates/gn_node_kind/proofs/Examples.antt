-- Kinds by their names and settings, computed.
use Rattle.std.proofs.Common.{◌≡◌, [], Some, None, refl}
use Rattle.std.specs.Prelude.{codes}
use Rattle.gn_value.specs.declared.value.Place.TheVariants.{Corner}
use Rattle.gn_value.specs.declared.value.ValueKind.TheVariants as value_kind
use Rattle.gn_value.specs.declared.op.MathOp.TheVariants.{Divide}
use Rattle.gn_kinds.specs.declared.row.SocketKind.TheVariants.{Fixed, Vector, Geometry}
use Rattle.gn_tree.specs.Trees.{no_settings, and_setting, op, of_kind, place, a_name, no_nodes, and_zone}
use Rattle.gn_node_kind.specs.Kinds as k
use Rattle.gn_node_kind.specs.Kinds.{kind_with}

a_division : kind_with [] (codes "math") (and_setting (op (codes "divide")) no_settings) ≡ Some (k.math Divide)
a_division = refl

-- integers have no root, and fixed numbers no operation without a name
no_root : kind_with [] (codes "integer_math") (and_setting (op (codes "sqrt")) no_settings) ≡ None
no_root = refl

no_operation : kind_with [] (codes "math") no_settings ≡ None
no_operation = refl

a_switch : kind_with [] (codes "switch") (and_setting (of_kind Geometry) no_settings) ≡ Some (k.switch Geometry)
a_switch = refl

-- what is mixed is no geometry
no_mixture : kind_with [] (codes "mix") (and_setting (of_kind Geometry) no_settings) ≡ None
no_mixture = refl

stored : kind_with [] (codes "store_named_attribute") (and_setting (a_name (codes "w")) (and_setting (of_kind Vector) (and_setting (place Corner) no_settings)))
    ≡ Some (k.store_named_attribute (codes "w") value_kind.Vector Corner)
stored = refl

-- settings in another order are those of no kind
out_of_order : kind_with [] (codes "evaluate_on_domain") (and_setting (place Corner) (and_setting (of_kind Fixed) no_settings)) ≡ None
out_of_order = refl

a_zone : kind_with [] (codes "repeat") (and_zone [] no_nodes [] no_settings) ≡ Some (k.repeat [] no_nodes [] [])
a_zone = refl

no_group : kind_with [] (codes "group") no_settings ≡ None
no_group = refl
