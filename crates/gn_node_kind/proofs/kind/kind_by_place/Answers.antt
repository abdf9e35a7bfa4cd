use Rattle.std.proofs.Common.{ap}
use Rattle.std.specs.Prelude.{option_map}
use Rattle.gn_node_kind.specs.Kinds.{kinds_by_place}
use Rattle.gn_node_kind.proofs.Others.{none_named}
use Rattle.gn_node_kind.proofs.kind.kind_by_place.Goals as goal

pub returns-in_default : goal.returns-in_default
returns-in_default c = ap (option_map (λ kind. kind c.args.place)) (none_named kinds_by_place c.args.name.now (c.in_default.not-sample_nearest, (c.in_default.not-attribute_statistic, (c.in_default.not-delete_geometry, (c.in_default.not-separate_geometry, (c.in_default.not-mesh_to_points, tt))))))
