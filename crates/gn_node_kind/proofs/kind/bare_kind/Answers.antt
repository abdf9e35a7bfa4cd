use Rattle.gn_node_kind.specs.Kinds.{bare_kinds}
use Rattle.gn_node_kind.proofs.Others.{none_named}
use Rattle.gn_node_kind.proofs.kind.bare_kind.Goals as goal

pub returns-in_default : goal.returns-in_default
returns-in_default c = none_named bare_kinds c.args.name.now (c.in_default.not-position, (c.in_default.not-index, (c.in_default.not-id, (c.in_default.not-normal, (c.in_default.not-edge_vertices, (c.in_default.not-vertex_neighbors, (c.in_default.not-clamp, (c.in_default.not-combine_xyz, (c.in_default.not-separate_xyz, (c.in_default.not-domain_size, (c.in_default.not-set_position, (c.in_default.not-set_id, (c.in_default.not-join_geometry, (c.in_default.not-transform_geometry, (c.in_default.not-separate_components, (c.in_default.not-bounding_box, (c.in_default.not-flip_faces, (c.in_default.not-points_to_vertices, (c.in_default.not-duplicate_elements, (c.in_default.not-mesh_line, (c.in_default.not-grid, (c.in_default.not-cube, (c.in_default.not-points, (c.in_default.not-geometry_to_instance, (c.in_default.not-instance_on_points, (c.in_default.not-realize_instances, (c.in_default.not-translate_instances, (c.in_default.not-scale_instances, (c.in_default.not-instances_to_points, tt)))))))))))))))))))))))))))))
