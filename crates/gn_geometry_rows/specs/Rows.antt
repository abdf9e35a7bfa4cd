-- The outputs of a node, for its inputs.
use Rattle.std.specs.Prelude.{List, Option, Some, None}
use Rattle.gn_plain.specs.Fields.{Sources}
use Rattle.gn_node_kind.specs.Kinds as kind
use Rattle.gn_node_kind.specs.Kinds.{NodeKind}
use Rattle.gn_rows.specs.Carried.{Carried}
use Rattle.gn_geometry_rows.specs.Primitives.{mesh_line, grid_mesh, cube, points}
use Rattle.gn_geometry_rows.specs.Components.{separate_components, domain_size, join_geometry, realize_instances, bounding_box, transform_geometry}
use Rattle.gn_geometry_rows.specs.Flips.{flip_faces}
use Rattle.gn_geometry_rows.specs.Placing.{geometry_to_instance, instance_on_points, translate_instances, scale_instances, instances_to_points}

module _ {S : Type 0} (sources : Sources S) where
  -- of another kind of node nothing is said
  abbrev pub geometry_outputs : NodeKind → List (Carried S) → Option (List (Carried S))
  geometry_outputs kind.mesh_line inputs = Some (mesh_line sources inputs)
  geometry_outputs kind.grid inputs = Some (grid_mesh sources inputs)
  geometry_outputs kind.cube inputs = Some (cube sources inputs)
  geometry_outputs kind.points inputs = Some (points sources inputs)
  geometry_outputs kind.separate_components inputs = Some (separate_components inputs)
  geometry_outputs kind.domain_size inputs = Some (domain_size inputs)
  geometry_outputs kind.join_geometry inputs = Some (join_geometry inputs)
  geometry_outputs kind.realize_instances inputs = Some (realize_instances inputs)
  geometry_outputs kind.bounding_box inputs = Some (bounding_box inputs)
  geometry_outputs kind.transform_geometry inputs = Some (transform_geometry sources inputs)
  geometry_outputs kind.flip_faces inputs = Some (flip_faces sources inputs)
  geometry_outputs kind.geometry_to_instance inputs = Some (geometry_to_instance inputs)
  geometry_outputs kind.instance_on_points inputs = Some (instance_on_points sources inputs)
  geometry_outputs kind.translate_instances inputs = Some (translate_instances sources inputs)
  geometry_outputs kind.scale_instances inputs = Some (scale_instances sources inputs)
  geometry_outputs kind.instances_to_points inputs = Some (instances_to_points sources inputs)
  geometry_outputs other inputs = None
