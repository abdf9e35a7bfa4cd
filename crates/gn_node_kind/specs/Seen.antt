-- What the code's kinds are: kinds with the values of their settings, and the groups that a zone keeps.
use Rattle.std.specs.Prelude.{map, string_bytes}
use Rattle.std.specs.Arc.{arc_value}
use Rattle.gn_tree.specs.NodeKinds as written
use Rattle.gn_tree.specs.Seen.{socket_of, nodes_of, named_of, group_of}
use Rattle.gn_tree.specs.declared.kind.Kind.{Kind}
use Rattle.gn_tree.specs.declared.kind.Kind.TheVariants as c
use Rattle.gn_node_kind.specs.Kinds as k
use Rattle.gn_node_kind.specs.Kinds.{NodeKind}
use Rattle.gn_node_kind.specs.Written.{name_of, settings_of, groups_of}

abbrev pub seen : Kind → NodeKind
seen (c.Float a) = k.float a
seen (c.Integer a) = k.integer a
seen (c.Boolean a) = k.boolean a
seen (c.Vector a) = k.vector a
seen c.Position = k.position
seen c.Index = k.index
seen c.Id = k.id
seen c.Normal = k.normal
seen (c.NamedAttribute name of) = k.named_attribute (string_bytes name) of
seen c.EdgeVertices = k.edge_vertices
seen c.VertexNeighbors = k.vertex_neighbors
seen (c.Math a) = k.math a
seen (c.IntegerMath a) = k.integer_math a
seen (c.VectorMath a) = k.vector_math a
seen (c.BooleanMath a) = k.boolean_math a
seen (c.Compare a b) = k.compare a b
seen c.Clamp = k.clamp
seen (c.MapRange a) = k.map_range a
seen (c.Mix a) = k.mix a
seen (c.FloatToInteger a) = k.float_to_integer a
seen c.CombineXyz = k.combine_xyz
seen c.SeparateXyz = k.separate_xyz
seen (c.RandomValue a) = k.random_value a
seen (c.Switch a) = k.switch a
seen (c.AccumulateField a b) = k.accumulate_field a b
seen (c.EvaluateAtIndex a b) = k.evaluate_at_index a b
seen (c.EvaluateOnDomain a b) = k.evaluate_on_domain a b
seen (c.SampleIndex a b c) = k.sample_index a b c
seen (c.SampleNearest a) = k.sample_nearest a
seen (c.CaptureAttribute a b) = k.capture_attribute a b
seen (c.StoreNamedAttribute name of place) = k.store_named_attribute (string_bytes name) of place
seen (c.RemoveNamedAttribute name) = k.remove_named_attribute (string_bytes name)
seen (c.AttributeStatistic a) = k.attribute_statistic a
seen c.DomainSize = k.domain_size
seen c.SetPosition = k.set_position
seen c.SetId = k.set_id
seen c.JoinGeometry = k.join_geometry
seen c.TransformGeometry = k.transform_geometry
seen (c.DeleteGeometry a) = k.delete_geometry a
seen (c.SeparateGeometry a) = k.separate_geometry a
seen c.SeparateComponents = k.separate_components
seen c.BoundingBox = k.bounding_box
seen c.FlipFaces = k.flip_faces
seen (c.MeshToPoints a) = k.mesh_to_points a
seen c.PointsToVertices = k.points_to_vertices
seen c.DuplicateElements = k.duplicate_elements
seen c.MeshLine = k.mesh_line
seen c.Grid = k.grid
seen c.Cube = k.cube
seen c.Points = k.points
seen (c.ImportObj file) = k.import_obj (string_bytes file)
seen (c.Repeat items nodes output groups) =
    k.repeat (map socket_of items.items) (nodes_of nodes.items) (map named_of output.items) (map group_of (arc_value groups).items)
seen c.GeometryToInstance = k.geometry_to_instance
seen c.InstanceOnPoints = k.instance_on_points
seen c.RealizeInstances = k.realize_instances
seen c.TranslateInstances = k.translate_instances
seen c.ScaleInstances = k.scale_instances
seen c.InstancesToPoints = k.instances_to_points

-- a kind as the meaning of trees has it
abbrev pub written_as : Kind → written.Kind
written_as kind = record { name = name_of (seen kind); settings = settings_of (seen kind); groups = groups_of (seen kind) }
