-- Points and geometry under a transform.
use Rattle.std.specs.Prelude.{◌+ℤ◌, ℤ, map}
use Rattle.gn_value.specs.Arithmetic.{sat}
use Rattle.gn_value.specs.Values.{dot_of, exact_dot, v3}
use Rattle.gn_value.specs.declared.vector.V3.{V3}
use Rattle.gn_plain.specs.Geometry.{Mesh, Cloud, Geometry, Transform, Instances, with_columns, Placed, none_placed, and_placed}

-- the products of a row, each rounded down, and the translation, added exactly and brought into range once
abbrev pub along : V3 → ℤ → V3 → ℤ
along row shift p = sat (exact_dot row p +ℤ shift)

abbrev pub moved_point : Transform → V3 → V3
moved_point t p = v3 (along t.row_x t.translation.x.0 p) (along t.row_y t.translation.y.0 p) (along t.row_z t.translation.z.0 p)

abbrev pub moved_mesh : Transform → Mesh → Mesh
moved_mesh t m = record { shape = record { points = map (moved_point t) m.shape.points; edges = m.shape.edges; faces = m.shape.faces }; columns = m.columns }

abbrev pub moved_cloud : Transform → Cloud → Cloud
moved_cloud t c = record { points = map (moved_point t) c.points; columns = c.columns }

-- ---- instances

-- the columns of a transform's map
abbrev pub column_x : Transform → V3
column_x t = v3 t.row_x.x.0 t.row_y.x.0 t.row_z.x.0

abbrev pub column_y : Transform → V3
column_y t = v3 t.row_x.y.0 t.row_y.y.0 t.row_z.y.0

abbrev pub column_z : Transform → V3
column_z t = v3 t.row_x.z.0 t.row_y.z.0 t.row_z.z.0

-- a row of a product of maps
abbrev pub row_by : V3 → Transform → V3
row_by row inner = v3 (dot_of row (column_x inner)) (dot_of row (column_y inner)) (dot_of row (column_z inner))

-- the rows of the product, and the translation as a point that is moved
abbrev pub moved_transform : Transform → Transform → Transform
moved_transform t inner = record { row_x = row_by t.row_x inner; row_y = row_by t.row_y inner; row_z = row_by t.row_z inner; translation = moved_point t inner.translation }

abbrev pub moved_placed : Transform → Placed → Placed
moved_placed t none_placed = none_placed
moved_placed t (and_placed inner mesh cloud instances placed) = and_placed (moved_transform t inner) mesh cloud instances (moved_placed t placed)

abbrev pub moved_instances : Transform → Instances → Instances
moved_instances t (with_columns placed columns) = with_columns (moved_placed t placed) columns

abbrev pub moved : Transform → Geometry → Geometry
moved t g = record { mesh = moved_mesh t g.mesh; cloud = moved_cloud t g.cloud; instances = moved_instances t g.instances }
