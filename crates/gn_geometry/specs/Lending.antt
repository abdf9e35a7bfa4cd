-- What a mesh and a cloud end as once their points were written.
use Rattle.std.specs.Prelude.{List}
use Rattle.std.specs.Borrow.{Lends, MutBor, Fml}
use denote.Array.{Array}
use Rattle.gn_value.specs.declared.vector.V3.{V3}
use Rattle.gn_value.specs.contracts.vector.V3.{the_row as v3_row}
use Rattle.gn_shared.specs.Writing.{with_written}
use Rattle.gn_attr.specs.Handles.{all_parts}
use Rattle.gn_geometry.specs.Meshes.{MeshView, with_points}
use Rattle.gn_geometry.specs.Clouds.{CloudView, moved}
use Rattle.gn_geometry.specs.contracts.mesh.Mesh.{the_row as mesh_row}
use Rattle.gn_geometry.specs.contracts.cloud.Cloud.{the_row as cloud_row}

abbrev pub with_written_points : MeshView → List V3 → MeshView
with_written_points m points = with_points m (with_written all_parts m.shape.points points)

abbrev pub LendsVertices : MutBor MeshView → MutBor (List V3) → Fml
LendsVertices s r = Lends mesh_row (Array v3_row 0) s r (with_written_points s.now)

abbrev pub moved_by : CloudView → List V3 → CloudView
moved_by c points = moved c (with_written all_parts c.points points)

abbrev pub LendsPoints : MutBor CloudView → MutBor (List V3) → Fml
LendsPoints s r = Lends cloud_row (Array v3_row 0) s r (moved_by s.now)
