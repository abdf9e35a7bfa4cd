-- What clauses see of a mesh with columns, and the plain mesh that it stands for.
use Rattle.std.specs.Prelude.{Bool, List, [], ◌∷◌, ◌++◌, map}
use Rattle.std.specs.List.{AllZip}
use Rattle.gn_value.specs.declared.vector.V3.{V3}
use Rattle.gn_shared.specs.Arrays.{ArrayView}
use Rattle.gn_plain.specs.Columns.{Entry}
use Rattle.gn_plain.specs.Geometry as plain
use Rattle.gn_attr.specs.declared.column.Column.{Column}
use Rattle.gn_attr.specs.Handles.{Keeps, IsTwin, has_one_part}
use Rattle.gn_attr.specs.Columns.{plain_columns, one_part, AreSole, KeepsEntry, IsTwinEntry}
use Rattle.gn_geom.specs.Meshes as shapes
use Rattle.gn_geom.specs.Meshes.{MeshArrays, IsMesh, plain_of}
use Rattle.gn_geometry.specs.declared.arrays.Arrays.{Arrays}
use Rattle.gn_geometry.specs.Fits.{mesh_count, AreFitting}

-- the arrays of its shape, and its columns with their handles
pub record MeshView : Type 0 where
  pub shape : MeshArrays
  pub columns : List (Entry Column)

abbrev pub arrays_of : Arrays → MeshArrays
arrays_of a = record { points = a.points; edges = a.edges; faces = a.faces; corner_points = a.corner_points; corner_edges = a.corner_edges; loose = a.loose }

-- the plain mesh, without the handles
abbrev pub plain_mesh : MeshView → plain.Mesh
plain_mesh m = record { shape = plain_of m.shape; columns = plain_columns m.columns }

-- what is true of each mesh
pub record IsColumned (m : MeshView) : Type 0 where
  pub shape : IsMesh m.shape
  pub fit : AreFitting (mesh_count (plain_of m.shape)) m.columns

abbrev pub with_points : MeshView → ArrayView V3 → MeshView
with_points m points = record { shape = record m.shape { points = points }; columns = m.columns }

abbrev pub with_columns : MeshView → List (Entry Column) → MeshView
with_columns m columns = record { shape = m.shape; columns = columns }

-- each handle has all parts
pub record IsSole (m : MeshView) : Type 0 where
  pub shape : shapes.IsSole m.shape
  pub columns : AreSole m.columns

-- ---- a second mesh

-- the same items in the same blocks
pub record KeepsShape (before after : MeshArrays) : Type 0 where
  pub points : Keeps before.points after.points
  pub edges : Keeps before.edges after.edges
  pub faces : Keeps before.faces after.faces
  pub corner_points : Keeps before.corner_points after.corner_points
  pub corner_edges : Keeps before.corner_edges after.corner_edges
  pub loose : Keeps before.loose after.loose

-- the same items, in the same block where the handle had more than one part
pub record IsTwinShape (shape twin : MeshArrays) : Type 0 where
  pub points : IsTwin shape.points twin.points
  pub edges : IsTwin shape.edges twin.edges
  pub faces : IsTwin shape.faces twin.faces
  pub corner_points : IsTwin shape.corner_points twin.corner_points
  pub corner_edges : IsTwin shape.corner_edges twin.corner_edges
  pub loose : IsTwin shape.loose twin.loose

pub record KeepsMesh (before after : MeshView) : Type 0 where
  pub shape : KeepsShape before.shape after.shape
  pub columns : AllZip KeepsEntry before.columns after.columns

pub record IsTwinMesh (mesh twin : MeshView) : Type 0 where
  pub shape : IsTwinShape mesh.shape twin.shape
  pub columns : AllZip IsTwinEntry mesh.columns twin.columns

-- for each array, in order, whether its handle has one part
abbrev pub shape_copies : MeshArrays → List Bool
shape_copies m = has_one_part m.points ∷ has_one_part m.edges ∷ has_one_part m.faces ∷ has_one_part m.corner_points ∷ has_one_part m.corner_edges ∷ has_one_part m.loose ∷ []

abbrev pub column_copies : List (Entry Column) → List Bool
column_copies es = map (λ e. one_part e.column) es

abbrev pub mesh_copies : MeshView → List Bool
mesh_copies m = shape_copies m.shape ++ column_copies m.columns
