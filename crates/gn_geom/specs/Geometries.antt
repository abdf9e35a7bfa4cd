-- What clauses see of a geometry, and the plain geometry that it stands for.
use Rattle.gn_plain.specs.Geometry as plain
use Rattle.gn_geom.specs.Meshes as meshes

-- the arrays of its mesh
pub record GeometryArrays : Type 0 where
  pub mesh : meshes.MeshArrays

-- the plain geometry, without the handles
abbrev pub plain_geometry : GeometryArrays → plain.Geometry
plain_geometry g = plain.of_shape (meshes.plain_of g.mesh)

-- each handle has all parts
abbrev pub IsSole : GeometryArrays → Type 0
IsSole g = meshes.IsSole g.mesh
