-- The lists of the join of shapes.
use Rattle.std.specs.Prelude.{◌≡◌, List, [], ◌∷◌}
use Rattle.gn_value.specs.declared.value.Place.{Place}
use Rattle.gn_value.specs.declared.value.Place.TheVariants.{Point, Edge, Face, Corner}
use Rattle.gn_plain.specs.Geometry.{Shape}
use Rattle.gn_plain.specs.Topology.{Topology, shape_of, IsValid}
use Rattle.gn_geom.specs.Meshes.{topology}
use Rattle.gn_joins.specs.Joins.{joined_shape}
use Rattle.gn_pieces.specs.declared.shapes.Lists.{Lists}

abbrev pub topology_of : Lists → Topology
topology_of l = topology l.points.items l.edges.items l.faces.items l.corner_points.items l.corner_edges.items

-- the places of a mesh, in their order
abbrev pub mesh_places : List Place
mesh_places = Point ∷ Edge ∷ Face ∷ Corner ∷ []

-- the lists of the mesh that has nothing
abbrev pub no_topology : Topology
no_topology = record { points = 0; edges = []; corner_points = []; corner_edges = []; faces = 0 ∷ [] }

-- the lists are those of a mesh, which is the join of these shapes
pub record AreJoined (l : Lists) (shapes : List Shape) : Type 0 where
  pub valid : IsValid (topology_of l)
  pub shape : shape_of l.points.items (topology_of l) ≡ joined_shape shapes
