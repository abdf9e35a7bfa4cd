-- What a corner adds to the pairs of elements that take from one another.
use Rattle.std.specs.Prelude.{ℕ, List, [], ◌∷◌}
use Rattle.gn_value.specs.declared.op.Topology as code
use Rattle.gn_value.specs.declared.value.Place.{Place}
use Rattle.gn_value.specs.declared.value.Place.TheVariants.{Point, Edge, Face, Corner}
use Rattle.gn_plain.specs.Geometry.{Shape}
use Rattle.gn_plain.specs.Topology.{Topology, shape_of}
use Rattle.gn_plain.specs.Interpolation as plain
use Rattle.gn_interp.specs.declared.takings.Touching.{Touching}

-- the topology as lists
abbrev pub topology_of : code.Topology → Topology
topology_of t = record { points = t.points; edges = t.edges.now; corner_points = t.corner_points.now; corner_edges = t.corner_edges.now; faces = t.faces.now }

-- the edges and the faces of a topology, wherever its vertices are
abbrev pub unplaced : Topology → Shape
unplaced t = shape_of [] t

abbrev pub touching_of : Touching → plain.Touching
touching_of c = record { corner = c.corner; vertex = c.vertex; edge = c.edge; face = c.face; edge_before = c.edge_before; next = c.next }

abbrev pub corner_takings : Place → Place → plain.Touching → List plain.Taking
corner_takings Point Face c = (c.face, c.vertex) ∷ []
corner_takings Point Corner c = (c.corner, c.vertex) ∷ []
corner_takings Edge Face c = (c.face, c.edge) ∷ []
corner_takings Edge Corner c = (c.corner, c.edge) ∷ (c.corner, c.edge_before) ∷ []
corner_takings Face Point c = (c.vertex, c.face) ∷ []
corner_takings Face Edge c = (c.edge, c.face) ∷ []
corner_takings Face Corner c = (c.corner, c.face) ∷ []
corner_takings Corner Point c = (c.vertex, c.corner) ∷ []
corner_takings Corner Edge c = (c.edge, c.corner) ∷ (c.edge, c.next) ∷ []
corner_takings Corner Face c = (c.face, c.corner) ∷ []
corner_takings _ _ c = []
