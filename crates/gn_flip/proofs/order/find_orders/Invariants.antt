use Rattle.std.proofs.Common.{◌≡◌, ◌∷◌, ◌++◌, drop, length}
use Rattle.gn_plain.specs.Topology.{RiseTo, faces_of, parts_between}
use Rattle.gn_interp.specs.Takings.{topology_of}
use Rattle.gn_interp.proofs.Corners.{corners_of}
use Rattle.gn_geometry_rows.specs.Flips.{corner_order}
use Rattle.gn_flip.specs.Turned.{edge_order, is_chosen}
use Rattle.gn_flip.proofs.order.find_orders.Given as goal

-- the corners so far, and those of the faces that are left
abbrev pub invariant-loop-face : goal.invariant-loop-face
invariant-loop-face l = record {
  rise : RiseTo (length l.topology.corner_points.now) l.first (drop l.face (drop 1 l.topology.faces.now));
  corners : l.corners.items ++ corner_order (is_chosen l.selected) l.face l.first (parts_between (l.first ∷ drop l.face (drop 1 l.topology.faces.now)) (corners_of l.topology.corner_points.now l.topology.corner_edges.now)) ≡ corner_order (is_chosen l.selected) 0 0 (faces_of (topology_of l.topology));
  edges : l.edges.items ++ edge_order (is_chosen l.selected) l.face l.first (parts_between (l.first ∷ drop l.face (drop 1 l.topology.faces.now)) (corners_of l.topology.corner_points.now l.topology.corner_edges.now)) ≡ edge_order (is_chosen l.selected) 0 0 (faces_of (topology_of l.topology));
}
