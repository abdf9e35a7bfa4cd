-- The cuboid between two points.
use Rattle.std.specs.Prelude.{ℕ, List, [], ◌∷◌, map, flat_map}
use Rattle.std.specs.List.{zip, position_or_len}
use Rattle.gn_value.specs.declared.vector.V3.{V3}
use Rattle.gn_plain.specs.Edges.{Edge, is_edge, edges_around, first_seen}
use Rattle.gn_plain.specs.Geometry.{Corner, Shape}

-- vertex k is high in x where k has 4, in y where it has 2, in z where it is odd
abbrev pub vertices_between : V3 → V3 → List V3
vertices_between low high =
    flat_map (λ x. flat_map (λ y. map (λ z. record { x = x; y = y; z = z }) (low.z ∷ high.z ∷ [])) (low.y ∷ high.y ∷ [])) (low.x ∷ high.x ∷ [])

-- the faces at low x, high x, low y, high y, low z, high z
abbrev pub sides : List (List ℕ)
sides = (0 ∷ 1 ∷ 3 ∷ 2 ∷ []) ∷ (4 ∷ 6 ∷ 7 ∷ 5 ∷ []) ∷ (0 ∷ 4 ∷ 5 ∷ 1 ∷ []) ∷ (2 ∷ 3 ∷ 7 ∷ 6 ∷ []) ∷ (0 ∷ 2 ∷ 6 ∷ 4 ∷ []) ∷ (1 ∷ 5 ∷ 7 ∷ 3 ∷ []) ∷ []

abbrev pub cuboid_edges : List Edge
cuboid_edges = first_seen (flat_map edges_around sides)

-- each corner with the number of the edge to the next
abbrev pub side : List ℕ → List Corner
side vs = map (λ c. record { vertex = c.0; edge = c.1 }) (zip vs (map (λ e. position_or_len (is_edge e) cuboid_edges) (edges_around vs)))

abbrev pub cuboid : V3 → V3 → Shape
cuboid low high = record { points = vertices_between low high; edges = cuboid_edges; faces = map side sides }
