-- A triangle and a quad that are turned over, worked out by hand.
use Rattle.std.proofs.Common.{◌≡◌, ℕ, ◌==◌, List, [], ◌∷◌, true, refl}
use Rattle.gn_plain.specs.Geometry.{Corner}
use Rattle.gn_plain.specs.Topology.{IsJoined}
use Rattle.gn_geometry_rows.specs.Flips.{corner_order, flipped_faces}
use Rattle.gn_flip.specs.Turned.{edge_order}

abbrev corner : ℕ → ℕ → Corner
corner vertex edge = record { vertex = vertex; edge = edge }

-- edges 0-1, 1-2 and 0-2
abbrev triangle : List Corner
triangle = corner 0 0 ∷ corner 1 1 ∷ corner 2 2 ∷ []

a_triangle : flipped_faces (λ k. true) 0 (triangle ∷ []) ≡ (corner 0 2 ∷ corner 2 1 ∷ corner 1 0 ∷ []) ∷ []
a_triangle = refl

-- edges around the vertices 0 to 3, and edge 1, which no face has
abbrev edges : List (ℕ × ℕ)
edges = (0, 1) ∷ (0, 4) ∷ (1, 2) ∷ (2, 3) ∷ (0, 3) ∷ []

abbrev quad : List Corner
quad = corner 0 0 ∷ corner 1 2 ∷ corner 2 3 ∷ corner 3 4 ∷ []

abbrev quad_turned : List Corner
quad_turned = corner 0 4 ∷ corner 3 3 ∷ corner 2 2 ∷ corner 1 0 ∷ []

a_quad : flipped_faces (λ k. true) 0 (quad ∷ []) ≡ quad_turned ∷ []
a_quad = refl

edges_go_around : IsJoined edges quad
edges_go_around = refl

edges_go_around_it_turned : IsJoined edges quad_turned
edges_go_around_it_turned = refl

-- ---- where one of two faces is selected

only_the_second : flipped_faces (λ k. k == 1) 0 (quad ∷ triangle ∷ []) ≡ quad ∷ (corner 0 2 ∷ corner 2 1 ∷ corner 1 0 ∷ []) ∷ []
only_the_second = refl

corners_come : corner_order (λ k. k == 1) 0 0 (quad ∷ triangle ∷ []) ≡ 0 ∷ 1 ∷ 2 ∷ 3 ∷ 4 ∷ 6 ∷ 5 ∷ []
corners_come = refl

edges_come : edge_order (λ k. k == 1) 0 0 (quad ∷ triangle ∷ []) ≡ 0 ∷ 1 ∷ 2 ∷ 3 ∷ 6 ∷ 5 ∷ 4 ∷ []
edges_come = refl
