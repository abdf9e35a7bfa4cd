-- Lines, grids and cuboids, worked out by hand.
use Rattle.std.proofs.Common.{◌≡◌, ℕ, ◌-◌, ◌^◌, ℤ, pos, negsuc, [], ◌∷◌, map, refl}
use Rattle.gn_value.specs.Values.{v3}
use Rattle.gn_plain.specs.Edges.{Edge}
use Rattle.gn_plain.specs.Geometry.{Corner}
use Rattle.gn_shapes.specs.Lines.{line, point_of_line}
use Rattle.gn_shapes.specs.Grids.{along_side, grid}
use Rattle.gn_shapes.specs.Cuboids.{cuboid_edges, side, sides, vertices_between}

abbrev joins : ℕ → ℕ → Edge
joins a b = record { lesser = a; greater = b }

abbrev at : ℕ → ℕ → Corner
at vertex edge = record { vertex = vertex; edge = edge }

-- ---- lines

abbrev far : ℤ
far = pos (2 ^ 63 - 2)

-- the third vertex stops at the end of the range, and its other coordinates don't
a_line : line 3 (v3 (negsuc 0) (pos 5) far) (v3 (pos 2) (negsuc 2) (pos 1))
    ≡ record { points = v3 (negsuc 0) (pos 5) far ∷ v3 (pos 1) (pos 2) (pos (2 ^ 63 - 1)) ∷ v3 (pos 3) (negsuc 0) (pos (2 ^ 63 - 1)) ∷ []; edges = joins 0 1 ∷ joins 1 2 ∷ []; faces = [] }
a_line = refl

one_vertex : line 1 (v3 (pos 1) (pos 2) (pos 3)) (v3 (pos 9) (pos 9) (pos 9)) ≡ record { points = v3 (pos 1) (pos 2) (pos 3) ∷ []; edges = []; faces = [] }
one_vertex = refl

-- an offset that leaves the range comes back if the start lies on the other side
there_and_back : point_of_line (v3 (negsuc (2 ^ 63 - 1)) (pos 0) (pos 0)) (v3 (pos (2 ^ 63 - 1)) (pos 0) (pos 0)) 2 ≡ v3 (pos (2 ^ 63 - 2)) (pos 0) (pos 0)
there_and_back = refl

-- ---- grids

-- 5 shared by two and by three vertices, -5 by two, and one vertex in the middle
sides_of_five : map (λ i. along_side (pos 5) 2 i) (0 ∷ 1 ∷ []) ≡ (negsuc 2 ∷ pos 2 ∷ [])
sides_of_five = refl

thirds_of_five : map (λ i. along_side (pos 5) 3 i) (0 ∷ 1 ∷ 2 ∷ []) ≡ (negsuc 2 ∷ pos 0 ∷ pos 2 ∷ [])
thirds_of_five = refl

turned_round : (map (λ i. along_side (negsuc 4) 2 i) (0 ∷ 1 ∷ []) ≡ (pos 2 ∷ negsuc 2 ∷ [])) × (along_side (pos 7) 1 0 ≡ pos 0)
turned_round = (refl, refl)

a_grid : grid 3 2 (pos 4) (pos 2)
    ≡ record {
      points = v3 (negsuc 1) (negsuc 0) (pos 0) ∷ v3 (negsuc 1) (pos 1) (pos 0) ∷ v3 (pos 0) (negsuc 0) (pos 0) ∷ v3 (pos 0) (pos 1) (pos 0) ∷ v3 (pos 2) (negsuc 0) (pos 0) ∷ v3 (pos 2) (pos 1) (pos 0) ∷ [];
      edges = joins 0 1 ∷ joins 2 3 ∷ joins 4 5 ∷ joins 0 2 ∷ joins 1 3 ∷ joins 2 4 ∷ joins 3 5 ∷ [];
      faces = (at 0 3 ∷ at 2 1 ∷ at 3 4 ∷ at 1 0 ∷ []) ∷ (at 2 5 ∷ at 4 2 ∷ at 5 6 ∷ at 3 1 ∷ []) ∷ [];
    }
a_grid = refl

-- a row of vertices has edges and no face
a_row : grid 2 1 (pos 2) (pos 2) ≡ record { points = v3 (negsuc 0) (pos 0) (pos 0) ∷ v3 (pos 1) (pos 0) (pos 0) ∷ []; edges = joins 0 1 ∷ []; faces = [] }
a_row = refl

nothing : grid 0 0 (pos 2) (pos 2) ≡ record { points = []; edges = []; faces = [] }
nothing = refl

-- ---- cuboids

corners_of_a_box : vertices_between (v3 (negsuc 0) (negsuc 1) (negsuc 2)) (v3 (pos 1) (pos 2) (pos 3))
    ≡ v3 (negsuc 0) (negsuc 1) (negsuc 2) ∷ v3 (negsuc 0) (negsuc 1) (pos 3) ∷ v3 (negsuc 0) (pos 2) (negsuc 2) ∷ v3 (negsuc 0) (pos 2) (pos 3)
    ∷ v3 (pos 1) (negsuc 1) (negsuc 2) ∷ v3 (pos 1) (negsuc 1) (pos 3) ∷ v3 (pos 1) (pos 2) (negsuc 2) ∷ v3 (pos 1) (pos 2) (pos 3) ∷ []
corners_of_a_box = refl

edges_of_a_box : cuboid_edges
    ≡ joins 0 1 ∷ joins 1 3 ∷ joins 2 3 ∷ joins 0 2 ∷ joins 4 6 ∷ joins 6 7 ∷ joins 5 7 ∷ joins 4 5 ∷ joins 0 4 ∷ joins 1 5 ∷ joins 3 7 ∷ joins 2 6 ∷ []
edges_of_a_box = refl

faces_of_a_box : map side sides
    ≡ (at 0 0 ∷ at 1 1 ∷ at 3 2 ∷ at 2 3 ∷ []) ∷ (at 4 4 ∷ at 6 5 ∷ at 7 6 ∷ at 5 7 ∷ []) ∷ (at 0 8 ∷ at 4 7 ∷ at 5 9 ∷ at 1 0 ∷ [])
    ∷ (at 2 2 ∷ at 3 10 ∷ at 7 5 ∷ at 6 11 ∷ []) ∷ (at 0 3 ∷ at 2 11 ∷ at 6 4 ∷ at 4 8 ∷ []) ∷ (at 1 9 ∷ at 5 6 ∷ at 7 10 ∷ at 3 1 ∷ []) ∷ []
faces_of_a_box = refl
