-- Values of one place on another, by computation.
use Rattle.std.proofs.Common.{◌≡◌, ℕ, List, [], ◌∷◌, map, true, false, pos, negsuc, refl}
use Rattle.gn_value.specs.declared.value.Value.TheVariants.{Truth as truth, Int as int, Vector as vector}
use Rattle.gn_value.specs.declared.value.ValueKind.TheVariants.{Truth, Int, Vector}
use Rattle.gn_value.specs.declared.value.Place.{Place}
use Rattle.gn_value.specs.declared.value.Place.TheVariants.{Point, Edge, Face, Corner, Cloud}
use Rattle.gn_value.specs.Values.{v3}
use Rattle.gn_plain.specs.Columns.{ints, truths, vectors, value_of}
use Rattle.gn_plain.specs.Interpolation.{sources, interpolated}
use Rattle.gn_plain.proofs.Samples.{triangle, two_triangles}

-- the sources of the first three elements
abbrev of_triangle : Place → Place → List (List ℕ)
of_triangle from to = map (sources from to triangle) (0 ∷ 1 ∷ 2 ∷ [])

an_edge_takes_from_its_vertices : of_triangle Point Edge ≡ (0 ∷ 1 ∷ []) ∷ (1 ∷ 2 ∷ []) ∷ (0 ∷ 2 ∷ []) ∷ []
an_edge_takes_from_its_vertices = refl

a_vertex_takes_from_its_edges : of_triangle Edge Point ≡ (0 ∷ 2 ∷ []) ∷ (0 ∷ 1 ∷ []) ∷ (1 ∷ 2 ∷ []) ∷ []
a_vertex_takes_from_its_edges = refl

a_corner_takes_from_its_edge_and_the_one_before : of_triangle Edge Corner ≡ (0 ∷ 2 ∷ []) ∷ (1 ∷ 0 ∷ []) ∷ (2 ∷ 1 ∷ []) ∷ []
a_corner_takes_from_its_edge_and_the_one_before = refl

an_edge_takes_from_a_corner_and_the_next : of_triangle Corner Edge ≡ (0 ∷ 1 ∷ []) ∷ (1 ∷ 2 ∷ []) ∷ (2 ∷ 0 ∷ []) ∷ []
an_edge_takes_from_a_corner_and_the_next = refl

of_the_second_triangle :
    sources Point Face two_triangles 1 ∷ sources Point Corner two_triangles 5 ∷ sources Edge Face two_triangles 1 ∷ sources Face Corner two_triangles 3 ∷ sources Corner Face two_triangles 1 ∷ []
    ≡ (1 ∷ 2 ∷ 3 ∷ []) ∷ (3 ∷ []) ∷ (1 ∷ 3 ∷ 4 ∷ []) ∷ (1 ∷ []) ∷ (3 ∷ 4 ∷ 5 ∷ []) ∷ []
of_the_second_triangle = refl

-- of vertex 1 and of the edge between 1 and 2, which both faces have
of_what_is_shared :
    sources Face Point two_triangles 1 ∷ sources Corner Point two_triangles 1 ∷ sources Face Edge two_triangles 1 ∷ sources Corner Edge two_triangles 1 ∷ []
    ≡ (0 ∷ 1 ∷ []) ∷ (1 ∷ 3 ∷ []) ∷ (0 ∷ 1 ∷ []) ∷ (1 ∷ 2 ∷ 3 ∷ 4 ∷ []) ∷ []
of_what_is_shared = refl

nothing_leads_to_a_cloud : sources Point Cloud triangle 0 ≡ []
nothing_leads_to_a_cloud = refl

-- means are rounded down
integers_on_a_face : interpolated triangle Int Point Face (value_of (ints (negsuc 0 ∷ pos 0 ∷ pos 0 ∷ []))) 0 ≡ int (negsuc 0)
integers_on_a_face = refl

integers_on_edges : map (interpolated triangle Int Point Edge (value_of (ints (negsuc 0 ∷ pos 0 ∷ pos 0 ∷ [])))) (0 ∷ 1 ∷ 2 ∷ []) ≡ int (negsuc 0) ∷ int (pos 0) ∷ int (negsuc 0) ∷ []
integers_on_edges = refl

vectors_by_component : interpolated triangle Vector Point Face (value_of (vectors (v3 (pos 3) (pos 4) (negsuc 0) ∷ v3 (pos 3) (pos 4) (pos 0) ∷ v3 (pos 3) (pos 0) (pos 0) ∷ []))) 0 ≡ vector (v3 (pos 3) (pos 2) (negsuc 0))
vectors_by_component = refl

all_vertices_of_a_face : map (interpolated two_triangles Truth Point Face (value_of (truths (true ∷ true ∷ true ∷ false ∷ false ∷ [])))) (0 ∷ 1 ∷ []) ≡ truth true ∷ truth false ∷ []
all_vertices_of_a_face = refl

-- the last vertex has no face
one_face_at_a_vertex : map (interpolated two_triangles Truth Face Point (value_of (truths (true ∷ false ∷ [])))) (0 ∷ 1 ∷ 2 ∷ 3 ∷ 4 ∷ []) ≡ truth true ∷ truth true ∷ truth true ∷ truth false ∷ truth false ∷ []
one_face_at_a_vertex = refl

values_stay_on_their_place : interpolated triangle Int Corner Corner (value_of (ints (pos 4 ∷ pos 5 ∷ pos 6 ∷ []))) 1 ≡ int (pos 5)
values_stay_on_their_place = refl
