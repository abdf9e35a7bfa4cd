-- The lines of a mesh by the lists that it is kept in.
use Rattle.std.proofs.Common.{◌≡◌, ℕ, ◌+◌, ◌-◌, ◌<◌, ◌≤◌, List, [], ◌∷◌, ◌++◌, length, map, take, drop, get_or, codes, refl, sym, ap, ◌∙◌, arith}
use Rattle.std.specs.List.{enumerate_from, flat_map, zip}
use Rattle.std.specs.Prelude.{slice_range}
use Rattle.std.proofs.lemmas.List.{get_or-map, length-map, take_all}
use Rattle.gn_plain.specs.Edges.{Edge}
use Rattle.gn_plain.specs.Geometry.{Corner, of_shape}
use Rattle.gn_plain.specs.Topology.{corner_of, edge_of, parts_between, vertices_of}
use Rattle.gn_geom.specs.Meshes.{MeshArrays, plain_of}
use Rattle.gn_geom.proofs.FaceLemmas.{face_vertices}
use Rattle.gn_obj.specs.Written.{vertex_word, vertex_line, loose_edge_line, face_line, line_feed, obj_text}
use Rattle.gn_obj.specs.Texts.{face_text}

-- a list with a first member
pub first_and_rest : (xs : List ℕ) → 1 ≤ length xs → xs ≡ get_or xs 0 0 ∷ take (length xs - 1) (drop 1 xs)
first_and_rest [] long = absurd (omega arith)
first_and_rest (x ∷ xs) long = ap (λ l. x ∷ l) (sym (take_all (length (x ∷ xs) - 1) xs (omega arith)))

vertex_words : (face : List Corner) → flat_map (λ c. vertex_word c.vertex) face ≡ flat_map vertex_word (vertices_of face)
vertex_words [] = refl
vertex_words (c ∷ cs) = ap (λ l. vertex_word c.vertex ++ l) (vertex_words cs)

line_of_face : (vs ks : List ℕ) (a b : ℕ) → length vs ≡ length ks → face_line (slice_range (map corner_of (zip vs ks)) a b) ≡ face_text (slice_range vs a b)
line_of_face vs ks a b paired =
    ap (λ words. codes "f" ++ words ++ line_feed) (vertex_words (slice_range (map corner_of (zip vs ks)) a b) ∙ ap (flat_map vertex_word) (face_vertices vs ks a b paired))

-- the lines of the faces
pub lines_of_faces : (vs ks offsets : List ℕ) → length vs ≡ length ks
    → flat_map face_text (parts_between offsets vs) ≡ flat_map face_line (parts_between offsets (map corner_of (zip vs ks)))
lines_of_faces vs ks [] paired = refl
lines_of_faces vs ks (a ∷ []) paired = refl
lines_of_faces vs ks (a ∷ b ∷ offsets) paired =
    ap (λ l. face_text (slice_range vs a b) ++ l) (lines_of_faces vs ks (b ∷ offsets) paired)
    ∙ ap (λ l. l ++ flat_map face_line (parts_between (b ∷ offsets) (map corner_of (zip vs ks)))) (sym (line_of_face vs ks a b paired))

-- the edge of a number and what follows it
pub next_edge : (line : ℕ × Edge → List ℕ) (items edges : List (ℕ × ℕ)) (k : ℕ) (d : ℕ × ℕ) → edges ≡ items → k < length edges
    → flat_map line (enumerate_from k (get_or (map edge_of items) k (edge_of d) ∷ drop (k + 1) (map edge_of items)))
    ≡ line (k, edge_of (get_or edges k d)) ++ flat_map line (enumerate_from (k + 1) (drop (k + 1) (map edge_of items)))
next_edge line items edges k d e within =
    ap (λ x. line (k, x) ++ flat_map line (enumerate_from (k + 1) (drop (k + 1) (map edge_of items))))
    (get_or-map edge_of items k d (edge_of d) (omega (arith, ap length e)) ∙ ap (λ l. edge_of (get_or l k d)) (sym e))

pub edge_within : (items edges : List (ℕ × ℕ)) (k : ℕ) → edges ≡ items → k < length edges → k < length (map edge_of items)
edge_within items edges k e within = omega (arith, ap length e, length-map items edge_of)

-- the three parts of the text
pub obj_parts : (m : MeshArrays) → flat_map vertex_line m.points.items ++ flat_map (loose_edge_line (plain_of m)) (enumerate_from 0 (plain_of m).edges) ++ flat_map face_line (plain_of m).faces ≡ obj_text (of_shape (plain_of m))
unfolding obj_text
obj_parts m = refl
