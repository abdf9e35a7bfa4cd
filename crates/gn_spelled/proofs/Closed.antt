-- The parts that elements grow to, each as one list.
use Rattle.std.proofs.Common.{◌≡◌, ℕ, ◌+◌, List, [], ◌∷◌, ◌++◌, length, map, fold, filter, flat_map, refl, sym, ap, ◌∙◌, append_assoc, append-nil, length-append}
use Rattle.std.proofs.lemmas.List.Sums.{fold-append}
use Rattle.gn_plain.specs.Edges.{Edge, with_edge, edges_around, edges_along}
use Rattle.gn_elements.specs.Read.{Element, vertex, row, face, nothing, points_of, faces_of, edges_of, is_proper}
use Rattle.gn_elements.specs.Growing.{Growing, with_element, with_vertex, with_row, with_face, numbers_among}
use Rattle.gn_spelled.proofs.Numbers.{number_in, numbers_last}

abbrev pub grow : Growing → List Element → Growing
grow g es = fold with_element g es

abbrev pub faces_in : List Element → List (List ℕ)
faces_in es = flat_map faces_of es

abbrev pub edges_among : List Element → List Edge
edges_among es = flat_map edges_of es

-- where faces end whose corners begin at n
abbrev pub ends : ℕ → List (List ℕ) → List ℕ
ends n [] = []
ends n (vs ∷ faces) = (n + length vs) ∷ ends (n + length vs) faces

abbrev pub numbers_of : List Edge → List (List ℕ) → List ℕ
numbers_of edges faces = flat_map (λ vs. map (number_in edges) (edges_around vs)) faces

pub grow-points : (g : Growing) (es : List Element) → (grow g es).points ≡ g.points ++ flat_map points_of es
grow-points g [] = sym (append-nil g.points)
grow-points g (vertex p ∷ es) = grow-points (with_vertex g p) es ∙ append_assoc g.points (p ∷ []) (flat_map points_of es)
grow-points g (row vs ∷ es) = grow-points (with_row g vs) es
grow-points g (face vs ∷ es) = grow-points (with_face g vs) es
grow-points g (nothing ∷ es) = grow-points g es

pub grow-edges : (g : Growing) (es : List Element) → (grow g es).edges ≡ fold with_edge g.edges (edges_among es)
grow-edges g [] = refl
grow-edges g (vertex p ∷ es) = grow-edges (with_vertex g p) es
grow-edges g (row vs ∷ es) = grow-edges (with_row g vs) es ∙ sym (fold-append with_edge g.edges (filter is_proper (edges_along vs)) (edges_among es))
grow-edges g (face vs ∷ es) = grow-edges (with_face g vs) es ∙ sym (fold-append with_edge g.edges (edges_around vs) (edges_among es))
grow-edges g (nothing ∷ es) = grow-edges g es

pub grow-corner_points : (g : Growing) (es : List Element) → (grow g es).corner_points ≡ g.corner_points ++ flat_map (λ vs. vs) (faces_in es)
grow-corner_points g [] = sym (append-nil g.corner_points)
grow-corner_points g (vertex p ∷ es) = grow-corner_points (with_vertex g p) es
grow-corner_points g (row vs ∷ es) = grow-corner_points (with_row g vs) es
grow-corner_points g (face vs ∷ es) = grow-corner_points (with_face g vs) es ∙ append_assoc g.corner_points vs (flat_map (λ us. us) (faces_in es))
grow-corner_points g (nothing ∷ es) = grow-corner_points g es

pub grow-faces : (g : Growing) (es : List Element) → (grow g es).faces ≡ g.faces ++ ends (length g.corner_points) (faces_in es)
grow-faces g [] = sym (append-nil g.faces)
grow-faces g (vertex p ∷ es) = grow-faces (with_vertex g p) es
grow-faces g (row vs ∷ es) = grow-faces (with_row g vs) es
grow-faces g (face vs ∷ es) =
    grow-faces (with_face g vs) es ∙ append_assoc g.faces (length (g.corner_points ++ vs) ∷ []) (ends (length (g.corner_points ++ vs)) (faces_in es))
    ∙ ap (λ n. g.faces ++ (n ∷ ends n (faces_in es))) (length-append g.corner_points vs)
grow-faces g (nothing ∷ es) = grow-faces g es

pub grow-corner_edges : (g : Growing) (es : List Element) → (grow g es).corner_edges ≡ g.corner_edges ++ numbers_of (grow g es).edges (faces_in es)
grow-corner_edges g [] = sym (append-nil g.corner_edges)
grow-corner_edges g (vertex p ∷ es) = grow-corner_edges (with_vertex g p) es
grow-corner_edges g (row vs ∷ es) = grow-corner_edges (with_row g vs) es
grow-corner_edges g (face vs ∷ es) =
    let last = grow (with_face g vs) es in
    let edges : fold with_edge g.edges (edges_around vs ++ edges_among es) ≡ last.edges = fold-append with_edge g.edges (edges_around vs) (edges_among es) ∙ sym (grow-edges (with_face g vs) es) in
    let numbers : numbers_among g.edges (edges_around vs) ≡ map (number_in last.edges) (edges_around vs) = numbers_last g.edges (edges_around vs) (edges_among es) ∙ ap (λ ks. map (number_in ks) (edges_around vs)) edges in
    grow-corner_edges (with_face g vs) es
    ∙ append_assoc g.corner_edges (numbers_among g.edges (edges_around vs)) (numbers_of last.edges (faces_in es))
    ∙ ap (λ ns. g.corner_edges ++ (ns ++ numbers_of last.edges (faces_in es))) numbers
grow-corner_edges g (nothing ∷ es) = grow-corner_edges g es
