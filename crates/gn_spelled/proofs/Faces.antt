-- Faces us one list of corners, cut where each face ends.
use Rattle.std.proofs.Common.{◌≡◌, ℕ, ◌+◌, ◌-◌, List, [], ◌∷◌, ◌++◌, length, map, flat_map, refl, sym, ap, ◌∙◌, arith, append_assoc, length-append}
use Rattle.std.specs.Prelude.{slice_range}
use Rattle.std.specs.List.{zip}
use Rattle.std.proofs.lemmas.List.{map-append}
use Rattle.std.proofs.Math.Seq.{drop-append_seam, take-append_seam}
use Rattle.gn_plain.specs.Edges.{Edge, edges_along, edges_around}
use Rattle.gn_plain.specs.Geometry.{Corner}
use Rattle.gn_plain.specs.Topology.{corner_of, parts_between, vertices_of}
use Rattle.gn_elements.specs.Read.{corners}
use Rattle.gn_spelled.proofs.Numbers.{number_in}
use Rattle.gn_spelled.proofs.Closed.{ends, numbers_of}

zip-append : {A B : Type 0} (us : List A) (bs : List B) (cs : List A) (ds : List B) → length us ≡ length bs → zip (us ++ cs) (bs ++ ds) ≡ zip us bs ++ zip cs ds
zip-append [] [] cs ds h = refl
zip-append [] (b ∷ bs) cs ds h = absurd (omega arith)
zip-append (a ∷ us) [] cs ds h = absurd (omega arith)
zip-append (a ∷ us) (b ∷ bs) cs ds h = ap (λ zs. (a, b) ∷ zs) (zip-append us bs cs ds (omega arith))

length-edges_along : (v : ℕ) (vs : List ℕ) → length (edges_along (v ∷ vs)) ≡ length vs
length-edges_along v [] = refl
length-edges_along v (u ∷ vs) = let rest = length-edges_along u vs in omega arith

length-edges_around : (vs : List ℕ) → length (edges_around vs) ≡ length vs
length-edges_around [] = refl
length-edges_around (v ∷ vs) = length-edges_along v (vs ++ v ∷ []) ∙ omega (arith, length-append vs (v ∷ []))

length-mapped : {X Y : Type 0} (f : X → Y) (xs : List X) → length (map f xs) ≡ length xs
length-mapped f [] = refl
length-mapped f (x ∷ xs) = let rest = length-mapped f xs in omega arith

pub paired : (edges : List Edge) (vs : List ℕ) → length vs ≡ length (map (number_in edges) (edges_around vs))
paired edges vs = omega (arith, length-mapped (number_in edges) (edges_around vs), length-edges_around vs)

pub length-corners : (edges : List Edge) (vs : List ℕ) → length (corners edges vs) ≡ length vs
length-corners edges vs = by vs (map (number_in edges) (edges_around vs)) (paired edges vs)
  where
    by : (us bs : List ℕ) → length us ≡ length bs → length (map corner_of (zip us bs)) ≡ length us
    by [] bs h = refl
    by (a ∷ us) [] h = absurd (omega arith)
    by (a ∷ us) (b ∷ bs) h = let rest = by us bs (omega arith) in omega arith

pub all_corners : (edges : List Edge) (faces : List (List ℕ)) → map corner_of (zip (flat_map (λ vs. vs) faces) (numbers_of edges faces)) ≡ flat_map (corners edges) faces
all_corners edges [] = refl
all_corners edges (vs ∷ faces) =
    let ns = map (number_in edges) (edges_around vs) in
    let rest = zip (flat_map (λ us. us) faces) (numbers_of edges faces) in
    ap (map corner_of) (zip-append vs ns (flat_map (λ us. us) faces) (numbers_of edges faces) (paired edges vs))
    ∙ map-append corner_of (zip vs ns) rest ∙ ap (λ cs. corners edges vs ++ cs) (all_corners edges faces)

back : (m n : ℕ) → (m + n) - m ≡ n
back m n = omega arith

part : {X : Type 0} (front xs rest : List X) → slice_range (front ++ (xs ++ rest)) (length front) (length front + length xs) ≡ xs
part front xs rest = rw (drop-append_seam front (xs ++ rest), back (length front) (length xs)) (take-append_seam xs rest)

pub parts_again : {X : Type 0} (f : List ℕ → List X) → ((vs : List ℕ) → length (f vs) ≡ length vs) → (faces : List (List ℕ)) (front : List X) (n : ℕ) → length front ≡ n → parts_between (n ∷ ends n faces) (front ++ flat_map f faces) ≡ map f faces
parts_again f long [] front n h = refl
parts_again {X} f long (vs ∷ faces) front n h =
    let rest = flat_map f faces in
    let here : slice_range (front ++ (f vs ++ rest)) n (n + length vs) ≡ f vs = rw (← h, ← long vs) (part front (f vs) rest) in
    let there : parts_between ((n + length vs) ∷ ends (n + length vs) faces) (front ++ (f vs ++ rest)) ≡ map f faces =
    ap (parts_between ((n + length vs) ∷ ends (n + length vs) faces)) (sym (append_assoc front (f vs) rest))
    ∙ parts_again f long faces (front ++ f vs) (n + length vs) (omega (arith, length-append front (f vs), long vs)) in
    rw here (ap (λ ps. f vs ∷ ps) there)

pub faces_again : (edges : List Edge) (faces : List (List ℕ)) → parts_between (0 ∷ ends 0 faces) (map corner_of (zip (flat_map (λ vs. vs) faces) (numbers_of edges faces))) ≡ map (corners edges) faces
faces_again edges faces =
    ap (parts_between (0 ∷ ends 0 faces)) (all_corners edges faces) ∙ parts_again (corners edges) (length-corners edges) faces [] 0 refl

first_of : (us bs : List ℕ) → length us ≡ length bs → map (λ c. c.vertex) (map corner_of (zip us bs)) ≡ us
first_of [] bs h = refl
first_of (a ∷ us) [] h = absurd (omega arith)
first_of (a ∷ us) (b ∷ bs) h = ap (λ xs. a ∷ xs) (first_of us bs (omega arith))

pub vertices_again : (edges : List Edge) (vs : List ℕ) → vertices_of (corners edges vs) ≡ vs
vertices_again edges vs = first_of vs (map (number_in edges) (edges_around vs)) (paired edges vs)

pub second_of : {X : Type 0} (g : ℕ → X) (us bs : List ℕ) → length us ≡ length bs → map (λ (c : Corner). g c.edge) (map corner_of (zip us bs)) ≡ map g bs
second_of g [] [] h = refl
second_of g [] (b ∷ bs) h = absurd (omega arith)
second_of g (a ∷ us) [] h = absurd (omega arith)
second_of g (a ∷ us) (b ∷ bs) h = ap (λ xs. g b ∷ xs) (second_of g us bs (omega arith))
