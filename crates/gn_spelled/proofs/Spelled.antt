-- What the lines of a text grow to is the mesh that the text spells.
use Rattle.std.proofs.Common.{◌≡◌, ℕ, ◌-◌, ◌<◌, ◌≤◌, Bool, true, false, cond, ◌&&◌, nat_lt, nat_le, List, [], ◌∷◌, ◌++◌, length, map, flat_map, Option, Some, None, Result, Ok, Err, codes, bytes_eq, refl, sym, ap, ◌∙◌, subst, arith, length-append, ℤ}
use Rattle.std.specs.List.{list_all}
use Rattle.std.specs.Str.Parse.{starts_with_minus, without_leading_sign}
use Rattle.gn_value.specs.Values.{v3}
use Rattle.gn_decimal.specs.Decimal.{num, after_digits}
use Rattle.std.proofs.lemmas.Bool.Decides.{nat_tests}
use Rattle.std.proofs.lemmas.List.Sums.{fold-append}
use Rattle.std.proofs.lemmas.Grind.{flat_map-append}
use Rattle.gn_plain.specs.Topology.{IsValid, IsNumbered, edge_of, shape_of}
use Rattle.gn_lines.specs.Lines.{Text, Line, lines}
use Rattle.gn_elements.specs.References.{number_of, is_reference, is_end_or_slash, names_vertex, vertex_named, vertices_named, too_many_elements, too_few_references, no_reference, no_vertex}
use Rattle.gn_elements.specs.Read.{Element, vertex, row, face, nothing, points_of, position_of, vertex_of, all_differ, face_of, with_vertices, element_of, Bad, within, next_element, go_on, elements_from, mesh_or_bad, mesh}
use Rattle.gn_elements.specs.Read as read
use Rattle.gn_elements.specs.Growing as growing
use Rattle.gn_elements.specs.Growing.{Growing, with_element, none_yet, fits, if_it_fits, with_words, grow_on, with_lines}
use Rattle.gn_spelled.proofs.Closed.{grow-points}
use Rattle.gn_spelled.proofs.Each.{Each, each-append, each-more}
use Rattle.gn_spelled.proofs.Good.{Good}
use Rattle.gn_spelled.proofs.Valid.{grown, topology, fits_within, mesh_again, valid, numbered}

-- ---- elements of good lines

above_0 : (a b : Bool) → (a && b) ≡ true → a ≡ true
above_0 true b h = refl
above_0 false b h = cc

rest_true : (a b : Bool) → (a && b) ≡ true → b ≡ true
rest_true true b h = h
rest_true false b h = cc

named_at : (count number : ℕ) (minus : Bool) → nat_lt 0 number ≡ true → nat_le number count ≡ true → cond minus (count - number) (number - 1) < count
named_at count number true h k = grind (arith, nat_tests)
named_at count number false h k = grind (arith, nat_tests)

named : (count : ℕ) (ws : List Text) → list_all is_reference ws ≡ true → list_all (names_vertex count) ws ≡ true → Each (λ v. v < count) (map (vertex_named count) ws)
named count [] h k = tt
named count (w ∷ ws) h k =
    let first = above_0 (is_reference w) (list_all is_reference ws) h in
    let there = above_0 (names_vertex count w) (list_all (names_vertex count) ws) k in (
      named_at count (number_of w) (starts_with_minus w) (above_0 (nat_lt 0 (number_of w)) (is_end_or_slash (after_digits (without_leading_sign w))) first) there,
      named count ws (rest_true (is_reference w) (list_all is_reference ws) h) (rest_true (names_vertex count w) (list_all (names_vertex count) ws) k),
    )

-- vertices that are there, and not too few
abbrev Row : ℕ → ℕ → List ℕ → Type 0
Row least count vs = Each (λ v. v < count) vs × (least ≤ length vs)

length-mapped : {X Y : Type 0} (f : X → Y) (xs : List X) → length (map f xs) ≡ length xs
length-mapped f [] = refl
length-mapped f (x ∷ xs) = let rest = length-mapped f xs in omega arith

row_at : (least count : ℕ) (ws : List Text) (vs : List ℕ) (few formed there : Bool) → nat_lt (length ws) least ≡ few → list_all is_reference ws ≡ formed → list_all (names_vertex count) ws ≡ there
    → cond few (Err too_few_references) (cond formed (cond there (Ok (map (vertex_named count) ws)) (Err no_vertex)) (Err no_reference)) ≡ Ok vs → Row least count vs
row_at least count ws vs true formed there e f t h = cc
row_at least count ws vs false false there e f t h = cc
row_at least count ws vs false true false e f t h = cc
row_at least count ws vs false true true e f t h =
    let same : map (vertex_named count) ws ≡ vs = cc in
    let many : least ≤ length ws = grind (arith, nat_tests, e) in
    subst (Row least count) same (named count ws f t, omega (arith, length-mapped (vertex_named count) ws))

row_of : (least count : ℕ) (ws : List Text) (vs : List ℕ) → vertices_named least count ws ≡ Ok vs → Row least count vs
row_of least count ws vs h = row_at least count ws vs (nat_lt (length ws) least) (list_all is_reference ws) (list_all (names_vertex count) ws) refl refl refl h

face-at : (count : ℕ) (vs : List ℕ) (b : Bool) → all_differ vs ≡ b → Row 3 count vs → Good count (cond b (face vs) nothing)
face-at count vs true h r = (r.0, h, r.1)
face-at count vs false h r = tt

made : (count : ℕ) (f : List ℕ → Element) (r : Result (List ℕ) ℕ) (e : Element) → with_vertices f r ≡ Ok e → ((vs : List ℕ) → r ≡ Ok vs → Good count (f vs)) → Good count e
made count f (Ok vs) e h good = let same : f vs ≡ e = cc in subst (Good count) same (good vs refl)
made count f (Err rule) e h good = cc

position-good : (count : ℕ) (x y z : Option ℤ) (e : Element) → position_of x y z ≡ Ok e → Good count e
position-good count None y z e h = cc
position-good count (Some x) None z e h = cc
position-good count (Some x) (Some y) None e h = cc
position-good count (Some x) (Some y) (Some z) e h = let same : vertex (v3 x y z) ≡ e = cc in subst (Good count) same tt

vertex-good : (count : ℕ) (ws : List Text) (e : Element) → vertex_of ws ≡ Ok e → Good count e
vertex-good count [] e h = cc
vertex-good count (x ∷ []) e h = cc
vertex-good count (x ∷ y ∷ []) e h = cc
vertex-good count (x ∷ y ∷ z ∷ ws) e h = position-good count (num x) (num y) (num z) e h

element-at : (count : ℕ) (ws : List Text) (e : Element) (v f l p : Bool) → cond v (vertex_of ws) (cond f (with_vertices face_of (vertices_named 3 count ws)) (cond l (with_vertices row (vertices_named 2 count ws)) (cond p (with_vertices (λ vs. nothing) (vertices_named 1 count ws)) (Ok nothing)))) ≡ Ok e → Good count e
element-at count ws e true f l p h = vertex-good count ws e h
element-at count ws e false true l p h = made count face_of (vertices_named 3 count ws) e h (λ vs k. face-at count vs (all_differ vs) refl (row_of 3 count ws vs k))
element-at count ws e false false true p h = made count row (vertices_named 2 count ws) e h (λ vs k. (row_of 2 count ws vs k).0)
element-at count ws e false false false true h = made count (λ vs. nothing) (vertices_named 1 count ws) e h (λ vs k. tt)
element-at count ws e false false false false h = let same : nothing ≡ e = cc in subst (Good count) same tt

element-good : (count : ℕ) (ws : List Text) (e : Element) → element_of count ws ≡ Ok e → Good count e
element-good count [] e h = let same : nothing ≡ e = cc in subst (Good count) same tt
element-good count (w ∷ ws) e h = element-at count ws e (bytes_eq w (codes "v")) (bytes_eq w (codes "f")) (bytes_eq w (codes "l")) (bytes_eq w (codes "p")) h

more_vertices : (m n : ℕ) → m ≤ n → (e : Element) → Good m e → Good n e
more_vertices m n le (vertex p) h = tt
more_vertices m n le (row vs) h = each-more (λ v. v < m) (λ v. v < n) (λ v k. omega arith) vs h
more_vertices m n le (face vs) h = (each-more (λ v. v < m) (λ v. v < n) (λ v k. omega arith) vs h.0, h.1, h.2)
more_vertices m n le nothing h = tt

abbrev count_of : List Element → ℕ
count_of es = length (flat_map points_of es)

abbrev AllGood : List Element → Type 0
AllGood es = Each (Good (count_of es)) es

one_more : (above : List Element) (e : Element) → AllGood above → Good (count_of above) e → AllGood (above ++ e ∷ [])
one_more above e h k =
    let more : count_of above ≤ count_of (above ++ e ∷ []) = omega (arith, ap length (flat_map-append points_of above (e ∷ [])), length-append (flat_map points_of above) (flat_map points_of (e ∷ []))) in
    each-append (Good (count_of (above ++ e ∷ []))) above (e ∷ [])
    (each-more (Good (count_of above)) (Good (count_of (above ++ e ∷ []))) (more_vertices (count_of above) (count_of (above ++ e ∷ [])) more) above h)
    (more_vertices (count_of above) (count_of (above ++ e ∷ [])) more e k, tt)

-- ---- all lines

abbrev growth_of : Result (List Element) Bad → Result Growing Bad
growth_of (Ok es) = Ok (grown es)
growth_of (Err bad) = Err bad

-- the elements of good lines are good, and fit
abbrev GoodEnd : Result (List Element) Bad → Type 0
GoodEnd (Ok es) = AllGood es × (fits (grown es) ≡ true)
GoodEnd (Err bad) = Unit {0}

next_grown : (above : List Element) (e : Element) → with_element (grown above) e ≡ grown (above ++ e ∷ [])
next_grown above e = sym (fold-append with_element none_yet above (e ∷ []))

abbrev Reads : List Element → List Line → Type 0
Reads above ls = AllGood above → fits (grown above) ≡ true → (with_lines (grown above) ls ≡ growth_of (elements_from above ls)) × GoodEnd (elements_from above ls)

fitting : (above : List Element) (n : ℕ) (e : Element) (ls : List Line) (b : Bool) → fits (grown (above ++ e ∷ [])) ≡ b → read.is_within (read.shape_of (above ++ e ∷ [])) ≡ b → AllGood above → Good (count_of above) e → Reads (above ++ e ∷ []) ls
    → (grow_on n (cond b (Ok (grown (above ++ e ∷ []))) (Err too_many_elements)) (λ h. with_lines h ls) ≡ growth_of (go_on n (cond b (Ok e) (Err too_many_elements)) (λ x. elements_from (above ++ x ∷ []) ls)))
    × GoodEnd (go_on n (cond b (Ok e) (Err too_many_elements)) (λ x. elements_from (above ++ x ∷ []) ls))
fitting above n e ls true f w good k rest = rest (one_more above e good k) f
fitting above n e ls false f w good k rest = (refl, tt)

line : (above : List Element) (n : ℕ) (o : Result Element ℕ) (ls : List Line) → ((e : Element) → o ≡ Ok e → Good (count_of above) e) → AllGood above → ((e : Element) → Reads (above ++ e ∷ []) ls)
    → (grow_on n (growing.grown (grown above) o) (λ h. with_lines h ls) ≡ growth_of (go_on n (within above o) (λ x. elements_from (above ++ x ∷ []) ls)))
    × GoodEnd (go_on n (within above o) (λ x. elements_from (above ++ x ∷ []) ls))
line above n (Err rule) ls good all rest = (refl, tt)
line above n (Ok e) ls good all rest =
    rw (next_grown above e, ← fits_within (above ++ e ∷ [])) (fitting above n e ls (fits (grown (above ++ e ∷ []))) refl (sym (fits_within (above ++ e ∷ []))) all (good e refl) (rest e))

reads : (ls : List Line) (above : List Element) → Reads above ls
reads [] above all f = (refl, (all, f))
reads (l ∷ ls) above all f =
    rw (ap length (grow-points none_yet above)) (line above l.number (element_of (count_of above) l.words) ls (λ e k. element-good (count_of above) l.words e k) all (λ e. reads ls (above ++ e ∷ [])))

-- ---- a text

abbrev IsSpelled : Text → Growing → List (ℕ × ℕ) → Type 0
IsSpelled text g keys = IsValid (topology g keys) × IsNumbered (topology g keys) × (mesh text ≡ Ok (shape_of g.points (topology g keys)))

spelled-at : (text : Text) (g : Growing) (keys : List (ℕ × ℕ)) (r : Result (List Element) Bad) → mesh text ≡ mesh_or_bad r → growth_of r ≡ Ok g → GoodEnd r → g.edges ≡ map edge_of keys → IsSpelled text g keys
spelled-at text g keys (Err bad) m h good k = cc
spelled-at text g keys (Ok es) m h good k =
    let same : grown es ≡ g = cc in
    let edges : (grown es).edges ≡ map edge_of keys = ap (λ x. x.edges) same ∙ k in
    subst (λ (x : Growing). IsSpelled text x keys) same
    (valid es keys edges good.0, numbered es keys edges good.0 good.1, m ∙ ap (λ x. Ok x) (sym (mesh_again es keys edges)))

start : (text : Text) → (with_lines none_yet (lines text) ≡ growth_of (elements_from [] (lines text))) × GoodEnd (elements_from [] (lines text))
start text = reads (lines text) [] tt refl

mesh_is : (text : Text) → mesh text ≡ mesh_or_bad (elements_from [] (lines text))
unfolding mesh
mesh_is text = refl

pub spelled : (text : Text) (g : Growing) (keys : List (ℕ × ℕ)) → with_lines none_yet (lines text) ≡ Ok g → g.edges ≡ map edge_of keys → IsSpelled text g keys
spelled text g keys h k = let s = start text in spelled-at text g keys (elements_from [] (lines text)) (mesh_is text) (sym s.0 ∙ h) s.1 k

bad-at : (r : Result (List Element) Bad) (bad : Bad) → growth_of r ≡ Err bad → mesh_or_bad r ≡ Err bad
bad-at (Ok es) bad h = cc
bad-at (Err b) bad h = let same : b ≡ bad = cc in ap (λ x. Err x) same

pub spelled_bad : (text : Text) (bad : Bad) → with_lines none_yet (lines text) ≡ Err bad → mesh text ≡ Err bad
spelled_bad text bad h = let s = start text in mesh_is text ∙ bad-at (elements_from [] (lines text)) bad (sym s.0 ∙ h)
