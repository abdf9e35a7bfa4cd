-- The mesh that a text spells has no more elements than a geometry may have.
use Rattle.std.proofs.Common.{◌≡◌, ℕ, true, false, Bool, ◌&&◌, ◌++◌, List, [], ◌∷◌, length, map, sum, nat_le, nat_lt, flat_map, Result, Ok, Err, refl, sym, ◌∙◌, subst, arith}
use Rattle.std.proofs.lemmas.Bool.{and_parts}
use Rattle.std.proofs.lemmas.Bool.Decides.{nat_tests}
use Rattle.gn_lines.specs.Lines.{Text, Line, lines}
use Rattle.gn_elements.specs.Read.{Element, points_of, element_of, shape_of, most, is_within, Bad, within, go_on, elements_from, mesh_or_bad, mesh}
use Rattle.gn_plain.specs.Geometry.{Shape, of_shape}
use Rattle.gn_rows.specs.Limits.{is_large}

abbrev Fits : Result (List Element) Bad → Type 0
Fits (Ok es) = is_within (shape_of es) ≡ true
Fits (Err bad) = Unit {0}

-- each line is looked at with those above it
fits_from : (above : List Element) (ls : List Line) → is_within (shape_of above) ≡ true → Fits (elements_from above ls)
fits_from above [] fits = fits
fits_from above (l ∷ ls) fits = at_line (element_of (length (flat_map points_of above)) l.words) (λ e more. fits_from (above ++ e ∷ []) ls more)
  where
    at_line : (r : Result Element ℕ) → ((e : Element) → is_within (shape_of (above ++ e ∷ [])) ≡ true → Fits (elements_from (above ++ e ∷ []) ls)) → Fits (go_on l.number (within above r) (λ e. elements_from (above ++ e ∷ []) ls))
    at_line (Err rule) rest = tt
    at_line (Ok e) rest = by (is_within (shape_of (above ++ e ∷ []))) refl
      where
        by : (b : Bool) → is_within (shape_of (above ++ e ∷ [])) ≡ b → Fits (go_on l.number (within above (Ok e)) (λ e. elements_from (above ++ e ∷ []) ls))
        by true same = rw same (rest e same)
        by false same = rw same tt

not_above : (a b : ℕ) → nat_le a b ≡ true → nat_lt b a ≡ false
not_above a b e = grind (arith, nat_tests)

small : (s : Shape) → is_within s ≡ true → is_large (of_shape s) ≡ false
small s fits =
    let points = and_parts (nat_le (length s.points) most) (nat_le (length s.edges) most && (nat_le (length s.faces) most && nat_le (sum (map length s.faces)) most)) fits in
    let edges = and_parts (nat_le (length s.edges) most) (nat_le (length s.faces) most && nat_le (sum (map length s.faces)) most) points.1 in
    let faces = and_parts (nat_le (length s.faces) most) (nat_le (sum (map length s.faces)) most) edges.1 in
    rw (not_above (length s.points) most points.0, not_above (length s.edges) most edges.0, not_above (length s.faces) most faces.0, not_above (sum (map length s.faces)) most faces.1) refl

mesh_is : (text : Text) → mesh text ≡ mesh_or_bad (elements_from [] (lines text))
unfolding mesh
mesh_is text = refl

spelled_at : (r : Result (List Element) Bad) (s : Shape) → Fits r → mesh_or_bad r ≡ Ok s → is_large (of_shape s) ≡ false
spelled_at (Ok es) s fits e = let same : shape_of es ≡ s = cc in subst (λ x. is_large (of_shape x) ≡ false) same (small (shape_of es) fits)
spelled_at (Err bad) s fits e = cc

pub spelled_small : (text : Text) (s : Shape) → mesh text ≡ Ok s → is_large (of_shape s) ≡ false
spelled_small text s e = spelled_at (elements_from [] (lines text)) s (fits_from [] (lines text) refl) (sym (mesh_is text) ∙ e)
