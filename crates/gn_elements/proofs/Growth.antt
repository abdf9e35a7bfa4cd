-- What one line adds to the parts of a mesh.
use Rattle.std.proofs.Common.{◌≡◌, ℕ, ◌<◌, Bool, true, false, cond, List, [], ◌∷◌, length, Result, Ok, Err, refl, ap, subst, arith}
use Rattle.gn_lines.specs.Lines.{Line, first_words, other_lines}
use Rattle.gn_elements.specs.References.{too_many_elements}
use Rattle.gn_elements.specs.Read.{Element}
use Rattle.gn_elements.specs.Growing.{Growing, fits, grown, with_element, with_words, with_lines}

fits-at : (g h : Growing) (b : Bool) → fits g ≡ b → cond b (Ok g) (Err too_many_elements) ≡ Ok h → fits h ≡ true
fits-at g h true e k = let same : g ≡ h = cc in subst (λ (x : Growing). fits x ≡ true) same e
fits-at g h false e k = cc

pub fits-grown : (g h : Growing) (o : Result Element ℕ) → grown g o ≡ Ok h → fits h ≡ true
fits-grown g h (Ok e) k = fits-at (with_element g e) h (fits (with_element g e)) refl k
fits-grown g h (Err rule) k = cc

line_at : (g h : Growing) (ls : List Line) → with_words g (first_words ls) ≡ Ok h → 0 < length (other_lines ls) → with_lines h (other_lines ls) ≡ with_lines g ls
line_at g h [] e k = absurd (omega arith)
line_at g h (l ∷ ls) e k = rw e refl

pub one_line : (g h : Growing) (ls : List Line) (n : ℕ) (new mid : List Line) → with_words g (first_words ls) ≡ Ok h → other_lines mid ≡ other_lines ls → new ≡ other_lines mid → n < length (other_lines mid) → with_lines h new ≡ with_lines g ls
one_line g h ls n new mid e o k m = rw (k, o) (line_at g h ls e (omega (arith, ap length o)))
