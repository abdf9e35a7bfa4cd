-- Beginnings of one journal.
use Rattle.std.proofs.Common.{◌++◌, Bool, true, false, List, [], ◌∷◌, length, ltb, if◌then◌else◌, refl, sym, ap, ◌∙◌, append_assoc}
use mathlib.Core.List.{IsPrefix}
use Rattle.gn_turn.specs.Views.{longer}

module _ {E : Type 0} where
  pub prefix_self : (xs : List E) → IsPrefix xs xs
  prefix_self [] = ([], refl)
  prefix_self (x ∷ xs) = let r = prefix_self xs in (r.0, ap (λ ys. x ∷ ys) r.1)

  pub prefix_more : (xs ys : List E) (e : E) → IsPrefix xs ys → IsPrefix xs (ys ++ e ∷ [])
  prefix_more xs ys e p = (p.0 ++ e ∷ [], sym (append_assoc xs p.0 (e ∷ [])) ∙ ap (λ w. w ++ e ∷ []) p.1)

  one_of_two : (b : Bool) (xs ys zs : List E) → IsPrefix xs zs → IsPrefix ys zs → IsPrefix (if b then ys else xs) zs
  one_of_two true xs ys zs p q = q
  one_of_two false xs ys zs p q = p

  pub prefix_longer : (xs ys zs : List E) → IsPrefix xs zs → IsPrefix ys zs → IsPrefix (longer xs ys) zs
  prefix_longer xs ys zs p q = one_of_two (ltb (length xs) (length ys)) xs ys zs p q
