-- The first of a name in what is left of a list from a number on.
use Rattle.std.proofs.Common.{◌≡◌, ℕ, ◌+◌, ◌<◌, map, drop, get_or, Bool, true, false, cond, List, length, Option, Some, bytes_eq, refl, sym, ap, ◌∙◌}
use Rattle.std.specs.List.{position_from}
use Rattle.std.proofs.lemmas.Slice.Eq.{bytes_eq-Decides}
use Rattle.std.proofs.lemmas.List.{at_drop_more}
use denote.Ref.{Bor}
use Rattle.gn_names.specs.First.{Text}

turned_at : (x y : Text) (b c : Bool) → bytes_eq x y ≡ b → bytes_eq y x ≡ c → b ≡ c
turned_at x y true c e f = sym ((bytes_eq-Decides y x).1 (sym ((bytes_eq-Decides x y).0 e))) ∙ f
turned_at x y false true e f = sym e ∙ (bytes_eq-Decides x y).1 (sym ((bytes_eq-Decides y x).0 f))
turned_at x y false false e f = refl

turned : (x y : Text) → bytes_eq x y ≡ bytes_eq y x
turned x y = turned_at x y (bytes_eq x y) (bytes_eq y x) refl refl

-- the first of a name from a number on
abbrev pub first_from : List (Bor Text) → ℕ → Text → Option ℕ
first_from list number name = position_from (bytes_eq name) number (map (λ x. x.now) (drop number list))

pub first_from_before : (list : List (Bor Text)) (i : ℕ) (d : Bor Text) → i < length list → (q : Text)
    → cond (bytes_eq (get_or list i d).now q) (Some i) (first_from list (i + 1) q) ≡ first_from list i q
first_from_before list i d h q =
    ap (λ b. cond b (Some i) (first_from list (i + 1) q)) (turned (get_or list i d).now q)
    ∙ sym (at_drop_more (λ xs. position_from (bytes_eq q) i (map (λ x. x.now) xs)) list i d h)
