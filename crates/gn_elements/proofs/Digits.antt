-- The digits that a text begins with, one by one, are those that are taken together.
use Rattle.std.proofs.Common.{◌≡◌, ℕ, suc, ◌+◌, ◌-◌, ◌*◌, ◌^◌, min, Bool, true, false, cond, [], ◌∷◌, drop, refl, sym, ap, ◌∙◌, arith}
use Rattle.std.specs.Char.{digit_value, is_ascii_digit}
use Rattle.std.specs.List.{prefix_len}
use Rattle.std.specs.Str.Parse.{digits_value, digits_value_after}
use Rattle.std.proofs.lemmas.List.Sums.{take_while-cons}
use Rattle.gn_decimal.specs.Decimal.{digits_of, after_digits}
use Rattle.gn_decimal.proofs.Digits.{digit_value_is}
use Rattle.gn_lines.specs.Lines.{Text}
use Rattle.gn_elements.specs.Digits.{number_capped, behind_digits}

abbrev cap : ℕ
cap = 2 ^ 32 - 1

capped_at : (b m n : ℕ) (text : Text) (c : Bool) → is_ascii_digit b ≡ c → n ≡ min m cap → ((k l : ℕ) → l ≡ min k cap → number_capped l text ≡ min (digits_value_after 10 k (digits_of text)) cap) → cond c (number_capped (min (n * 10 + (b - 48)) cap) text) n ≡ min (digits_value_after 10 m (cond c (b ∷ digits_of text) [])) cap
capped_at b m n text true h e rest =
    let d = digit_value_is b h in
    rest (m * 10 + digit_value b) (min (n * 10 + (b - 48)) cap) (omega arith)
capped_at b m n text false h e rest = e

capped : (text : Text) (m n : ℕ) → n ≡ min m cap → number_capped n text ≡ min (digits_value_after 10 m (digits_of text)) cap
capped [] m n e = e
capped (b ∷ text) m n e =
    capped_at b m n text (is_ascii_digit b) refl e (capped text) ∙ ap (λ ds. min (digits_value_after 10 m ds) cap) (sym (take_while-cons is_ascii_digit b text))

pub capped_value : (text : Text) → number_capped 0 text ≡ min (digits_value 10 (digits_of text)) (2 ^ 32 - 1)
capped_value text = capped text 0 0 refl

drop_one_more : (b : ℕ) (text : Text) (k : ℕ) → drop (1 + k) (b ∷ text) ≡ drop k text
drop_one_more b text k = let e : 1 + k ≡ suc k = omega arith in rw e refl

behind_at : (b : ℕ) (text : Text) (c : Bool) → is_ascii_digit b ≡ c → behind_digits text ≡ after_digits text → cond c (behind_digits text) (b ∷ text) ≡ after_digits (b ∷ text)
behind_at b text true h rest = rw h (rest ∙ sym (drop_one_more b text (prefix_len is_ascii_digit text)))
behind_at b text false h rest = rw h refl

pub behind_value : (text : Text) → behind_digits text ≡ after_digits text
behind_value [] = refl
behind_value (b ∷ text) = behind_at b text (is_ascii_digit b) refl (behind_value text)
