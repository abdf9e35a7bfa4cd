use Rattle.std.proofs.Common.{arith, ap, drop, length, sym, ◌∙◌, ◌∷◌, ◌≡◌}
use Rattle.std.proofs.lemmas.List.{take_rest}
use Rattle.std.proofs.lemmas.List.Folds.{length-prefix_len}
use Rattle.std.specs.Char.{is_ascii_digit}
use Rattle.gn_decimal.specs.Decimal.{after_digits, digits_of}
use Rattle.gn_decimal.proofs.Reading.{magnitude_of_short, magnitude_of_whole}
use Rattle.gn_decimal.proofs.reader.read_short.Goals as goal

pub returns-then-count-text : goal.returns-then-count-text
returns-then-count-text c =
    let whole = c.leading_digits-whole.ensures in
    magnitude_of_whole c.args.text.now c.short_magnitude.result (omega arith) (omega arith) (cc (c.short_magnitude.ensures, whole.value))

pub returns : goal.returns
returns c =
    let text = c.args.text.now in
    let whole = c.leading_digits-whole.ensures in
    let part = c.leading_digits-part.ensures in
    let fraction = c.in_ok-fraction.fraction.now in
    let count : c.leading_digits-whole.result.1 ≡ length (digits_of text) = whole.count in
    let len = length-prefix_len is_ascii_digit text in
    let rest : after_digits text ≡ 46 ∷ c.in_ok-fraction.fraction.now = ap (λ k. drop k text) (sym (count ∙ len)) ∙ sym (take_rest text c.leading_digits-whole.result.1) ∙ c.in_ok-fraction.ensures in
    let all : length (digits_of fraction) ≡ length fraction = omega arith in
    magnitude_of_short text fraction c.short_magnitude-2.result rest all (omega arith) (cc (c.short_magnitude-2.ensures, whole.value, part.value, part.count))
