use Rattle.std.proofs.Common.{ap, arith, length, min, sym, take_all, ◌≡◌, ◌∙◌}
use Rattle.std.proofs.lemmas.List.Folds.{length-prefix_len}
use Rattle.std.specs.Char.{is_ascii_digit}
use Rattle.gn_decimal.proofs.Digits.{digits_of-end, prefix_len_stop, value_below}
use Rattle.gn_decimal.proofs.reader.leading_digits.Goals as goal

pub returns-then-not-is_ascii_digit-clause-value : goal.returns-then-not-is_ascii_digit-clause-value
returns-then-not-is_ascii_digit-clause-value c =
    let other = sym c.is_ascii_digit.ensures.value ∙ c.if-not-is_ascii_digit.true in
    let len = prefix_len_stop c.args.text.now c.loop-i.i c.loop-i-test.true c.loop-i.invariant.all_digits other in
    simp len c.loop-i.invariant.value

pub returns-then-not-is_ascii_digit-clause-count : goal.returns-then-not-is_ascii_digit-clause-count
returns-then-not-is_ascii_digit-clause-count c =
    let other = sym c.is_ascii_digit.ensures.value ∙ c.if-not-is_ascii_digit.true in
    let len = prefix_len_stop c.args.text.now c.loop-i.i c.loop-i-test.true c.loop-i.invariant.all_digits other in
    sym (length-prefix_len is_ascii_digit c.args.text.now ∙ len)

pub returns-clause-value : goal.returns-clause-value
returns-clause-value c =
    let text = c.args.text.now in
    let all = digits_of-end text c.loop-i.i c.loop-i-test.false c.loop-i.invariant.all_digits in
    simp all (simp (take_all c.loop-i.i text c.loop-i-test.false) at c.loop-i.invariant.value)

pub returns-clause-count : goal.returns-clause-count
returns-clause-count c =
    ap length (sym (digits_of-end c.args.text.now c.loop-i.i c.loop-i-test.false c.loop-i.invariant.all_digits))

pub returns-then-not-is_ascii_digit-clause-below : goal.returns-then-not-is_ascii_digit-clause-below
returns-then-not-is_ascii_digit-clause-below c =
    let all : min c.loop-i.i (length c.args.text.now) ≡ c.loop-i.i = omega arith in
    rw c.loop-i.invariant.value (rw all at (value_below c.args.text.now c.loop-i.i c.loop-i.invariant.all_digits))

pub returns-clause-below : goal.returns-clause-below
returns-clause-below c =
    let all : min c.loop-i.i (length c.args.text.now) ≡ length c.args.text.now = omega arith in
    rw c.loop-i.invariant.value (rw all at (value_below c.args.text.now c.loop-i.i c.loop-i.invariant.all_digits))
