use Rattle.std.proofs.Common.{ap, drop, length, sym, take_all, ◌∙◌}
use Rattle.std.proofs.lemmas.List.{take_rest}
use Rattle.std.proofs.lemmas.List.Folds.{length-prefix_len}
use Rattle.std.specs.Char.{is_ascii_digit}
use Rattle.gn_decimal.proofs.Digits.{digits_of-end, prefix_len_end, prefix_len_stop}
use Rattle.gn_decimal.proofs.reader.take_digits.Goals as goal

pub returns-then-not-is_ascii_digit-clause-rest : goal.returns-then-not-is_ascii_digit-clause-rest
returns-then-not-is_ascii_digit-clause-rest c =
    let other = sym c.is_ascii_digit.ensures.value ∙ c.if-not-is_ascii_digit.true in
    let len = prefix_len_stop c.args.text.now c.loop-i.i c.loop-i-test.true c.loop-i.invariant.all_digits other in
    take_rest c.args.text.now c.loop-i.i ∙ ap (λ k. drop k c.args.text.now) (sym len)

pub returns-then-not-is_ascii_digit-clause-keeps : goal.returns-then-not-is_ascii_digit-clause-keeps
returns-then-not-is_ascii_digit-clause-keeps c =
    let other = sym c.is_ascii_digit.ensures.value ∙ c.if-not-is_ascii_digit.true in
    let len = prefix_len_stop c.args.text.now c.loop-i.i c.loop-i-test.true c.loop-i.invariant.all_digits other in
    simp len c.loop-i.invariant.keeps

pub returns-clause-rest : goal.returns-clause-rest
returns-clause-rest c =
    let len = prefix_len_end c.args.text.now c.loop-i.i c.loop-i-test.false c.loop-i.invariant.all_digits in
    take_rest c.args.text.now (length c.args.text.now) ∙ ap (λ k. drop k c.args.text.now) (sym len)

pub returns-clause-keeps : goal.returns-clause-keeps
returns-clause-keeps c =
    let text = c.args.text.now in
    let all = digits_of-end text c.loop-i.i c.loop-i-test.false c.loop-i.invariant.all_digits in
    simp all (simp (take_all c.loop-i.i text c.loop-i-test.false) at c.loop-i.invariant.keeps)

pub returns-then-not-is_ascii_digit-clause-count : goal.returns-then-not-is_ascii_digit-clause-count
returns-then-not-is_ascii_digit-clause-count c =
    let other = sym c.is_ascii_digit.ensures.value ∙ c.if-not-is_ascii_digit.true in
    let len = prefix_len_stop c.args.text.now c.loop-i.i c.loop-i-test.true c.loop-i.invariant.all_digits other in
    sym (length-prefix_len is_ascii_digit c.args.text.now ∙ len)

pub returns-clause-count : goal.returns-clause-count
returns-clause-count c =
    ap length (sym (digits_of-end c.args.text.now c.loop-i.i c.loop-i-test.false c.loop-i.invariant.all_digits))
