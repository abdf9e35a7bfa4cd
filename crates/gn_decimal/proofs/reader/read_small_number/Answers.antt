use Rattle.std.proofs.Common.{arith, sym, ◌∙◌, ◌+◌, take_all}
use Rattle.gn_decimal.proofs.Digits.{all_digits_more, value_more}
use Rattle.gn_decimal.proofs.Exponents.{small_number_too_large, small_number_is}
use Rattle.gn_decimal.proofs.reader.read_small_number.Goals as goal

pub returns-then-value-gt99-clause-value : goal.returns-then-value-gt99-clause-value
returns-then-value-gt99-clause-value c =
    let digit = sym c.is_ascii_digit.ensures.value ∙ c.if-not-is_ascii_digit.false in
    let more = value_more c.args.digits.now c.loop-byte.byte-index c.loop-byte-test.true digit in
    sym (small_number_too_large c.args.digits.now (c.loop-byte.byte-index + 1) (omega arith))

pub loop-byte-preserved : goal.loop-byte-preserved
loop-byte-preserved c =
    let digit = sym c.is_ascii_digit.ensures.value ∙ c.if-not-is_ascii_digit.false in
    let more = value_more c.args.digits.now c.loop-byte.byte-index c.loop-byte-test.true digit in
    record {
      all_digits = all_digits_more c.args.digits.now c.loop-byte.byte-index c.loop-byte-test.true c.loop-byte.invariant.all_digits digit;
      value = omega arith;
      small = c.if-value-gt99.false;
    }

pub returns-clause-value : goal.returns-clause-value
returns-clause-value c =
    let whole = take_all c.loop-byte.byte-index c.args.digits.now c.loop-byte-test.false in
    let all = rw whole at c.loop-byte.invariant.all_digits in
    let value = rw whole at c.loop-byte.invariant.value in
    grind (arith, small_number_is)
