use Rattle.std.proofs.Common.{arith, ap, take, ◌+◌, ◌∙◌}
use Rattle.gn_decimal.proofs.Padding.{take_written}
use Rattle.gn_decimal.proofs.printer.write_whole.Goals as goal

pub returns-clause-text : goal.returns-clause-text
returns-clause-text c =
    ap (take (c.args.at + c.digit_count-count.result)) c.write_digits.ensures ∙ take_written c.args.at c.digit_count-count.result c.args.number c.args.into.now _ (omega arith) c.digit_count-count.ensures.value (omega arith)
