use Rattle.std.proofs.Common.{SFits, w64, ap, rules, ◌∙◌}
use Rattle.gn_decimal.specs.Decimal.{num}
use Rattle.gn_decimal.proofs.Printing.{num_dec}
use Rattle.gn_decimal.proofs.Writing.{bytes_of_dec}
use Rattle.gn_decimal.proofs.printer.print.Goals as goal

pub returns-clause-reads_back : goal.returns-clause-reads_back
returns-clause-reads_back c =
    let fits : SFits w64 c.args.value.0 = search rules in
    ap num c.write_number.ensures.text ∙ num_dec c.args.value.0 fits

pub returns-clause-bytes : goal.returns-clause-bytes
returns-clause-bytes c =
    let fits : SFits w64 c.args.value.0 = search rules in
    rw c.write_number.ensures.text (bytes_of_dec c.args.value.0 fits)
