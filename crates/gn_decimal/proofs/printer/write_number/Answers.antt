use Rattle.std.proofs.Common.{SFits, w64, rules, take}
use Rattle.std.proofs.lemmas.Int.{to_z-of_z}
use Rattle.gn_decimal.proofs.Writing.{dec_behind}
use Rattle.gn_decimal.proofs.printer.write_number.Goals as goal

pub returns-clause-text : goal.returns-clause-text
returns-clause-text c =
    let fits : SFits w64 c.args.value.0 = search rules in
    rw (c.write_fraction.ensures.text, c.write_whole-point.ensures.text, c.write_sign-start.ensures.text, c.nearest-ten_billionths.ensures, c.unsigned_abs-magnitude.ensures.value, to_z-of_z w64 c.args.value.0 fits) (dec_behind (take c.args.at c.args.into.now) c.args.value.0)
