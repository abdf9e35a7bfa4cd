use Rattle.std.proofs.Common.{◌≡◌, ◌<◌, get_or, length, arith}
use Rattle.std.proofs.lemmas.List.{get_or_read}
use Rattle.gn_schedule.proofs.Reading.{operands_within, marked_step}
use Rattle.gn_schedule.proofs.readers.mark_step.Goals as goal

pub mark_operands-requires : goal.mark_operands-requires
mark_operands-requires g c =
    operands_within c.args.steps.now c.args.at _ c.index-steps-at.result c.requires.back c.requires.within c.index-steps-at.is c.requires.long

pub returns : goal.returns
returns g c =
    let readers = c.args.readers.now.items in
    let within : c.args.at < length readers = omega (arith, c.requires.within, c.requires.long) in
    let value : c.index.result.now ≡ get_or readers c.args.at 0 = get_or_read readers c.args.at _ within c.index.ensures 0 in
    let some : 0 < get_or readers c.args.at 0 = omega (arith, value, c.if-index-eq0.false) in
    marked_step c.args.steps.now c.args.at readers c.mark_operands.new.readers.items c.index-steps-at.result c.requires.back c.requires.within c.index-steps-at.is some c.mark_operands.ensures
