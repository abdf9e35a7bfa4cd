use Rattle.std.proofs.Common.{arith}
use Rattle.std.proofs.lemmas.List.{get_or_read}
use Rattle.gn_schedule.specs.Asked.{no_places}
use Rattle.gn_schedule.proofs.Asking.{names_within, asked_step}
use Rattle.gn_schedule.proofs.asked.ask_for_step.Goals as goal

pub ask_operands-requires : goal.ask_operands-requires
ask_operands-requires g c =
    names_within c.args.steps.now c.args.at _ c.index-steps-at.result c.requires.back c.requires.within c.index-steps-at.is c.requires.long

pub returns : goal.returns
returns g c =
    asked_step c.args.steps.now c.args.at c.args.table.now.items c.ask_operands.new.table.items c.index-steps-at.result c.index-places.result.now c.requires.back c.requires.within c.index-steps-at.is (get_or_read c.args.table.now.items c.args.at _ (omega (arith, c.requires.within, c.requires.long)) c.index-places.ensures no_places) c.ask_operands.ensures
