use Rattle.std.proofs.Common.{get_or}
use Rattle.std.proofs.lemmas.Option.{slice_get-get_or}
use Rattle.gn_schedule.proofs.plan.free_slot.Goals as goal

pub bounds-readers-held : goal.bounds-readers-held
bounds-readers-held c =
    let holds = c.args.holds.now in
    c.requires.held c.loop-slot.slot (get_or holds c.loop-slot.slot 0) (slice_get-get_or holds c.loop-slot.slot 0 c.loop-slot-test.true)
