use Rattle.std.proofs.Common.{inr, refl}
use Rattle.gn_app.specs.Seen.{command_of}
use Rattle.gn_app.proofs.Spelling.{begins_whole, begins_unnamed}
use Rattle.gn_app.proofs.refusal.tell_misfit.Goals as goal

pub returns-in-Err-None : goal.returns-in-Err-None
returns-in-Err-None g c = record {
  word = c.args.stray.now;
  misfit = inr (begins_unnamed _ c.in-Err-None.field-0 c.in-Err-None.field-0-is c.in-Err-None.ensures.1, refl);
  message = c.tell_stray.ensures;
}

pub returns-in-Ok : goal.returns-in-Ok
returns-in-Ok g c = record {
  word = c.args.stray.now;
  misfit = inr (begins_whole _ (command_of c.in-Ok.field-0) c.in-Ok.ensures, refl);
  message = c.tell_stray-in-Ok.ensures;
}
