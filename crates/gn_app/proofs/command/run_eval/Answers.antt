use Rattle.std.proofs.Common.{refl}
use Rattle.gn_app.proofs.Running.{evaluated, cut_short, not_made}
use Rattle.gn_app.proofs.command.run_eval.Goals as goal

pub returns-in-Err : goal.returns-in-Err
returns-in-Err g c =
    cut_short _ _ _ c.in-Err.ensures.goes (record { output = refl; runs = refl; copies = refl }) _ c.in-Err.ensures.prepares

pub returns-in_default : goal.returns-in_default
returns-in_default g c =
    not_made _ _ _ c.in-Ok.ensures.goes (record { output = refl; runs = refl; copies = refl }) c.in-Ok.prepared c.in-Ok.ensures.prepares

pub returns : goal.returns
returns g c =
    rw c.of_put.ensures (evaluated _ _ _ c.in-Ok.ensures.goes c.in-Ok.prepared c.in-Ok.ensures.prepares c.note_runs.ensures.runs c.note_runs.ensures.copies c.in-Ok-made.geometry c.in-Ok-made.ensures _ c.write_obj.ensures.takes c.write_obj.ensures.failed)
