use Rattle.std.proofs.Common.{refl}
use Rattle.gn_app.specs.Job.{ok_text, help_text, version_text}
use Rattle.gn_app.specs.Seen.{ending_of}
use Rattle.gn_app.proofs.Preparing.{refused_check}
use Rattle.gn_app.proofs.Running.{cut_short, was_checked, helped, versioned}
use Rattle.gn_app.proofs.command.run_request.Goals as goal

pub returns-in-Ok : goal.returns-in-Ok
unfolding ok_text
returns-in-Ok g c = rw (c.in-Check.is, c.of_put.ensures) (was_checked c.in-Check.tree.now _ _ _ _ c.in-Ok.ensures.goes c.in-Ok.ensures.reads.0 c.in-Ok.ensures.reads.1 refl refl _ c.write_text.ensures.takes c.write_text.ensures.failed)

pub returns-in-Check : goal.returns-in-Check
returns-in-Check g c =
    rw c.in-Check.is (cut_short _ _ _ c.in-Err.ensures.goes (record { output = refl; runs = refl; copies = refl }) _ (refused_check c.in-Check.tree.now _ _ (ending_of c.in-Err.ending) c.in-Err.ensures.reads))

pub returns-in-Help : goal.returns-in-Help
unfolding help_text
returns-in-Help g c = rw (c.in-Help.is, c.of_put-in-Help.ensures) (helped _ _ refl refl refl _ c.write_text-in-Help.ensures.takes c.write_text-in-Help.ensures.failed)

pub returns : goal.returns
unfolding version_text
returns g c = rw (c.in-Version.is, c.of_put-in-Version.ensures) (versioned _ _ refl refl refl _ c.write_text-in-Version.ensures.takes c.write_text-in-Version.ensures.failed)
