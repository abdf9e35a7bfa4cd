use Rattle.std.proofs.Common.{sym, ◌∙◌}
use Rattle.gn_app.proofs.Telling.{same_text}
use Rattle.gn_app.proofs.Preparing.{refused_plan, own_input, refused_input, both_prepared}
use Rattle.gn_app.specs.Seen.{ending_of}
use Rattle.gn_app.proofs.files.prepare.Goals as goal

pub returns-in-Err-clause-prepares : goal.returns-in-Err-clause-prepares
returns-in-Err-clause-prepares g c =
    refused_plan c.args.tree.now c.args.input.now _ _ (ending_of c.in-Err.refusal) c.in-Err.ensures.reads

pub returns-then-eq-clause-prepares : goal.returns-then-eq-clause-prepares
returns-then-eq-clause-prepares g c =
    own_input c.args.tree.now c.args.input.now _ _ _ _ (same_text _ _ c.if-eq.ensures) c.in-Ok.ensures.reads c.own_input.ensures

pub returns-in-Ok-load_input-clause-prepares : goal.returns-in-Ok-load_input-clause-prepares
returns-in-Ok-load_input-clause-prepares g c =
    let read = c.in-Ok-load_input.ensures.reads in
    both_prepared c.args.tree.now c.args.input.now _ _ _ _ (sym c.eq.ensures ∙ c.if-eq.false) c.in-Ok.ensures.reads c.in-Ok.ensures.goes c.in-Ok-load_input.mesh read.0 read.1 read.2

pub returns-clause-prepares : goal.returns-clause-prepares
returns-clause-prepares g c =
    refused_input c.args.tree.now c.args.input.now _ _ _ _ (sym c.eq.ensures ∙ c.if-eq.false) c.in-Ok.ensures.reads c.in-Ok.ensures.goes (ending_of c.in-Err-load_input.ending) c.in-Err-load_input.ensures.reads
