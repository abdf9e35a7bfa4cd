use Rattle.std.proofs.Common.{inr, ap, ◌∙◌, arith}
use Rattle.gn_io.specs.Outside.{with_bytes}
use Rattle.gn_app.proofs.Preparing.{rose_since}
use Rattle.gn_app.proofs.Saying.{stray_head, stray_word, stray_end, failed_since}
use Rattle.gn_app.proofs.message.tell_stray.Goals as goal

pub returns-in_default : goal.returns-in_default
returns-in_default g c = inr (
  stray_head c.args.word.now _ _ _ _ c.as_bytes.ensures.value c.in_default.ensures.takes.0 c.in_default.ensures.takes.1,
  c.in_default.ensures.failed,
)

pub returns-in_default-put : goal.returns-in_default-put
returns-in_default-put g c =
    let taken = c.in_default-put.ensures.takes in
    inr (
      stray_word c.args.word.now _ _ _ _ (c.in-All.ensures.takes ∙ ap (with_bytes (g.E.Sink.held c.args.err.now)) c.as_bytes.ensures.value) taken.0 taken.1,
      rose_since _ _ _ c.put.ensures.faults c.in_default-put.ensures.failed,
    )

pub returns : goal.returns
returns g c =
    let before = g.E.Sink.held c.args.err.now in
    let head = c.in-All.ensures.takes ∙ ap (with_bytes before) c.as_bytes.ensures.value in
    let since = failed_since c.put-3.result (g.E.Sink.faults c.args.err.now) _ _ (omega (arith, c.put.ensures.faults, c.put-2.ensures.faults)) c.put-3.ensures.failed in
    stray_end c.args.word.now before _ c.put-3.result _ _ _ _ c.as_bytes-2.ensures.value head c.in-All-put.ensures.takes c.put-3.ensures.takes since
