use Rattle.std.proofs.Common.{◌≤◌, [], length, take, sym, ap, subst, ◌∙◌, arith}
use Rattle.std.specs.Prelude.{slice_get}
use Rattle.gn_delivery.specs.Plans.{AreOf}
use Rattle.gn_delivery.proofs.Marking.{with_next, take_all}
use Rattle.gn_delivery.proofs.Planning.{no_outputs}
use Rattle.gn_delivery.proofs.plan.last_plain.Goals as goal

pub loop-reader-init : goal.loop-reader-init
loop-reader-init g c = record {
  plain = λ s p e. absurd (no_outputs c.args.graph.now c.args.outputs [] s p (ap (λ xs. slice_get xs s) (sym c.in_ok-itself.ensures) ∙ e));
  of = λ s p e. absurd (no_outputs c.args.graph.now c.args.outputs [] s p (ap (λ xs. slice_get xs s) (sym c.in_ok-itself.ensures) ∙ e));
}

pub loop-reader-preserved : goal.loop-reader-preserved
loop-reader-preserved g c = record {
  plain = c.note_plain.ensures.plain c.loop-reader.invariant.plain;
  of = with_next (λ rs. AreOf c.args.graph.now rs c.note_plain.new.itself.items) c.args.readers.now c.loop-reader.reader-index _ c.loop-reader-test.true
      (c.note_plain.ensures.of (take c.loop-reader.reader-index c.args.readers.now) c.loop-reader.invariant.of);
}

pub returns-clause-of : goal.returns-clause-of
returns-clause-of g c =
    let past : length c.args.readers.now ≤ c.loop-reader.reader-index = omega (arith, c.loop-reader-test.false) in
    subst (λ rs. AreOf c.args.graph.now rs c.loop-reader.itself.items) (take_all c.args.readers.now c.loop-reader.reader-index past) c.loop-reader.invariant.of
