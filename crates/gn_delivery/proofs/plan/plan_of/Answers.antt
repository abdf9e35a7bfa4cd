use Rattle.std.proofs.Common.{◌≤◌, length, map, take, refl, sym, subst, ◌∙◌, arith}
use Rattle.gn_readers.specs.Readers.{LeadsTo}
use Rattle.gn_delivery.specs.Plans.{AllPlain, CanRead, IsPlanFor}
use Rattle.gn_delivery.proofs.Marking.{with_next, next_has, take_all}
use Rattle.gn_delivery.proofs.Planning.{nothing_planned, planned_as}
use Rattle.gn_delivery.proofs.plan.plan_of.Goals as goal

pub loop-reader-init : goal.loop-reader-init
loop-reader-init g c = record {
  same = refl;
  plain = c.in_ok-itself.ensures.plain;
  planned = λ n are.
      nothing_planned g.N.NodeSet.meanings g.N.NodeSet.kind_of c.args.graph.now (map g.N.NodeSet.content c.args.outputs.now.items) n g.N.NodeSet.content c.in_ok-itself.itself.items c.args.readers.now
      (record { seconds = c.new.result; itself = c.in_ok-itself.itself; choices = c.new-2.result }) are c.in_ok-itself.ensures.plain c.in_ok-itself.ensures.of refl c.new.ensures.items c.new-2.ensures.items;
  runs = refl;
}

pub plan_one-requires-clause-can : goal.plan_one-requires-clause-can
plan_one-requires-clause-can g c κs within =
    next_has (λ r. CanRead g.N.NodeSet.meanings g.N.NodeSet.kind_of c.args.graph.now (map g.N.NodeSet.content c.loop-reader.outputs.items) r) c.args.readers.now c.loop-reader.reader-index _ c.loop-reader-test.true
    (λ r h. subst (λ vs. CanRead g.N.NodeSet.meanings g.N.NodeSet.kind_of c.args.graph.now vs r) (sym c.loop-reader.invariant.same) (c.requires r h))

pub loop-reader-preserved : goal.loop-reader-preserved
loop-reader-preserved g c = record {
  same = c.plan_one.ensures.same ∙ c.loop-reader.invariant.same;
  plain = subst (AllPlain c.args.graph.now) (sym c.plan_one.ensures.itself) c.loop-reader.invariant.plain;
  planned = λ n are.
      with_next (λ rs. IsPlanFor g.N.NodeSet.meanings g.N.NodeSet.kind_of c.args.graph.now (map g.N.NodeSet.content c.args.outputs.now.items) n g.N.NodeSet.content rs c.plan_one.new.plan) c.args.readers.now c.loop-reader.reader-index _ c.loop-reader-test.true
      (planned_as g.N.NodeSet.meanings g.N.NodeSet.kind_of c.args.graph.now n g.N.NodeSet.content (map g.N.NodeSet.content c.loop-reader.outputs.items) (map g.N.NodeSet.content c.args.outputs.now.items) _ c.plan_one.new.plan c.loop-reader.invariant.same
      (c.in_ok-plan_one.ensures.planned n (take c.loop-reader.reader-index c.args.readers.now)
      (next_has (LeadsTo c.args.graph.now n) c.args.readers.now c.loop-reader.reader-index _ c.loop-reader-test.true (λ r h. (are.each r).0 h))
      (subst (λ vs. IsPlanFor g.N.NodeSet.meanings g.N.NodeSet.kind_of c.args.graph.now vs n g.N.NodeSet.content (take c.loop-reader.reader-index c.args.readers.now) c.loop-reader.plan) (sym c.loop-reader.invariant.same) (c.loop-reader.invariant.planned n are))));
  runs = c.plan_one.ensures.runs ∙ c.loop-reader.invariant.runs;
}

pub returns-clause-plan : goal.returns-clause-plan
returns-clause-plan g c n are =
    let past : length c.args.readers.now ≤ c.loop-reader.reader-index = omega (arith, c.loop-reader-test.false) in
    subst (λ rs. IsPlanFor g.N.NodeSet.meanings g.N.NodeSet.kind_of c.args.graph.now (map g.N.NodeSet.content c.args.outputs.now.items) n g.N.NodeSet.content rs c.loop-reader.plan) (take_all c.args.readers.now c.loop-reader.reader-index past)
    (c.loop-reader.invariant.planned n are)
