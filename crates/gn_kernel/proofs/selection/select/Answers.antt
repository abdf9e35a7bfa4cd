use Rattle.std.proofs.Common.{◌≡◌, ◌+◌, ◌∙◌, ap, arith, if◌then◌else◌, map, pos, slice_get, Some, sym}
use Rattle.std.specs.Ordering.{int_eq}
use Rattle.gn_value.specs.Operations.{Takes}
use Rattle.gn_value.specs.Registers.{register_kind}
use Rattle.gn_value.specs.Rows.{choice_of}
use Rattle.gn_registers.specs.Arguments.{argument, arguments}
use Rattle.gn_kernel.proofs.Choices.{chosen_next, chosen_none, of_picked}
use Rattle.gn_registers.proofs.Positions.{argument_kind, case_kind}
use Rattle.gn_kernel.proofs.Results.{zero_kind}
use Rattle.gn_kernel.proofs.selection.select.Goals as goal

pub loop-case-init : goal.loop-case-init
loop-case-init g c = λ k h.
    rw (c.set_all.ensures k g.T.OfKind.zero (omega arith), c.of.ensures, c.zero.ensures, c.KIND.ensures)
    (g.met.T.OfKind.same _ (zero_kind _) ∙ sym (chosen_none g.T.OfKind.KIND _))

pub pick-requires-clause-kind : goal.pick-requires-clause-kind
unfolding Takes
pick-requires-clause-kind g c = rw (c.requires.kinds.2) (case_kind _ _ c.args.cases c.loop-case.case c.loop-case-test.true)

pub loop-case-preserved : goal.loop-case-preserved
unfolding Takes
loop-case-preserved g c = λ k h.
    let args = c.args.args.now in
    let case = c.loop-case.case in
    let there : slice_get (map register_kind args) (case + 1) ≡ Some g.T.OfKind.KIND = rw (c.requires.kinds.2) (case_kind _ _ c.args.cases case c.loop-case-test.true) in
    ap g.T.OfKind.as_value (c.pick.ensures k (omega arith))
    ∙ of_picked g.T.OfKind.as_value case _ _ _
    ∙ (λ i. if int_eq (choice_of (argument k args 0)) (pos case) then g.met.T.OfKind.same _ (argument_kind k args (case + 1) _ there) i else c.loop-case.invariant k (omega arith) i)
    ∙ sym (chosen_next g.T.OfKind.KIND case (arguments k args))
