use Rattle.std.proofs.Common.{sym, ap, ◌∙◌}
use Rattle.gn_uses.specs.Reading.{at_case}
use Rattle.gn_uses.proofs.Reading.{no_case_there, case_sliced}
use Rattle.gn_uses.proofs.nodes.case_in.Goals as goal

pub returns-then-inputs-case : goal.returns-then-inputs-case
returns-then-inputs-case c = no_case_there c.args.inputs.now c.in-Some.case c.if-inputs-case.true ∙ ap (λ o. at_case o c.args.inputs.now) (sym c.in-Some.is)

pub returns : goal.returns
returns c = case_sliced c.args.inputs.now c.in-Some.case ∙ ap (λ o. at_case o c.args.inputs.now) (sym c.in-Some.is)
