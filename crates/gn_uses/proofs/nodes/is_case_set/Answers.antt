use Rattle.std.proofs.Common.{◌<◌, false, length, sym, ap, ◌∙◌, arith}
use Rattle.gn_uses.specs.Nodes.{all_set}
use Rattle.gn_uses.specs.Reading.{at_case}
use Rattle.gn_uses.proofs.Reading.{no_case_there, case_read}
use Rattle.gn_uses.proofs.nodes.is_case_set.Goals as goal

pub returns-then-filled-case : goal.returns-then-filled-case
returns-then-filled-case c =
    ap all_set (no_case_there c.args.filled.now c.in-Some.case c.if-filled-case.true) ∙ ap (λ o. all_set (at_case o c.args.filled.now)) (sym c.in-Some.is)

pub returns : goal.returns
returns c =
    case_read c.args.filled.now c.in-Some.case c.if-filled-case.false ∙ ap (λ o. all_set (at_case o c.args.filled.now)) (sym c.in-Some.is)
