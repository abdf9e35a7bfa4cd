use Rattle.std.proofs.Common.{sym, ◌∙◌}
use Rattle.gn_app.proofs.Spelling.{nothing_said, first_eval, first_check, first_help, first_version, first_unknown}
use Rattle.gn_app.proofs.request.read_request.Goals as goal

pub returns-in_default : goal.returns-in_default
returns-in_default c = nothing_said _ c.in_default.ensures.cases

pub returns-then-eq : goal.returns-then-eq
returns-then-eq c =
    first_eval _ _ _ _ _ c.in-Some.ensures.cases.0 c.as_str.ensures.value c.if-eq.ensures c.eval_with.ensures

pub returns-then-eq-2 : goal.returns-then-eq-2
returns-then-eq-2 c =
    first_check _ _ _ _ _ c.in-Some.ensures.cases.0 c.as_str-2.ensures.value c.if-eq-2.ensures c.check_with.ensures

pub returns-then-eq-3 : goal.returns-then-eq-3
returns-then-eq-3 c =
    first_help _ _ _ _ _ c.in-Some.ensures.cases.0 c.as_str-3.ensures.value c.if-eq-3.ensures c.alone.ensures

pub returns-then-eq-4 : goal.returns-then-eq-4
returns-then-eq-4 c =
    first_version _ _ _ _ _ c.in-Some.ensures.cases.0 c.as_str-4.ensures.value c.if-eq-4.ensures c.alone-then-eq-4.ensures

pub returns : goal.returns
returns c =
    first_unknown _ _ _ _ _ _ _ c.as_str-5.result c.in-Some.ensures.cases.0 c.as_str.ensures.value c.as_str-2.ensures.value c.as_str-3.ensures.value c.as_str-4.ensures.value c.as_str-5.ensures.value (sym c.eq.ensures ∙ c.if-eq.false) (sym c.eq-2.ensures ∙ c.if-eq-2.false) (sym c.eq-3.ensures ∙ c.if-eq-3.false) (sym c.eq-4.ensures ∙ c.if-eq-4.false)
