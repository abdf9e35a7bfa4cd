use Rattle.std.proofs.Common.{◌≡◌, ◌+◌, ◌++◌, ◌∷◌, [], List, None, Option, length, subst, sym, arith}
use Rattle.std.proofs.lemmas.List.{length-append}
use Rattle.gn_node_set.specs.Paths.{Path}
use Rattle.gn_plain.specs.Fields.{Expr}
use Rattle.gn_field.specs.Steps.{exprs_of}
use Rattle.gn_field.specs.Trees.{HasSources, HaveSources}
use Rattle.gn_proc_tests.proofs.tapes.constants.Goals as goal

pushed : {S : Type 0} (table : Path → Option S) (es : List (Expr S)) (e : Expr S) → HaveSources table (exprs_of es) → HasSources table e → HaveSources table (exprs_of (es ++ e ∷ []))
pushed table [] e h k = (k, tt)
pushed table (x ∷ es) e h k = (h.0, pushed table es e h.1 k)

pub loop-value-preserved : goal.loop-value-preserved
loop-value-preserved g c =
    let l = c.loop-value in
    let e = c.in_ok-constant.field-0 in
    let items : c.push.new.self.items ≡ l.fields.items ++ e ∷ [] = c.in_ok-push.ensures.items in
    (omega (arith, l.invariant.0, length-append l.fields.items (e ∷ []), c.in_ok-push.ensures.len), subst (λ es. HaveSources (λ _. None) (exprs_of es)) (sym items) (pushed (λ _. None) l.fields.items e l.invariant.1 (subst (HasSources (λ _. None)) (sym c.in_ok-constant.ensures) tt)))
