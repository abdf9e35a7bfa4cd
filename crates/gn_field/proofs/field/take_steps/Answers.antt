use Rattle.std.proofs.Common.{◌≡◌, ◌-◌, ◌<◌, ◌≤◌, sym, ◌∙◌, ap, subst, length, []}
use Rattle.gn_field.specs.Merged.{Joins}
use Rattle.gn_field.proofs.Owned.{joins_itself}
use Rattle.gn_field.proofs.field.take_steps.Goals as goal

pub with_last-requires-clause-some : goal.with_last-requires-clause-some
with_last-requires-clause-some g c =
    let v : c.in-Ok.steps.items ≡ c.field.inside.steps.value.items = ap (λ v. v.items) c.in-Ok.ensures.ok in
    subst (λ ys. 0 < length ys) (sym v) c.field.invariant.some

pub with_last-requires-clause-few : goal.with_last-requires-clause-few
with_last-requires-clause-few g c =
    let v : c.in-Ok.steps.items ≡ c.field.inside.steps.value.items = ap (λ v. v.items) c.in-Ok.ensures.ok in
    subst (λ ys. length ys ≤ 4096) (sym v) c.field.invariant.few

pub returns-in-Ok : goal.returns-in-Ok
returns-in-Ok g c =
    let src = g.S.Source.sources in
    let tk = g.S.Source.taken in
    let xs = c.field.inside.steps.value.items in
    let v : c.in-Ok.steps.items ≡ xs = ap (λ v. v.items) c.in-Ok.ensures.ok in
    let own : Joins src tk [] c.args.field (length xs - 1) xs = subst (λ e. Joins src tk [] e (length xs - 1) xs) c.field.view_is (joins_itself src tk xs c.field.invariant) in
    let steps : c.with_last.result.steps.items ≡ xs = ap (λ v. v.items) c.with_last.ensures.0 ∙ v in
    let root : c.with_last.result.root ≡ length xs - 1 = c.with_last.ensures.1 ∙ ap (λ ys. length ys - 1) v in
    subst (λ ys. Joins src tk [] c.args.field c.with_last.result.root ys) (sym steps) (subst (λ r. Joins src tk [] c.args.field r xs) (sym root) own)
