use Rattle.std.proofs.Common.{◌<◌, ◌≤◌, sym, ◌∙◌, subst, length, arith}
use Rattle.std.proofs.lemmas.Result.{IfOk-weaker}
use Rattle.gn_node_set.specs.Meanings.{Has}
use Rattle.gn_field.specs.Merged.{IsGathering, filled}
use Rattle.gn_field.proofs.Grown.{has_at}
use Rattle.gn_field.proofs.Owned.{left_length, from_left}
use Rattle.gn_field.proofs.field.gather_owned.Goals as goal

pub gather_behind-requires-clause-few : goal.gather_behind-requires-clause-few
gather_behind-requires-clause-few g c κs within =
    let few : length c.in_ok-rest.rest.items ≤ 65536 =
    omega (arith, c.requires, left_length g.S.Source.sources g.S.Source.taken c.in_ok-base.base c.args.fields.items c.in_ok-rest.rest.items c.in_ok-rest.ensures) in
    subst (λ os. length os ≤ 65536) (sym c.deref-3.ensures.value) few

pub returns : goal.returns
returns g c =
    let src = g.S.Source.sources in
    let tk = g.S.Source.taken in
    let base = c.in_ok-base.base in
    let fields = c.args.fields.items in
    let rest = c.in_ok-rest.rest.items in
    let v = c.deref-3.ensures.value in
    let at = c.largest-at.result in
    let item = c.index.result.now in
    let inside : at < length fields = subst (λ fs. at < length fs) c.deref-2.ensures.value c.largest-at.ensures in
    let has : Has fields base = subst (λ f. Has fields f) (sym c.index.ensures ∙ sym c.in_ok-base.ensures) (has_at fields at item inside) in
    IfOk-weaker c.gather_behind.result _ _
    (λ r h. from_left src tk base h.0 fields rest r.steps.items r.roots.items c.in_ok-rest.ensures has (subst (λ os. IsGathering src tk base h.0 (filled base os) r.steps.items r.roots.items) v h.1))
    c.gather_behind.ensures
