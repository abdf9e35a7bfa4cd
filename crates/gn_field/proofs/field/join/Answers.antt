use Rattle.std.proofs.Common.{◌≡◌, ◌-◌, ◌<◌, sym, ◌∙◌, ap, subst, length, get_or}
use Rattle.gn_field.specs.Merged.{Merges, Joins}
use Rattle.gn_field.proofs.Joining.{some_places, joined}
use Rattle.gn_field.proofs.field.join.Goals as goal

pub last_place-requires : goal.last_place-requires
last_place-requires g c =
    let before = c.args.steps.now.items in
    let xs = c.field.inside.steps.value.items in
    let after = c.merge.new.steps.items in
    let places = c.in_ok-places.places.items in
    let items : c.as_slice.result.now ≡ xs = c.as_slice.ensures.value ∙ ap (λ v. v.items) c.deref.ensures in
    let m : Merges before xs after places = subst (λ ys. Merges before ys after places) items c.in_ok-places.ensures in
    subst (λ ps. 0 < length ps) (sym c.deref-2.ensures.value) (some_places g.S.Source.sources g.S.Source.taken before xs after places c.field.invariant m)

pub returns : goal.returns
returns g c =
    let before = c.args.steps.now.items in
    let xs = c.field.inside.steps.value.items in
    let after = c.merge.new.steps.items in
    let places = c.in_ok-places.places.items in
    let items : c.as_slice.result.now ≡ xs = c.as_slice.ensures.value ∙ ap (λ v. v.items) c.deref.ensures in
    let m : Merges before xs after places = subst (λ ys. Merges before ys after places) items c.in_ok-places.ensures in
    let root : c.last_place.result ≡ get_or places (length places - 1) 0 = c.last_place.ensures ∙ ap (λ ps. get_or ps (length ps - 1) 0) c.deref-2.ensures.value in
    subst (λ e. Joins g.S.Source.sources g.S.Source.taken before e c.last_place.result after) c.field.view_is (joined g.S.Source.sources g.S.Source.taken xs c.field.invariant before after places c.last_place.result m root)
