use Rattle.std.proofs.Common.{◌≡◌, true, false, ap, sym, ◌∙◌}
use Rattle.gn_value.specs.declared.value.Place.TheVariants.{Instance}
use Rattle.gn_plain.specs.Equality.{same_place}
use Rattle.gn_attr.specs.Columns.{plain_columns}
use Rattle.gn_geometry.specs.Geometries.{plain_geometry}
use Rattle.gn_joins.specs.Realized.{with_handed}
use Rattle.gn_pieces.specs.Views.{geometry_of, own_place, part_of}
use Rattle.gn_pieces.proofs.Placed.{columns_plain, instances_keep_columns, none_take, some_take}
use Rattle.gn_pieces.proofs.view.View.handed.Goals as goal

pub returns-then-eq : goal.returns-then-eq
returns-then-eq c =
    let v = c.args.self.now in
    let here : same_place (own_place c.args.component) Instance ≡ true = ap (λ p. same_place p Instance) (sym c.own_place-place.ensures) ∙ (sym c.eq.ensures ∙ c.if-eq.true) in
    instances_keep_columns c.args.component v.placing (plain_geometry v.geometry.now) here ∙ columns_plain c.args.component v.geometry.now

pub returns-then-count-eq0 : goal.returns-then-count-eq0
returns-then-count-eq0 c =
    let v = c.args.self.now in
    let count = (part_of c.args.component (geometry_of v)).component.count in
    none_take c.args.component v.placing (plain_geometry v.geometry.now) (ap count (sym c.own_place-place.ensures) ∙ (sym c.count.ensures ∙ c.if-count-eq0.true)) ∙ columns_plain c.args.component v.geometry.now

pub returns : goal.returns
returns c =
    let v = c.args.self.now in
    let q = c.in_ok-placing.placing in
    let count = (part_of c.args.component (geometry_of v)).component.count in
    let elsewhere : same_place (own_place c.args.component) Instance ≡ false = ap (λ p. same_place p Instance) (sym c.own_place-place.ensures) ∙ (sym c.eq.ensures ∙ c.if-eq.false) in
    some_take c.args.component v.placing q (plain_geometry v.geometry.now) c.in_ok-placing.was elsewhere (λ none. c.if-count-eq0.false (c.count.ensures ∙ (ap count c.own_place-place.ensures ∙ none)))
    ∙ ap (λ es. with_handed (own_place c.args.component) (count (own_place c.args.component)) q.item es (plain_columns q.columns.now)) (columns_plain c.args.component v.geometry.now)
