use Rattle.std.proofs.Common.{None, Some, ap, sym, ◌∙◌, map, subst}
use Rattle.std.specs.List.{fold}
use Rattle.gn_attr.specs.Columns.{plain_columns}
use Rattle.gn_pieces.specs.Heads.{head_on, with_joined}
use Rattle.gn_pieces.specs.Views.{columns_at, geometry_of, own_place, part_of, parts_of, AreOnPlaces}
use Rattle.gn_pieces.proofs.Fitting.{handed_on_places, own_on_places}
use Rattle.gn_pieces.proofs.Found.{on_ok}
use Rattle.gn_pieces.proofs.Heads.{joined_handed}
use Rattle.gn_pieces.proofs.columns.add_view.Goals as goal

pub add_columns-requires-clause-places : goal.add_columns-requires-clause-places
add_columns-requires-clause-places c = own_on_places c.args.component c.args.view.now.geometry.now c.own_columns-own.result.now c.own_columns-own.ensures.fit

pub add_columns-requires-2-clause-places : goal.add_columns-requires-2-clause-places
add_columns-requires-2-clause-places c =
    subst (λ p. AreOnPlaces c.args.component (Some p) c.in-Some.columns.now) (sym c.own_place-place.ensures) (handed_on_places c.args.component c.in-Some.columns.now)

pub returns-clause-columns : goal.returns-clause-columns
returns-clause-columns c =
    let ps = parts_of c.args.component c.args.views.now in
    let p = part_of c.args.component (geometry_of c.args.view.now) in
    let old = plain_columns c.args.joined.now in
    let place = own_place c.args.component in
    let own = plain_columns (columns_at c.args.component c.args.view.now.geometry.now) in
    let more = plain_columns c.in-Some.columns.now in
    on_ok c.add_columns-2.result _ _ c.add_columns-2.ensures.columns (λ added.
    added
    ∙ (ap (λ q. fold (with_joined ps) (plain_columns c.add_columns.new.joined) (map (head_on (Some q)) more)) c.own_place-place.ensures
    ∙ (ap (λ js. fold (with_joined ps) js (map (head_on (Some place)) more)) c.in_ok-add_columns.ensures.columns
    ∙ (ap (λ es. fold (with_joined ps) (fold (with_joined ps) old (map (head_on None) (plain_columns es))) (map (head_on (Some place)) more)) c.own_columns-own.ensures.columns
    ∙ (sym (joined_handed ps old place (p.component.count place) c.in-Some.field-0-1 more own) ∙ ap (λ es. fold (with_joined ps) old (map (head_on None) es)) (sym c.in-Some.ensures))))))
