use Rattle.std.proofs.Common.{◌≡◌, Some, ap, sym, ◌∙◌, slice_get, unwrap_or}
use Rattle.gn_plain.specs.Columns.{Entry}
use Rattle.gn_attr.specs.Names.{plain_name}
use Rattle.gn_attr.specs.Columns.{plain_columns}
use Rattle.gn_attr.specs.declared.column.Column.{Column}
use Rattle.gn_value.specs.declared.value.ValueKind.{ValueKind}
use Rattle.gn_value.specs.declared.value.Place.{Place}
use Rattle.gn_pieces.specs.Heads.{head_on, with_joined}
use Rattle.gn_pieces.specs.Views.{is_place_of, parts_of}
use Rattle.gn_pieces.proofs.Fitting.{place_at}
use Rattle.gn_pieces.proofs.Found.{plain_entry}
use Rattle.gn_pieces.proofs.Steps.{one_more_head}
use Rattle.gn_pieces.proofs.columns.add_columns.Goals as goal

pub add_column-requires-clause-place : goal.add_column-requires-clause-place
add_column-requires-clause-place c =
    let e : Entry Column = record { name = plain_name c.in-Some.name.now; place = c.in-Some.place; column = c.in-Some.column.now } in
    let found : slice_get c.args.columns.now c.loop-at.at ≡ Some e = sym c.in-Some.ensures in
    ap (is_place_of c.args.component) c.unwrap_or-place.ensures ∙ place_at c.args.component c.args.on c.args.columns.now c.loop-at.at e c.requires.places found

pub loop-at-preserved : goal.loop-at-preserved
loop-at-preserved c =
    let e : Entry Column = record { name = plain_name c.in-Some.name.now; place = c.in-Some.place; column = c.in-Some.column.now } in
    let found : slice_get c.args.columns.now c.loop-at.at ≡ Some e = sym c.in-Some.ensures in
    let ps = parts_of c.args.component c.args.views.now in (
      c.in_ok-add_column.ensures.columns
          ∙ (ap (λ (p : Place). with_joined ps (plain_columns c.loop-at.joined) (let h : Entry ValueKind = record { name = plain_name c.in-Some.name.now; place = p; column = c.kind.result } in h)) c.unwrap_or-place.ensures
          ∙ (ap (λ (k : ValueKind). with_joined ps (plain_columns c.loop-at.joined) (let h : Entry ValueKind = record { name = plain_name c.in-Some.name.now; place = unwrap_or c.args.on c.in-Some.place; column = k } in h)) c.kind.ensures
          ∙ (ap (λ js. with_joined ps js (head_on c.args.on (plain_entry e))) c.loop-at.invariant.0
          ∙ sym (one_more_head ps (plain_columns c.args.joined.now) c.args.columns.now c.loop-at.at e c.args.on found)))),
      c.in_ok-add_column.ensures.kept,
    )
