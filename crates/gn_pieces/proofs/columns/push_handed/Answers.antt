use Rattle.std.proofs.Common.{◌≡◌, ap, sym, ◌∙◌}
use Rattle.gn_plain.specs.Columns.{entry_named}
use Rattle.gn_attr.specs.Names.{plain_name}
use Rattle.gn_attr.specs.Columns as attr
use Rattle.gn_joins.specs.Realized.{repeated}
use Rattle.gn_pieces.specs.Behind.{values_of}
use Rattle.gn_pieces.specs.Views.{columns_at, geometry_of, own_place, part_of}
use Rattle.gn_pieces.proofs.Found.{absent_alone, found_none, found_some, handed_absent, handed_fits, handed_found, named_values, on_ok, plain_entry, zero_values}
use Rattle.gn_pieces.proofs.Named.{handed_column}
use Rattle.gn_pieces.proofs.columns.push_handed.Goals as goal

pub returns-in_default : goal.returns-in_default
returns-in_default c =
    let g = c.args.view.now.geometry.now in
    let p = part_of c.args.component (geometry_of c.args.view.now) in
    let name = plain_name c.args.name.now in
    on_ok c.push_zeros.result _ _ c.push_zeros.ensures (λ zeros.
    zero_values (values_of c.args.values.now) (values_of c.push_zeros.new.values) p name c.args.place c.count.result
    (absent_alone p name (columns_at c.args.component g) c.in_default.ensures c.requires) c.count.ensures zeros)

pub returns-in_default-get : goal.returns-in_default-get
returns-in_default-get c =
    let g = c.args.view.now.geometry.now in
    let p = part_of c.args.component (geometry_of c.args.view.now) in
    let name = plain_name c.args.name.now in
    let from = own_place c.args.component in
    let absent = found_none _ c.get.result (entry_named name c.in-Some.columns.now) c.get.ensures c.in_default-get.is in
    on_ok c.push_zeros-in_default-get.result _ _ c.push_zeros-in_default-get.ensures (λ zeros.
    zero_values (values_of c.args.values.now) (values_of c.push_zeros-in_default-get.new.values) p name c.args.place c.count-in_default-get.result
    (handed_absent p name from (p.component.count from) c.in-Some.item (columns_at c.args.component g) c.in-Some.columns.now c.in-Some.ensures c.requires absent) c.count-in_default-get.ensures zeros)

pub push_on-requires : goal.push_on-requires
push_on-requires c =
    handed_fits c.args.component c.args.view.now.geometry.now c.args.view.now.placing c.own_place-from.result c.count-2.result c.in-Some.item c.in_ok-handed.handed (attr.values_of c.in-Some-get.column.now)
    c.own_place-from.ensures c.count-2.ensures c.in_ok-handed.ensures

pub returns : goal.returns
returns c =
    let g = c.args.view.now.geometry.now in
    let p = part_of c.args.component (geometry_of c.args.view.now) in
    let name = plain_name c.args.name.now in
    let from = own_place c.args.component in
    let n = p.component.count from in
    let k = c.in-Some.item in
    let f = found_some _ c.get.result (entry_named name c.in-Some.columns.now) (c.in-Some-get.field-0-0, c.in-Some-get.column) c.get.ensures c.in-Some-get.is in
    let found = handed_found p name from n k (columns_at c.args.component g) c.in-Some.columns.now c.in-Some.ensures c.requires f.0 f.1 in
    let many : n ≡ c.count-2.result = ap p.component.count (sym c.own_place-from.ensures) ∙ sym c.count-2.ensures in
    let values : repeated n k (attr.values_of f.0.column) ≡ attr.values_of c.in_ok-handed.handed =
    ap (λ x. repeated n k (attr.values_of x)) f.3 ∙ (ap (λ m. repeated m k (attr.values_of c.in-Some-get.column.now)) many ∙ sym c.in_ok-handed.ensures) in
    on_ok c.push_on.result _ _ c.push_on.ensures (λ pushed.
    named_values (values_of c.args.values.now) (values_of c.push_on.new.values) p name c.own_place-from.result c.args.place (attr.values_of c.in_ok-handed.handed) (handed_column from n k (plain_entry f.0))
    found (sym c.own_place-from.ensures) values pushed)
