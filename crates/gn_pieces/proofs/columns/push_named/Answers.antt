use Rattle.std.proofs.Common.{ap, sym, ◌∙◌}
use Rattle.gn_plain.specs.Columns.{entry_named}
use Rattle.gn_attr.specs.Names.{plain_name}
use Rattle.gn_attr.specs.Columns as attr
use Rattle.gn_pieces.specs.Behind.{values_of}
use Rattle.gn_pieces.specs.Views.{geometry_of, part_of, places_of}
use Rattle.gn_pieces.proofs.Found.{fits_found, found_some, named_values, on_ok, own_found, plain_entry}
use Rattle.gn_pieces.proofs.columns.push_named.Goals as goal

pub push_on-requires : goal.push_on-requires
push_on-requires c =
    let name = plain_name c.args.name.now in
    let f = found_some _ c.get.result (entry_named name c.own_columns.result.now) (c.in-Some.from, c.in-Some.column) c.get.ensures c.in-Some.is in
    fits_found (places_of c.args.component c.args.view.now.geometry.now) name c.own_columns.result.now f.0 c.in-Some.from c.in-Some.column.now c.own_columns.ensures.fit f.1 f.2 f.3

pub returns : goal.returns
returns c =
    let g = c.args.view.now.geometry.now in
    let p = part_of c.args.component (geometry_of c.args.view.now) in
    let name = plain_name c.args.name.now in
    let f = found_some _ c.get.result (entry_named name c.own_columns.result.now) (c.in-Some.from, c.in-Some.column) c.get.ensures c.in-Some.is in
    let found = own_found c.args.component c.args.view.now.placing g name f.0 (sym (ap (entry_named name) c.own_columns.ensures.columns) ∙ f.1) in
    on_ok c.push_on.result _ _ c.push_on.ensures (λ pushed.
    named_values (values_of c.args.values.now) (values_of c.push_on.new.values) p name c.in-Some.from c.args.place (attr.values_of c.in-Some.column.now) (plain_entry f.0) found f.2 (ap attr.values_of f.3) pushed)
