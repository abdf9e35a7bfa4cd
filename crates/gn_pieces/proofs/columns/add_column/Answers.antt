use Rattle.std.proofs.Common.{◌≡◌, false, ap, is_some, sym, ◌∙◌}
use Rattle.gn_plain.specs.Columns.{Entry, entry_named, with_entry}
use Rattle.gn_value.specs.declared.value.ValueKind.{ValueKind}
use Rattle.gn_attr.specs.Names.{plain_name}
use Rattle.gn_attr.specs.Columns.{values_of}
use Rattle.gn_attr.specs.declared.column.Column.{Column}
use Rattle.gn_pieces.specs.Views.{parts_of}
use Rattle.gn_pieces.proofs.Fitting.{column_fits, kept_set}
use Rattle.gn_pieces.proofs.Found.{found_like, is_none, on_any, on_err}
use Rattle.gn_pieces.proofs.Named.{is_named_over}
use Rattle.gn_pieces.proofs.Steps.{joined_last, there_already}
use Rattle.gn_pieces.proofs.columns.add_column.Goals as goal
use Rattle.gn_pieces.proofs.columns.add_column.Goals.{in-Ok, in-Err}

pub returns-then-is_some-clause-columns : goal.returns-then-is_some-clause-columns
returns-then-is_some-clause-columns c =
    let name = plain_name c.args.name.now in
    there_already (parts_of c.args.component c.args.views.now) _ (record { name = name; place = c.args.place; column = c.args.kind })
    (is_named_over values_of name c.args.joined.now ∙ (sym (found_like _ c.get.result (entry_named name c.args.joined.now) c.get.ensures) ∙ (sym c.is_some.ensures ∙ c.if-is_some.true)))

pub returns-clause-columns : goal.returns-clause-columns
returns-clause-columns c =
    let name = plain_name c.args.name.now in
    let h : Entry ValueKind = record { name = name; place = c.args.place; column = c.args.kind } in
    let absent : is_some (entry_named name c.args.joined.now) ≡ false = sym (found_like _ c.get.result (entry_named name c.args.joined.now) c.get.ensures) ∙ (sym c.is_some.ensures ∙ c.if-is_some.false) in
    elim c.match-set.branch [
      | in-Ok w ↦ on_any c.match-set.result _ (joined_last (parts_of c.args.component c.args.views.now) h c.args.joined.now c.set.new.self c.in_ok-column.column (is_none _ absent) c.in_ok-column.ensures.values
          (w.in-Ok.ensures.ok ∙ ap (λ n. with_entry (let x : Entry Column = record { name = n; place = c.args.place; column = c.in_ok-column.column } in x) c.args.joined.now) c.in_ok-twin.ensures))
      | in-Err w ↦ on_err c.match-set.result _ _ w.result-is
    ]

pub returns-clause-kept : goal.returns-clause-kept
returns-clause-kept c =
    kept_set c.args.component c.args.views.now (record { name = plain_name c.in_ok-twin.twin; place = c.args.place; column = c.in_ok-column.column }) c.args.joined.now c.set.new.self c.set.result c.set.ensures.ok c.set.ensures.refused
    c.requires.kept c.in_ok-column.ensures.sole
    (column_fits c.args.component c.args.views.now (record { name = plain_name c.args.name.now; place = c.args.place; column = c.args.kind }) c.in_ok-column.column c.requires.place c.in_ok-column.ensures.values)
