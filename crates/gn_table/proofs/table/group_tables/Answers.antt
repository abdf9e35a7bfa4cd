use Rattle.std.proofs.Common.{◌≡◌, ◌+◌, Some, length, map, refl, sym, ap, ◌∙◌, subst, arith}
use Rattle.std.specs.Prelude.{option_map, slice_get}
use Rattle.std.proofs.lemmas.Option.{slice_get-get_or, slice_get-map}
use Rattle.gn_tree.specs.Seen.{group_of}
use Rattle.gn_meaning.specs.Bodies.{group_body}
use Rattle.gn_table.specs.Tables.{IsTable}
use Rattle.gn_table.proofs.Rows.{AreFirstTables, no_tables, next_table, all_tables}
use Rattle.gn_table.proofs.table.group_tables.Goals as goal

pub loop-group-init : goal.loop-group-init
loop-group-init c = record { number = refl; tables = subst (AreFirstTables c.args.groups.now.list.now 0) (sym c.in_ok-tables.ensures.items) (no_tables c.args.groups.now.list.now) }

pub group_table-requires-clause-form : goal.group_table-requires-clause-form
group_table-requires-clause-form c =
    let xs = c.args.groups.now.list.now in
    let i = c.loop-group.group-index in
    let x = c.group-item.result in
    (c.requires i (group_of x) (slice_get-map group_of xs i ∙ ap (option_map group_of) (slice_get-get_or xs i x c.loop-group-test.true ∙ ap Some (sym c.group-item.is)))).0

pub group_table-requires-clause-order : goal.group_table-requires-clause-order
group_table-requires-clause-order c =
    let xs = c.args.groups.now.list.now in
    let i = c.loop-group.group-index in
    let x = c.group-item.result in
    (c.requires i (group_of x) (slice_get-map group_of xs i ∙ ap (option_map group_of) (slice_get-get_or xs i x c.loop-group-test.true ∙ ap Some (sym c.group-item.is)))).1

pub loop-group-preserved : goal.loop-group-preserved
loop-group-preserved c =
    let xs = c.args.groups.now.list.now in
    let i = c.loop-group.group-index in
    let x = c.group-item.result in
    let table = c.in_ok-group_table.field-0 in
    let made : IsTable (group_body (map group_of xs) i (group_of x)) table = subst (λ n. IsTable (group_body (map group_of xs) n (group_of x)) table) c.loop-group.invariant.number c.in_ok-group_table.ensures in
    record {
      number = ap (λ n. n + 1) c.loop-group.invariant.number;
      tables = subst (AreFirstTables xs (i + 1)) (sym c.in_ok-push.ensures.items) (next_table xs i c.loop-group.tables.items x table c.loop-group-test.true c.group-item.is c.loop-group.invariant.tables made);
    }

pub returns : goal.returns
returns c =
    let xs = c.args.groups.now.list.now in
    let i = c.loop-group.group-index in
    let done : i ≡ length xs = omega (arith, c.loop-group-test.false, c.loop-group.auto.group-index-end) in
    all_tables xs i c.loop-group.tables.items done c.loop-group.invariant.tables
