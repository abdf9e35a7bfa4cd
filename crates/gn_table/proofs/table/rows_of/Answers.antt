use Rattle.std.proofs.Common.{◌≡◌, ◌<◌, ◌+◌, Some, length, get_or, take, sym, ap, ◌∙◌, subst}
use Rattle.std.specs.Prelude.{slice_get}
use Rattle.std.proofs.lemmas.Option.{slice_get-get_or}
use Rattle.gn_scopes.specs.Seen.{scope_of}
use Rattle.gn_table.specs.Tables.{AreRows}
use Rattle.gn_table.proofs.Rows.{form_at, next_row}
use Rattle.gn_table.proofs.table.rows_of.Goals as goal

pub row_of-requires-clause-form : goal.row_of-requires-clause-form
row_of-requires-clause-form c =
    let i = c.loop-node.node-index in
    let x = c.node-item.result in
    let there : slice_get c.deref-node-items.result.now i ≡ Some x = slice_get-get_or c.deref-node-items.result.now i x c.loop-node-test.true ∙ ap Some (sym c.node-item.is) in
    form_at c.args.scope.now.nodes.now.items i x c.requires (subst (λ xs. slice_get xs i ≡ Some x) c.deref-node-items.ensures.value there)

pub loop-node-preserved : goal.loop-node-preserved
loop-node-preserved c =
    let i = c.loop-node.node-index in
    let x = c.node-item.result in
    let xs = c.args.scope.now.nodes.now.items in
    let s = scope_of c.args.scope.now in
    let inside : i < length xs = subst (λ ys. i < length ys) c.deref-node-items.ensures.value c.loop-node-test.true in
    let is : x ≡ get_or xs i x = subst (λ ys. x ≡ get_or ys i x) c.deref-node-items.ensures.value c.node-item.is in
    record {
      number = ap (λ n. n + 1) c.loop-node.invariant.number;
      rows = subst (AreRows s (take (i + 1) xs)) (sym c.in_ok-push.ensures.items) (next_row s xs i c.loop-node.rows.items x c.in_ok-row_of.field-0 inside is c.loop-node.invariant.rows c.in_ok-row_of.ensures);
    }
