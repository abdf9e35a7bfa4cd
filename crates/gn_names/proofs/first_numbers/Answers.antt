use Rattle.std.proofs.Common.{◌≡◌, ◌+◌, ◌-◌, ◌<◌, Some, [], length, cond, bytes_eq, get_or, ap, ◌∙◌, arith}
use Rattle.std.proofs.lemmas.Map.Text.{btree_map_updates_str}
use Rattle.gn_names.proofs.Added.{first_from, first_from_before}
use Rattle.gn_names.proofs.first_numbers.Goals as goal

pub loop-number-preserved : goal.loop-number-preserved
loop-number-preserved c =
    let list = c.args.list.now in
    let i = c.loop-number.number - 1 in
    let name = get_or list i (record { ref_ptr = (0, 0); now = [] }) in
    let below : i < length list = omega arith in
    let next : c.loop-number.number ≡ i + 1 = omega arith in
    record {
      bound = omega arith;
      first = λ q.
          btree_map_updates_str name.now c.loop-number.numbers c.insert.new.self _ c.in_ok-insert.ensures.updates q
          ∙ (ap (λ found. cond (bytes_eq name.now q) (Some i) found) (c.loop-number.invariant.first q ∙ ap (λ n. first_from list n q) next)
          ∙ first_from_before list i _ below q);
    }
