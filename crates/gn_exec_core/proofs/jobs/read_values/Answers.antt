use Rattle.std.proofs.Common.{◌≡◌, ◌≤◌, ◌<◌, ◌+◌, ◌++◌, length, drop, get_or, set, ap, sym, subst, ◌∙◌, arith}
use Rattle.gn_exec_core.specs.Jobs.{read_one, read_from}
use Rattle.gn_exec_core.proofs.Selecting.{all_read, one_more_read}
use Rattle.gn_exec_core.proofs.jobs.read_values.Goals as goal

pub loop-at-preserved : goal.loop-at-preserved
loop-at-preserved g c =
    let slots = c.loop-at.slots.items in
    let inside : c.loop-at.at < length c.loop-at.slots.items = omega (arith, c.loop-at.slots.ok.0, c.loop-at.invariant.len) in
    let is = subst (λ x. x ≡ get_or c.loop-at.slots.items c.loop-at.at x) (sym c.take.ensures.value) c.index_mut.ensures.value in
    let grown = c.keep.ensures.items ∙ ap (λ b. c.loop-at.into.items ++ read_one b c.take.result) c.is_read.ensures in
    let all = c.args.into.now.items ++ read_from c.args.role c.args.choice 0 c.args.row.items in
    record {
      items = subst (λ x. c.keep.new.into.items ++ read_from c.args.role c.args.choice (c.loop-at.at + 1) (drop (c.loop-at.at + 1) (set c.loop-at.slots.items c.loop-at.at x)) ≡ c.args.into.now.items ++ read_from c.args.role c.args.choice 0 c.args.row.items)
          (sym c.take.ensures.after)
          (one_more_read c.args.role c.args.choice c.loop-at.at c.loop-at.slots.items c.take.result c.loop-at.into.items c.keep.new.into.items (c.args.into.now.items ++ read_from c.args.role c.args.choice 0 c.args.row.items) inside is grown c.loop-at.invariant.items);
      len = c.loop-at.invariant.len;
      room = omega (arith, c.loop-at.invariant.room, c.loop-at.invariant.len, c.keep.ensures.len, c.keep.ensures.capacity);
    }

pub returns : goal.returns
returns g c =
    let past : length c.loop-at.slots.items ≤ c.loop-at.at = omega (arith, c.loop-at.slots.ok.0, c.loop-at.invariant.len) in
    all_read c.args.role c.args.choice c.loop-at.at c.loop-at.slots.items c.args.row.items c.loop-at.into.items c.args.into.now.items past c.loop-at.invariant.items
