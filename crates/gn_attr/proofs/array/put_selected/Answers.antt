use Rattle.std.proofs.Common.{◌≡◌, ◌<◌, length, sym, ◌∙◌, add-one, arith}
use Rattle.gn_attr.proofs.Chosen.{put_step, skip_step}
use Rattle.gn_attr.proofs.array.put_selected.Goals as goal
use Rattle.gn_attr.proofs.array.put_selected.Goals.{then-is_selected, else-is_selected}

pub loop-at-preserved : goal.loop-at-preserved
loop-at-preserved g c =
    let long : length c.loop-at.items ≡ length c.args.items.now = c.loop-at.auto.items in
    let values : length c.args.values.now ≡ length c.loop-at.items = omega (arith, long, c.requires.values) in
    let selected : length c.args.selected.now ≡ length c.loop-at.items = omega (arith, long, c.requires.selected) in
    let within : c.loop-at.at < length c.loop-at.items = omega (arith, selected, c.loop-at-test.true) in
    elim c.if-is_selected.branch [
      | then-is_selected w ↦ rw (add-one, w.items-is) (sym (put_step _ _ _ _ _ values selected within w.if-is_selected.true w.index-values-at.is) ∙ c.loop-at.invariant)
      | else-is_selected w ↦ rw (add-one, w.items-is) (sym (skip_step _ _ _ _ values selected within w.if-is_selected.false) ∙ c.loop-at.invariant)
    ]
