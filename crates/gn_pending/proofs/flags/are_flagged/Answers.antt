use Rattle.std.proofs.Common.{get_or, take, sym, subst, ◌∙◌, true≢false}
use Rattle.gn_node_set.proofs.Lists.{member_at}
use Rattle.gn_pending.specs.Flags.{AreFlagged}
use Rattle.gn_pending.proofs.Firsts.{is_at, take_one_more, one_more_flagged}
use Rattle.gn_pending.proofs.flags.are_flagged.Goals as goal

pub loop-number-preserved : goal.loop-number-preserved
loop-number-preserved c =
    let at = is_at c.args.numbers.now c.loop-number.number-index 0 c.loop-number-test.true in
    record {
      so_far = subst (AreFlagged c.args.flags.now) (sym (take_one_more c.args.numbers.now c.loop-number.number-index (get_or c.args.numbers.now c.loop-number.number-index 0) at))
          (one_more_flagged c.args.flags.now (take c.loop-number.number-index c.args.numbers.now) (get_or c.args.numbers.now c.loop-number.number-index 0) c.loop-number.invariant.so_far (sym c.flag_at.ensures ∙ c.if-not-flag_at.false));
    }

pub returns-then-not-flag_at : goal.returns-then-not-flag_at
returns-then-not-flag_at c =
    let at = is_at c.args.numbers.now c.loop-number.number-index 0 c.loop-number-test.true in (
      λ e. absurd (true≢false (sym e)),
      λ all. absurd (true≢false (sym (all (get_or c.args.numbers.now c.loop-number.number-index 0) (member_at c.args.numbers.now c.loop-number.number-index (get_or c.args.numbers.now c.loop-number.number-index 0) at)) ∙ (sym c.flag_at.ensures ∙ c.if-not-flag_at.true))),
    )
