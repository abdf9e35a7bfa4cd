use Rattle.std.proofs.Common.{◌≤◌, length, get_or, take, arith, sym, subst}
use Rattle.gn_pending.specs.Flags.{IsFirstOf}
use Rattle.gn_pending.proofs.Firsts.{is_at, take_one_more, taken_whole}
use Rattle.gn_pending.proofs.first.first_flagged.Goals as goal

pub loop-number-preserved : goal.loop-number-preserved
loop-number-preserved g c =
    let at = is_at c.args.numbers.now c.loop-number.number-index 0 c.loop-number-test.true in
    record {
      so_far = subst (λ ns. IsFirstOf c.args.graph.now.nodes c.args.flags.now ns c.earlier-first.result) (sym (take_one_more c.args.numbers.now c.loop-number.number-index (get_or c.args.numbers.now c.loop-number.number-index 0) at))
          (c.earlier-first.ensures (take c.loop-number.number-index c.args.numbers.now) c.loop-number.invariant.so_far);
    }

pub returns : goal.returns
returns g c =
    let past : length c.args.numbers.now ≤ c.loop-number.number-index = omega (arith, c.loop-number-test.false) in
    subst (λ ns. IsFirstOf c.args.graph.now.nodes c.args.flags.now ns c.loop-number.first) (taken_whole c.args.numbers.now c.loop-number.number-index past) c.loop-number.invariant.so_far
