use Rattle.std.proofs.Common.{◌≡◌, ◌+◌, ◌*◌, sym, subst, arith}
use Rattle.gn_value.specs.Values.{position_of_place}
use Rattle.gn_wholes.specs.Covers.{AreInOrder}
use Rattle.gn_wholes.proofs.Collecting.{place_more, step_more}
use Rattle.gn_wholes.proofs.Places.{position_below}
use Rattle.gn_wholes.proofs.collect.add_wholes.Goals as goal

pub add_whole-requires-clause-order : goal.add_whole-requires-clause-order
add_whole-requires-clause-order g c κs within =
    let l = c.loop-number in
    subst (λ n. AreInOrder (6 * c.args.at + n) l.wholes.items) (sym c.place_at.ensures) l.invariant.order

pub loop-number-preserved : goal.loop-number-preserved
loop-number-preserved g c =
    let ctx = g.C.Context.meaning c.args.context.now in
    let l = c.loop-number in
    let place = c.place_at.result in
    let added = c.in_ok-add_whole.ensures in
    let more = c.add_whole.new.wholes.items in
    record {
      so_far = added.so_far;
      order = subst (λ n. AreInOrder n more) (let e : 6 * c.args.at + position_of_place place + 1 ≡ 6 * c.args.at + (l.number + 1) = omega (arith, c.place_at.ensures) in e) added.order;
      there = place_more ctx c.args.table.now c.args.steps.now c.args.at l.number place l.wholes.items more c.place_at.ensures added.grows added.there l.invariant.there;
    }

pub returns : goal.returns
returns g c =
    let src = g.S.Source.sources in
    let ctx = g.C.Context.meaning c.args.context.now in
    let l = c.loop-number in
    let ws = l.wholes.items in
    let end : l.number ≡ 6 = omega arith in
    record {
      so_far = step_more src ctx c.args.table.now c.args.steps.now c.args.at ws l.invariant.so_far (λ p asks. l.invariant.there p (omega (arith, position_below p, end)) asks);
      order = subst (λ n. AreInOrder n ws) (let e : 6 * c.args.at + l.number ≡ 6 * (c.args.at + 1) = omega (arith, end) in e) l.invariant.order;
    }
