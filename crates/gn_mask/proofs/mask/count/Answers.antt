use Rattle.std.proofs.Common.{◌≡◌, ◌+◌, ◌-◌, ◌^◌, ap, length, drop, arith}
use Rattle.std.proofs.lemmas.List.{drop_all}
use Rattle.gn_mask.specs.Segments.{elements}
use Rattle.gn_mask.proofs.Segments.{length_at, few}
use Rattle.gn_mask.proofs.mask.count.Goals as goal

pub overflow_sub-count : goal.overflow_sub-count
overflow_sub-count c =
    let forward = (length_at (2 ^ 32) c.loop-segment.segment-index c.args.segments.now (record { start = 0; end = 0 }) c.requires c.loop-segment-test.true).1 in
    omega (arith, forward)

pub overflow_add-count : goal.overflow_add-count
overflow_add-count c =
    let at = length_at (2 ^ 32) c.loop-segment.segment-index c.args.segments.now (record { start = 0; end = 0 }) c.requires c.loop-segment-test.true in
    let all = few 0 (2 ^ 32 - 1) c.args.segments.now c.requires in
    let same : c.loop-segment.count + length (elements (drop c.loop-segment.segment-index c.args.segments.now)) ≡ length (elements c.args.segments.now) = c.loop-segment.invariant in
    omega (arith, at.0, at.1, all, same)

pub loop-segment-preserved : goal.loop-segment-preserved
loop-segment-preserved c =
    let at = length_at (2 ^ 32) c.loop-segment.segment-index c.args.segments.now (record { start = 0; end = 0 }) c.requires c.loop-segment-test.true in
    let same : c.loop-segment.count + length (elements (drop c.loop-segment.segment-index c.args.segments.now)) ≡ length (elements c.args.segments.now) = c.loop-segment.invariant in
    omega (arith, at.0, at.1, same)

pub returns : goal.returns
returns c =
    let none : length (elements (drop c.loop-segment.segment-index c.args.segments.now)) ≡ 0 = ap (λ ss. length (elements ss)) (drop_all c.loop-segment.segment-index c.args.segments.now c.loop-segment-test.false) in
    let same : c.loop-segment.count + length (elements (drop c.loop-segment.segment-index c.args.segments.now)) ≡ length (elements c.args.segments.now) = c.loop-segment.invariant in
    omega (arith, none, same)
