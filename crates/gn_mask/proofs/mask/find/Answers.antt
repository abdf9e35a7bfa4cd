use Rattle.std.proofs.Common.{◌≡◌, ◌+◌, ◌-◌, ◌^◌, ◌++◌, ◌∙◌, sym, ap, get_or, drop, arith}
use Rattle.std.specs.List.{slice_get}
use Rattle.std.proofs.lemmas.List.{drop_all}
use Rattle.gn_mask.specs.Numbers.{numbers}
use Rattle.gn_mask.specs.Segments.{elements}
use Rattle.gn_mask.proofs.Numbers.{range_at, range_past}
use Rattle.gn_mask.proofs.Segments.{at_index}
use Rattle.gn_mask.proofs.mask.find.Goals as goal

pub overflow_sub-width : goal.overflow_sub-width
overflow_sub-width c =
    let forward = (at_index (2 ^ 32) c.loop-segment.segment-index c.args.segments.now (record { start = 0; end = 0 }) c.requires c.loop-segment-test.true).1 in
    omega (arith, forward)

pub returns-then-left-width : goal.returns-then-left-width
returns-then-left-width c =
    let i = c.loop-segment.segment-index in
    let s = get_or c.args.segments.now i (record { start = 0; end = 0 }) in
    let at = at_index (2 ^ 32) i c.args.segments.now (record { start = 0; end = 0 }) c.requires c.loop-segment-test.true in
    sym (range_at s.start (s.end - s.start) c.loop-segment.left (elements (drop (i + 1) c.args.segments.now)) c.if-left-width.true)
    ∙ ap (λ ns. slice_get ns c.loop-segment.left) (sym at.0) ∙ c.loop-segment.invariant

pub loop-segment-preserved : goal.loop-segment-preserved
loop-segment-preserved c =
    let i = c.loop-segment.segment-index in
    let s = get_or c.args.segments.now i (record { start = 0; end = 0 }) in
    let at = at_index (2 ^ 32) i c.args.segments.now (record { start = 0; end = 0 }) c.requires c.loop-segment-test.true in
    let left : (s.end - s.start) + (c.loop-segment.left - (s.end - s.start)) ≡ c.loop-segment.left = omega (arith, c.if-left-width.false) in
    sym (range_past s.start (s.end - s.start) (c.loop-segment.left - (s.end - s.start)) (elements (drop (i + 1) c.args.segments.now)))
    ∙ ap (λ k. slice_get (numbers s.start s.end ++ elements (drop (i + 1) c.args.segments.now)) k) left
    ∙ ap (λ ns. slice_get ns c.loop-segment.left) (sym at.0) ∙ c.loop-segment.invariant

pub returns : goal.returns
returns c =
    ap (λ ss. slice_get (elements ss) c.loop-segment.left) (sym (drop_all c.loop-segment.segment-index c.args.segments.now c.loop-segment-test.false)) ∙ c.loop-segment.invariant
