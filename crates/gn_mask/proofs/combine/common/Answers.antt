use Rattle.std.proofs.Common.{◌∙◌, ◌+◌, ◌<◌, ◌^◌, max, length, drop, arith}
use Rattle.std.proofs.lemmas.List.{take_rest}
use Rattle.gn_mask.specs.Segments.{start_of}
use Rattle.gn_mask.proofs.Segments.{raise, rises_drop}
use Rattle.gn_mask.proofs.Steps.{front, start_top, common_a, common_b}
use Rattle.gn_mask.proofs.combine.common.Goals as goal

pub loop-a_left-preserved : goal.loop-a_left-preserved
loop-a_left-preserved c =
    let ss = c.loop-a_left.a_left.now in
    let ts = c.loop-a_left.b_left.now in
    let h : 0 < length ss = omega arith in
    let g : 0 < length ts = omega arith in
    let f = front ss h c.loop-a_left.invariant.a in
    let k = front ts g c.loop-a_left.invariant.b in
    rw (take_rest ts 1)
    (record {
      a = c.loop-a_left.invariant.a;
      b = rises_drop 0 (2 ^ 32) 1 ts c.loop-a_left.invariant.b;
      rises = raise 0 (max c.max.result c.min.result + 1) (max (start_of ss) (start_of (drop 1 ts)) + 1) c.append.new.segments.items (omega (arith, c.max.ensures, c.min.ensures, f.0, k.0, k.1, k.2, c.if-x-y.false)) c.in_ok-append.ensures.rises;
      covers = λ n. common_b ss ts c.loop-a_left.both.items c.append.new.segments.items c.max.result c.min.result n h g c.loop-a_left.invariant.a c.loop-a_left.invariant.b c.in_ok-append.ensures.elements c.max.ensures c.min.ensures c.if-x-y.false ∙ c.loop-a_left.invariant.covers n;
    })

pub loop-a_left-preserved-then-x-y : goal.loop-a_left-preserved-then-x-y
loop-a_left-preserved-then-x-y c =
    let ss = c.loop-a_left.a_left.now in
    let ts = c.loop-a_left.b_left.now in
    let h : 0 < length ss = omega arith in
    let g : 0 < length ts = omega arith in
    let f = front ss h c.loop-a_left.invariant.a in
    let k = front ts g c.loop-a_left.invariant.b in
    rw (take_rest ss 1)
    (record {
      a = rises_drop 0 (2 ^ 32) 1 ss c.loop-a_left.invariant.a;
      b = c.loop-a_left.invariant.b;
      rises = raise 0 (max c.max.result c.min.result + 1) (max (start_of (drop 1 ss)) (start_of ts) + 1) c.append.new.segments.items (omega (arith, c.max.ensures, c.min.ensures, f.0, f.1, f.2, k.0, c.if-x-y.true)) c.in_ok-append.ensures.rises;
      covers = λ n. common_a ss ts c.loop-a_left.both.items c.append.new.segments.items c.max.result c.min.result n h g c.loop-a_left.invariant.a c.loop-a_left.invariant.b c.in_ok-append.ensures.elements c.max.ensures c.min.ensures c.if-x-y.true ∙ c.loop-a_left.invariant.covers n;
    })

pub returns-clause-rises : goal.returns-clause-rises
returns-clause-rises c =
    let ss = c.loop-a_left.a_left.now in
    let ts = c.loop-a_left.b_left.now in
    let h = start_top ss c.loop-a_left.invariant.a in
    let g = start_top ts c.loop-a_left.invariant.b in
    raise 0 (max (start_of ss) (start_of ts) + 1) (2 ^ 32) c.loop-a_left.both.items (omega (arith, h, g)) c.loop-a_left.invariant.rises

pub returns-in_default-b_left-clause-rises : goal.returns-in_default-b_left-clause-rises
returns-in_default-b_left-clause-rises c =
    let ss = c.loop-a_left.a_left.now in
    let ts = c.loop-a_left.b_left.now in
    let h = start_top ss c.loop-a_left.invariant.a in
    let g = start_top ts c.loop-a_left.invariant.b in
    raise 0 (max (start_of ss) (start_of ts) + 1) (2 ^ 32) c.loop-a_left.both.items (omega (arith, h, g)) c.loop-a_left.invariant.rises
