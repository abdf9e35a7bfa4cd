use Rattle.std.proofs.Common.{◌∙◌, ◌+◌, ◌<◌, ◌^◌, max, min, not, ◌&&◌, ◌||◌, length, drop, ap, arith}
use Rattle.std.specs.Prelude.{nat_le}
use Rattle.std.proofs.lemmas.List.{take_rest}
use Rattle.gn_mask.specs.Segments.{covers, start_of}
use Rattle.gn_mask.proofs.Segments.{raise, rises_drop}
use Rattle.gn_mask.proofs.Steps.{first, front, start_top, difference_a, difference_b}
use Rattle.gn_mask.proofs.combine.difference.Goals as goal

pub loop-a_left-preserved : goal.loop-a_left-preserved
loop-a_left-preserved c =
    let ss = c.loop-a_left.a_left.now in
    let ts = c.loop-a_left.b_left.now in
    let h : 0 < length ss = omega arith in
    let f = front ss h c.loop-a_left.invariant.a in
    rw (take_rest ss 1)
    (record {
      a = rises_drop 0 (2 ^ 32) 1 ss c.loop-a_left.invariant.a;
      b = c.loop-a_left.invariant.b;
      from = c.loop-a_left.invariant.from;
      rises = raise 0 (max c.max.result c.min.result + 1) (max c.loop-a_left.from (start_of (drop 1 ss)) + 1) c.append.new.segments.items (omega (arith, c.max.ensures, c.min.ensures, f.0, f.1, f.2)) c.in_ok-append.ensures.rises;
      covers = λ n. difference_a ss ts c.loop-a_left.rest.items c.append.new.segments.items c.loop-a_left.from c.max.result c.min.result n h c.loop-a_left.invariant.a c.loop-a_left.invariant.b c.in_ok-append.ensures.elements c.max.ensures (c.min.ensures ∙ ap (λ k. min (first ss).end k) c.start_of.ensures) (λ _. c.if-y-x.false) ∙ c.loop-a_left.invariant.covers n;
    })

pub loop-a_left-preserved-then-y-x : goal.loop-a_left-preserved-then-y-x
loop-a_left-preserved-then-y-x c =
    let ss = c.loop-a_left.a_left.now in
    let ts = c.loop-a_left.b_left.now in
    let h : 0 < length ss = omega arith in
    let g : 0 < length ts = omega arith in
    let f = front ss h c.loop-a_left.invariant.a in
    let k = front ts g c.loop-a_left.invariant.b in
    rw (take_rest ts 1)
    (record {
      a = c.loop-a_left.invariant.a;
      b = rises_drop 0 (2 ^ 32) 1 ts c.loop-a_left.invariant.b;
      from = omega (arith, c.max-from.ensures, c.loop-a_left.invariant.from, k.3);
      rises = raise 0 (max c.max.result c.min.result + 1) (max c.max-from.result (start_of ss) + 1) c.append.new.segments.items (omega (arith, c.max.ensures, c.min.ensures, c.start_of.ensures, c.max-from.ensures, f.0, k.0, k.1)) c.in_ok-append.ensures.rises;
      covers = λ n. ap (λ j. covers c.append.new.segments.items n || ((nat_le j n && covers ss n) && not (covers (drop 1 ts) n))) c.max-from.ensures
          ∙ difference_b ss ts c.loop-a_left.rest.items c.append.new.segments.items c.loop-a_left.from c.max.result c.min.result n h g c.loop-a_left.invariant.a c.loop-a_left.invariant.b c.in_ok-append.ensures.elements c.max.ensures (c.min.ensures ∙ ap (λ k. min (first ss).end k) c.start_of.ensures) c.if-y-x.true
          ∙ c.loop-a_left.invariant.covers n;
    })

pub loop-a_left-preserved-in_default-b_left : goal.loop-a_left-preserved-in_default-b_left
loop-a_left-preserved-in_default-b_left c =
    let ss = c.loop-a_left.a_left.now in
    let ts = c.loop-a_left.b_left.now in
    let h : 0 < length ss = omega arith in
    let f = front ss h c.loop-a_left.invariant.a in
    rw (take_rest ss 1)
    (record {
      a = rises_drop 0 (2 ^ 32) 1 ss c.loop-a_left.invariant.a;
      b = c.loop-a_left.invariant.b;
      from = c.loop-a_left.invariant.from;
      rises = raise 0 (max c.max.result c.min.result + 1) (max c.loop-a_left.from (start_of (drop 1 ss)) + 1) c.append.new.segments.items (omega (arith, c.max.ensures, c.min.ensures, f.0, f.1, f.2)) c.in_ok-append.ensures.rises;
      covers = λ n. difference_a ss ts c.loop-a_left.rest.items c.append.new.segments.items c.loop-a_left.from c.max.result c.min.result n h c.loop-a_left.invariant.a c.loop-a_left.invariant.b c.in_ok-append.ensures.elements c.max.ensures (c.min.ensures ∙ ap (λ k. min (first ss).end k) c.start_of.ensures) (λ l. absurd (omega (arith, l, c.in_default-b_left.len_below))) ∙ c.loop-a_left.invariant.covers n;
    })

pub returns-clause-rises : goal.returns-clause-rises
returns-clause-rises c =
    let ss = c.loop-a_left.a_left.now in
    let g = start_top ss c.loop-a_left.invariant.a in
    raise 0 (max c.loop-a_left.from (start_of ss) + 1) (2 ^ 32) c.loop-a_left.rest.items (omega (arith, g, c.loop-a_left.invariant.from)) c.loop-a_left.invariant.rises
