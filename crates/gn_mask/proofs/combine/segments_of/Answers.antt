use Rattle.std.proofs.Common.{◌≡◌, ◌∙◌, ◌+◌, ◌^◌, ◌++◌, false, max, length, get_or, sym, ap, arith}
use Rattle.std.specs.List.{filter}
use Rattle.gn_mask.specs.Numbers.{numbers}
use Rattle.gn_mask.specs.Segments.{elements}
use Rattle.gn_mask.proofs.Numbers.{true_more, false_more}
use Rattle.gn_mask.proofs.Segments.{raise}
use Rattle.gn_mask.proofs.combine.segments_of.Goals as goal

pub loop-number-preserved-then-truth : goal.loop-number-preserved-then-truth
loop-number-preserved-then-truth c = record {
  within = omega (arith, c.loop-number.invariant.within);
  rises = c.loop-number.invariant.rises;
  found = true_more c.args.truths.now c.loop-number.number c.loop-number.from (elements c.loop-number.segments.items) c.loop-number.invariant.within c.if-truth.true c.loop-number.invariant.found;
}

pub loop-number-preserved : goal.loop-number-preserved
loop-number-preserved c =
    let k = c.loop-number.number in
    let from = c.loop-number.from in
    record {
      within = omega arith;
      rises = raise 0 (max from k + 1) (k + 1 + 1) c.append.new.segments.items (omega (arith, c.loop-number.invariant.within)) c.in_ok-append.ensures.rises;
      found = false_more c.args.truths.now k (elements c.append.new.segments.items) c.if-truth.false (c.in_ok-append.ensures.elements ∙ c.loop-number.invariant.found);
    }

pub returns-clause-rises : goal.returns-clause-rises
returns-clause-rises c =
    raise 0 (max c.loop-number.from (length c.args.truths.now) + 1) (2 ^ 32) c.append-2.new.segments.items (omega (arith, c.loop-number.invariant.within)) c.in_ok-append-2.ensures.rises

pub returns-clause-elements : goal.returns-clause-elements
returns-clause-elements c =
    let ts = c.args.truths.now in
    let end : length ts ≡ c.loop-number.number = omega arith in
    c.in_ok-append-2.ensures.elements ∙ ap (λ n. elements c.loop-number.segments.items ++ numbers c.loop-number.from n) end ∙ c.loop-number.invariant.found
    ∙ ap (λ n. filter (λ n. get_or ts n false) (numbers 0 n)) (sym end)
