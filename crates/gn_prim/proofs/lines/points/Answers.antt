use Rattle.std.proofs.Common.{◌++◌, ◌∷◌, [], map, ap, sym, ◌∙◌, arith}
use Rattle.std.specs.List.{range_with_len}
use Rattle.std.proofs.lemmas.List.FromFn.{map-range_with_len_more}
use Rattle.gn_shapes.specs.Lines.{point_of_line}
use Rattle.gn_prim.proofs.lines.points.Goals as goal

pub loop-number-preserved : goal.loop-number-preserved
loop-number-preserved c =
    let n = c.loop-number.number in
    let f = point_of_line c.args.start c.args.offset in
    record {
      points = c.in_ok-push.ensures.items ∙ (λ i. c.loop-number.invariant.points i ++ c.point.ensures i ∷ []) ∙ sym (map-range_with_len_more f 0 n n (omega arith));
    }

pub returns : goal.returns
returns c =
    let f = point_of_line c.args.start c.args.offset in
    c.loop-number.invariant.points ∙ ap (λ k. map f (range_with_len 0 k)) (omega (arith, c.loop-number-test.false, c.loop-number.auto.number-end))
