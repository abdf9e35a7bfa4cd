use Rattle.std.proofs.Common.{rules, ℤ, w64, to_z, of_z, ◌++◌, ◌∷◌, [], map, ap, sym, ◌∙◌, arith}
use Rattle.std.specs.List.{range_with_len}
use Rattle.std.proofs.lemmas.List.FromFn.{map-range_with_len_more}
use Rattle.std.proofs.lemmas.Int.{to_z-of_z}
use Rattle.gn_shapes.specs.Grids.{along_side}
use Rattle.gn_grid.proofs.grids.side.Goals as goal

pub loop-number-preserved : goal.loop-number-preserved
loop-number-preserved c =
    let n = c.loop-number.number in
    let f = along_side (to_z w64 (of_z w64 c.args.size)) c.args.count in
    let pushed = to_z-of_z w64 c.along.result (search rules) ∙ c.along.ensures in
    record {
      places = c.in_ok-push.ensures.items ∙ (λ i. c.loop-number.invariant.places i ++ pushed i ∷ []) ∙ sym (map-range_with_len_more f 0 n n (omega arith));
    }

pub returns : goal.returns
returns c =
    let size = to_z w64 (of_z w64 c.args.size) in
    c.loop-number.invariant.places
    ∙ ap (λ k. map (along_side size c.args.count) (range_with_len 0 k)) (omega (arith, c.loop-number-test.false, c.loop-number.auto.number-end))
    ∙ ap (λ (z : ℤ). map (along_side z c.args.count) (range_with_len 0 c.args.count)) (to_z-of_z w64 c.args.size c.ranges.size)
