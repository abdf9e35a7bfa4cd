use Rattle.std.proofs.Common.{◌≡◌, suc, ◌*◌, ◌++◌, ◌∷◌, [], map, ap, sym, ◌∙◌, arith}
use Rattle.std.specs.List.{range_with_len}
use Rattle.std.proofs.lemmas.List.FromFn.{map-range_with_len_more}
use Rattle.gn_grid.proofs.grids.offsets.Goals as goal

pub loop-face-preserved : goal.loop-face-preserved
loop-face-preserved c =
    let n = c.loop-face.face in
    record { end = c.loop-face.invariant.end; offsets = c.in_ok-push.ensures.items ∙ ap (λ l. l ++ 4 * n ∷ []) c.loop-face.invariant.offsets ∙ sym (map-range_with_len_more (λ k. 4 * k) 0 n n (omega arith)) }

pub returns : goal.returns
returns c =
    let last : c.loop-face.face ≡ suc c.args.faces = omega (arith, c.loop-face-test.false, c.loop-face.auto.face-end, c.loop-face.invariant.end) in
    c.loop-face.invariant.offsets ∙ ap (λ n. map (λ k. 4 * k) (range_with_len 0 n)) last
