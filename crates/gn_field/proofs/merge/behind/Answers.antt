use Rattle.std.proofs.Common.{◌≡◌, ◌+◌, ◌++◌, ◌∷◌, [], sym, subst, take, get_or}
use Rattle.std.proofs.lemmas.List.{take_more}
use Rattle.gn_field.specs.Merged.{IsBehind}
use Rattle.gn_field.proofs.Merging.{behind_step}
use Rattle.gn_field.proofs.merge.behind.Goals as goal

pub loop-place-preserved : goal.loop-place-preserved
loop-place-preserved c =
    let l = c.loop-place in
    let places = c.args.places.now in
    let x = get_or places l.place-index 0 in
    let more : take (l.place-index + 1) places ≡ take l.place-index places ++ x ∷ [] = take_more places l.place-index 0 c.loop-place-test.true in
    subst (IsBehind c.further-behind.result) (sym more) (behind_step l.behind (take l.place-index places) x c.further-behind.result l.invariant c.further-behind.ensures)
