use Rattle.std.proofs.Common.{◌≡◌, ℕ, ◌+◌, ◌<◌, ◌≤◌, ◌++◌, ◌∷◌, [], Bool, Option, Some, List, length, set, take, get_or, ap, sym, subst, ◌∙◌, arith}
use Rattle.std.proofs.lemmas.List.{take_more}
use Rattle.gn_plain.specs.Interpolation.{Taking}
use Rattle.gn_interp.specs.Gathered.{AreGathered, joined_truth, some_truth_over, truth_at}
use Rattle.gn_interp.proofs.Gathering.{gathered_more, gathered_same, length_set, truth_taken}
use Rattle.gn_interp.proofs.gather.taken_truths.Goals as goal
use Rattle.gn_interp.proofs.gather.taken_truths.Goals.{then-taker-len, else-taker-len}

pub loop-taker-preserved : goal.loop-taker-preserved
loop-taker-preserved c =
    let one = c.args.one_suffices in
    let values = c.args.values.now in
    let give = some_truth_over one values in
    let k = c.loop-taker.taker-index in
    let before = take k c.args.takings.now in
    let t : Taking = get_or c.args.takings.now k (0, 0) in
    let xs = c.loop-taker.taken.items in
    let more : take (k + 1) c.args.takings.now ≡ before ++ t ∷ [] = take_more c.args.takings.now k (0, 0) c.loop-taker-test.true in
    elim c.if-taker-len.branch [
      | then-taker-len w ↦
          let within : t.0 < length xs = omega (arith, w.if-taker-len.true, c.len.ensures) in
          let x = w.index.result.now in
          let y : Option Bool = Some w.joined.result in
          let step : (js : List ℕ) → x ≡ give js → y ≡ give (js ++ t.1 ∷ []) =
          λ js is. ap Some (w.joined.ensures ∙ ap (joined_truth one x) w.truth_at-truth.ensures) ∙ truth_taken one values js t.1 x is in
          rw w.taken-is (record {
            long = length_set xs t.0 y ∙ c.loop-taker.invariant.long;
            gathered = subst (λ ts. AreGathered give ts (set xs t.0 y)) (sym more) (gathered_more give before t xs x y within w.index.ensures step c.loop-taker.invariant.gathered);
          })
      | else-taker-len w ↦
          let past : length xs ≤ t.0 = omega (arith, w.if-taker-len.false, c.len.ensures) in
          rw w.taken-is (record {
            long = c.loop-taker.invariant.long;
            gathered = subst (λ ts. AreGathered give ts xs) (sym more) (gathered_same give before t xs past c.loop-taker.invariant.gathered);
          })
    ]
