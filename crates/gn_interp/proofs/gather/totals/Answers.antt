use Rattle.std.proofs.Common.{◌≡◌, ℕ, ◌+◌, ◌<◌, ◌≤◌, ◌++◌, ◌∷◌, [], ℤ, ◌+ℤ◌, List, length, set, take, get_or, ap, sym, subst, ◌∙◌, SFits, w64, arith, rules}
use Rattle.std.proofs.lemmas.Int.{to_z-of_z}
use Rattle.std.proofs.lemmas.List.{take_more}
use Rattle.gn_plain.specs.Interpolation.{Taking}
use Rattle.gn_interp.specs.Gathered.{AreGathered, total_of}
use Rattle.gn_interp.specs.declared.gather.Total.{Total}
use Rattle.gn_interp.proofs.Gathering.{gathered_more, gathered_same, length_set, total_more, bounded_more, bounded_same}
use Rattle.gn_interp.proofs.gather.totals.Goals as goal
use Rattle.gn_interp.proofs.gather.totals.Goals.{then-taker-len, else-taker-len}

pub loop-taker-preserved : goal.loop-taker-preserved
loop-taker-preserved c =
    let values = c.args.values.now in
    let give = total_of values in
    let k = c.loop-taker.taker-index in
    let before = take k c.args.takings.now in
    let t : Taking = get_or c.args.takings.now k (0, 0) in
    let xs = c.loop-taker.totals.items in
    let more : take (k + 1) c.args.takings.now ≡ before ++ t ∷ [] = take_more c.args.takings.now k (0, 0) c.loop-taker-test.true in
    elim c.if-taker-len.branch [
      | then-taker-len w ↦
          let within : t.0 < length xs = omega (arith, w.if-taker-len.true, c.len.ensures) in
          let x : Total = w.index.result.now in
          let y : Total = w.with.result in
          let fits : SFits w64 w.number_at.result = search rules in
          let step : (js : List ℕ) → x ≡ give js → y ≡ give (js ++ t.1 ∷ []) =
          λ js is. w.with.ensures.total
          ∙ (ap (λ n. let r : Total = record { sum = x.sum +ℤ n; count = x.count + 1 } in r) (to_z-of_z w64 w.number_at.result fits ∙ w.number_at.ensures)
          ∙ total_more values js t.1 x is) in
          let old = c.loop-taker.invariant.bounded t.0 x within in
          let many : x.count ≡ (get_or xs t.0 x).count = ap (λ (r : Total). r.count) w.index.ensures in
          let one_more : y.count ≡ x.count + 1 = ap (λ (r : Total). r.count) w.with.ensures.total in
          let few : y.count ≤ k + 1 = omega (arith, old.1, many, one_more) in
          rw w.totals-is (record {
            long = length_set xs t.0 y ∙ c.loop-taker.invariant.long;
            gathered = subst (λ ts. AreGathered give ts (set xs t.0 y)) (sym more) (gathered_more give before t xs x y within w.index.ensures step c.loop-taker.invariant.gathered);
            bounded = bounded_more xs t.0 k y within w.with.ensures.bounded few c.loop-taker.invariant.bounded;
          })
      | else-taker-len w ↦
          let past : length xs ≤ t.0 = omega (arith, w.if-taker-len.false, c.len.ensures) in
          rw w.totals-is (record {
            long = c.loop-taker.invariant.long;
            gathered = subst (λ ts. AreGathered give ts xs) (sym more) (gathered_same give before t xs past c.loop-taker.invariant.gathered);
            bounded = bounded_same xs k c.loop-taker.invariant.bounded;
          })
    ]
