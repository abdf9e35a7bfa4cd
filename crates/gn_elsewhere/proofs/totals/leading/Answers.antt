use Rattle.std.proofs.Common.{◌≡◌, ℕ, ◌+◌, ◌<◌, ◌++◌, ◌∷◌, [], List, ℤ, pos, length, get_or, ap, sym, subst, ◌∙◌, SFits, arith, rules}
use Rattle.std.specs.Int.{w128}
use Rattle.std.proofs.lemmas.Int.{to_z-of_z}
use Rattle.std.proofs.lemmas.List.{get_or_read, length_push}
use Rattle.gn_plain.specs.Fields.{leading}
use Rattle.gn_interp.specs.Numbers.{number_at}
use Rattle.gn_interp.proofs.Gathering.{AreFirst, pushed_more}
use Rattle.gn_elsewhere.specs.Sums.{AreSums, total_at}
use Rattle.gn_elsewhere.proofs.Adding.{leading_is}
use Rattle.gn_elsewhere.proofs.totals.leading.Goals as goal

pub loop-at-preserved : goal.loop-at-preserved
loop-at-preserved c =
    let numbers = c.args.numbers.now in
    let of = c.args.groups.now.of.items in
    let k = c.loop-at.at in
    let group = get_or of k 0 in
    let sums = c.add.new.sums.items in
    let totals = c.loop-at.totals.items in
    let within : k < length of = omega (arith, c.loop-at-test.true, c.requires.long) in
    let added : AreSums numbers of (k + 1) sums = subst (λ (ks : List ℕ). AreSums numbers ks (k + 1) sums) c.deref.ensures.value c.add.ensures.sums in
    let wide : length sums ≡ c.args.groups.now.count = c.add.ensures.len ∙ c.loop-at.invariant.wide in
    let number : c.index.result.now ≡ group = get_or_read of _ _ within c.index.ensures 0 in
    let below = c.requires.group k within in
    let known : group < length sums = omega (arith, below, wide, c.loop-at.invariant.wide) in
    let x = c.index-in-loop-at.result.now in
    let read : x ≡ number_at sums group = get_or_read sums _ _ (omega (arith, number, known)) c.index-in-loop-at.ensures (pos 0) ∙ ap (number_at sums) number in
    let is : x ≡ total_at leading numbers of k = read ∙ (added.each group known ∙ leading_is numbers of k within) in
    let fits : SFits w128 x = search rules in
    let items : c.push.new.self.items ≡ totals ++ x ∷ [] = c.in_ok-push.ensures.items ∙ ap (λ y. totals ++ y ∷ []) (to_z-of_z w128 x fits) in
    let longer = length_push totals x in
    let counts = ap length items in
    record {
      wide = wide;
      sums = added;
      long = omega (arith, longer, counts, c.loop-at.invariant.long);
      totals = subst (λ (xs : List ℤ). AreFirst (total_at leading numbers of) (k + 1) xs) (sym items) (pushed_more (total_at leading numbers of) totals k x c.loop-at.invariant.long c.loop-at.invariant.totals is);
    }
