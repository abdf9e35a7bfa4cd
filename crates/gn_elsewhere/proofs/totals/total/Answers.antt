use Rattle.std.proofs.Common.{◌≡◌, ℕ, ◌+◌, ◌<◌, ◌++◌, ◌∷◌, [], List, ℤ, pos, length, get_or, ap, sym, subst, ◌∙◌, SFits, arith, rules}
use Rattle.std.specs.Int.{w128}
use Rattle.std.proofs.lemmas.Int.{to_z-of_z}
use Rattle.std.proofs.lemmas.List.{get_or_read, length_push}
use Rattle.gn_plain.specs.Fields.{total}
use Rattle.gn_interp.specs.Numbers.{number_at}
use Rattle.gn_interp.proofs.Gathering.{AreFirst, pushed_more}
use Rattle.gn_elsewhere.specs.Sums.{sum_of_group, total_at}
use Rattle.gn_elsewhere.proofs.Adding.{total_is}
use Rattle.gn_elsewhere.proofs.totals.total.Goals as goal

pub loop-group-preserved : goal.loop-group-preserved
loop-group-preserved c =
    let numbers = c.args.numbers.now in
    let of = c.args.groups.now.of.items in
    let k = c.loop-group.group-index in
    let group = get_or of k 0 in
    let sums = c.in_ok-sums.sums.items in
    let totals = c.loop-group.totals.items in
    let same = c.deref-group-items.ensures.value in
    let within : k < length of = subst (λ (ks : List ℕ). k < length ks) same c.loop-group-test.true in
    let below = c.requires.group k within in
    let known : group < length sums = omega (arith, below, c.in_ok-sums.ensures.len) in
    let x = c.index.result.now in
    let read : x ≡ number_at sums group =
    get_or_read sums _ _ (subst (λ (ks : List ℕ). get_or ks k 0 < length sums) (sym same) known) c.index.ensures (pos 0) ∙ ap (λ (ks : List ℕ). number_at sums (get_or ks k 0)) same in
    let is : x ≡ total_at total numbers of k =
    read ∙ (c.in_ok-sums.ensures.sums.each group known ∙ (ap (λ n. sum_of_group numbers of n group) c.requires.long ∙ total_is numbers of k)) in
    let fits : SFits w128 x = search rules in
    let items : c.push.new.self.items ≡ totals ++ x ∷ [] = c.in_ok-push.ensures.items ∙ ap (λ y. totals ++ y ∷ []) (to_z-of_z w128 x fits) in
    let longer = length_push totals x in
    let counts = ap length items in
    record {
      long = omega (arith, longer, counts, c.loop-group.invariant.long);
      totals = subst (λ (xs : List ℤ). AreFirst (total_at total numbers of) (k + 1) xs) (sym items) (pushed_more (total_at total numbers of) totals k x c.loop-group.invariant.long c.loop-group.invariant.totals is);
    }
