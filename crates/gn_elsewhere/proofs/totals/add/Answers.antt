use Rattle.std.proofs.Common.{◌≡◌, ◌+ℤ◌, ◌<◌, ◌≤◌, ◌+◌, ◌^◌, unsigned_abs, ℤ, pos, length, set, get_or, sym, subst, ◌∙◌, ap₂, SFits, w64, rules}
use Rattle.std.specs.Int.{w128}
use Rattle.std.proofs.lemmas.Int.{to_z-of_z}
use Rattle.std.proofs.lemmas.List.{get_or_read}
use Rattle.gn_interp.specs.Numbers.{number_at}
use Rattle.gn_elsewhere.specs.Sums.{AreSums}
use Rattle.gn_elsewhere.proofs.Adding.{sums_more}
use Rattle.gn_elsewhere.proofs.totals.add.Goals as goal

pub returns-clause-sums : goal.returns-clause-sums
returns-clause-sums c =
    let numbers = c.args.numbers.now in
    let of = c.args.of.now in
    let sums = c.args.sums.now.items in
    let k = c.args.at in
    let group = get_or of k 0 in
    let x = c.with-sum.result in
    let within : group < length sums = c.requires.group k c.requires.within in
    let read : c.index.result.now ≡ number_at sums group = get_or_read sums _ _ within c.index.ensures (pos 0) in
    let old = c.index.result.now in
    let fits_old : SFits w128 old = search rules in
    let fits_number : SFits w64 (number_at numbers k) = search rules in
    let known = to_z-of_z w128 old fits_old ∙ read in
    let is : x ≡ number_at sums group +ℤ number_at numbers k = c.with-sum.ensures.sum ∙ ap₂ (λ s n. s +ℤ n) known (to_z-of_z w64 (number_at numbers k) fits_number) in
    let fits : SFits w128 x = search rules in
    subst (λ y. AreSums numbers of (k + 1) (set sums group y)) (sym (to_z-of_z w128 x fits))
    (sums_more numbers of k sums x c.requires.sums within is (subst (λ y. unsigned_abs x ≤ unsigned_abs y + 2 ^ 63) known c.with-sum.ensures.bounded))
