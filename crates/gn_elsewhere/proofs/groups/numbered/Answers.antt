use Rattle.std.proofs.Common.{◌≡◌, ◌+◌, ◌++◌, ◌∷◌, [], List, ℕ, ℤ, length, sym, subst, SFits, w32, to_z, of_z, rules, arith}
use Rattle.std.proofs.lemmas.Int.{to_z-of_z}
use Rattle.gn_interp.specs.Numbers.{number_at}
use Rattle.gn_elsewhere.specs.Sums.{AreNumbered}
use Rattle.gn_elsewhere.proofs.Numbering.{AreSeen, seen_more, are_numbered}
use Rattle.gn_elsewhere.proofs.groups.numbered.Goals as goal

pub loop-group-preserved : goal.loop-group-preserved
loop-group-preserved c =
    let groups = c.args.groups.now in
    let seen = c.loop-group.seen.keys in
    let more = c.insert_full.new.self.keys in
    let of = c.loop-group.of.items in
    let n = c.loop-group.group-index in
    let number = c.in_ok-number.number in
    let fits : SFits w32 (number_at groups n) = search rules in
    let group : ℤ = to_z w32 (of_z w32 (number_at groups n)) in
    let items : c.push.new.self.items ≡ of ++ number ∷ [] = c.in_ok-push.ensures.items in
    subst (λ (xs : List ℕ). AreSeen groups more xs (n + 1)) (sym items)
    (seen_more groups seen more of n number group c.loop-group.invariant (to_z-of_z w32 (number_at groups n) fits) c.in_ok-number.ensures.keys c.in_ok-number.ensures.index c.in_ok-number.ensures.stored)

pub returns : goal.returns
returns c =
    let groups = c.args.groups.now in
    let seen = c.loop-group.seen.keys in
    let of = c.loop-group.of.items in
    let all : c.loop-group.group-index ≡ length groups = omega (arith, c.loop-group-test.false, c.loop-group.auto.group-index-end) in
    let count : c.len-count.result ≡ length seen = c.len-count.ensures.len in
    subst (λ m. AreNumbered groups m of) (sym count) (are_numbered groups seen of c.loop-group.group-index all c.loop-group.invariant)
