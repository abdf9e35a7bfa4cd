use Rattle.std.proofs.Common.{◌≡◌, ◌++◌, ◌∷◌, [], length, subst, arith}
use Rattle.gn_schedule.specs.Plans.{IsFree}
use Rattle.gn_schedule.proofs.Planning.{takes_free, takes_new}
use Rattle.gn_schedule.proofs.plan.take_slot.Goals as goal

pub returns-in-Some : goal.returns-in-Some
returns-in-Some c =
    let kinds = c.args.kinds.now.items in
    let holds = c.args.holds.now.items in
    let readers = c.args.readers.now in
    let free : IsFree kinds holds readers c.args.kind c.args.step c.in-Some.slot =
    subst (λ ks. IsFree ks holds readers c.args.kind c.args.step c.in-Some.slot) c.deref.ensures.value
    (subst (λ hs. IsFree c.deref.result.now hs readers c.args.kind c.args.step c.in-Some.slot) c.deref-2.ensures.value c.in-Some.ensures) in
    takes_free readers c.args.kind c.args.step c.in-Some.slot kinds holds c.requires.long free

pub returns : goal.returns
returns c =
    let kinds = c.args.kinds.now.items in
    let holds = c.args.holds.now.items in
    let p : c.push.new.self.items ≡ kinds ++ c.args.kind ∷ [] = c.in_ok-push.ensures.items in
    let q : c.push-2.new.self.items ≡ holds ++ c.args.step ∷ [] = c.in_ok-push-2.ensures.items in
    let at : c.len-slot.result ≡ length holds = omega (arith, c.len-slot.ensures, c.requires.long) in
    rw (p, q) (takes_new c.args.readers.now c.args.kind c.args.step c.len-slot.result kinds holds c.requires.long at)
