use Rattle.std.proofs.Common.{◌≡◌, ◌<◌, ◌+◌, ◌++◌, ◌∷◌, [], sym, subst, take, get_or, length, set, arith, true}
use Rattle.std.proofs.lemmas.List.{take_more, get_or_read}
use Rattle.std.proofs.lemmas.List.Elements.{All-get_or}
use Rattle.gn_value.specs.declared.value.Place.{Place}
use Rattle.gn_schedule.specs.Asked.{AsksFor, has_place, no_places}
use Rattle.gn_schedule.proofs.Asking.{asks_none, ask_one}
use Rattle.gn_schedule.proofs.asked.ask.Goals as goal

pub loop-arg-init : goal.loop-arg-init
loop-arg-init c = asks_none c.args.places c.args.table.now.items

pub loop-arg-preserved : goal.loop-arg-preserved
loop-arg-preserved c =
    let l = c.loop-arg in
    let args = c.args.args.now in
    let before = c.args.table.now.items in
    let mid = l.table.items in
    let a = get_or args l.arg-index 0 in
    let v = c.with-more.result in
    let below : a < length before = All-get_or (λ j. j < length before) args l.arg-index 0 c.loop-arg-test.true c.requires in
    let within : a < length mid = omega (arith, below, l.invariant.long) in
    let more : take (l.arg-index + 1) args ≡ take l.arg-index args ++ a ∷ [] = take_more args l.arg-index 0 c.loop-arg-test.true in
    let old : (p : Place) → has_place (get_or mid a no_places) p ≡ true → has_place v p ≡ true = λ p h. c.with-more.ensures.these p (subst (λ s. has_place s p ≡ true) (sym (get_or_read mid a _ within c.index.ensures no_places)) h) in
    subst (λ ys. AsksFor c.args.places ys before (set mid a v)) (sym more)
    (ask_one c.args.places (take l.arg-index args) before mid a v l.invariant within old c.with-more.ensures.others)
