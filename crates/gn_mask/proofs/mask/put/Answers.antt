use Rattle.std.proofs.Common.{◌≡◌, ◌+◌, ◌++◌, ◌∙◌, [], ◌∷◌, sym, ap, arith}
use Rattle.std.proofs.lemmas.List.{append_assoc}
use Rattle.gn_mask.specs.Numbers.{numbers}
use Rattle.gn_mask.proofs.Numbers.{numbers_one, numbers_split}
use Rattle.gn_mask.proofs.mask.put.Goals as goal

pub loop-number-preserved : goal.loop-number-preserved
loop-number-preserved c =
    let n = c.loop-number.number in
    let end = c.args.segment.now.end in
    let before = c.loop-number.list.items in
    let below = c.loop-number-test.true in
    let items : c.push.new.self.items ≡ before ++ n ∷ [] = c.in_ok-push.ensures.items in
    let one : numbers n (n + 1) ≡ n ∷ [] = numbers_one n in
    let all : (n ∷ []) ++ numbers (n + 1) end ≡ numbers n end = ap (λ ns. ns ++ numbers (n + 1) end) (sym one) ∙ numbers_split n (n + 1) end (omega arith) (omega (arith, below)) in
    ap (λ ns. ns ++ numbers (n + 1) end) items ∙ append_assoc before (n ∷ []) (numbers (n + 1) end) ∙ ap (λ ns. before ++ ns) all ∙ c.loop-number.invariant
