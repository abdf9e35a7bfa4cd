use Rattle.std.proofs.Common.{◌≡◌, map, take, false, unwrap_or}
use Rattle.gn_interp.proofs.gather.truths.Given as goal

abbrev pub invariant-loop-truth : goal.invariant-loop-truth
invariant-loop-truth l = l.truths.items ≡ map (λ o. unwrap_or o false) (take l.truth-index l.truth-items)
