use Rattle.std.proofs.Common.{◌≡◌, map, take}
use Rattle.gn_value.specs.Arithmetic.{mean_of}
use Rattle.gn_interp.specs.declared.gather.Total.{Total}
use Rattle.gn_interp.proofs.gather.means.Given as goal

abbrev pub invariant-loop-total : goal.invariant-loop-total
invariant-loop-total l = l.means.items ≡ map (λ (t : Total). mean_of t.sum t.count) (take l.total-index l.total-items)
