use Rattle.std.proofs.Common.{◌≡◌, ◌+◌, take}
use Rattle.std.specs.Prelude.{slice_index}
use Rattle.std.specs.List.{sum_by}
use Rattle.gn_inst.specs.Realizing.{capped}
use Rattle.gn_inst.proofs.counts.total.Given as goal

abbrev pub invariant-loop-part : goal.invariant-loop-part
invariant-loop-part l = l.total ≡ capped (l.own + sum_by (λ i. slice_index l.counts i.1) (take l.part-index l.items))
