use Rattle.std.proofs.Common.{◌≡◌, length}
use Rattle.gn_elements.specs.Read.{all_differ}
use Rattle.gn_elements.proofs.different.few_differ.Given as goal

abbrev pub invariant-loop-rest : goal.invariant-loop-rest
invariant-loop-rest l = all_differ l.rest ≡ all_differ l.vertices

abbrev pub decreases-loop-rest : goal.decreases-loop-rest
decreases-loop-rest l = length l.rest
