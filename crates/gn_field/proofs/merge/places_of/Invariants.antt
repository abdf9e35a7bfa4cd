use Rattle.std.proofs.Common.{◌≡◌, map, take, get_or}
use Rattle.gn_field.proofs.merge.places_of.Given as goal

abbrev pub invariant-loop-arg : goal.invariant-loop-arg
invariant-loop-arg l = l.moved.items ≡ map (λ k. get_or l.places k 0) (take l.arg-index l.args)
