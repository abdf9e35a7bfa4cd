use Rattle.std.proofs.Common.{◌≡◌, Some, map, take}
use Rattle.gn_node_set.specs.Lists.{all_of}
use Rattle.gn_lower.specs.Carried.{came_in, came_of}
use Rattle.gn_lower.proofs.visit.Visit.all_carried.Given as goal

abbrev pub invariant-loop-read : goal.invariant-loop-read
invariant-loop-read l = all_of (map (came_in l.self) (take l.read-index l.reads)) ≡ Some (map came_of l.all.items)
