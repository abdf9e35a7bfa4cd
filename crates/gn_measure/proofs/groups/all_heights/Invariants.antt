use Rattle.std.proofs.Common.{◌≡◌, [], drop, map}
use Rattle.gn_tree.specs.Seen.{group_of}
use Rattle.gn_rules.specs.Measures.{group_by_group}
use Rattle.gn_measure.specs.Capped.{capped_heights}
use Rattle.gn_measure.proofs.groups.all_heights.Given as goal

abbrev pub invariant-loop-group : goal.invariant-loop-group
invariant-loop-group l = group_by_group capped_heights l.names l.numbers.items (map group_of (drop l.group-index l.list)) ≡ group_by_group capped_heights l.names [] (map group_of l.list)
