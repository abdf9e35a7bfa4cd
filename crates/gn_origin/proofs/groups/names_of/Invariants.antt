use Rattle.std.proofs.Common.{◌≡◌, ◌++◌, drop, map}
use Rattle.gn_tree.specs.Seen.{group_of}
use Rattle.gn_rules.specs.Sockets.{group_names}
use Rattle.gn_origin.proofs.groups.names_of.Given as goal

abbrev pub invariant-loop-group : goal.invariant-loop-group
invariant-loop-group l = map (λ text. text.now) l.names.items ++ group_names (map group_of (drop l.group-index l.groups)) ≡ group_names (map group_of l.groups)
