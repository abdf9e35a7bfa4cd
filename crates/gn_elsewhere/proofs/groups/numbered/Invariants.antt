use Rattle.gn_elsewhere.proofs.Numbering.{AreSeen}
use Rattle.gn_elsewhere.proofs.groups.numbered.Given as goal

-- the groups so far
abbrev pub invariant-loop-group : goal.invariant-loop-group
invariant-loop-group l = AreSeen l.groups l.seen.keys l.of.items l.group-index
