use Rattle.std.proofs.Common.{drop}
use Rattle.std.specs.Prelude.{◌↔◌}
use Rattle.gn_plain.specs.Topology.{AreOffsets, RiseTo}
use Rattle.gn_geom.proofs.checks.are_offsets.Given as goal

abbrev pub invariant-loop-next : goal.invariant-loop-next
invariant-loop-next l = RiseTo l.count l.from (drop l.next-index l.others) ↔ AreOffsets l.count l.offsets
