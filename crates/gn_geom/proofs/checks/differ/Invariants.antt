use Rattle.gn_geom.proofs.Marks.{AreMarked}
use Rattle.gn_geom.proofs.checks.differ.Given as goal

abbrev pub invariant-loop-vertex : goal.invariant-loop-vertex
invariant-loop-vertex l = AreMarked l.vertices l.marks l.number l.vertex-index
