use Rattle.std.proofs.Common.{◌*◌}
use Rattle.gn_wholes.specs.Covers.{AreSoFar, AreInOrder}
use Rattle.gn_wholes.proofs.collect.wholes_on.Given as goal

abbrev pub invariant-loop-at : goal.invariant-loop-at
invariant-loop-at g l = record {
  so_far : AreSoFar g.S.Source.sources (g.C.Context.meaning l.context) l.table.items l.steps l.at l.wholes.items;
  order : AreInOrder (6 * l.at) l.wholes.items;
}
