use Rattle.std.proofs.Common.{◌≡◌, take}
use Rattle.gn_delivery.specs.Marks.{Fills}
use Rattle.gn_delivery.proofs.marks.fill_all.Given as goal

abbrev pub invariant-loop-reader : goal.invariant-loop-reader
invariant-loop-reader l = record {
  nodes : Fills l.fn.uses.nodes (take l.reader-index l.readers) l.uses.nodes;
  taken : l.uses.taken ≡ l.fn.uses.taken;
}
