use Rattle.std.proofs.Common.{take}
use Rattle.gn_delivery.specs.Plans.{AllPlain, AreOf}
use Rattle.gn_delivery.proofs.plan.last_plain.Given as goal

abbrev pub invariant-loop-reader : goal.invariant-loop-reader
invariant-loop-reader g l = record {
  plain : AllPlain l.graph l.itself.items;
  of : AreOf l.graph (take l.reader-index l.readers) l.itself.items;
}
