use Rattle.std.proofs.Common.{◌≡◌, ℕ, map, take}
use Rattle.gn_readers.specs.Readers.{AreReaders}
use Rattle.gn_delivery.specs.Plans.{AllPlain, IsPlanFor}
use Rattle.gn_delivery.proofs.plan.plan_of.Given as goal

abbrev pub invariant-loop-reader : goal.invariant-loop-reader
invariant-loop-reader g l = record {
  same : map g.N.NodeSet.content l.outputs.items ≡ map g.N.NodeSet.content l.fn.outputs.items;
  plain : AllPlain l.graph l.plan.itself.items;
  planned : (n : ℕ) → AreReaders l.graph n l.readers → IsPlanFor g.N.NodeSet.meanings g.N.NodeSet.kind_of l.graph (map g.N.NodeSet.content l.fn.outputs.items) n g.N.NodeSet.content (take l.reader-index l.readers) l.plan;
  runs : l.meter.runs ≡ l.fn.meter.runs;
}
