use Rattle.std.proofs.Common.{◌≡◌, drop}
use Rattle.gn_uses.specs.Marks.{with_results_of}
use Rattle.gn_uses.proofs.nodes.want_asked.Given as goal

abbrev pub invariant-loop-output : goal.invariant-loop-output
invariant-loop-output l = record {
  items : with_results_of l.zone l.output (drop l.output l.results) l.wanted.items ≡ with_results_of l.zone 0 l.results l.fn.wanted.items;
  sizes : l.wanted.sizes ≡ l.fn.wanted.sizes;
  total : l.wanted.total ≡ l.fn.wanted.total;
}
