use Rattle.std.proofs.Common.{◌≡◌, drop}
use Rattle.gn_uses.specs.Marks.{with_all}
use Rattle.gn_uses.proofs.nodes.want_all.Given as goal

abbrev pub invariant-loop-input : goal.invariant-loop-input
invariant-loop-input l = with_all l.wanted (drop l.input-index l.inputs) ≡ with_all l.fn.wanted l.inputs
