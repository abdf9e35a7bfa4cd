use Rattle.std.proofs.Common.{◌≡◌, map, take}
use Rattle.gn_exec_core.specs.Holds.{input_of, present}
use Rattle.gn_exec_core.specs.Starts.{with_roots}
use Rattle.gn_exec_core.proofs.start.want_all.Given as goal

abbrev pub invariant-loop-root : goal.invariant-loop-root
invariant-loop-root l = record {
  taken : l.uses.taken ≡ l.fn.uses.taken;
  nodes : l.uses.nodes ≡ with_roots l.fn.uses.nodes (present (map input_of (take l.root-index l.roots)));
}
