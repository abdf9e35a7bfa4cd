use Rattle.std.proofs.Common.{◌≡◌, ◌<◌, ℕ, [], map, length, Some, None}
use Rattle.std.specs.Prelude.{option_map, slice_get, slice_index_or}
use Rattle.gn_lazy.specs.declared.graph.GraphNode.{GraphNode}
use Rattle.gn_exec_core.specs.Jobs.{lists_of}
use Rattle.gn_exec_core.specs.Starts.{IsChosenBy}
use Rattle.gn_exec_core.proofs.start.choices_of.Given as goal

abbrev pub invariant-loop-number : goal.invariant-loop-number
invariant-loop-number g l = record {
  len : length l.choices.items ≡ l.number;
  chosen : (n : ℕ) (at : GraphNode g.row.N-Kind.Denot) → n < l.number → slice_get l.graph.nodes n ≡ Some at → IsChosenBy g.N.NodeSet.meanings (g.N.NodeSet.kind_of at.kind) (map (option_map g.N.NodeSet.content) (slice_index_or (lists_of l.rows.items) n [])) (slice_index_or l.choices.items n None);
}
