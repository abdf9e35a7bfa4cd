-- Graphs whose nodes can be put in order.
use Rattle.std.specs.Prelude.{◌<◌, ℕ, length}
use Rattle.gn_cycle.specs.Graph.{Graph, targets, Leads}
use Rattle.gn_node_set.specs.Meanings.{Has}

-- no node leads back to itself, and each edge leads to a node
pub record IsAcyclic (graph : Graph) : Type 0 where
  pub no_cycle : (node : ℕ) → ¬ Leads graph node node
  pub there : (node target : ℕ) → Has (targets graph node) target → target < length graph
