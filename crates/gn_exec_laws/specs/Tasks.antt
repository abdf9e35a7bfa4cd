-- A graph with the values that it is given, and what a zone opens, as the machine has them. Nodes of a graph have their kinds as handles.
use Rattle.std.specs.Prelude.{ℕ, suc, ◌-◌, List, map, Option, Some, None, nat_lt, if◌then◌else◌, slice_get, slice_index_or}
use Rattle.gn_lazy.specs.Graphs.{Nodes}
use Rattle.gn_lazy.specs.declared.graph.Origin.{Origin}
use Rattle.gn_lazy.specs.declared.graph.Origin.TheVariants.{Input, Constant, Out}
use Rattle.gn_lazy.specs.declared.graph.Link.{Link as GraphLink}
use Rattle.gn_lazy.specs.declared.graph.GraphNode.{GraphNode}
use Rattle.gn_node_set.specs.Meanings.{Source, a_value, an_item, an_output, Link, Node, Opened}
use Rattle.gn_exec_laws.specs.Graphs.{Task}

module _ {G K V : Type 0} (kind_of : G → K) (nothing : V) where
  abbrev pub output_of : Option (GraphNode G) → ℕ → Source V
  output_of None socket = a_value nothing
  output_of (Some node) socket = an_output node.path.steps.items socket

  -- what an origin is, among these nodes and given values: the input, then the constants
  abbrev pub source_of : List (GraphNode G) → List V → Origin → Source V
  source_of nodes given Input = a_value (slice_index_or given 0 nothing)
  source_of nodes given (Constant slot) = a_value (slice_index_or given (suc slot) nothing)
  source_of nodes given (Out node socket) = output_of (slice_get nodes node) socket

  abbrev pub link_of : List (GraphNode G) → List V → GraphLink → Link V
  link_of nodes given link = record { from = source_of nodes given link.origin; through = link.through.items }

  abbrev pub node_of : List (GraphNode G) → List V → GraphNode G → Node K V
  node_of nodes given node = record { path = node.path.steps.items; kind = kind_of node.kind; links = map (link_of nodes given) node.inputs.items }

  abbrev pub task_of : Nodes G → List V → Task K V
  task_of graph given = record { nodes = map (node_of graph.nodes given) graph.nodes; roots = map (link_of graph.nodes given) graph.roots }

  -- what an origin is inside what a zone opened: an item of the zone, a constant behind the items, or an output of one of these nodes, which are numbered from a base
  abbrev pub inner_source : ℕ → ℕ → List (GraphNode G) → List V → Origin → Source V
  inner_source items base nodes constants Input = a_value nothing
  inner_source items base nodes constants (Constant slot) = if nat_lt slot items then an_item slot else a_value (slice_index_or constants (slot - items) nothing)
  inner_source items base nodes constants (Out node socket) = output_of (slice_get nodes (node - base)) socket

  abbrev pub inner_link : ℕ → ℕ → List (GraphNode G) → List V → GraphLink → Link V
  inner_link items base nodes constants link = record { from = inner_source items base nodes constants link.origin; through = link.through.items }

  abbrev pub inner_node : ℕ → ℕ → List (GraphNode G) → List V → GraphNode G → Node K V
  inner_node items base nodes constants node = record { path = node.path.steps.items; kind = kind_of node.kind; links = map (inner_link items base nodes constants) node.inputs.items }

  -- what a zone with that number of items opened, with its nodes numbered from the base
  abbrev pub opened_of : ℕ → ℕ → List (GraphNode G) → List V → List GraphLink → Opened K V
  opened_of items base nodes constants outputs =
      record { nodes = map (inner_node items base nodes constants) nodes; outputs = map (inner_link items base nodes constants) outputs }
