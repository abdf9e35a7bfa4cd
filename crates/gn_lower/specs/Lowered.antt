-- When a graph of the code, with its constants, is the graph of a tree.
use Rattle.std.specs.Prelude.{◌≡◌, ℕ, List, map, length, Option, Some, None, slice_get, option_map, option_and_then}
use Rattle.gn_lazy.specs.declared.graph.Origin.{Origin}
use Rattle.gn_lazy.specs.declared.graph.Origin.TheVariants.{Input, Constant as Slot, Out}
use Rattle.gn_lazy.specs.declared.graph.Link.{Link as CodeLink}
use Rattle.gn_lazy.specs.declared.graph.GraphNode.{GraphNode}
use Rattle.gn_lazy.specs.Graphs.{Nodes}
use Rattle.gn_tree.specs.NodeKinds as tree
use Rattle.gn_tree.specs.Trees.{Node as TreeNode, Tree}
use Rattle.gn_tree.specs.declared.kind.Kind.{Kind}
use Rattle.gn_node_kind.specs.Seen.{written_as}
use Rattle.gn_rules.specs.Sockets.{node_at, outputs_of}
use Rattle.gn_node_set.specs.Lists.{all_of}
use Rattle.gn_node_set.specs.Meanings.{Has, Source, a_value, an_output, Link, Node}
use Rattle.gn_exec_laws.specs.Graphs.{Task}
use Rattle.gn_meaning.specs.Sites as sites
use Rattle.gn_meaning.specs.Sites.{Way, path_of}
use Rattle.gn_meaning.specs.Bodies.{Body}
use Rattle.gn_meaning.specs.There.{LeadsTo}
use Rattle.gn_stands.specs.Tasks.{task_within}
use Rattle.gn_found.specs.Filled.{by_name}
use Rattle.gn_table.specs.declared.constant.Constant.{Constant}
use Rattle.gn_table.specs.Constants.{name_of}

-- what a graph gives by name: none for its input
abbrev pub Named : Type 0
Named = Option sites.Constant

module _ (nodes : List (GraphNode Kind)) (constants : List Constant) where
  -- a node by its number is one by its path, and a constant by its slot is one by name
  abbrev pub source_of : Origin → Option (Source Named)
  source_of Input = Some (a_value None)
  source_of (Slot slot) = option_map (λ c. a_value (Some (name_of c))) (slice_get constants slot)
  source_of (Out node socket) = option_map (λ n. an_output n.path.steps.items socket) (slice_get nodes node)

  abbrev pub link_of : CodeLink → Option (Link Named)
  link_of link = option_map (λ x. record { from = x; through = link.through.items }) (source_of link.origin)

  abbrev pub node_of : GraphNode Kind → Option (Node tree.Kind Named)
  node_of node = option_map (λ links. record { path = node.path.steps.items; kind = written_as node.kind; links = links }) (all_of (map link_of node.inputs.items))

-- the graph with its constants, where each link leads to something
abbrev pub task_of : Nodes Kind → List Constant → Option (Task tree.Kind Named)
task_of graph constants =
    option_and_then (λ nodes. option_map (λ roots. record { nodes = nodes; roots = roots }) (all_of (map (link_of graph.nodes constants) graph.roots))) (all_of (map (node_of graph.nodes constants) graph.nodes))

-- the graph with its constants is the one that is found for the tree, and each node has as many outputs as its node in the tree
pub record Lowers (t : Tree) (graph : Nodes Kind) (constants : List Constant) : Type 0 where
  pub steps : ℕ
  pub task : Task tree.Kind Named
  pub found : task_within by_name t steps ≡ Some task
  pub is : task_of graph constants ≡ Some task
  pub slots : graph.constants ≡ length constants
  pub outputs : (way : Way) (b : Body) (n : ℕ) (x : TreeNode) (node : GraphNode Kind) → LeadsTo t way b → node_at b.scope.nodes n ≡ Some x → Has graph.nodes node → node.path.steps.items ≡ path_of way n → node.outputs ≡ length (outputs_of b.scope.groups x)
