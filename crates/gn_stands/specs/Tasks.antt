-- The graph of a tree: the nodes of each list by rank, with those of a group in the place of its node.
use Rattle.std.specs.Prelude.{ℕ, zero, suc, List, [], ◌∷◌, map, Option, Some, None, option_map, option_and_then}
use Rattle.std.specs.Option.{option_map_or}
use Rattle.std.specs.List.{flat_map}
use Rattle.gn_tree.specs.NodeKinds.{Kind}
use Rattle.gn_tree.specs.Trees.{Tree}
use Rattle.gn_rules.specs.Rules.{graph_of}
use Rattle.gn_node_set.specs.Lists.{all_of}
use Rattle.gn_node_set.specs.Meanings.{Link, Node}
use Rattle.gn_exec_laws.specs.Graphs.{Task}
use Rattle.gn_meaning.specs.Sites.{Way, the_tree, into, plain_step, Read}
use Rattle.gn_rules.specs.Sockets.{node_at}
use Rattle.gn_meaning.specs.Bodies.{Body, body_at}
use Rattle.gn_meaning.specs.Reads.{Run, Part, a_node, a_group, a_repeat, part_in}
use Rattle.gn_meaning.specs.Denotation.{Given}
use Rattle.gn_meaning.specs.Demand.{output_read}
use Rattle.gn_stands.specs.Sources.{read_within}
use Rattle.gn_stands.specs.Order.{by_rank}

-- over some lists of nodes, by the ways to them
module _ (list_at : Way → Option Body) where
  abbrev pub part_by : Way → ℕ → Option Part
  part_by way n = option_and_then (λ b. option_map (part_in b.scope way n) (node_at b.scope.nodes n)) (list_at way)

  -- the numbers of the nodes of a list by rank, where an edge leads to each node that is linked to
  abbrev pub order_at : Way → List ℕ
  order_at way = option_map_or (λ b. by_rank (graph_of b.scope.nodes)) (list_at way) []

  -- the runs of a node, where those of some lists are known
  abbrev pub part_runs : (Way → Option (List Run)) → Way → ℕ → Option Part → Option (List Run)
  part_runs known way n None = Some []
  part_runs known way n (Some (a_node run)) = Some (run ∷ [])
  part_runs known way n (Some (a_group b reads)) = known (into way (plain_step n))
  part_runs known way n (Some (a_repeat run b)) = Some (run ∷ [])

  -- the runs of a list, where groups are less deep than k
  abbrev pub runs_within : ℕ → Way → Option (List Run)
  runs_within zero way = None
  runs_within (suc k) way = option_map (flat_map (λ runs. runs)) (all_of (map (λ n. part_runs (runs_within k) way n (part_by way n)) (order_at way)))

module _ {V : Type 0} (given : Given V) (t : Tree) where
  abbrev pub links_within : ℕ → List Read → Option (List (Link V))
  links_within k reads = all_of (map (read_within given t k) reads)

  -- the node of a run
  abbrev pub node_within : ℕ → Run → Option (Node Kind V)
  node_within k run = option_map (λ links. record { path = run.path; kind = run.kind; links = links }) (links_within k run.reads)

  -- the nodes of a list
  abbrev pub nodes_within : ℕ → Way → Option (List (Node Kind V))
  nodes_within k way = option_and_then (λ runs. all_of (map (node_within k) runs)) (runs_within (body_at t) k way)

  -- the graph of the tree, where each of its sources is found in at most k steps
  abbrev pub task_within : ℕ → Option (Task Kind V)
  task_within k =
      option_and_then (λ nodes. option_map (λ roots. record { nodes = nodes; roots = roots }) (links_within k (output_read t ∷ []))) (nodes_within k the_tree)
