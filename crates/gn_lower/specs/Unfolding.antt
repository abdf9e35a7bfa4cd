-- A tree that is unfolded, node by node: what is done, and what is left.
use Rattle.std.specs.Prelude.{◌≡◌, ◌<◌, ◌≤◌, ◌+◌, ℕ, zero, suc, List, [], ◌∷◌, ◌++◌, map, sum_by, length, drop, take, reverse, Option, Some, Bool, true, false, slice_get, option_map}
use Rattle.std.specs.Arc.{arc_value}
use Rattle.gn_lazy.specs.declared.path.PathStep.{PathStep}
use Rattle.gn_lazy.specs.declared.graph.Link.{Link as CodeLink}
use Rattle.gn_lazy.specs.declared.graph.GraphNode.{GraphNode}
use Rattle.gn_lazy.specs.Graphs.{AreThere, LinksLeadBack}
use Rattle.gn_tree.specs.NodeKinds as tree
use Rattle.gn_tree.specs.Trees.{Node as TreeNode, Tree}
use Rattle.gn_tree.specs.Form.{IsOfForm}
use Rattle.gn_tree.specs.Seen.{group_of, tree_of}
use Rattle.gn_tree.specs.declared.kind.Kind.{Kind}
use Rattle.gn_node_kind.specs.Seen.{written_as}
use Rattle.gn_rules.specs.Rules.{KeepsRules, graph_of}
use Rattle.gn_rules.specs.Sockets.{node_at, outputs_of}
use Rattle.gn_node_set.specs.Lists.{all_of}
use Rattle.gn_node_set.specs.Meanings.{Has, Link}
use Rattle.gn_exec_laws.specs.Graphs.{Task}
use Rattle.gn_meaning.specs.Sites.{Way, the_tree, into, plain_step, path_of, at_output, at_input, Read}
use Rattle.gn_meaning.specs.Bodies.{Body, body_at}
use Rattle.gn_meaning.specs.Demand.{output_read}
use Rattle.gn_meaning.specs.There.{LeadsTo}
use Rattle.gn_meaning.specs.Reads.{Run, Part, a_group, part_at, run_of}
use Rattle.gn_stands.specs.Order.{by_rank}
use Rattle.gn_stands.specs.Tasks.{order_at, runs_within, task_within}
use Rattle.gn_stands.specs.Sources.{CarryAll}
use Rattle.gn_found.specs.Filled.{by_name}
use Rattle.gn_table.specs.declared.constant.Constant.{Constant}
use Rattle.gn_table.specs.declared.table.Row.{Row}
use Rattle.gn_table.specs.Tables.{IsTable, AreTables}
use Rattle.gn_lower.specs.declared.visit.Visit.{Visit}
use Rattle.gn_lower.specs.declared.unfold.Unfolding.{Unfolding}
use Rattle.gn_lower.specs.Lowered.{Named, link_of}
use Rattle.gn_lower.specs.Carried.{Came, came_of, output_in, Carries}

-- the node with that number comes next, and has that row
abbrev pub ComesNext : Unfolding → ℕ → Row → Type 0
ComesNext u number row = (slice_get u.visit.table.now.order.items u.visit.next ≡ Some number) × (slice_get u.visit.table.now.rows.items number ≡ Some row)

-- the way of these steps, the innermost first
abbrev pub way_by : List PathStep → Way
way_by [] = the_tree
way_by (step ∷ steps) = into (way_by steps) step

-- an unfolding as lists; of the lists around and of the way the innermost stands first
pub record State : Type 0 where
  pub visit : Visit
  pub outer : List Visit
  pub way : List PathStep
  pub nodes : List (GraphNode Kind)
  pub constants : List Constant

abbrev pub state_of : Unfolding → State
state_of u = record { visit = u.visit; outer = reverse u.outer.items; way = reverse u.way.items; nodes = u.nodes.items; constants = u.constants.items }

module _ (t : Tree) where
  -- these nodes of a list unfold to these runs
  pub data Unfold : Way → List ℕ → List Run → Type 0 where
    nothing : {way : Way} → Unfold way [] []
    by_run : {way : Way} {n : ℕ} {ns : List ℕ} {runs : List Run} (run : Run) → run_of t (at_output way n 0) ≡ Some run → Unfold way ns runs → Unfold way (n ∷ ns) (run ∷ runs)
    by_group : {way : Way} {n : ℕ} {ns : List ℕ} {inner runs : List Run} (b : Body) (reads : List Read) → part_at t way n ≡ Some (a_group b reads)
        → Unfold (into way (plain_step n)) (by_rank (graph_of b.scope.nodes)) inner → Unfold way ns runs → Unfold way (n ∷ ns) (inner ++ runs)

  -- ---- the steps that unfolding takes: one for a node that is run, and two for a group node besides those in its group

  abbrev pub steps_by : (Way → ℕ) → Way → ℕ → Option Part → ℕ
  steps_by known way n (Some (a_group b reads)) = suc (suc (known (into way (plain_step n))))
  steps_by known way n _ = 1

  abbrev pub steps_within : ℕ → Way → ℕ
  steps_within zero way = 0
  steps_within (suc k) way = sum_by (λ n. steps_by (steps_within k) way n (part_at t way n)) (order_at (body_at t) way)

  -- groups are no deeper than there are groups
  abbrev pub steps_at : Way → ℕ
  steps_at way = steps_within (suc (length t.groups)) way

  -- from a position in the order of a list on
  abbrev pub steps_from : Way → ℕ → Visit → ℕ
  steps_from way position visit = sum_by (λ n. steps_by steps_at way n (part_at t way n)) (drop position visit.table.now.order.items)

  -- of the lists around, the innermost first, with one step out of each group
  abbrev pub steps_around : List Visit → List PathStep → ℕ
  steps_around (visit ∷ visits) (step ∷ steps) = suc (steps_from (way_by steps) (suc visit.next) visit + steps_around visits steps)
  steps_around _ _ = 0

  abbrev pub steps_left : State → ℕ
  steps_left s = steps_from (way_by s.way) s.visit.next s.visit + steps_around s.outer s.way

  -- ---- one list, where the nodes of the graph so far are these

  module _ (nodes : List (GraphNode Kind)) where
    -- what the list reads from outside, and the outputs of its nodes that are done, carry what stands there
    pub record IsVisit (way : Way) (visit : Visit) : Type 0 where
      pub body : Body
      pub leads : LeadsTo t way body
      pub table : IsTable body visit.table.now
      pub sized : length visit.made.items ≡ length visit.table.now.rows.items
      pub entries : (i : ℕ) → i < length body.scope.entries → (c : Came) × (option_map came_of (slice_get visit.entries.items i) ≡ Some c) × Carries nodes t (at_input way i) c
      pub outputs : (m s : ℕ) (x : TreeNode) → node_at body.scope.nodes m ≡ Some x → s < length (outputs_of body.scope.groups x) → Has (take visit.next visit.table.now.order.items) m
          → (c : Came) × (output_in visit.made.items m s ≡ Some c) × Carries nodes t (at_output way m s) c

    -- the lists around it, the innermost first: each goes on behind the group node that leads inwards, to these runs
    pub data Around : List Visit → List PathStep → List Run → Type 0 where
      outermost : Around [] [] []
      inside : {visits : List Visit} {steps : List PathStep} {runs more : List Run} (visit : Visit) (n : ℕ) (b : Body) (reads : List Read) → IsVisit (way_by steps) visit
          → slice_get visit.table.now.order.items visit.next ≡ Some n → part_at t (way_by steps) n ≡ Some (a_group b reads)
          → Unfold (way_by steps) (drop (suc visit.next) visit.table.now.order.items) runs → Around visits steps more
          → Around (visit ∷ visits) (plain_step n ∷ steps) (runs ++ more)

  -- ---- runs and nodes

  -- the node is that of the run, its links seen with these constants
  pub record IsNodeOf (nodes : List (GraphNode Kind)) (constants : List Constant) (run : Run) (node : GraphNode Kind) : Type 0 where
    pub path : node.path.steps.items ≡ run.path
    pub kind : written_as node.kind ≡ run.kind
    pub links : List (Link Named)
    pub seen : all_of (map (link_of nodes constants) node.inputs.items) ≡ Some links
    pub carry : CarryAll by_name t run.reads links
    -- the node of the tree, which has as many outputs
    pub way : Way
    pub body : Body
    pub number : ℕ
    pub written : TreeNode
    pub leads : LeadsTo t way body
    pub at : node_at body.scope.nodes number ≡ Some written
    pub place : run.path ≡ path_of way number
    pub outputs : node.outputs ≡ length (outputs_of body.scope.groups written)

  abbrev pub AreNodes : List (GraphNode Kind) → List Constant → List Run → List (GraphNode Kind) → Type 0
  AreNodes nodes constants [] [] = Unit {0}
  AreNodes nodes constants (run ∷ runs) (node ∷ rest) = IsNodeOf nodes constants run node × AreNodes nodes constants runs rest
  AreNodes nodes constants _ _ = ⊥

-- what is done and what is left make all runs that the tree unfolds to
pub record StandsAt (t : Tree) (all : List Run) (s : State) : Type 0 where
  pub visit : IsVisit t s.nodes (way_by s.way) s.visit
  pub done : List Run
  pub nodes : AreNodes t s.nodes s.constants done s.nodes
  -- each link leads to a node that stands before, or to a constant
  pub back : LinksLeadBack (record { nodes = s.nodes; roots = []; constants = length s.constants })
  pub left : List Run
  pub more : List Run
  pub here : Unfold t (way_by s.way) (drop s.visit.next s.visit.table.now.order.items) left
  pub around : Around t s.nodes s.outer s.way more
  pub whole : done ++ (left ++ more) ≡ all

-- the graph that is found for a tree, and the runs of its nodes
pub record Found (t : Tree) : Type 0 where
  pub steps : ℕ
  pub task : Task tree.Kind Named
  pub found : task_within by_name t steps ≡ Some task
  pub runs : List Run
  pub these : runs_within (body_at t) steps the_tree ≡ Some runs

abbrev pub tree_in : Unfolding → Tree
tree_in u = tree_of u.tree.now

-- what is unfolded so far is right, of a tree that keeps the rules
pub record Stands (u : Unfolding) : Type 0 where
  pub keeps : KeepsRules (tree_in u)
  pub formed : IsOfForm (tree_in u)
  pub tables : AreTables (tree_in u) u.tables.now
  pub groups : map group_of (arc_value u.groups).items ≡ (tree_in u).groups
  pub of : Found (tree_in u)
  pub state : StandsAt (tree_in u) of.runs (state_of u)

abbrev pub steps_in : Unfolding → ℕ
steps_in u = steps_left (tree_in u) (state_of u)

-- it goes on in the same tree with fewer steps left
abbrev pub Goes : Unfolding → Unfolding → Type 0
Goes old new = (new.tree ≡ old.tree) × Stands new × (steps_in new < steps_in old)

-- the tree's own list is done
abbrev pub IsDone : Unfolding → Type 0
IsDone u = (u.way.items ≡ []) × (u.outer.items ≡ []) × (length u.visit.table.now.order.items ≤ u.visit.next)

-- one step, or there was nothing left
abbrev pub Steps : Unfolding → Unfolding → Bool → Type 0
Steps old new true = Goes old new
Steps old new false = (new.tree ≡ old.tree) × Stands new × IsDone new

-- the nodes are those of these runs, and the links carry what the tree gives out; all that is linked to is there
pub record IsGraph (t : Tree) (runs : List Run) (nodes : List (GraphNode Kind)) (constants : List Constant) (roots : List CodeLink) : Type 0 where
  pub are : AreNodes t nodes constants runs nodes
  pub back : LinksLeadBack (record { nodes = nodes; roots = []; constants = length constants })
  pub links : List (Link Named)
  pub seen : all_of (map (link_of nodes constants) roots) ≡ Some links
  pub carry : CarryAll by_name t (output_read t ∷ []) links
  pub there : AreThere nodes (length constants) roots

-- the graph that is found for the tree
pub record IsFound (u : Unfolding) (roots : List CodeLink) : Type 0 where
  pub of : Found (tree_in u)
  pub is : IsGraph (tree_in u) of.runs u.nodes.items u.constants.items roots
