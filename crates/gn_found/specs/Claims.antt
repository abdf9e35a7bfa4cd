-- The order of the graph that is found for a tree, and the paths of its nodes.
use Rattle.std.specs.Prelude.{◌≡◌, ℕ, List, [], ◌∷◌, ◌++◌, Some}
use Rattle.gn_tree.specs.NodeKinds.{Kind}
use Rattle.gn_tree.specs.Trees.{Tree}
use Rattle.gn_rules.specs.Rules.{KeepsRules}
use Rattle.gn_node_set.specs.Paths.{Path}
use Rattle.gn_node_set.specs.Meanings.{Has, AllDiffer, Source, a_value, an_item, an_output, Link, Node}
use Rattle.gn_exec_laws.specs.Graphs.{Task}
use Rattle.gn_exec_laws.specs.Fits.{paths_of}
use Rattle.gn_meaning.specs.Forms.{HasForm}
use Rattle.gn_meaning.specs.Denotation.{Given}
use Rattle.gn_stands.specs.Tasks.{task_within}

module _ {V : Type 0} where
  -- a source that is an output is one of a node with one of these paths
  abbrev pub LeadsInto : List Path → Source V → Type 0
  LeadsInto paths (a_value v) = Unit {0}
  LeadsInto paths (an_item i) = Unit {0}
  LeadsInto paths (an_output p s) = Has paths p

  abbrev pub LinksLeadInto : List Path → List (Link V) → Type 0
  LinksLeadInto paths links = (link : Link V) → Has links link → LeadsInto paths link.from

  -- links lead to nodes before, or to nodes with these paths
  abbrev pub LinksLeadBack : {K : Type 0} → List Path → List (Node K V) → Type 0
  LinksLeadBack paths [] = Unit {0}
  LinksLeadBack paths (node ∷ nodes) = LinksLeadInto paths node.links × LinksLeadBack (paths ++ node.path ∷ []) nodes

-- in the graph of a tree that keeps the rules links lead back, and its roots lead to its nodes
abbrev pub FoundGraphsLeadBack : (V : Type 0) → Type 0
FoundGraphsLeadBack V = (given : Given V) (t : Tree) (k : ℕ) (task : Task Kind V) → HasForm t → KeepsRules t → task_within given t k ≡ Some task
    → LinksLeadBack [] task.nodes × LinksLeadInto (paths_of task.nodes) task.roots

-- no two nodes of the graph of a tree have the same path
abbrev pub FoundPathsDiffer : (V : Type 0) → Type 0
FoundPathsDiffer V = (given : Given V) (t : Tree) (k : ℕ) (task : Task Kind V) → task_within given t k ≡ Some task → AllDiffer (paths_of task.nodes)
