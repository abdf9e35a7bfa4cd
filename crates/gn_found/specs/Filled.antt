-- The graph of a tree over its constants themselves, in which values are filled in.
use Rattle.std.specs.Prelude.{◌≡◌, ℕ, [], ◌∷◌, map, Option, Some, None, slice_get}
use Rattle.gn_tree.specs.NodeKinds.{Kind}
use Rattle.gn_tree.specs.Trees.{Tree}
use Rattle.gn_rules.specs.Rules.{KeepsRules}
use Rattle.gn_node_set.specs.Meanings.{Absent, Source, a_value, an_item, an_output, Link, Node}
use Rattle.gn_exec_laws.specs.Graphs.{Task}
use Rattle.gn_meaning.specs.Sites.{Constant}
use Rattle.gn_meaning.specs.Forms.{HasForm}
use Rattle.gn_meaning.specs.Denotation.{Given}
use Rattle.gn_stands.specs.Tasks.{task_within}

-- what a tree is given by name: each constant as it is, and none for its one input
abbrev pub by_name : Given (Option Constant)
by_name = record { constant = Some; inputs = None ∷ []; files = λ name. Absent }

module _ {V : Type 0} (given : Given V) (input : V) where
  abbrev pub value_of : Option Constant → V
  value_of None = input
  value_of (Some c) = given.constant c

  abbrev pub fill_source : Source (Option Constant) → Source V
  fill_source (a_value c) = a_value (value_of c)
  fill_source (an_item i) = an_item i
  fill_source (an_output p s) = an_output p s

  abbrev pub fill_link : Link (Option Constant) → Link V
  fill_link link = record { from = fill_source link.from; through = link.through }

  abbrev pub fill_node : Node Kind (Option Constant) → Node Kind V
  fill_node node = record { path = node.path; kind = node.kind; links = map fill_link node.links }

  abbrev pub fill_task : Task Kind (Option Constant) → Task Kind V
  fill_task task = record { nodes = map fill_node task.nodes; roots = map fill_link task.roots }

-- the graph that is found for a tree over given values is the one over names, filled in
abbrev pub FoundGraphsAreFilledIn : (V : Type 0) → Type 0
FoundGraphsAreFilledIn V = (given : Given V) (input : V) (t : Tree) (k : ℕ) (task : Task Kind (Option Constant)) → slice_get given.inputs 0 ≡ Some input
    → task_within by_name t k ≡ Some task → task_within given t k ≡ Some (fill_task given input task)

-- a graph over names is found for each tree that keeps the rules
abbrev pub FoundGraphsExist : Type 0
FoundGraphsExist = (t : Tree) → HasForm t → KeepsRules t → (k : ℕ) × (task : Task Kind (Option Constant)) × (task_within by_name t k ≡ Some task)
