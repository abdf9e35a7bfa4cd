-- What each graph has that is made of a tree.
use Rattle.std.specs.Prelude.{◌≡◌, List, [], Some, slice_get}
use Rattle.gn_lazy.specs.Graphs.{Nodes}
use Rattle.gn_tree.specs.NodeKinds as tree
use Rattle.gn_tree.specs.Trees.{Tree}
use Rattle.gn_tree.specs.declared.kind.Kind.{Kind}
use Rattle.gn_rules.specs.Rules.{KeepsRules}
use Rattle.gn_node_set.specs.Meanings.{AllDiffer}
use Rattle.gn_exec_laws.specs.Graphs.{Task}
use Rattle.gn_exec_laws.specs.Fits.{paths_of}
use Rattle.gn_meaning.specs.Forms.{HasForm}
use Rattle.gn_meaning.specs.Denotation.{Given}
use Rattle.gn_stands.specs.Stands.{StandsFor}
use Rattle.gn_found.specs.Claims.{LinksLeadInto, LinksLeadBack}
use Rattle.gn_found.specs.Filled.{fill_task}
use Rattle.gn_table.specs.declared.constant.Constant.{Constant}
use Rattle.gn_lower.specs.Lowered.{Lowers}

-- the graph stands for the tree, its nodes have different paths, and its links lead back
pub record Stands {V : Type 0} (given : Given V) (t : Tree) (task : Task tree.Kind V) : Type 0 where
  pub stands : StandsFor given t task
  pub differ : AllDiffer (paths_of task.nodes)
  pub back : LinksLeadBack [] task.nodes
  pub roots : LinksLeadInto (paths_of task.nodes) task.roots

-- a graph that is made of a tree that keeps the rules, over any values that are filled in
abbrev pub LoweredGraphsStand : (V : Type 0) → Type 0
LoweredGraphsStand V = (given : Given V) (input : V) (t : Tree) (graph : Nodes Kind) (constants : List Constant) → HasForm t → KeepsRules t → slice_get given.inputs 0 ≡ Some input
    → (lowers : Lowers t graph constants) → Stands given t (fill_task given input lowers.task)
