-- No node of a graph that stands for a tree is in a turn.
use Rattle.std.proofs.Common.{◌≡◌, ℕ, [], ◌∷◌, Some, refl, ◌∙◌, ap}
use Rattle.std.specs.Prelude.{false, IsTrue}
use Rattle.gn_lazy.specs.declared.path.PathStep.{PathStep}
use Rattle.gn_tree.specs.NodeKinds.{Kind}
use Rattle.gn_tree.specs.Trees.{Tree}
use Rattle.gn_node_set.specs.Paths.{Path, has_turn, ends_plain}
use Rattle.gn_node_set.specs.Meanings.{Has, Node}
use Rattle.gn_exec_laws.specs.Graphs.{Task}
use Rattle.gn_meaning.specs.Sites.{Way, the_tree, plain_step, path_by, path_of, at_output}
use Rattle.gn_meaning.specs.Reads.{Run, run_of}
use Rattle.gn_meaning.specs.Denotation.{Given}
use Rattle.gn_meaning.proofs.Paths.{path_of_run}
use Rattle.gn_stands.specs.Stands.{Unfolds, the_list, in_group, IsNodeOf, StandsFor}

module _ (t : Tree) where
  same_turns : {way : Way} → Unfolds t the_tree way → (p : Path) → has_turn (path_by way p) ≡ has_turn p
  same_turns the_list p = refl
  same_turns (in_group n b reads u e) p = same_turns u (plain_step n ∷ p)

  same_end : {way : Way} → Unfolds t the_tree way → (step : PathStep) (p : Path) → ends_plain (path_by way (step ∷ p)) ≡ ends_plain (step ∷ p)
  same_end the_list step p = refl
  same_end (in_group n b reads u e) step p = same_end u (plain_step n) (step ∷ p)

  pub paths_plain : {V : Type 0} (given : Given V) (task : Task Kind V) → StandsFor given t task → (node : Node Kind V) → Has task.nodes node → (has_turn node.path ≡ false) × IsTrue (ends_plain node.path)
  paths_plain {V} given task stands node h =
      let x : (way : Way) × (n : ℕ) × (run : Run) × Unfolds t the_tree way × (run_of t (at_output way n 0) ≡ Some run) × IsNodeOf given t run node = stands.nodes.only node h in
      let path : node.path ≡ path_of x.0 x.1 = x.5.path ∙ path_of_run t x.0 x.1 0 x.2 x.4 in
      (ap has_turn path ∙ same_turns x.3 (plain_step x.1 ∷ []), ap ends_plain path ∙ same_end x.3 (plain_step x.1) [])
