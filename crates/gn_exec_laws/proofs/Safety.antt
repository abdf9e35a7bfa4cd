-- Over files: what is set is right, what is used is demanded, and what was taken is used.
use Rattle.std.proofs.Common.{◌≡◌, List, Some, ◌∙◌, ap}
use Rattle.gn_node_set.specs.Paths.{Path}
use Rattle.gn_node_set.specs.Meanings.{Has, Node, Warning, Meanings}
use Rattle.gn_exec_laws.specs.Graphs.{Task, Answers, answer_of, link_value, run_of, Solves}
use Rattle.gn_exec_laws.specs.Fits.{CanStart, IsLawful}
use Rattle.gn_exec_laws.specs.Machine.{Event, world, IsRun, IsServed}
use Rattle.gn_exec_laws.specs.Claims.{IsRight, UsesDemanded}
use Rattle.gn_exec_laws.proofs.Kept.{kept, IsTakenWell}
use Rattle.gn_exec_laws.proofs.Right.{Right, right, one_there, reads_right, used_demanded, WarnsRight}

module _ {K V S T : Type 0} (m : Meanings K V S T) (lawful : IsLawful m) (task : Task K V) (c : CanStart m task) (tells : Answers m) (den : Path → List V) (solves : Solves m task tells den) (es : List Event) (r : IsRun m task es) (s : IsServed m task tells es) where
  world_right : Right m lawful task c tells den (world m task es)
  world_right = right m lawful task c tells den solves es r s

  warned_right : (node : Node K V) (warnings : List Warning) → Has (world m task es).graph node → (world m task es).warned node.path ≡ Some warnings → warnings ≡ (run_of m (link_value m den) (answer_of m tells node) node).warnings
  warned_right node warnings h e =
      let x : WarnsRight m lawful task c tells den (world m task es) node.path warnings = world_right.warned node.path warnings e in
      x.3 ∙ ap (λ n. (run_of m (link_value m den) (answer_of m tells n) n).warnings) (one_there m lawful task c tells den x.0 node x.1 (world_right.there node h) x.2)

  pub is_right : IsRight m task tells den (world m task es)
  is_right = record { set = world_right.set; reads = reads_right m lawful task c tells den (world m task es) world_right; warned = warned_right }

  pub uses_demanded : UsesDemanded m task tells den es
  uses_demanded = record {
    used = λ node h u. used_demanded m lawful task c tells den (world m task es) world_right node h u;
    taken = λ v n h. let t : IsTakenWell m lawful task (world m task es) n = (kept m lawful task c es r).taken v n h in (t.0, t.1, t.4);
  }
