-- What is in a world fits, and what a worker takes keeps the conditions of a run.
use Rattle.std.proofs.Common.{◌≡◌, ◌≢◌, ℕ, List, [], ◌∷◌, map, Bool, true, false, refl, subst}
use Rattle.gn_node_set.specs.Meanings.{Has, Node, Zone, Meanings}
use Rattle.gn_exec_laws.specs.Graphs.{Task, links_read, opened_by, outer_node}
use Rattle.gn_exec_laws.specs.Fits.{NodesFit, CanStart, CanRun, OpensWell, IsLawful}
use Rattle.gn_exec_laws.specs.Machine.{Event, Finish, World, finished, reads, world, Ready, IsRun}
use Rattle.gn_exec_laws.specs.Claims.{WorldFits}
use Rattle.gn_node_set.proofs.Lists.{append_nil, member_at, one_place}
use Rattle.gn_exec_laws.proofs.Sorts.{outer_nodes_fit, fit_joined}
use Rattle.gn_exec_laws.proofs.Shapes.{Shape, link_read, can_run}
use Rattle.gn_exec_laws.proofs.Kept.{Kept, kept, Step, AnyAnswer, step_of, zone_well, answer_there, fed_of, WasFinished}
use Rattle.gn_exec_laws.proofs.Counts.{by_taker}

module _ {K V S T : Type 0} (m : Meanings K V S T) (lawful : IsLawful m) (task : Task K V) where
  step_fits : (w v : World K V) → Shape m lawful task w → Step m lawful task (AnyAnswer m lawful task) w v → NodesFit m [] [] w.graph → NodesFit m [] [] v.graph
  step_fits w v g Step.nothing_new f = f
  step_fits w v g (Step.gives_outputs node h fed not plain answer e there) f = f
  step_fits w v g (Step.gives_answer node h file none a told) f = f
  step_fits w v g (Step.opens_zone zone h fed not role) f =
      let well : OpensWell m zone.path zone.kind (opened_by m (reads m w) zone) = zone_well m lawful task w g zone h role in
      fit_joined m [] [] w.graph (map (outer_node m zone) (opened_by m (reads m w) zone).nodes) f
      (subst (λ ns. NodesFit m [] ns (map (outer_node m zone) (opened_by m (reads m w) zone).nodes)) (append_nil w.graph)
      (outer_nodes_fit m w.graph zone role (g.fit zone h) [] (opened_by m (reads m w) zone).nodes well.fit))

  nodes_fit : CanStart m task → (es : List Event) → IsRun m task es → NodesFit m [] [] (world m task es).graph
  nodes_fit c [] r = c.fit
  nodes_fit c (e ∷ es) r =
      let k : Kept m lawful task es = kept m lawful task c es r.1 in
      step_fits (world m task es) (world m task (e ∷ es)) k.shape (step_of m lawful task (AnyAnswer m lawful task) e es k r.0 (λ n b node same at. tt)) (nodes_fit c es r.1)

  pub world_fits : CanStart m task → (es : List Event) → IsRun m task es → WorldFits m (world m task es)
  world_fits c es r =
      let g : Shape m lawful task (world m task es) = (kept m lawful task c es r).shape in
      record {
        nodes = nodes_fit c es r;
        ends = g.ends;
        set = λ p vs e. let t : (node : Node K V) × Has (world m task es).graph node × (node.path ≡ p) × (m.rows.role node.kind ≢ Zone) × (map m.sort vs ≡ m.gives node.kind) = g.set p vs e in (t.0, t.1, t.2, t.4);
        reads = λ link s sort set. (link_read m lawful task (world m task es) g link s sort set).0;
      }

  -- what nobody has taken is not finished
  untaken : (es : List Event) → IsRun m task es → Kept m lawful task es → (n : ℕ) (node : Node K V) → Ready m task es n node → (b : Bool) → finished (world m task es) node.path ≡ b → finished (world m task es) node.path ≡ false
  untaken es r k n node ready false e = e
  untaken es r k n node ready true e =
      let f : WasFinished m lawful task es (world m task es) node.path = k.finished_by node.path e in
      let same : f.1 ≡ n = one_place (λ x. x.path) (world m task es).graph k.shape.differ f.1 n f.2 node f.4 ready.there f.5 in
      absurd (ready.fresh f.0 (by_taker m lawful task es r f.0 n (subst (λ j. Has es (Finish f.0 j)) same f.3)))

  pub ready_can_run : CanStart m task → (es : List Event) → IsRun m task es → (n : ℕ) (node : Node K V) → Ready m task es n node
      → CanRun m node.path node.kind (map (reads m (world m task es)) (links_read m (reads m (world m task es)) node)) ((world m task es).answers node.path)
  ready_can_run c es r n node ready =
      let w : World K V = world m task es in
      let k : Kept m lawful task es = kept m lawful task c es r in
      let h : Has (world m task es).graph node = member_at (world m task es).graph n node ready.there in
      can_run m lawful task (world m task es) k.shape node h (fed_of m lawful task (world m task es) node ready.inputs)
      (untaken es r k n node ready (finished (world m task es) node.path) refl) ((world m task es).answers node.path)
      (answer_there m lawful task (world m task es) k.shape node h ready.answered (m.rows.role node.kind) refl ((world m task es).answers node.path) refl)
