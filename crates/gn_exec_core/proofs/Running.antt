-- A worker whose job was the last event may hand in what its run gives.
use Rattle.std.proofs.Common.{◌≡◌, ◌≢◌, inl, ℕ, ◌∷◌, map, refl, sym, ap, ◌∙◌, subst}
use Rattle.std.specs.Prelude.{option_map}
use Rattle.gn_node_set.specs.Meanings.{Node, Zone, Meanings}
use Rattle.gn_node_set.proofs.Lists.{some_same}
use Rattle.gn_exec_laws.specs.Graphs.{links_read}
use Rattle.gn_exec_laws.specs.Machine.{Take, World, HasNumber, reads, run_now}
use Rattle.gn_nodes.specs.declared.values.Done.{Done}
use Rattle.gn_nodes.specs.Values.{answer_of, done_of}
use Rattle.gn_exec_core.specs.declared.jobs.Job.{Job}
use Rattle.gn_exec_core.specs.States.{State, now}
use Rattle.gn_exec_core.specs.Jobs.{IsJob}
use Rattle.gn_exec_core.specs.Finishes.{MayFinish}

module _ {G H K V S T : Type 0} (m : Meanings K V S T) (kind_of : G → K) (content : H → V) (s : State G H) (worker : ℕ) (j : Job G H) (d : Done H) (is : IsJob m kind_of content s worker j) (no_zone : m.rows.role (kind_of j.kind) ≢ Zone)
    (gives : done_of content d ≡ m.rows.row j.path.steps.items (kind_of j.kind) (map content j.inputs.items) (option_map answer_of j.answer)) where
  abbrev w : World K V
  w = now m kind_of content s

  abbrev after : State G H
  after = record s { events = Take worker j.node ∷ s.events }

  same : (node : Node K V) → HasNumber w j.node node → is.node ≡ node
  same node e = some_same (sym is.number ∙ e)

  row : (node : Node K V) → is.node ≡ node → done_of content d ≡ run_now m w node
  row node e =
      subst (λ x. done_of content d ≡ run_now m w x) e
      (gives
      ∙ ap (λ p. m.rows.row p (kind_of j.kind) (map content j.inputs.items) (option_map answer_of j.answer)) is.path
      ∙ ap (λ k. m.rows.row is.node.path k (map content j.inputs.items) (option_map answer_of j.answer)) is.kind
      ∙ ap (λ vs. m.rows.row is.node.path is.node.kind vs (option_map answer_of j.answer)) is.inputs
      ∙ ap (m.rows.row is.node.path is.node.kind (map (reads m w) (links_read m (reads m w) is.node))) is.answer)

  pub may_finish_next : (s' : State G H) → s' ≡ after → MayFinish m kind_of content s' worker j.node d
  may_finish_next s' e = subst (λ x. MayFinish m kind_of content x worker j.node d) (sym e) (record {
    taken = inl refl;
    no_zone = λ node h zone. no_zone (ap m.rows.role (is.kind ∙ ap (λ x. x.kind) (same node h)) ∙ zone);
    row = λ node h. row node (same node h);
  })
