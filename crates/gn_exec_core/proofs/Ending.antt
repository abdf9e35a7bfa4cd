-- A finish, by what the state keeps and what its steps leave.
use Rattle.std.proofs.Common.{◌≡◌, ℕ, zero, suc, ◌+◌, ◌-◌, ◌<◌, ◌≤◌, Bool, true, false, List, [], ◌∷◌, ◌++◌, map, length, set, Option, sym, ap, ◌∙◌, subst, arith}
use Rattle.std.specs.Prelude.{slice_index_or}
use Rattle.std.proofs.lemmas.List.{length-map}
use Rattle.std.specs.declared.snapshot.Snapshot.{Snapshot}
use Rattle.std.specs.declared.alloc.Global.{Global}
use Rattle.std.specs.declared.vec.Vec.{Vec}
use Rattle.gn_lazy.specs.Graphs.{Nodes}
use Rattle.gn_lazy.specs.declared.graph.GraphNode.{GraphNode}
use Rattle.gn_node_set.specs.Meanings.{Has, Meanings}
use Rattle.gn_exec_laws.specs.Fits.{IsLawful}
use Rattle.gn_exec_laws.specs.Machine.{Finish, World, HasNumber, run_now}
use Rattle.gn_exec_laws.specs.Claims.{finishes}
use Rattle.gn_exec_laws.proofs.Kept.{kept}
use Rattle.gn_uses.specs.declared.nodes.Choice.{Choice}
use Rattle.gn_uses.specs.Nodes as numbers
use Rattle.gn_uses.specs.Sets.{has}
use Rattle.gn_uses.specs.Uses.{Uses, HasInput}
use Rattle.gn_readers.specs.declared.place.Place.TheVariants.{Input}
use Rattle.gn_readers.specs.declared.place.Reader.{Reader}
use Rattle.gn_readers.specs.Readers.{AreReaders}
use Rattle.gn_nodes.specs.declared.values.Answer.{Answer}
use Rattle.gn_nodes.specs.declared.values.Done.{Done}
use Rattle.gn_delivery.specs.declared.plan.Chosen.{Chosen}
use Rattle.gn_delivery.specs.declared.plan.Plan.{Plan}
use Rattle.gn_delivery.specs.Slots.{with_seconds, with_outputs, Delivers}
use Rattle.gn_delivery.specs.Plans.{due, CanRead, IsPlanFor}
use Rattle.gn_delivery.specs.Marks.{Chooses, Fills}
use Rattle.gn_delivery.proofs.Planned.{plan_delivers}
use Rattle.gn_exec_core.specs.declared.state.Happened.{Happened}
use Rattle.gn_exec_core.specs.declared.state.Happened.TheVariants as happened
use Rattle.gn_exec_core.specs.States.{State, job, now, seen, events_of, HasFlags, IsReached}
use Rattle.gn_exec_core.specs.Jobs.{Holds}
use Rattle.gn_exec_core.specs.Waits.{Tallies}
use Rattle.gn_exec_core.specs.Finishes.{MayFinish, HandsOn, finished_by}
use Rattle.gn_exec_core.proofs.Using.{inside, at_node, from_world}
use Rattle.gn_exec_core.proofs.Refusals.{events_counted}
use Rattle.gn_exec_core.proofs.Finished.{here, all_read, all_inputs, reached_after, holds_finished, hands_finished}
use Rattle.gn_exec_core.proofs.Closing.{with_finish, seen_finish, first_finish, later_finish, flags_finished, none_finished, tallied_finish, was_running}

-- the list in a vector that an index reads
pub row_read : {A : Type 0} (rows : List (Vec A Global)) (n : ℕ) (row : Vec A Global) → n < length rows → row ≡ slice_index_or rows n row → slice_index_or (map (λ r. r.items) rows) n [] ≡ row.items
row_read [] n row h e = absurd (omega (arith, h))
row_read (x ∷ xs) zero row h e = ap (λ r. r.items) (sym e)
row_read (x ∷ xs) (suc n) row h e = row_read xs n row (omega (arith, h)) e

-- choices change no inputs
pub input_kept : (g g' : numbers.Nodes) (chosen : List Chosen) → Chooses g chosen g' → (k i : ℕ) → HasInput g k i → HasInput g' k i
input_kept g g' chosen c k i h = subst (λ (x : numbers.Nodes). HasInput x k i) (sym c.same) (record { there = h.there; input = h.input })

module _ {G H K V S T : Type 0} (m : Meanings K V S T) (lawful : IsLawful m) (kind_of : G → K) (content : H → V) (graph : Nodes G) (given : List H) (journal : List (Happened H)) (u : Uses) (made : List (Option Choice)) (rows : List (List (Option H))) (got : List (Option Answer))
    (holds : Holds m kind_of content (seen graph given journal) u made rows got) (reached : IsReached m kind_of content (seen graph given journal)) (readers : List (List Reader)) (roots : List (Option H)) (hands : HandsOn m kind_of content (seen graph given journal) readers roots)
    (done unanswered : List Bool) (slots running : ℕ) (tallies : Tallies graph.nodes (events_of journal) u.nodes done unanswered slots running)
    (s : State G H) (view : seen graph given journal ≡ s) (worker n : ℕ) (d : Done H) (may : MayFinish m kind_of content s worker n d) where
  abbrev before : State G H
  before = seen graph given journal

  abbrev w : World K V
  w = now m kind_of content before

  may_now : MayFinish m kind_of content before worker n d
  may_now = subst (λ x. MayFinish m kind_of content x worker n d) (sym view) may

  pub below : n < length graph.nodes
  below =
      let t = (kept m lawful (job m kind_of content before) reached.start (events_of journal) reached.run).taken worker n may_now.taken in
      let at = from_world m kind_of graph (map content given) w u.nodes holds.numbered n t.0 t.1 in
      inside graph.nodes n at.0 at.1

  sizes : length u.nodes.sizes ≡ length graph.nodes
  sizes = ap length tallies.all.sizes ∙ length-map graph.nodes (λ at. at.outputs)

  -- where it is finished already
  pub later : has (finishes (events_of journal)) n ≡ true → s ≡ finished_by s worker n d.outputs.items
  later old = later_finish s worker n d.outputs.items (ap (λ x. has (finishes x.events) n) (sym view) ∙ old)

  module _ (new : has (finishes (events_of journal)) n ≡ false) where
    fresh : (v : ℕ) → ¬ Has (events_of journal) (Finish v n)
    fresh = none_finished (events_of journal) n new

    abbrev at : GraphNode G
    at = (here m lawful kind_of content before u made rows got holds reached readers roots hands worker n may_now.taken may_now.no_zone fresh).0

    number : HasNumber w n (at_node m kind_of graph (map content given) at)
    number = (here m lawful kind_of content before u made rows got holds reached readers roots hands worker n may_now.taken may_now.no_zone fresh).2

    outs_are : map content d.outputs.items ≡ (run_now m w (at_node m kind_of graph (map content given) at)).outputs
    outs_are = ap (λ r. r.outputs) (may_now.row (at_node m kind_of graph (map content given) at) number)

    pub readable : (r : Reader) → Has (slice_index_or readers n []) r → CanRead m kind_of graph (map content d.outputs.items) r
    readable r h = subst (λ xs. CanRead m kind_of graph xs r) (sym outs_are) (all_read m lawful kind_of content before u made rows got holds reached readers roots hands worker n may_now.taken may_now.no_zone fresh r h)

    pub whole : length u.nodes.choices ≡ length u.nodes.sizes
    whole = tallies.all.choices ∙ sym sizes

    pub fillable : (r : Reader) (k i : ℕ) → Has (slice_index_or readers n []) r → r.place ≡ Input k i → HasInput u.nodes k i
    fillable = all_inputs m lawful kind_of content before u made rows got holds reached readers roots hands worker n may_now.taken may_now.no_zone fresh sizes

    pub some : 0 < running
    some = was_running m lawful (job m kind_of content before) (events_of journal) reached.run running tallies.is_running worker n may_now.taken fresh

    -- what the state is after it
    pub seen_after : (about : Snapshot (Vec H Global)) (journal' : List (Happened H)) → journal' ≡ journal ++ happened.Finish worker n about ∷ [] → about.value.items ≡ d.outputs.items → seen graph given journal' ≡ finished_by s worker n d.outputs.items
    seen_after about journal' last is =
        ap (seen graph given) last ∙ seen_finish graph given journal worker n about
        ∙ ap (λ x. with_finish x worker n about.value.items) view ∙ ap (with_finish s worker n) is
        ∙ first_finish s worker n d.outputs.items (ap (λ x. has (finishes x.events) n) (sym view) ∙ new)

    module _ (outputs : List H) (same : map content outputs ≡ map content d.outputs.items) (plan : Plan H) (planned : (k : ℕ) → AreReaders graph k (slice_index_or readers n []) → IsPlanFor m kind_of graph (map content d.outputs.items) k content (slice_index_or readers n []) plan)
        (u1 : Uses) (chooses : Chooses u.nodes plan.choices.items u1.nodes) (u2 : Uses) (fills : Fills u1.nodes (slice_index_or readers n []) u2.nodes) (still : u2.taken ≡ u.taken) (made' : List (Option Choice)) (chosen : made' ≡ u2.nodes.choices)
        (rows' : List (List (Option H))) (roots' : List (Option H)) (put : record { rows = rows'; roots = roots' } ≡ with_outputs (with_seconds (record { rows = rows; roots = roots }) plan.seconds.items) plan.itself.items outputs)
        (about : Snapshot (Vec H Global)) (journal' : List (Happened H)) (last : journal' ≡ journal ++ happened.Finish worker n about ∷ []) where
      abbrev outs : List V
      outs = (run_now m w (at_node m kind_of graph (map content given) at)).outputs

      abbrev rs : List Reader
      rs = slice_index_or readers n []

      are : AreReaders graph n rs
      are = hands.readers.each_node n below

      is_plan : IsPlanFor m kind_of graph outs n content rs plan
      is_plan = subst (λ xs. IsPlanFor m kind_of graph xs n content rs plan) outs_are (planned n are)

      delivers : Delivers content (due m kind_of graph outs n) (record { rows = rows; roots = roots }) (record { rows = rows'; roots = roots' })
      delivers =
          subst (Delivers content (due m kind_of graph outs n) (record { rows = rows; roots = roots })) (sym put)
          (plan_delivers m kind_of content graph n outputs outs (same ∙ outs_are) rs are
          (all_read m lawful kind_of content before u made rows got holds reached readers roots hands worker n may_now.taken may_now.no_zone fresh)
          plan is_plan (record { rows = rows; roots = roots }))

      after : seen graph given journal' ≡ with_finish before worker n about.value.items
      after = ap (seen graph given) last ∙ seen_finish graph given journal worker n about

      pub flags_after : (flags : List Bool) (room room' : ℕ) → HasFlags flags (events_of journal) room → length journal + 65 ≤ room' → HasFlags flags (events_of journal') room'
      flags_after flags room room' h more =
          let count = events_counted journal in
          subst (λ x. HasFlags flags x.events room') (sym after) (flags_finished flags (events_of journal) room room' worker n h (omega (arith, count, more)))

      pub reached_then : IsReached m kind_of content (seen graph given journal')
      reached_then = subst (IsReached m kind_of content) (sym after) (reached_after m lawful kind_of content before u made rows got holds reached readers roots hands worker n may_now.taken may_now.no_zone fresh about.value.items)

      pub holds_then : Holds m kind_of content (seen graph given journal') u2 made' rows' got
      holds_then = subst (λ x. Holds m kind_of content x u2 made' rows' got) (sym after)
          (holds_finished m lawful kind_of content before u made rows got holds reached readers roots hands worker n may_now.taken may_now.no_zone fresh plan is_plan sizes u1.nodes chooses u2 fills still made' chosen rows' roots' delivers about.value.items)

      pub tallies_then : Tallies graph.nodes (events_of journal') u2.nodes (set done n true) unanswered slots (running - 1)
      tallies_then = subst (λ x. Tallies graph.nodes x.events u2.nodes (set done n true) unanswered slots (running - 1)) (sym after)
          (tallied_finish graph.nodes (events_of journal) u.nodes done unanswered slots running tallies worker n below plan.choices.items u1.nodes chooses rs u2.nodes fills some)

      pub hands_then : HandsOn m kind_of content (seen graph given journal') readers roots'
      hands_then = subst (λ x. HandsOn m kind_of content x readers roots') (sym after)
          (hands_finished m lawful kind_of content before u made rows got holds reached readers roots hands worker n may_now.taken may_now.no_zone fresh plan is_plan sizes u1.nodes chooses u2 fills still made' chosen rows' roots' delivers about.value.items)

      pub all_then : (flags : List Bool) (room room' : ℕ) → HasFlags flags (events_of journal) room → length journal + 65 ≤ room'
          → HasFlags flags (events_of journal') room' × IsReached m kind_of content (seen graph given journal') × Holds m kind_of content (seen graph given journal') u2 made' rows' got
          × Tallies graph.nodes (events_of journal') u2.nodes (set done n true) unanswered slots (running - 1) × HandsOn m kind_of content (seen graph given journal') readers roots'
      all_then flags room room' h more = (flags_after flags room room' h more, reached_then, holds_then, tallies_then, hands_then)
