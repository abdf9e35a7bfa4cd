-- One finish more, by what the state keeps.
use Rattle.std.proofs.Common.{◌≡◌, ◌≢◌, ◌⊎◌, inl, inr, ℕ, suc, ◌+◌, ◌-◌, ◌<◌, ◌≤◌, Bool, true, false, ◌||◌, ◌==◌, List, [], ◌∷◌, ◌++◌, length, get_or, set, reverse, refl, sym, ap, ◌∙◌, true≢false, arith, if◌then◌else◌}
use Rattle.std.proofs.lemmas.List.{get_or-set_same, get_or-set_other, length-set, reverse-append}
use Rattle.std.proofs.lemmas.Bool.Decides.{Decides-eqb}
use Rattle.std.specs.declared.snapshot.Snapshot.{Snapshot}
use Rattle.std.specs.declared.alloc.Global.{Global}
use Rattle.std.specs.declared.vec.Vec.{Vec}
use Rattle.gn_lazy.specs.Graphs.{Nodes}
use Rattle.gn_lazy.specs.declared.graph.GraphNode.{GraphNode}
use Rattle.gn_node_set.specs.Meanings.{Has, Meanings}
use Rattle.gn_exec_laws.specs.Graphs.{Task}
use Rattle.gn_exec_laws.specs.Fits.{IsLawful}
use Rattle.gn_exec_laws.specs.Machine.{Event, Take, Finish, IsRun}
use Rattle.gn_exec_laws.specs.Claims.{takes, finishes}
use Rattle.gn_uses.specs.Nodes as numbers
use Rattle.gn_uses.specs.Sets.{has}
use Rattle.gn_uses.proofs.Lists.{same_number, is_member}
use Rattle.gn_readers.specs.declared.place.Reader.{Reader}
use Rattle.gn_delivery.specs.declared.plan.Chosen.{Chosen}
use Rattle.gn_delivery.specs.Marks.{Chooses, Fills}
use Rattle.gn_exec_core.specs.declared.state.Happened.{Happened}
use Rattle.gn_exec_core.specs.declared.state.Happened.TheVariants as happened
use Rattle.gn_exec_core.specs.States.{State, outputs_in, seen, unset, HasFlags}
use Rattle.gn_exec_core.specs.Waits.{AreAll, Tallies, waits_at}
use Rattle.gn_exec_core.specs.Finishes.{finished_by}
use Rattle.gn_exec_core.proofs.Refusals.{events_push}
use Rattle.gn_exec_core.proofs.Taking.{unset_within}
use Rattle.gn_exec_core.proofs.Tallying.{finish_in, some_counted}

-- ---- the journal

outputs_push : {V : Type 0} (journal : List (Happened V)) (worker n : ℕ) (about : Snapshot (Vec V Global)) → outputs_in (journal ++ happened.Finish worker n about ∷ []) ≡ outputs_in journal ++ about.value.items ∷ []
outputs_push [] worker n about = refl
outputs_push (happened.Take w k ∷ journal) worker n about = outputs_push journal worker n about
outputs_push (happened.Finish w k outputs ∷ journal) worker n about = ap (λ xs. outputs.value.items ∷ xs) (outputs_push journal worker n about)
outputs_push (happened.Serve k answer ∷ journal) worker n about = outputs_push journal worker n about
outputs_push (happened.Refuse w ∷ journal) worker n about = outputs_push journal worker n about

-- one finish more
abbrev pub with_finish : {K V : Type 0} → State K V → ℕ → ℕ → List V → State K V
with_finish s worker n outputs = record s { events = Finish worker n ∷ s.events; handed = outputs ∷ s.handed }

pub seen_finish : {K V : Type 0} (graph : Nodes K) (given : List V) (journal : List (Happened V)) (worker n : ℕ) (about : Snapshot (Vec V Global))
    → seen graph given (journal ++ happened.Finish worker n about ∷ []) ≡ with_finish (seen graph given journal) worker n about.value.items
seen_finish graph given journal worker n about =
    λ i. record { graph = graph; given = given; events = events_push journal (happened.Finish worker n about) i; handed = (ap reverse (outputs_push journal worker n about) ∙ reverse-append (outputs_in journal) (about.value.items ∷ [])) i }

-- where it is the first one of the node
pub first_finish : {K V : Type 0} (s : State K V) (worker n : ℕ) (outputs : List V) → has (finishes s.events) n ≡ false → with_finish s worker n outputs ≡ finished_by s worker n outputs
first_finish s worker n outputs new = ap (λ b. if b then s else with_finish s worker n outputs) (sym new)

-- and where it is not
pub later_finish : {K V : Type 0} (s : State K V) (worker n : ℕ) (outputs : List V) → has (finishes s.events) n ≡ true → s ≡ finished_by s worker n outputs
later_finish s worker n outputs old = ap (λ b. if b then s else with_finish s worker n outputs) (sym old)

pub flags_finished : (flags : List Bool) (es : List Event) (room room' worker n : ℕ) → HasFlags flags es room → length es + 65 ≤ room' → HasFlags flags (Finish worker n ∷ es) room'
flags_finished flags es room room' worker n h more = record {
  flagged = h.flagged;
  workers = h.workers;
  fits = let few : unset flags ≤ length flags = unset_within flags in omega (arith, h.workers, few, more);
}

pub none_finished : (es : List Event) (n : ℕ) → has (finishes es) n ≡ false → (v : ℕ) → ¬ Has es (Finish v n)
none_finished es n new v h = true≢false (sym (is_member (finishes es) n (finish_in es v n h)) ∙ new)

-- ---- counts

module _ {G : Type 0} (nodes : List (GraphNode G)) (es : List Event) (g : numbers.Nodes) (done unanswered : List Bool) (slots running : ℕ) (t : Tallies nodes es g done unanswered slots running) (worker n : ℕ) (below : n < length nodes)
    (cs : List Chosen) (g' : numbers.Nodes) (chooses : Chooses g cs g') (rs : List Reader) (g'' : numbers.Nodes) (fills : Fills g' rs g'') (some : 0 < running) where
  is : g'' ≡ record g { choices = g'.choices; filled = g''.filled }
  is = fills.same ∙ ap (λ (x : numbers.Nodes). record x { filled = g''.filled }) chooses.same

  all : AreAll nodes g''
  all = record {
    sizes = ap (λ x. x.sizes) is ∙ t.all.sizes;
    answered = ap (λ x. length x.answered) is ∙ t.all.answered;
    choices = ap (λ x. length x.choices) is ∙ chooses.len ∙ t.all.choices;
    filled = fills.len ∙ ap (λ x. length x.filled) chooses.same ∙ t.all.filled;
  }

  done_by : (k : ℕ) → (k ≡ n) ⊎ (k ≢ n) → get_or (set done n true) k false ≡ (n == k || has (finishes es) k)
  done_by k (inl e) =
      let there : n < length done = omega (arith, below, t.all_done) in
      ap (λ j. get_or (set done n true) j false) e ∙ get_or-set_same done n true false there ∙ sym (ap (λ b. b || has (finishes es) k) ((Decides-eqb n k).1 (sym e)))
  done_by k (inr d) = get_or-set_other done n k true false d ∙ t.is_done k ∙ sym (ap (λ b. b || has (finishes es) k) (other (n == k) refl))
    where
      other : (b : Bool) → (n == k) ≡ b → (n == k) ≡ false
      other true e = absurd (d (sym ((Decides-eqb n k).0 e)))
      other false e = e

  pub tallied_finish : Tallies nodes (Finish worker n ∷ es) g'' (set done n true) unanswered slots (running - 1)
  tallied_finish = record {
    all = all;
    is_done = λ k. done_by k (same_number k n);
    is_unanswered = λ k. t.is_unanswered k ∙ ap (λ x. waits_at x k) (sym is);
    is_running = let count : running - 1 + suc (length (finishes es)) ≡ length (takes es) = omega (arith, t.is_running, some) in count;
    all_done = length-set done n true ∙ t.all_done;
    all_unanswered = t.all_unanswered;
    all_answers = t.all_answers;
  }

-- a node that is finished was running
pub was_running : {K V S T : Type 0} (m : Meanings K V S T) (lawful : IsLawful m) (task : Task K V) (es : List Event) (r : IsRun m task es) (running : ℕ) → running + length (finishes es) ≡ length (takes es)
    → (worker n : ℕ) → Has es (Take worker n) → ((v : ℕ) → ¬ Has es (Finish v n)) → 0 < running
was_running m lawful task es r running count worker n taken fresh = some_counted m lawful task es r running count (n, (worker, taken), fresh)
