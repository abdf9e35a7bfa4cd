-- What a take leaves.
use Rattle.std.proofs.Common.{◌≡◌, ◌≢◌, inl, inr, ℕ, ◌+◌, ◌≤◌, Bool, true, false, List, [], ◌∷◌, ◌++◌, map, length, reverse, Option, Some, None, refl, sym, ap, ◌∙◌, subst, arith, if◌then◌else◌}
use Rattle.std.specs.Prelude.{slice_get, slice_index_or, option_map}
use Rattle.std.proofs.lemmas.List.Sums.{sum_by-cons}
use Rattle.gn_lazy.specs.Graphs.{Nodes}
use Rattle.gn_lazy.specs.declared.graph.GraphNode.{GraphNode}
use Rattle.gn_node_set.specs.Meanings.{Has, Node, AllDiffer, selected, Meanings}
use Rattle.gn_node_set.proofs.Lists.{has_first, has_second, has_either}
use Rattle.gn_exec_laws.specs.Graphs.{links_read}
use Rattle.gn_exec_laws.specs.Fits.{paths_of}
use Rattle.gn_exec_laws.specs.Machine.{Event, Take, Finish, Serve, Refuse, reads, Ready, Allowed}
use Rattle.gn_uses.specs.declared.nodes.Choice.{Choice}
use Rattle.gn_uses.specs.declared.nodes.Role.{Role}
use Rattle.gn_uses.specs.Nodes as numbers
use Rattle.gn_uses.specs.Uses.{Uses, IsExact, TakesFirst}
use Rattle.gn_nodes.specs.declared.values.Answer.{Answer}
use Rattle.gn_exec_core.specs.declared.state.Happened.{Happened}
use Rattle.gn_exec_core.specs.declared.state.Happened.TheVariants as happened
use Rattle.gn_nodes.specs.Values.{answer_of}
use Rattle.gn_exec_core.specs.States.{State, events_of, outputs_in, seen, any_refuses, unset, HasFlags, job, now, IsReached}
use Rattle.gn_exec_core.specs.Holds.{present, AreNumbered, AreTaken}
use Rattle.gn_exec_core.specs.Jobs.{Holds}
use Rattle.gn_exec_core.specs.Finishes.{HandsOn}
use Rattle.gn_readers.specs.declared.place.Reader.{Reader}
use Rattle.gn_exec_core.proofs.Refusals.{events_push}
use Rattle.gn_exec_core.proofs.Using.{at_node}
use Rattle.gn_exec_core.proofs.Readying.{ready_found, found_ready, values_read}

take_hands_nothing : {V : Type 0} (journal : List (Happened V)) (worker node : ℕ) → outputs_in (journal ++ happened.Take worker node ∷ []) ≡ outputs_in journal
take_hands_nothing [] worker node = refl
take_hands_nothing (happened.Take w n ∷ journal) worker node = take_hands_nothing journal worker node
take_hands_nothing (happened.Finish w n outputs ∷ journal) worker node = ap (λ xs. outputs.value.items ∷ xs) (take_hands_nothing journal worker node)
take_hands_nothing (happened.Serve n answer ∷ journal) worker node = take_hands_nothing journal worker node
take_hands_nothing (happened.Refuse w ∷ journal) worker node = take_hands_nothing journal worker node

pub seen_take : {K V : Type 0} (graph : Nodes K) (given : List V) (journal : List (Happened V)) (worker node : ℕ)
    → seen graph given (journal ++ happened.Take worker node ∷ []) ≡ record (seen graph given journal) { events = Take worker node ∷ events_of journal }
seen_take graph given journal worker node =
    λ i. record { graph = graph; given = given; events = events_push journal (happened.Take worker node) i; handed = ap reverse (take_hands_nothing journal worker node) i }

pub unset_within : (flags : List Bool) → unset flags ≤ length flags
unset_within [] = omega arith
unset_within (flag ∷ flags) =
    let rest : unset flags ≤ length flags = unset_within flags in
    let step : unset (flag ∷ flags) ≡ (if flag then 0 else 1) + unset flags = sum_by-cons (λ f. if f then 0 else 1) flag flags in
    let small : (if flag then 0 else 1) ≤ 1 = at_most flag in
    omega (arith, rest, step, small)
  where
    at_most : (flag : Bool) → (if flag then 0 else 1) ≤ 1
    at_most true = omega arith
    at_most false = omega arith

pub flags_taken : (flags : List Bool) (es : List Event) (room room' worker node : ℕ) → HasFlags flags es room → length es + 65 ≤ room' → HasFlags flags (Take worker node ∷ es) room'
flags_taken flags es room room' worker node h more = record {
  flagged = h.flagged;
  workers = h.workers;
  fits = let few : unset flags ≤ length flags = unset_within flags in omega (arith, h.workers, few, more);
}

pub none_refused : (es : List Event) → any_refuses es ≡ false → (v : ℕ) → ¬ Has es (Refuse v)
none_refused [] e v h = h
none_refused (Refuse w ∷ es) e v h = cc
none_refused (Take w n ∷ es) e v (inl q) = cc
none_refused (Take w n ∷ es) e v (inr h) = none_refused es e v h
none_refused (Finish w n ∷ es) e v (inl q) = cc
none_refused (Finish w n ∷ es) e v (inr h) = none_refused es e v h
none_refused (Serve n a ∷ es) e v (inl q) = cc
none_refused (Serve n a ∷ es) e v (inr h) = none_refused es e v h

taken_with : (ns : List ℕ) (es : List Event) (worker n : ℕ) → AreTaken ns es → AreTaken (ns ++ n ∷ []) (Take worker n ∷ es)
taken_with ns es worker n t k = (
  λ h. elim (has_either ns (n ∷ []) k h) [
    | inl a ↦ let v = (t k).0 a in (v.0, inr v.1)
    | inr b ↦ (worker, inl (ap (Take worker) (only k b)))
  ],
  λ v. by v.0 v.1,
)
  where
    only : (k : ℕ) → Has (n ∷ []) k → k ≡ n
    only k (inl e) = e
    only k (inr f) = absurd f

    by : (v : ℕ) → Has (Take worker n ∷ es) (Take v k) → Has (ns ++ n ∷ []) k
    by v (inl e) = let same : k ≡ n = cc in has_second ns (n ∷ []) k (inl same)
    by v (inr h) = has_first ns (n ∷ []) k ((t k).1 (v, h))

module _ {G H K V S T : Type 0} (m : Meanings K V S T) (kind_of : G → K) (content : H → V) (s : State G H) (u : Uses) (choices : List (Option Choice)) (rows : List (List (Option H))) (answers : List (Option Answer)) (h : Holds m kind_of content s u choices rows answers) (reached : IsReached m kind_of content s) (exact : IsExact u) where
  abbrev pub differ : AllDiffer (paths_of (now m kind_of content s).graph)
  differ = subst (λ ns. AllDiffer (paths_of ns)) (sym h.numbered.nodes) reached.start.differ

  -- where the numbers find no node ready, none is
  pub none_ready : u.ready ≡ [] → (n : ℕ) (node : Node K V) → ¬ Ready m (job m kind_of content s) s.events n node
  none_ready e n node r =
      subst (λ ns. Has ns n) e ((exact.ready n).1 (found_ready m kind_of content s.graph (map content s.given) s.events u h.numbered h.conditions h.ordered differ h.taken n node r))

  module _ (worker n : ℕ) (u' : Uses) (t : TakesFirst u (Some n) u') where
    abbrev s' : State G H
    s' = record s { events = Take worker n ∷ s.events }

    abbrev pub ready : (at : GraphNode G) × (slice_get s.graph.nodes n ≡ Some at) × Ready m (job m kind_of content s) s.events n (at_node m kind_of s.graph (map content s.given) at)
    ready = ready_found m kind_of content s.graph (map content s.given) s.events u h.numbered h.conditions h.ordered differ h.taken n ((exact.ready n).0 (subst (λ ns. Has ns n) (sym t.0) (inl refl)))

    -- the job is one of a node that the worker may take
    pub allowed : any_refuses s.events ≡ false → Allowed m (job m kind_of content s) s.events (Take worker n)
    allowed none = ((at_node m kind_of s.graph (map content s.given) ready.0, ready.2), none_refused s.events none)

    not_taken : ¬ Has u.taken n
    not_taken has = let v = (h.taken n).0 has in ready.2.fresh v.0 v.1

    pub inputs_read : (role : Role) → numbers.role_of role ≡ m.rows.role (kind_of ready.0.kind)
        → map content (present (selected (numbers.role_of role) (numbers.choice_of (slice_index_or choices n None)) (slice_index_or rows n [])))
        ≡ map (reads m (now m kind_of content s)) (links_read m (reads m (now m kind_of content s)) (at_node m kind_of s.graph (map content s.given) ready.0))
    inputs_read role is =
        let i = h.numbered.each n ready.0 ready.1 in
        ap (λ r. map content (present (selected r (numbers.choice_of (slice_index_or choices n None)) (slice_index_or rows n [])))) (is ∙ sym i.role)
        ∙ ap (λ cs. map content (present (selected (numbers.role_of (numbers.role u.nodes n)) (numbers.choice_of (slice_index_or cs n None)) (slice_index_or rows n [])))) h.choices
        ∙ values_read m kind_of content s.graph (map content s.given) s.events u h.numbered h.conditions h.ordered differ h.taken n ready.0 ready.1 ready.2 (slice_index_or rows n []) (h.kept n ready.0 ready.1 not_taken)

    pub answer_read : option_map answer_of (slice_index_or answers n None) ≡ (now m kind_of content s).answers ready.0.path.steps.items
    answer_read = h.answers n ready.0 ready.1 not_taken

    pub reached_after : any_refuses s.events ≡ false → IsReached m kind_of content s'
    reached_after none = record { start = reached.start; run = (allowed none, reached.run) }

    pub holds_after : (rows' : List (List (Option H))) (answers' : List (Option Answer))
        → ((k : ℕ) → k ≢ n → slice_index_or rows' k [] ≡ slice_index_or rows k [])
        → ((k : ℕ) → k ≢ n → slice_index_or answers' k None ≡ slice_index_or answers k None)
        → Holds m kind_of content s' u' choices rows' answers'
    holds_after rows' answers' same same_answer =
        let nodes : u'.nodes ≡ u.nodes = ap (λ x. x.nodes) t.1 in
        let taken : u'.taken ≡ u.taken ++ n ∷ [] = ap (λ x. x.taken) t.1 in
        record {
          numbered = subst (AreNumbered m kind_of s.graph (map content s.given) (now m kind_of content s)) (sym nodes) h.numbered;
          conditions = h.conditions;
          ordered = h.ordered;
          taken = subst (λ ns. AreTaken ns (Take worker n ∷ s.events)) (sym taken) (taken_with u.taken s.events worker n h.taken);
          choices = h.choices ∙ ap (λ g. g.choices) (sym nodes);
          kept = λ k at e fresh. ap (map (option_map content)) (same k (λ q. fresh (subst (λ ns. Has ns k) (sym taken) (has_second u.taken (n ∷ []) k (inl q)))))
              ∙ h.kept k at e (λ has. fresh (subst (λ ns. Has ns k) (sym taken) (has_first u.taken (n ∷ []) k has)));
          answers = λ k at e fresh. ap (option_map answer_of) (same_answer k (λ q. fresh (subst (λ ns. Has ns k) (sym taken) (has_second u.taken (n ∷ []) k (inl q)))))
              ∙ h.answers k at e (λ has. fresh (subst (λ ns. Has ns k) (sym taken) (has_first u.taken (n ∷ []) k has)));
        }

-- a refusal leaves all that holds
taken_refused : (ns : List ℕ) (es : List Event) (worker : ℕ) → AreTaken ns es → AreTaken ns (Refuse worker ∷ es)
taken_refused ns es worker t k = (λ h. let v = (t k).0 h in (v.0, inr v.1), λ v. by v.0 v.1)
  where
    by : (v : ℕ) → Has (Refuse worker ∷ es) (Take v k) → Has ns k
    by v (inl e) = cc
    by v (inr h) = (t k).1 (v, h)

pub holds_refused : {G H K V S T : Type 0} (m : Meanings K V S T) (kind_of : G → K) (content : H → V) (s : State G H) (u : Uses) (choices : List (Option Choice)) (rows : List (List (Option H))) (answers : List (Option Answer)) (worker : ℕ)
    → Holds m kind_of content s u choices rows answers → Holds m kind_of content (record s { events = Refuse worker ∷ s.events }) u choices rows answers
holds_refused m kind_of content s u choices rows answers worker h = record {
  numbered = h.numbered;
  conditions = h.conditions;
  ordered = h.ordered;
  taken = taken_refused u.taken s.events worker h.taken;
  choices = h.choices;
  kept = h.kept;
  answers = h.answers;
}

pub hands_refused : {G H K V S T : Type 0} (m : Meanings K V S T) (kind_of : G → K) (content : H → V) (s : State G H) (readers : List (List Reader)) (roots : List (Option H)) (worker : ℕ) → HandsOn m kind_of content s readers roots → HandsOn m kind_of content (record s { events = Refuse worker ∷ s.events }) readers roots
hands_refused m kind_of content s readers roots worker h = record { readers = h.readers; roots = h.roots }
