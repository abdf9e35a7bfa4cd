-- A take, by what the state keeps.
use Rattle.std.proofs.Common.{◌≡◌, ◌≢◌, ℕ, ◌+◌, ◌≤◌, Bool, false, List, [], ◌∷◌, ◌++◌, map, length, Option, Some, None, refl, sym, ap, ◌∙◌, subst, arith}
use Rattle.std.specs.Prelude.{slice_get, slice_index_or, option_map}
use Rattle.gn_lazy.specs.Graphs.{Nodes}
use Rattle.gn_lazy.specs.declared.graph.GraphNode.{GraphNode}
use Rattle.gn_node_set.specs.Meanings.{Node, selected, Meanings}
use Rattle.gn_node_set.proofs.Lists.{some_same, not_both}
use Rattle.gn_exec_laws.specs.Machine.{Event, Take, Ready, Allowed}
use Rattle.gn_uses.specs.declared.nodes.Choice.{Choice}
use Rattle.gn_uses.specs.declared.nodes.Role.{Role}
use Rattle.gn_uses.specs.Nodes as numbers
use Rattle.gn_uses.specs.Uses.{Uses, IsExact, TakesFirst}
use Rattle.gn_nodes.specs.declared.values.Answer.{Answer}
use Rattle.gn_exec_core.specs.declared.state.Happened.{Happened}
use Rattle.gn_exec_core.specs.declared.state.Happened.TheVariants as happened
use Rattle.gn_exec_core.specs.declared.jobs.Job.{Job}
use Rattle.gn_exec_core.specs.States.{State, events_of, seen, any_refuses, HasFlags, job, now as now_of, IsReached}
use Rattle.gn_exec_core.specs.Holds.{present}
use Rattle.gn_exec_core.specs.Jobs.{IsJob, Holds}
use Rattle.gn_exec_core.specs.Finishes.{HandsOn}
use Rattle.gn_readers.specs.declared.place.Reader.{Reader}
use Rattle.gn_nodes.specs.Values.{answer_of}
use Rattle.gn_exec_core.proofs.Using.{at_node}
use Rattle.gn_exec_core.proofs.Refusals.{events_counted}
use Rattle.gn_exec_core.proofs.Taking.{seen_take, flags_taken, none_ready, ready, allowed, inputs_read, answer_read, reached_after, holds_after}

-- one take more
abbrev pub with_take : {K V : Type 0} → State K V → ℕ → ℕ → State K V
with_take s worker node = record s { events = Take worker node ∷ s.events }

pub hands_taken : {G H K V S T : Type 0} (m : Meanings K V S T) (kind_of : G → K) (content : H → V) (s : State G H) (readers : List (List Reader)) (roots : List (Option H)) (worker n : ℕ) → HandsOn m kind_of content s readers roots → HandsOn m kind_of content (with_take s worker n) readers roots
hands_taken m kind_of content s readers roots worker n h = record { readers = h.readers; roots = h.roots }

pub first_none : {A : Type 0} (xs : List A) → slice_get xs 0 ≡ None → xs ≡ []
first_none [] e = refl
first_none (x ∷ xs) e = let bad : Some x ≡ None = e in cc

-- the number that is taken is the first one
pub takes_first : (u u' : Uses) (r : Option ℕ) (n : ℕ) → TakesFirst u r u' → slice_get u.ready 0 ≡ Some n → TakesFirst u (Some n) u'
takes_first u u' None n t e = absurd (not_both (ap (λ xs. slice_get xs 0) t.0) e)
takes_first u u' (Some k) n t e =
    let same : k ≡ n = some_same (sym (ap (λ xs. slice_get xs 0) t.0) ∙ e) in
    subst (λ j. TakesFirst u (Some j) u') same t

one_first : {A : Type 0} (xs : List A) (x : A) → slice_get xs 0 ≡ Some x → (ys : List A) × (xs ≡ x ∷ ys)
one_first [] x e = cc
one_first (y ∷ xs) x e = (xs, ap (λ z. z ∷ xs) (some_same e))

pub may_take : (u : Uses) (n : ℕ) → slice_get u.ready 0 ≡ Some n → (u' : Uses) × TakesFirst u (Some n) u'
may_take u n e = let t = one_first u.ready n e in (record u { taken = u.taken ++ n ∷ []; ready = t.0 }, (t.1, refl))

pub flags_more : (flags : List Bool) (es : List Event) (room room' : ℕ) → HasFlags flags es room → room ≤ room' → HasFlags flags es room'
flags_more flags es room room' h more = record { flagged = h.flagged; workers = h.workers; fits = omega (arith, h.fits, more) }

module _ {G H K V S T : Type 0} (m : Meanings K V S T) (kind_of : G → K) (content : H → V) (graph : Nodes G) (given : List H) (journal : List (Happened H)) (flags : List Bool) (room : ℕ)
    (u : Uses) (choices : List (Option Choice)) (rows : List (List (Option H))) (answers : List (Option Answer)) (now : State G H) (view : seen graph given journal ≡ now)
    (flagged : HasFlags flags (events_of journal) room) (reached : IsReached m kind_of content (seen graph given journal)) (holds : Holds m kind_of content (seen graph given journal) u choices rows answers) (exact : IsExact u) where
  pub none_now : slice_get u.ready 0 ≡ None → (n : ℕ) (node : Node K V) → ¬ Ready m (job m kind_of content now) now.events n node
  none_now e =
      subst (λ s. (n : ℕ) (node : Node K V) → ¬ Ready m (job m kind_of content s) s.events n node) view
      (none_ready m kind_of content (seen graph given journal) u choices rows answers holds reached exact (first_none u.ready e))

  -- the journal stays, with more room
  pub kept_all : (journal' : List (Happened H)) (room' : ℕ) → journal' ≡ journal → room ≤ room'
      → HasFlags flags (events_of journal') room' × IsReached m kind_of content (seen graph given journal') × Holds m kind_of content (seen graph given journal') u choices rows answers
  kept_all journal' room' same more = (
    subst (λ j. HasFlags flags (events_of j) room') (sym same) (flags_more flags (events_of journal) room room' flagged more),
    subst (λ j. IsReached m kind_of content (seen graph given j)) (sym same) reached,
    subst (λ j. Holds m kind_of content (seen graph given j) u choices rows answers) (sym same) holds,
  )

  module _ (worker n : ℕ) (u' : Uses) (t : TakesFirst u (Some n) u') where
    pub node_there : slice_get graph.nodes n ≡ None → ⊥
    node_there e = not_both e (ready m kind_of content (seen graph given journal) u choices rows answers holds reached exact worker n u' t).1

    pub taken_all : (journal' : List (Happened H)) (room' : ℕ) (rows' : List (List (Option H))) (answers' : List (Option Answer))
        → any_refuses (events_of journal) ≡ false → journal' ≡ journal ++ happened.Take worker n ∷ [] → length journal + 65 ≤ room'
        → ((k : ℕ) → k ≢ n → slice_index_or rows' k [] ≡ slice_index_or rows k [])
        → ((k : ℕ) → k ≢ n → slice_index_or answers' k None ≡ slice_index_or answers k None)
        → HasFlags flags (events_of journal') room' × IsReached m kind_of content (seen graph given journal') × Holds m kind_of content (seen graph given journal') u' choices rows' answers'
    taken_all journal' room' rows' answers' none last more same same_answer =
        let after = ap (seen graph given) last ∙ seen_take graph given journal worker n in
        let count = events_counted journal in (
          subst (λ es. HasFlags flags es room') (sym (ap (λ s. s.events) after)) (flags_taken flags (events_of journal) room room' worker n flagged (omega (arith, count, more))),
          subst (IsReached m kind_of content) (sym after) (reached_after m kind_of content (seen graph given journal) u choices rows answers holds reached exact worker n u' t none),
          subst (λ s. Holds m kind_of content s u' choices rows' answers') (sym after) (holds_after m kind_of content (seen graph given journal) u choices rows answers holds reached exact worker n u' t rows' answers' same same_answer),
        )

    pub job_is : (at : GraphNode G) → slice_get graph.nodes n ≡ Some at → (role : Role) → numbers.role_of role ≡ m.rows.role (kind_of at.kind) → any_refuses (events_of journal) ≡ false
        → (j : Job G H) → j.node ≡ n → j.path.steps.items ≡ at.path.steps.items → kind_of j.kind ≡ kind_of at.kind
        → j.inputs.items ≡ present (selected (numbers.role_of role) (numbers.choice_of (slice_index_or choices n None)) (slice_index_or rows n []))
        → j.answer ≡ slice_index_or answers n None → IsJob m kind_of content now worker j
    job_is at here role is none j number path kind inputs answer =
        let r = ready m kind_of content (seen graph given journal) u choices rows answers holds reached exact worker n u' t in
        let same : at ≡ r.0 = some_same (sym here ∙ r.1) in
        subst (λ s. IsJob m kind_of content s worker j) view
        (record {
          allowed = subst (λ k. Allowed m (job m kind_of content (seen graph given journal)) (events_of journal) (Take worker k)) (sym number) (allowed m kind_of content (seen graph given journal) u choices rows answers holds reached exact worker n u' t none);
          node = at_node m kind_of graph (map content given) r.0;
          number = ap (λ k. slice_get (now_of m kind_of content (seen graph given journal)).graph k) number ∙ r.2.there;
          path = path ∙ ap (λ a. a.path.steps.items) same;
          kind = kind ∙ ap (λ a. kind_of a.kind) same;
          inputs = ap (map content) inputs ∙ inputs_read m kind_of content (seen graph given journal) u choices rows answers holds reached exact worker n u' t role (is ∙ ap (λ a. m.rows.role (kind_of a.kind)) same);
          answer = ap (option_map answer_of) answer ∙ answer_read m kind_of content (seen graph given journal) u choices rows answers holds reached exact worker n u' t;
        })
