-- What an answer to an import leaves.
use Rattle.std.proofs.Common.{◌≡◌, ◌≢◌, ◌⊎◌, inl, inr, ℕ, ◌+◌, ◌<◌, ◌≤◌, Bool, true, false, List, [], ◌∷◌, ◌++◌, map, length, get_or, set, reverse, Option, Some, None, refl, sym, ap, ◌∙◌, subst, arith, if◌then◌else◌}
use Rattle.std.specs.Prelude.{is_some, unwrap_or, slice_get, slice_index_or, option_map}
use Rattle.std.proofs.lemmas.List.{get_or-set_same, get_or-set_other}
use Rattle.gn_lazy.specs.Graphs.{Nodes}
use Rattle.gn_lazy.specs.declared.graph.GraphNode.{GraphNode}
use Rattle.gn_node_set.specs.Meanings.{Has, Source, a_value, an_item, an_output, Link, along, Node, AllDiffer, Meanings}
use Rattle.gn_node_set.specs.Meanings as meant
use Rattle.gn_node_set.specs.Paths.{with_entry}
use Rattle.gn_node_set.proofs.Lists.{some_same, one_place, map_equal}
use Rattle.gn_node_set.proofs.Paths.{entry_here, entry_other}
use Rattle.gn_exec_laws.specs.Graphs.{condition, choice_of, link_value}
use Rattle.gn_exec_laws.specs.Fits.{paths_of}
use Rattle.gn_exec_laws.specs.Machine.{Event, Take, Serve, World, link_now, is_there, is_set, set_outputs, reads, serve_node, condition_set, Awaits}
use Rattle.gn_uses.specs.declared.nodes.Choice.{Choice}
use Rattle.gn_uses.specs.Nodes as numbers
use Rattle.gn_uses.specs.Nodes.{with_answer}
use Rattle.gn_uses.specs.Uses.{Uses, Changes}
use Rattle.gn_uses.proofs.Lists.{same_number}
use Rattle.gn_nodes.specs.declared.values.Answer.{Answer}
use Rattle.gn_nodes.specs.declared.values.Answer.TheVariants.{Absent}
use Rattle.gn_exec_core.specs.declared.state.Happened.{Happened}
use Rattle.gn_exec_core.specs.declared.state.Happened.TheVariants as happened
use Rattle.gn_nodes.specs.Values.{answer_of}
use Rattle.gn_exec_core.specs.States.{State, event_of, events_of, outputs_in, seen, any_refuses, unset, HasFlags, job, now, IsReached}
use Rattle.gn_nodes.specs.Calls.{choice_as, chosen_as}
use Rattle.gn_exec_core.specs.Holds.{value_now, AreNumbered, AreTaken}
use Rattle.gn_exec_core.specs.Jobs.{Holds}
use Rattle.gn_exec_core.specs.Finishes.{HandsOn}
use Rattle.gn_readers.specs.declared.place.Reader.{Reader}
use Rattle.gn_exec_core.specs.Waits.{served_by, MayServe, Tallies}
use Rattle.gn_exec_core.proofs.Refusals.{events_push, events_counted}
use Rattle.gn_exec_core.proofs.Using.{inside, at_node, in_world, from_world}
use Rattle.gn_exec_core.proofs.Taking.{unset_within, none_refused}
use Rattle.gn_exec_core.proofs.Handing.{flags_more}
use Rattle.gn_exec_core.proofs.Tallying.{tallied_serve}

-- ---- worlds with the same values

module _ {K V S T : Type 0} (m : Meanings K V S T) (w v : World K V) (set : v.set ≡ w.set) (leads : v.leads ≡ w.leads) where
  there_same : (y : Source V) → is_there v y ≡ is_there w y
  there_same (a_value u) = refl
  there_same (an_item i) = refl
  there_same (an_output p s) = ap (λ f. is_some (f p)) set

  pub set_same : (x : Source V) → is_set v x ≡ is_set w x
  set_same x = ap (λ f. is_there v (f x).from) leads ∙ there_same (w.leads x).from

  pub read_same : (l : Link V) → reads m v l ≡ reads m w l
  read_same l =
      ap (λ f. link_value m (set_outputs m v) (along (f l.from) l.through)) leads
      ∙ ap (λ f. link_value m (λ p. unwrap_or (f p) []) (link_now w l)) set

  pub value_same : (l : Link V) → value_now m v l ≡ value_now m w l
  value_same l = ap (λ b. if b then Some (reads m v l) else None) (set_same l.from) ∙ ap (λ x. if is_set w l.from then Some x else None) (read_same l)

  pub condition_same : (links : List (Link V)) → condition_set m v links ≡ condition_set m w links
  condition_same [] = refl
  condition_same (l ∷ links) = set_same l.from

  choice_by : (kind : K) (links : List (Link V)) → m.rows.choice kind (condition m (reads m v) links) ≡ m.rows.choice kind (condition m (reads m w) links)
  choice_by kind [] = refl
  choice_by kind (l ∷ links) = ap (m.rows.choice kind) (read_same l)

  pub choice_same : (node : Node K V) → choice_of m (reads m v) node ≡ choice_of m (reads m w) node
  choice_same node = choice_by node.kind node.links

-- ---- the journal

serve_hands_nothing : {V : Type 0} (journal : List (Happened V)) (last : Happened V) → outputs_in (last ∷ []) ≡ [] → outputs_in (journal ++ last ∷ []) ≡ outputs_in journal
serve_hands_nothing [] last none = none
serve_hands_nothing (happened.Take w n ∷ journal) last none = serve_hands_nothing journal last none
serve_hands_nothing (happened.Finish w n outputs ∷ journal) last none = ap (λ xs. outputs.value.items ∷ xs) (serve_hands_nothing journal last none)
serve_hands_nothing (happened.Serve n answer ∷ journal) last none = serve_hands_nothing journal last none
serve_hands_nothing (happened.Refuse w ∷ journal) last none = serve_hands_nothing journal last none

pub flags_served : (flags : List Bool) (es : List Event) (room room' n : ℕ) (a : meant.Answer) → HasFlags flags es room → length es + 65 ≤ room' → HasFlags flags (Serve n a ∷ es) room'
flags_served flags es room room' n a h more = record {
  flagged = h.flagged;
  workers = h.workers;
  fits = let few : unset flags ≤ length flags = unset_within flags in omega (arith, h.workers, few, more);
}

taken_served : (ns : List ℕ) (es : List Event) (n : ℕ) (a : meant.Answer) → AreTaken ns es → AreTaken ns (Serve n a ∷ es)
taken_served ns es n a t k = (λ h. let v = (t k).0 h in (v.0, inr v.1), λ v. by v.0 v.1)
  where
    by : (v : ℕ) → Has (Serve n a ∷ es) (Take v k) → Has ns k
    by v (inl e) = cc
    by v (inr h) = (t k).1 (v, h)

-- ---- one answer

module _ {G H K V S T : Type 0} (m : Meanings K V S T) (kind_of : G → K) (content : H → V) (s : State G H) (u : Uses) (made : List (Option Choice)) (rows : List (List (Option H))) (got : List (Option Answer))
    (h : Holds m kind_of content s u made rows got) (reached : IsReached m kind_of content s) (n : ℕ) (a : Answer) (x : Node K V) (waits : Awaits m (job m kind_of content s) s.events n x) where
  abbrev w : World K V
  w = now m kind_of content s

  abbrev v : World K V
  v = record w { answers = with_entry x.path (answer_of a) w.answers }

  abbrev s' : State G H
  s' = served_by s n (answer_of a)

  abbrev node : GraphNode G → Node K V
  node = at_node m kind_of s.graph (map content s.given)

  pub after : now m kind_of content s' ≡ v
  after = ap (serve_node m w (answer_of a)) waits.there

  differ : AllDiffer (paths_of w.graph)
  differ = subst (λ ns. AllDiffer (paths_of ns)) (sym h.numbered.nodes) reached.start.differ

  pub here : (at : GraphNode G) × (slice_get s.graph.nodes n ≡ Some at) × (node at ≡ x)
  here = from_world m kind_of s.graph (map content s.given) w u.nodes h.numbered n x waits.there

  pub below : n < length s.graph.nodes
  below = inside s.graph.nodes n here.0 here.1

  -- another node has another path
  other_path : (k : ℕ) (at : GraphNode G) → slice_get s.graph.nodes k ≡ Some at → k ≢ n → x.path ≢ at.path.steps.items
  other_path k at e d same =
      d (one_place (λ y. y.path) w.graph differ k n (node at) x (in_world m kind_of s.graph (map content s.given) w u.nodes h.numbered k at e) waits.there (sym same))

  same_path : (k : ℕ) (at : GraphNode G) → slice_get s.graph.nodes k ≡ Some at → k ≡ n → x.path ≡ at.path.steps.items
  same_path k at e d =
      let is : here.0 ≡ at = some_same (sym here.1 ∙ ap (λ j. slice_get s.graph.nodes j) (sym d) ∙ e) in
      ap (λ y. y.path) (sym here.2) ∙ ap (λ y. y.path.steps.items) is

  answer_now : (k : ℕ) (at : GraphNode G) → slice_get s.graph.nodes k ≡ Some at → k ≡ n → v.answers at.path.steps.items ≡ Some (answer_of a)
  answer_now k at e d = ap v.answers (sym (same_path k at e d)) ∙ entry_here x.path (answer_of a) w.answers

  answer_still : (k : ℕ) (at : GraphNode G) → slice_get s.graph.nodes k ≡ Some at → k ≢ n → v.answers at.path.steps.items ≡ w.answers at.path.steps.items
  answer_still k at e d = entry_other x.path (answer_of a) w.answers at.path.steps.items (other_path k at e d)

  module _ (whole : length u.nodes.answered ≡ length s.graph.nodes) where
    answered_by : (k : ℕ) (at : GraphNode G) → slice_get s.graph.nodes k ≡ Some at → (k ≡ n) ⊎ (k ≢ n) → numbers.answered (with_answer u.nodes n) k ≡ is_some (v.answers at.path.steps.items)
    answered_by k at e (inl d) =
        let there : n < length u.nodes.answered = omega (arith, below, whole) in
        ap (λ j. get_or (set u.nodes.answered n true) j false) d
        ∙ get_or-set_same u.nodes.answered n true false there
        ∙ sym (ap is_some (answer_now k at e d))
    answered_by k at e (inr d) =
        get_or-set_other u.nodes.answered n k true false d
        ∙ (h.numbered.each k at e).answered
        ∙ sym (ap is_some (answer_still k at e d))

    numbered_after : AreNumbered m kind_of s.graph (map content s.given) v (with_answer u.nodes n)
    numbered_after = record {
      nodes = h.numbered.nodes;
      each = λ k at e.
          let i = h.numbered.each k at e in
          record {
            role = i.role;
            inputs = i.inputs;
            choice = i.choice
                ∙ ap (λ b. choice_as (m.rows.role (kind_of at.kind)) b (choice_of m (reads m w) (node at))) (sym (condition_same m w v refl refl (node at).links))
                ∙ ap (choice_as (m.rows.role (kind_of at.kind)) (condition_set m v (node at).links)) (sym (choice_same m w v refl refl (node at)));
            chosen = i.chosen ∙ ap (chosen_as (m.rows.role (kind_of at.kind))) (sym (condition_same m w v refl refl (node at).links));
            filled = i.filled ∙ map_equal (λ l. is_set w l.from) (λ l. is_set v l.from) (node at).links (λ l has. sym (set_same m w v refl refl l.from));
            answered = answered_by k at e (same_number k n);
          };
      roots = h.numbered.roots;
      no_results = h.numbered.no_results;
      shut = h.numbered.shut;
    }

    module _ (u' : Uses) (change : Changes u (with_answer u.nodes n) u') (got' : List (Option Answer)) (gets : slice_index_or got' n None ≡ Some a) (others : (k : ℕ) → k ≢ n → slice_index_or got' k None ≡ slice_index_or got k None) where
      answer_kept : (k : ℕ) (at : GraphNode G) → slice_get s.graph.nodes k ≡ Some at → (¬ Has u'.taken k) → (k ≡ n) ⊎ (k ≢ n) → option_map answer_of (slice_index_or got' k None) ≡ v.answers at.path.steps.items
      answer_kept k at e fresh (inl d) =
          ap (λ j. option_map answer_of (slice_index_or got' j None)) d ∙ ap (option_map answer_of) gets ∙ sym (answer_now k at e d)
      answer_kept k at e fresh (inr d) =
          ap (option_map answer_of) (others k d) ∙ h.answers k at e (λ has. fresh (subst (λ ns. Has ns k) (sym change.taken) has)) ∙ sym (answer_still k at e d)

      holds_at : (world : World K V) → world ≡ v → AreNumbered m kind_of s.graph (map content s.given) world u'.nodes
      holds_at world is = subst (λ y. AreNumbered m kind_of s.graph (map content s.given) y u'.nodes) (sym is) (subst (AreNumbered m kind_of s.graph (map content s.given) v) (sym change.nodes) numbered_after)

      pub holds_served : Holds m kind_of content s' u' made rows got'
      holds_served = record {
        numbered = holds_at (now m kind_of content s') after;
        conditions = h.conditions;
        ordered = h.ordered;
        taken = subst (λ ns. AreTaken ns (Serve n (answer_of a) ∷ s.events)) (sym change.taken) (taken_served u.taken s.events n (answer_of a) h.taken);
        choices = h.choices ∙ ap (λ g. g.choices) (sym change.nodes);
        kept = λ k at e fresh.
            h.kept k at e (λ has. fresh (subst (λ ns. Has ns k) (sym change.taken) has))
            ∙ map_equal (value_now m w) (value_now m (now m kind_of content s')) (node at).links
            (λ l has. sym (ap (λ y. value_now m y l) after ∙ value_same m w v refl refl l));
        answers = λ k at e fresh. answer_kept k at e fresh (same_number k n) ∙ sym (ap (λ y. y.answers at.path.steps.items) after);
      }

  pub hands_served : (readers : List (List Reader)) (roots : List (Option H)) → HandsOn m kind_of content s readers roots → HandsOn m kind_of content s' readers roots
  hands_served readers roots hands = record {
    readers = hands.readers;
    roots = hands.roots
        ∙ map_equal (value_now m w) (value_now m (now m kind_of content s')) (job m kind_of content s).roots (λ l has. sym (ap (λ y. value_now m y l) after ∙ value_same m w v refl refl l));
  }

  pub reached_served : any_refuses s.events ≡ false → IsReached m kind_of content s'
  reached_served none = record { start = reached.start; run = (((x, waits), none_refused s.events none), reached.run) }

-- ---- the same by the journal

pub seen_serve : {K V : Type 0} (graph : Nodes K) (given : List V) (journal : List (Happened V)) (last : Happened V) (n : ℕ) (a : meant.Answer)
    → event_of last ≡ Serve n a → outputs_in (last ∷ []) ≡ [] → seen graph given (journal ++ last ∷ []) ≡ served_by (seen graph given journal) n a
seen_serve graph given journal last n a is none =
    λ i. record { graph = graph; given = given; events = (events_push journal last ∙ ap (λ e. e ∷ events_of journal) is) i; handed = ap reverse (serve_hands_nothing journal last none) i }

-- room for more answers, and for more events, changes nothing that holds
pub still_holds : {G H K V S T : Type 0} (m : Meanings K V S T) (kind_of : G → K) (content : H → V) (s : State G H) (u : Uses) (made : List (Option Choice)) (rows : List (List (Option H))) (got got' : List (Option Answer))
    → Holds m kind_of content s u made rows got → ((k : ℕ) → slice_index_or got' k None ≡ slice_index_or got k None) → Holds m kind_of content s u made rows got'
still_holds m kind_of content s u made rows got got' h same = record {
  numbered = h.numbered;
  conditions = h.conditions;
  ordered = h.ordered;
  taken = h.taken;
  choices = h.choices;
  kept = h.kept;
  answers = λ k at e fresh. ap (option_map answer_of) (same k) ∙ h.answers k at e fresh;
}

module _ {G H K V S T : Type 0} (m : Meanings K V S T) (kind_of : G → K) (content : H → V) (graph : Nodes G) (given : List H) (journal : List (Happened H)) (flags : List Bool) (room : ℕ)
    (u : Uses) (made : List (Option Choice)) (rows : List (List (Option H))) (got : List (Option Answer)) (done unanswered : List Bool) (slots running : ℕ)
    (flagged : HasFlags flags (events_of journal) room) (reached : IsReached m kind_of content (seen graph given journal)) (holds : Holds m kind_of content (seen graph given journal) u made rows got)
    (tallies : Tallies graph.nodes (events_of journal) u.nodes done unanswered slots running) (state : State G H) (view : seen graph given journal ≡ state) where
  abbrev pub IsKept : List (Happened H) → ℕ → Uses → List (Option Answer) → List Bool → ℕ → Type 0
  IsKept journal' room' u' got' unanswered' slots' =
      HasFlags flags (events_of journal') room' × IsReached m kind_of content (seen graph given journal') × Holds m kind_of content (seen graph given journal') u' made rows got' × Tallies graph.nodes (events_of journal') u'.nodes done unanswered' slots' running

  -- with more room
  pub room_made : (journal' : List (Happened H)) (room' : ℕ) → journal' ≡ journal → room ≤ room' → IsKept journal' room' u got unanswered slots
  room_made journal' room' is more = subst (λ j. IsKept j room' u got unanswered slots) (sym is) (flags_more flags (events_of journal) room room' flagged more, reached, holds, tallies)

  module _ (n : ℕ) (may : MayServe m kind_of content state n) (free : any_refuses state.events ≡ false) where
    waits : MayServe m kind_of content (seen graph given journal) n
    waits = subst (λ s. MayServe m kind_of content s n) (sym view) may

    none : any_refuses (events_of journal) ≡ false
    none = ap (λ s. any_refuses s.events) view ∙ free

    pub serve_below : n < length graph.nodes
    serve_below = below m kind_of content (seen graph given journal) u made rows got holds reached n Absent waits.0 waits.1

    -- with one answer more
    pub answer_made : (a : Answer) (last : Happened H) (journal' : List (Happened H)) (room' : ℕ) (u' : Uses) (got' : List (Option Answer))
        → event_of last ≡ Serve n (answer_of a) → outputs_in (last ∷ []) ≡ [] → journal' ≡ journal ++ last ∷ [] → length journal + 65 ≤ room'
        → Changes u (with_answer u.nodes n) u' → slice_index_or got' n None ≡ Some a → ((k : ℕ) → k ≢ n → slice_index_or got' k None ≡ slice_index_or got k None) → length got' ≡ slots
        → IsKept journal' room' u' got' (set unanswered n false) (length got')
    answer_made a last journal' room' u' got' event nothing is more change gets others still =
        let count = events_counted journal in
        let seen_is : seen graph given journal' ≡ served_by (seen graph given journal) n (answer_of a) = ap (seen graph given) is ∙ seen_serve graph given journal last n (answer_of a) event nothing in
        let events_are : events_of journal' ≡ Serve n (answer_of a) ∷ events_of journal = ap (λ s. s.events) seen_is in (
          subst (λ es. HasFlags flags es room') (sym events_are) (flags_served flags (events_of journal) room room' n (answer_of a) flagged (omega (arith, count, more))),
          subst (IsReached m kind_of content) (sym seen_is) (reached_served m kind_of content (seen graph given journal) u made rows got holds reached n a waits.0 waits.1 none),
          subst (λ s. Holds m kind_of content s u' made rows got') (sym seen_is)
              (holds_served m kind_of content (seen graph given journal) u made rows got holds reached n a waits.0 waits.1 tallies.all.answered u' change got' gets others),
          subst (λ es. Tallies graph.nodes es u'.nodes done (set unanswered n false) (length got') running) (sym events_are)
              (tallied_serve graph.nodes (events_of journal) done unanswered slots running u u' n (answer_of a) change serve_below tallies (length got') still),
        )

    pub hands_made : (readers : List (List Reader)) (roots : List (Option H)) → HandsOn m kind_of content (seen graph given journal) readers roots → (a : Answer) (last : Happened H) (journal' : List (Happened H)) → event_of last ≡ Serve n (answer_of a) → outputs_in (last ∷ []) ≡ [] → journal' ≡ journal ++ last ∷ []
        → HandsOn m kind_of content (seen graph given journal') readers roots
    hands_made readers roots hands a last journal' event nothing is =
        subst (λ s. HandsOn m kind_of content s readers roots) (sym (ap (seen graph given) is ∙ seen_serve graph given journal last n (answer_of a) event nothing))
        (hands_served m kind_of content (seen graph given journal) u made rows got holds reached n a waits.0 waits.1 readers roots hands)

    pub seen_answer : (a : Answer) (last : Happened H) (journal' : List (Happened H)) → event_of last ≡ Serve n (answer_of a) → outputs_in (last ∷ []) ≡ [] → journal' ≡ journal ++ last ∷ [] → seen graph given journal' ≡ served_by state n (answer_of a)
    seen_answer a last journal' event nothing is = ap (seen graph given) is ∙ seen_serve graph given journal last n (answer_of a) event nothing ∙ ap (λ s. served_by s n (answer_of a)) view
