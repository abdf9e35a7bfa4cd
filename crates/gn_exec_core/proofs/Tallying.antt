-- Counts and flags beside the events.
use Rattle.std.proofs.Common.{◌≡◌, ◌≢◌, ◌⊎◌, inl, inr, ℕ, zero, suc, ◌+◌, ◌<◌, ◌≤◌, Bool, true, false, List, [], ◌∷◌, map, length, replicate, get_or, set, Option, Some, refl, sym, ap, ◌∙◌, subst, true≢false, arith}
use Rattle.std.specs.Prelude.{◌&&◌, not, is_none, nat_lt, slice_index_or, Decides}
use Rattle.std.proofs.lemmas.List.{get_or-set_same, get_or-set_other, length-set, length-map, length-replicate}
use Rattle.gn_lazy.specs.declared.graph.GraphNode.{GraphNode}
use Rattle.gn_node_set.specs.Meanings.{Has, Answer, Meanings}
use Rattle.gn_exec_laws.specs.Graphs.{Task}
use Rattle.gn_exec_laws.specs.Machine.{Event, Take, Finish, Serve, Refuse, IsRun}
use Rattle.gn_exec_laws.specs.Claims.{takes, finishes}
use Rattle.gn_exec_laws.specs.Fits.{IsLawful, is_file}
use Rattle.gn_node_set.proofs.Lists.{map_map, index_image}
use Rattle.gn_exec_laws.proofs.Counts.{was_taken, was_finished, takes_differ, finishes_differ, by_taker}
use Rattle.gn_exec_laws.proofs.Ends.{at_most_as_long}
use Rattle.gn_uses.specs.declared.nodes.Choice.{Choice}
use Rattle.gn_uses.specs.declared.nodes.Role.TheVariants as role
use Rattle.gn_uses.specs.Nodes as numbers
use Rattle.gn_uses.specs.Nodes.{with_answer}
use Rattle.gn_uses.specs.Sets.{has}
use Rattle.gn_uses.specs.Uses.{Uses, TakesFirst, Changes}
use Rattle.gn_uses.proofs.Lists.{same_number, true_or_false, is_member, member_is}
use Rattle.gn_exec_core.specs.Holds.{input_of}
use Rattle.gn_exec_core.specs.Starts.{HasNumbers}
use Rattle.gn_exec_core.specs.Waits.{IsBusy, AreAll, Tallies, waits_at}

-- ---- events by numbers

pub takes_within : (es : List Event) → length (takes es) ≤ length es
takes_within [] = omega arith
takes_within (Take v n ∷ es) = let rest : length (takes es) ≤ length es = takes_within es in let more : suc (length (takes es)) ≤ suc (length es) = omega arith in more
takes_within (Finish v n ∷ es) = let rest : length (takes es) ≤ length es = takes_within es in let more : length (takes es) ≤ suc (length es) = omega arith in more
takes_within (Serve n a ∷ es) = let rest : length (takes es) ≤ length es = takes_within es in let more : length (takes es) ≤ suc (length es) = omega arith in more
takes_within (Refuse v ∷ es) = let rest : length (takes es) ≤ length es = takes_within es in let more : length (takes es) ≤ suc (length es) = omega arith in more

take_in : (es : List Event) (v n : ℕ) → Has es (Take v n) → Has (takes es) n
take_in [] v n h = absurd h
take_in (Take w k ∷ es) v n (inl e) = inl (cc)
take_in (Take w k ∷ es) v n (inr h) = inr (take_in es v n h)
take_in (Finish w k ∷ es) v n (inl e) = absurd (cc)
take_in (Finish w k ∷ es) v n (inr h) = take_in es v n h
take_in (Serve k a ∷ es) v n (inl e) = absurd (cc)
take_in (Serve k a ∷ es) v n (inr h) = take_in es v n h
take_in (Refuse w ∷ es) v n (inl e) = absurd (cc)
take_in (Refuse w ∷ es) v n (inr h) = take_in es v n h

pub finish_in : (es : List Event) (v n : ℕ) → Has es (Finish v n) → Has (finishes es) n
finish_in [] v n h = absurd h
finish_in (Finish w k ∷ es) v n (inl e) = inl (cc)
finish_in (Finish w k ∷ es) v n (inr h) = inr (finish_in es v n h)
finish_in (Take w k ∷ es) v n (inl e) = absurd (cc)
finish_in (Take w k ∷ es) v n (inr h) = finish_in es v n h
finish_in (Serve k a ∷ es) v n (inl e) = absurd (cc)
finish_in (Serve k a ∷ es) v n (inr h) = finish_in es v n h
finish_in (Refuse w ∷ es) v n (inl e) = absurd (cc)
finish_in (Refuse w ∷ es) v n (inr h) = finish_in es v n h

-- a member of the second list that the first has not, or none
missing : (xs ys : List ℕ) → ((n : ℕ) → Has ys n → Has xs n) ⊎ ((n : ℕ) × Has ys n × (¬ Has xs n))
missing xs [] = inl (λ n h. absurd h)
missing xs (y ∷ ys) = elim (true_or_false (has xs y)) [
  | inl t ↦ elim (missing xs ys) [
    | inl all ↦ inl (λ n h. elim h [ inl e ↦ subst (Has xs) (sym e) (member_is xs y t) | inr k ↦ all n k ])
    | inr one ↦ inr (one.0, inr one.1, one.2)
  ]
  | inr f ↦ inr (y, inl refl, λ h. true≢false (sym (is_member xs y h) ∙ f))
]

-- ---- what each event leaves

module _ {G : Type 0} (nodes : List (GraphNode G)) (es : List Event) (done unanswered : List Bool) (slots running : ℕ) where
  pub tallied_refusal : (g : numbers.Nodes) (worker : ℕ) → Tallies nodes es g done unanswered slots running → Tallies nodes (Refuse worker ∷ es) g done unanswered slots running
  tallied_refusal g worker t = record { all = t.all; is_done = t.is_done; is_unanswered = t.is_unanswered; is_running = t.is_running; all_done = t.all_done; all_unanswered = t.all_unanswered; all_answers = t.all_answers }

  pub tallied_take : (u u' : Uses) (worker n slots' : ℕ) → TakesFirst u (Some n) u' → slots' ≡ slots → Tallies nodes es u.nodes done unanswered slots running → Tallies nodes (Take worker n ∷ es) u'.nodes done unanswered slots' (running + 1)
  tallied_take u u' worker n slots' first still t =
      let same : u'.nodes ≡ u.nodes = ap (λ x. x.nodes) first.1 in
      record {
        all = subst (AreAll nodes) (sym same) t.all;
        is_done = t.is_done;
        is_unanswered = λ k. t.is_unanswered k ∙ ap (λ g. waits_at g k) (sym same);
        is_running = let count : running + 1 + length (finishes es) ≡ suc (length (takes es)) = omega (arith, t.is_running) in count;
        all_done = t.all_done;
        all_unanswered = t.all_unanswered;
        all_answers = still ∙ t.all_answers;
      }

  -- one node more can be counted
  pub running_within : (g : numbers.Nodes) → Tallies nodes es g done unanswered slots running → running ≤ length es
  running_within g t = let few : length (takes es) ≤ length es = takes_within es in omega (arith, few, t.is_running)

  module _ (u u' : Uses) (n : ℕ) (a : Answer) (change : Changes u (with_answer u.nodes n) u') (below : n < length nodes) (t : Tallies nodes es u.nodes done unanswered slots running) where
    answered_here : numbers.answered (with_answer u.nodes n) n ≡ true
    answered_here = let there : n < length u.nodes.answered = omega (arith, below, t.all.answered) in get_or-set_same u.nodes.answered n true false there

    unanswered_by : (k : ℕ) → (k ≡ n) ⊎ (k ≢ n) → get_or (set unanswered n false) k false ≡ waits_at (with_answer u.nodes n) k
    unanswered_by k (inl d) =
        let flag : n < length unanswered = omega (arith, below, t.all_unanswered) in
        ap (λ j. get_or (set unanswered n false) j false) d ∙ get_or-set_same unanswered n false false flag
        ∙ sym (ap (λ b. not b && is_file (numbers.role_of (numbers.role u.nodes n))) answered_here) ∙ ap (waits_at (with_answer u.nodes n)) (sym d)
    unanswered_by k (inr d) =
        get_or-set_other unanswered n k false false d ∙ t.is_unanswered k
        ∙ ap (λ b. not b && is_file (numbers.role_of (numbers.role u.nodes k))) (sym (get_or-set_other u.nodes.answered n k true false d))

    all_answer : AreAll nodes (with_answer u.nodes n)
    all_answer = record { sizes = t.all.sizes; answered = length-set u.nodes.answered n true ∙ t.all.answered; choices = t.all.choices; filled = t.all.filled }

    pub tallied_serve : (slots' : ℕ) → slots' ≡ slots → Tallies nodes (Serve n a ∷ es) u'.nodes done (set unanswered n false) slots' running
    tallied_serve slots' still = record {
      all = subst (AreAll nodes) (sym change.nodes) all_answer;
      is_done = t.is_done;
      is_unanswered = λ k. unanswered_by k (same_number k n) ∙ ap (λ g. waits_at g k) (sym change.nodes);
      is_running = t.is_running;
      all_done = t.all_done;
      all_unanswered = length-set unanswered n false ∙ t.all_unanswered;
      all_answers = still ∙ t.all_answers;
    }

-- ---- at the start

no_flag : (n k : ℕ) → slice_index_or (replicate n false) k false ≡ false
no_flag zero k = refl
no_flag (suc n) zero = refl
no_flag (suc n) (suc k) = no_flag n k

pub no_other : {A : Type 0} (d : A) (n k : ℕ) → slice_index_or (replicate n d) k d ≡ d
no_other d zero k = refl
no_other d (suc n) zero = refl
no_other d (suc n) (suc k) = no_other d n k

none_answered : {G : Type 0} (nodes : List (GraphNode G)) (k : ℕ) → slice_index_or (map (λ at. false) nodes) k false ≡ false
none_answered [] k = refl
none_answered (at ∷ nodes) zero = refl
none_answered (at ∷ nodes) (suc k) = none_answered nodes k

module _ {G K V S T : Type 0} (m : Meanings K V S T) (kind_of : G → K) (nodes : List (GraphNode G)) (made : List (Option Choice)) (g : numbers.Nodes) (are : HasNumbers m kind_of nodes made g) (same : length made ≡ length nodes) where
  all_first : AreAll nodes g
  all_first = record {
    sizes = are.sizes;
    answered = ap length are.answered ∙ length-map nodes (λ at. false);
    choices = ap length are.choices ∙ same;
    filled = ap length are.filled ∙ length-map nodes (λ at. map (λ link. is_none (input_of link)) at.inputs.items);
  }

  import_at : (n : ℕ) → slice_index_or (map (λ at. is_file (m.rows.role (kind_of at.kind))) nodes) n false ≡ is_file (numbers.role_of (numbers.role g n))
  import_at n =
      ap (λ fs. slice_index_or fs n false)
      (sym (map_map (λ r. is_file r) (λ at. m.rows.role (kind_of at.kind)) nodes) ∙ ap (map (λ r. is_file r)) (sym are.roles) ∙ map_map (λ r. is_file r) numbers.role_of g.roles)
      ∙ index_image (λ r. is_file (numbers.role_of r)) g.roles n role.Plain

  waits_first : (n : ℕ) → slice_index_or (map (λ at. is_file (m.rows.role (kind_of at.kind))) nodes) n false ≡ waits_at g n
  waits_first n = import_at n ∙ ap (λ b. not b && is_file (numbers.role_of (numbers.role g n))) (sym (ap (λ fs. slice_index_or fs n false) are.answered ∙ none_answered nodes n))

  pub tallied_first : (done unanswered : List Bool) (slots : ℕ) → done ≡ replicate (length nodes) false → unanswered ≡ map (λ at. is_file (m.rows.role (kind_of at.kind))) nodes → slots ≡ length nodes → Tallies nodes [] g done unanswered slots 0
  tallied_first done unanswered slots d imports count = record {
    all = all_first;
    is_done = λ n. ap (λ fs. slice_index_or fs n false) d ∙ no_flag (length nodes) n;
    is_unanswered = λ n. ap (λ fs. slice_index_or fs n false) imports ∙ waits_first n;
    is_running = refl;
    all_done = ap length d ∙ length-replicate (length nodes) false;
    all_unanswered = ap length imports ∙ length-map nodes (λ at. is_file (m.rows.role (kind_of at.kind)));
    all_answers = count;
  }

-- ---- whether a node is taken and not finished

module _ {K V S T : Type 0} (m : Meanings K V S T) (lawful : IsLawful m) (task : Task K V) (es : List Event) (r : IsRun m task es) (running : ℕ) (count : running + length (finishes es) ≡ length (takes es)) where
  pub some_run : 0 < running → IsBusy es
  some_run more = elim (missing (finishes es) (takes es)) [
    | inl all ↦ absurd (
        let few : length (takes es) ≤ length (finishes es) = at_most_as_long (takes es) (finishes es) (takes_differ m lawful task es r) all in
        omega (arith, few, count, more)
        )
    | inr one ↦ (one.0, was_taken es one.0 one.1, λ v h. one.2 (finish_in es v one.0 h))
  ]

  pub some_counted : IsBusy es → 0 < running
  some_counted busy =
      let fresh : ¬ Has (finishes es) busy.0 = λ h. let v = was_finished es busy.0 h in busy.2 v.0 v.1 in
      let few : length (busy.0 ∷ finishes es) ≤ length (takes es) =
      at_most_as_long (busy.0 ∷ finishes es) (takes es) (fresh, finishes_differ m lawful task es r)
      (λ k h. elim h [
        | inl e ↦ subst (Has (takes es)) (sym e) (take_in es busy.1.0 busy.0 busy.1.1)
        | inr f ↦ let v = was_finished es k f in take_in es v.0 k (by_taker m lawful task es r v.0 k v.1)
      ]) in
      omega (arith, few, count)

  less_is : (n k : ℕ) → n < k → nat_lt n k ≡ true
  less_is n k h = grind arith

  is_less : (n k : ℕ) → nat_lt n k ≡ true → n < k
  is_less n k e = grind arith

  -- the count tells whether one is
  pub count_tells : Decides (nat_lt 0 running) (IsBusy es)
  count_tells = (λ e. some_run (is_less 0 running e), λ busy. less_is 0 running (some_counted busy))
