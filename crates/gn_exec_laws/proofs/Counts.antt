-- Each node is taken and finished at most once, and what is set stays so.
use Rattle.std.proofs.Common.{◌≡◌, inl, inr, ℕ, List, [], ◌∷◌, sym, ◌∙◌, ap, subst}
use Rattle.gn_node_set.specs.Meanings.{Has, Meanings, AllDiffer}
use Rattle.gn_exec_laws.specs.Graphs.{Task}
use Rattle.gn_exec_laws.specs.Fits.{CanStart, IsLawful}
use Rattle.gn_exec_laws.specs.Machine.{Event, Take, Finish, Serve, Refuse, world, Allowed, IsRun}
use Rattle.gn_exec_laws.specs.Claims.{takes, finishes, TakesOnce, TagsAgree}
use Rattle.gn_exec_laws.proofs.Kept.{Grows, AnyAnswer, Kept, kept, number_of, step_of, step_grows}

-- ---- the lists of numbers

pub was_taken : (es : List Event) (n : ℕ) → Has (takes es) n → (v : ℕ) × Has es (Take v n)
was_taken [] n h = absurd h
was_taken (Take v k ∷ es) n (inl e) = (v, inl (ap (Take v) e))
was_taken (Take v k ∷ es) n (inr h) = let t : (v : ℕ) × Has es (Take v n) = was_taken es n h in (t.0, inr t.1)
was_taken (Finish v k ∷ es) n h = let t : (v : ℕ) × Has es (Take v n) = was_taken es n h in (t.0, inr t.1)
was_taken (Serve k a ∷ es) n h = let t : (v : ℕ) × Has es (Take v n) = was_taken es n h in (t.0, inr t.1)
was_taken (Refuse v ∷ es) n h = let t : (v : ℕ) × Has es (Take v n) = was_taken es n h in (t.0, inr t.1)

pub was_finished : (es : List Event) (n : ℕ) → Has (finishes es) n → (v : ℕ) × Has es (Finish v n)
was_finished [] n h = absurd h
was_finished (Finish v k ∷ es) n (inl e) = (v, inl (ap (Finish v) e))
was_finished (Finish v k ∷ es) n (inr h) = let t : (v : ℕ) × Has es (Finish v n) = was_finished es n h in (t.0, inr t.1)
was_finished (Take v k ∷ es) n h = let t : (v : ℕ) × Has es (Finish v n) = was_finished es n h in (t.0, inr t.1)
was_finished (Serve k a ∷ es) n h = let t : (v : ℕ) × Has es (Finish v n) = was_finished es n h in (t.0, inr t.1)
was_finished (Refuse v ∷ es) n h = let t : (v : ℕ) × Has es (Finish v n) = was_finished es n h in (t.0, inr t.1)

unfoldable pub worker_of : Event → ℕ
worker_of (Take v n) = v
worker_of (Finish v n) = v
worker_of (Serve n a) = 0
worker_of (Refuse v) = v

module _ {K V S T : Type 0} (m : Meanings K V S T) (lawful : IsLawful m) (task : Task K V) where
  pub takes_differ : (es : List Event) → IsRun m task es → AllDiffer (takes es)
  takes_differ [] r = tt
  takes_differ (Take v n ∷ es) r = (λ h. let t : (u : ℕ) × Has es (Take u n) = was_taken es n h in r.0.0.1.fresh t.0 t.1, takes_differ es r.1)
  takes_differ (Finish v n ∷ es) r = takes_differ es r.1
  takes_differ (Serve n a ∷ es) r = takes_differ es r.1
  takes_differ (Refuse v ∷ es) r = takes_differ es r.1

  pub finishes_differ : (es : List Event) → IsRun m task es → AllDiffer (finishes es)
  finishes_differ [] r = tt
  finishes_differ (Finish v n ∷ es) r = (λ h. let t : (u : ℕ) × Has es (Finish u n) = was_finished es n h in r.0.1 t.0 t.1, finishes_differ es r.1)
  finishes_differ (Take v n ∷ es) r = finishes_differ es r.1
  finishes_differ (Serve n a ∷ es) r = finishes_differ es r.1
  finishes_differ (Refuse v ∷ es) r = finishes_differ es r.1

  -- a node that is taken now was not taken before
  not_before : (e : Event) (es : List Event) → Allowed m task es e → (u v n : ℕ) → Take u n ≡ e → ¬ Has es (Take v n)
  unfolding number_of
  not_before (Take w k) es a u v n q h = a.0.1.fresh v (subst (λ j. Has es (Take v j)) (ap number_of q) h)
  not_before (Finish w k) es a u v n q h = cc
  not_before (Serve k b) es a u v n q h = cc
  not_before (Refuse w) es a u v n q h = cc

  one_taker : (es : List Event) → IsRun m task es → (u v n : ℕ) → Has es (Take u n) → Has es (Take v n) → u ≡ v
  unfolding worker_of
  one_taker [] r u v n h k = absurd h
  one_taker (e ∷ es) r u v n (inl p) (inl q) = ap worker_of (p ∙ sym q)
  one_taker (e ∷ es) r u v n (inl p) (inr k) = absurd (not_before e es r.0 u v n p k)
  one_taker (e ∷ es) r u v n (inr h) (inl q) = absurd (not_before e es r.0 v u n q h)
  one_taker (e ∷ es) r u v n (inr h) (inr k) = one_taker es r.1 u v n h k

  taker_of_finish : (e : Event) (es : List Event) → Allowed m task es e → (v n : ℕ) → Finish v n ≡ e → Has es (Take v n)
  unfolding worker_of number_of
  taker_of_finish (Finish w k) es a v n q = subst (λ j. Has es (Take j n)) (sym (ap worker_of q)) (subst (λ j. Has es (Take w j)) (sym (ap number_of q)) a.0)
  taker_of_finish (Take w k) es a v n q = cc
  taker_of_finish (Serve k b) es a v n q = cc
  taker_of_finish (Refuse w) es a v n q = cc

  pub by_taker : (es : List Event) → IsRun m task es → (v n : ℕ) → Has es (Finish v n) → Has es (Take v n)
  by_taker [] r v n h = absurd h
  by_taker (e ∷ es) r v n (inl q) = inr (taker_of_finish e es r.0 v n q)
  by_taker (e ∷ es) r v n (inr h) = inr (by_taker es r.1 v n h)

  pub taken_once : CanStart m task → (es : List Event) → IsRun m task es → TakesOnce m task es
  taken_once c es r =
      let k : Kept m lawful task es = kept m lawful task c es r in
      record { numbers = k.shape.differ; taken = takes_differ es r; one_taker = one_taker es r; finished = finishes_differ es r; by_taker = by_taker es r }

  -- ---- what is set

  pub event_grows : CanStart m task → (e : Event) (es : List Event) → IsRun m task (e ∷ es) → Grows m (world m task es) (world m task (e ∷ es))
  event_grows c e es r =
      let k : Kept m lawful task es = kept m lawful task c es r.1 in
      step_grows m lawful task (AnyAnswer m lawful task) (world m task es) (world m task (e ∷ es)) k.shape (step_of m lawful task (AnyAnswer m lawful task) e es k r.0 (λ n a node same at. tt))

  pub tags_agree : CanStart m task → (es : List Event) → IsRun m task es → TagsAgree m (world m task es)
  tags_agree c es r = let k : Kept m lawful task es = kept m lawful task c es r in record { agree = k.shape.agree; finished = k.shape.tagged }
