-- For the workers of a turn: a state that was taken may be given back where at most one event was added.
use Rattle.std.proofs.Common.{◌≡◌, ◌++◌, ◌<◌, ◌^◌, List, [], ◌∷◌, length, Some, Result, Ok, Err, OnOk, OnErr, arith, sym, ap, ◌∙◌, inl, inr}
use Rattle.gn_turn.specs.declared.view.View.{View}
use Rattle.gn_turn.specs.Holds.{Took, MayGive}

module _ {S J E : Type 0} (job : S → J) (journal : S → List E) (good : S → Type 0) where
  same_view : (v w : View J E) (x : S) → Took job journal good v w x → (w.job ≡ v.job) × (w.known ≡ journal x)
  same_view v w x took = (ap (λ u. u.job) took.view_is, ap (λ u. u.known) took.view_is)

  -- the state as it was taken, or with nothing added
  pub may_give_back : (v w : View J E) (x y : S) → Took job journal good v w x → good y → job y ≡ job x → journal y ≡ journal x → MayGive job journal good w y
  may_give_back v w x y took right of_job same =
      let is = same_view v w x took in
      let long : length (journal y) ≡ length (journal x) = ap length same in
      record { is_good = right; same_job = ap Some of_job ∙ (took.same_job ∙ sym is.0); one_more = inl (same ∙ sym is.1); short = omega (arith, long, took.short) }

  -- the state with one event more
  pub may_give_one : (v w : View J E) (x y : S) (e : E) → Took job journal good v w x → good y → job y ≡ job x → journal y ≡ journal x ++ e ∷ [] → length (journal y) < 2 ^ 62 → MayGive job journal good w y
  may_give_one v w x y e took right of_job more short =
      let is = same_view v w x took in
      record { is_good = right; same_job = ap Some of_job ∙ (took.same_job ∙ sym is.0); one_more = inr (e, more ∙ ap (λ l. l ++ e ∷ []) (sym is.1)); short = short }

  -- the same, by the answer of the call that may add the event
  pub may_give : {X F : Type 0} (v w : View J E) (x y : S) (e : E) (r : Result X F) → Took job journal good v w x → good y → job y ≡ job x → OnOk r ((journal y ≡ journal x ++ e ∷ []) × (length (journal y) < 2 ^ 62)) → OnErr r (journal y ≡ journal x)
      → MayGive job journal good w y
  may_give v w x y e (Ok done) took right of_job added same = may_give_one v w x y e took right of_job added.0 added.1
  may_give v w x y e (Err fault) took right of_job added same = may_give_back v w x y took right of_job same
