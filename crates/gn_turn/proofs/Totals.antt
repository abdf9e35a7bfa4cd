-- Sums over the views of a turn's passes.
use Rattle.std.proofs.Common.{◌≡◌, ◌≢◌, ℕ, zero, suc, ◌+◌, ◌≤◌, List, [], ◌∷◌, set, sum_by, refl, sym, ap, ⊎_elim, arith}
use Rattle.std.proofs.lemmas.List.Sums.{sum_by-cons}
use mathlib.Core.Option.{some, some-injective, some-ne-none}
use lib.ListN.{get_elem?}
use Rattle.gn_turn.specs.declared.view.View.{View}
use Rattle.gn_turn.specs.Views.{parts_of, own_of}
use Rattle.gn_turn.specs.Rule.{IsLive, Fits}

module _ {A : Type 0} (f : A → ℕ) where
  -- where one view changes, the sum changes by as much
  pub total_set : (l : List A) (i : ℕ) (a b : A) → get_elem? l i ≡ some a → sum_by f (set l i b) + f a ≡ sum_by f l + f b
  total_set [] i a b e = absurd (some-ne-none a (sym e))
  total_set (x ∷ xs) zero a b e = let h : f x ≡ f a = ap f (some-injective x a e) in omega (arith, sum_by-cons f x xs, sum_by-cons f b xs)
  total_set (x ∷ xs) (suc i) a b e = let r = total_set xs i a b e in omega (arith, r, sum_by-cons f x xs, sum_by-cons f x (set xs i b))

  pub part_of_total : (l : List A) (i : ℕ) (a : A) → get_elem? l i ≡ some a → f a ≤ sum_by f l
  part_of_total [] i a e = absurd (some-ne-none a (sym e))
  part_of_total (x ∷ xs) zero a e = let h : f x ≡ f a = ap f (some-injective x a e) in omega (arith, sum_by-cons f x xs)
  part_of_total (x ∷ xs) (suc i) a e = let r = part_of_total xs i a e in omega (arith, r, sum_by-cons f x xs)

  pub two_of_total : (l : List A) (i k : ℕ) (a b : A) → i ≢ k → get_elem? l i ≡ some a → get_elem? l k ≡ some b → f a + f b ≤ sum_by f l
  two_of_total [] i k a b n e d = absurd (some-ne-none a (sym e))
  two_of_total (x ∷ xs) zero zero a b n e d = absurd (n refl)
  two_of_total (x ∷ xs) zero (suc k) a b n e d = let h : f x ≡ f a = ap f (some-injective x a e) in omega (arith, part_of_total xs k b d, sum_by-cons f x xs)
  two_of_total (x ∷ xs) (suc i) zero a b n e d = let h : f x ≡ f b = ap f (some-injective x b d) in omega (arith, part_of_total xs i a e, sum_by-cons f x xs)
  two_of_total (x ∷ xs) (suc i) (suc k) a b n e d = let r = two_of_total xs i k a b (λ h. n (ap suc h)) e d in omega (arith, r, sum_by-cons f x xs)

module _ {J E : Type 0} (j : J) (log : List E) where
  -- a view without a part was spent, and has no events of its own
  no_part : (v : View J E) → Fits j log v → v.parts ≡ 0 → v.own ≡ 0
  no_part v fits none = ⊎_elim (λ e. ap own_of e) (λ (live : IsLive j log v). absurd (omega (arith, live.has_parts))) fits

  none_left : (l : List (View J E)) → ((k : ℕ) (w : View J E) → get_elem? l k ≡ some w → Fits j log w) → sum_by parts_of l ≡ 0 → sum_by own_of l ≡ 0
  none_left [] fit none = refl
  none_left (x ∷ xs) fit none =
      let parts = sum_by-cons parts_of x xs in
      let own = sum_by-cons own_of x xs in
      let here = no_part x (fit 0 x refl) (omega arith) in
      let there = none_left xs (λ k. fit (suc k)) (omega arith) in omega arith

  -- the view that has all parts has all events as its own
  pub sole : (l : List (View J E)) (i : ℕ) (v : View J E) → ((k : ℕ) (w : View J E) → get_elem? l k ≡ some w → Fits j log w) → get_elem? l i ≡ some v → sum_by parts_of l ≡ v.parts
      → sum_by own_of l ≡ v.own
  sole [] i v fit at all = absurd (some-ne-none v (sym at))
  sole (x ∷ xs) zero v fit at all =
      let is : x ≡ v = some-injective x v at in
      let parts = sum_by-cons parts_of x xs in
      let own = sum_by-cons own_of x xs in
      let same_parts : x.parts ≡ v.parts = ap parts_of is in
      let same_own : x.own ≡ v.own = ap own_of is in
      let there = none_left xs (λ k. fit (suc k)) (omega arith) in omega arith
  sole (x ∷ xs) (suc i) v fit at all =
      let parts = sum_by-cons parts_of x xs in
      let own = sum_by-cons own_of x xs in
      let some_there = part_of_total parts_of xs i v at in
      let here = no_part x (fit 0 x refl) (omega arith) in
      let there = sole xs i v (λ k. fit (suc k)) at (omega arith) in omega arith
