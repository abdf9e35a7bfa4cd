-- Options that are taken apart, and what is found step by step and then stays.
use Rattle.std.proofs.Common.{◌≡◌, ◌⊎◌, inl, inr, ◌≤◌, ◌+◌, ℕ, zero, suc, Option, Some, None, refl, sym, ◌∙◌, subst, arith}
use Rattle.std.specs.Prelude.{option_map, option_and_then}

pub some_same : {A : Type 0} {a b : A} → Some a ≡ Some b → a ≡ b
some_same e = cc

pub none_some : {A : Type 0} {o : Option A} {a : A} → o ≡ None → o ≡ Some a → ⊥
none_some e f = let bad : None ≡ Some _ = sym e ∙ f in cc

pub then_some : {A B : Type 0} (f : A → Option B) (o : Option A) (b : B) → option_and_then f o ≡ Some b → (a : A) × (o ≡ Some a) × (f a ≡ Some b)
then_some f None b e = cc
then_some f (Some a) b e = (a, refl, e)

pub map_some : {A B : Type 0} (f : A → B) (o : Option A) (b : B) → option_map f o ≡ Some b → (a : A) × (o ≡ Some a) × (f a ≡ b)
map_some f None b e = cc
map_some f (Some a) b e = (a, refl, cc)

-- what the first has, the second has too
abbrev pub Kept : {A : Type 0} → Option A → Option A → Type 0
Kept {A} o p = (v : A) → o ≡ Some v → p ≡ Some v

pub then_kept : {A B : Type 0} (f g : A → Option B) (o p : Option A) → Kept o p → ((a : A) → Kept (f a) (g a)) → Kept (option_and_then f o) (option_and_then g p)
then_kept f g None p h k v e = cc
then_kept f g (Some a) p h k v e = rw (h a refl) (k a v e)

pub map_kept : {A B : Type 0} (f : A → B) (o p : Option A) → Kept o p → Kept (option_map f o) (option_map f p)
map_kept f None p h v e = cc
map_kept f (Some a) p h v e = rw (h a refl) e

last_step : (j k : ℕ) → j ≤ suc k → (j ≤ k) ⊎ (j ≡ suc k)
last_step j k h = grind arith

-- what is found within some steps, and is kept with one more
module _ {A : Type 0} (found : ℕ → Option A) (kept : (k : ℕ) → Kept (found k) (found (suc k))) where
  pub stays : (j k : ℕ) → j ≤ k → Kept (found j) (found k)
  stays j zero h v e =
      let none : j ≡ zero = omega arith in
      subst (λ n. found n ≡ Some v) none e
  stays j (suc k) h v e = elim (last_step j k h) as (λ _. found (suc k) ≡ Some v) [
    | inl before ↦ kept k v (stays j k before v e)
    | inr same ↦ subst (λ n. found n ≡ Some v) same e
  ]

  pub found_once : (v w : A) → (k : ℕ) × (found k ≡ Some v) → (k : ℕ) × (found k ≡ Some w) → v ≡ w
  found_once v w (j, d) (k, e) =
      let first : found (j + k) ≡ Some v = stays j (j + k) (omega arith) v d in
      let second : found (j + k) ≡ Some w = stays k (j + k) (omega arith) w e in
      cc
