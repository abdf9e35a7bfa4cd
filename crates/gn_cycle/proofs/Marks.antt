-- Marks of nodes.
use Rattle.std.proofs.Common.{◌≡◌, ◌≢◌, ℕ, ◌<◌, ◌≤◌, ◌⊎◌, inl, inr, Bool, true, false, List, length, get_or, sym, ◌∙◌, arith, true≢false}
use Rattle.std.proofs.lemmas.List.{get_or_past}

pub same_or_not : (i j : ℕ) → (i ≡ j) ⊎ (i ≢ j)
same_or_not i j = grind arith

inside_at : (xs : List Bool) (i : ℕ) → (i < length xs) ⊎ (length xs ≤ i) → get_or xs i true ≡ false → i < length xs
inside_at xs i (inl h) e = h
inside_at xs i (inr h) e = absurd (true≢false (sym (get_or_past xs i true h) ∙ e))

below_or_past : (m n : ℕ) → (m < n) ⊎ (n ≤ m)
below_or_past m n = grind arith

pub inside : (xs : List Bool) (i : ℕ) → get_or xs i true ≡ false → i < length xs
inside xs i e = inside_at xs i (below_or_past i (length xs)) e
