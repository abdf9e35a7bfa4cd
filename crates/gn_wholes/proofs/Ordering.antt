-- Values in the order of their steps and places are there once.
use Rattle.std.proofs.Common.{◌≡◌, ◌⊎◌, inl, inr, ℕ, zero, suc, ◌+◌, ◌*◌, ◌<◌, ◌≤◌, List, [], ◌∷◌, ◌++◌, length, Some, refl, ap, ap₂, arith}
use Rattle.std.specs.Prelude.{slice_get}
use Rattle.std.proofs.lemmas.Bool.{cases_order}
use Rattle.std.proofs.lemmas.Option.{slice_get_within}
use Rattle.gn_value.specs.Values.{position_of_place}
use Rattle.gn_slots.specs.declared.whole.Whole.{Whole}
use Rattle.gn_wholes.specs.Covers.{rank, AreInOrder, AreOnce}

pub none_ordered : (n : ℕ) → AreInOrder n []
none_ordered n = record { rise = λ i j v w before at_i at_j. cc; below = λ i w at_i. cc }

pub ordered_wider : (n m : ℕ) (ws : List Whole) → n ≤ m → AreInOrder n ws → AreInOrder m ws
ordered_wider n m ws le o = record { rise = o.rise; below = λ i w at_i. let b = o.below i w at_i in omega (arith, b, le) }

-- a member of a list with one more is a member before, or the last
at_end : (ws : List Whole) (w v : Whole) (i : ℕ) → slice_get (ws ++ w ∷ []) i ≡ Some v → (slice_get ws i ≡ Some v) ⊎ ((w ≡ v) × (i ≡ length ws))
at_end [] w v zero e = inr (cc, refl)
at_end [] w v (suc i) e = cc
at_end (x ∷ ws) w v zero e = inl e
at_end (x ∷ ws) w v (suc i) e = elim (at_end ws w v i e) [ inl h ↦ inl h | inr h ↦ inr (h.0, ap suc h.1) ]

module _ (n m : ℕ) (ws : List Whole) (last : Whole) (o : AreInOrder n ws) (behind : n ≤ rank last) (under : rank last < m) where
  rise_more : (i j : ℕ) (v w : Whole) → i < j → slice_get (ws ++ last ∷ []) i ≡ Some v → slice_get (ws ++ last ∷ []) j ≡ Some w → rank v < rank w
  rise_more i j v w before at_i at_j = elim (at_end ws last w j at_j) [
    | inl here_j ↦ elim (at_end ws last v i at_i) [
      | inl here_i ↦ o.rise i j v w before here_i here_j
      | inr end_i ↦ absurd (omega (arith, before, end_i.1, slice_get_within ws j w here_j))
    ]
    | inr end_j ↦ elim (at_end ws last v i at_i) [
      | inl here_i ↦ (let b : rank v < n = o.below i v here_i in let same : rank last ≡ rank w = ap rank end_j.0 in omega (arith, b, same, behind))
      | inr end_i ↦ absurd (omega (arith, before, end_i.1, end_j.1))
    ]
  ]

  below_more : (i : ℕ) (w : Whole) → slice_get (ws ++ last ∷ []) i ≡ Some w → rank w < m
  below_more i w at_i = elim (at_end ws last w i at_i) [
    | inl here ↦ (let b : rank w < n = o.below i w here in omega (arith, b, behind, under))
    | inr end ↦ (let same : rank last ≡ rank w = ap rank end.0 in omega (arith, same, under))
  ]

  pub ordered_more : AreInOrder m (ws ++ last ∷ [])
  ordered_more = record { rise = rise_more; below = below_more }

pub once : (n : ℕ) (ws : List Whole) → AreInOrder n ws → AreOnce ws
once n ws o i j v w at_i at_j step place =
    let same : rank v ≡ rank w = ap₂ (λ s p. 6 * s + position_of_place p) step place in
    elim (cases_order i j) [
      | inl e ↦ e
      | inr differ ↦ elim differ [
        | inl before ↦ (let r : rank v < rank w = o.rise i j v w before at_i at_j in absurd (omega (arith, r, same)))
        | inr after ↦ (let r : rank w < rank v = o.rise j i w v after at_j at_i in absurd (omega (arith, r, same)))
      ]
    ]
