-- Rows of the definitions, worked by hand.
use Rattle.std.proofs.Common.{◌≡◌, inl, inr, [], ◌∷◌, true, false, refl}
use Rattle.gn_pending.specs.Flags.{AreFlagged}

both_are_flagged : AreFlagged (true ∷ false ∷ true ∷ []) (2 ∷ 0 ∷ [])
both_are_flagged n (inl e) = cc
both_are_flagged n (inr (inl e)) = cc
both_are_flagged n (inr (inr f)) = absurd f

one_is_not : AreFlagged (true ∷ false ∷ []) (0 ∷ 1 ∷ []) → false ≡ true
one_is_not all = all 1 (inr (inl refl))

nor_is_one_past_the_flags : AreFlagged (true ∷ []) (5 ∷ []) → false ≡ true
nor_is_one_past_the_flags all = all 5 (inl refl)
