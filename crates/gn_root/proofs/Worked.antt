-- Roots that compute.
use Rattle.std.proofs.Common.{◌≡◌, ◌-◌, ◌^◌, [], ◌∷◌, refl}
use Rattle.gn_root.specs.Roots.{greatest, root}

roots : (root 0 ∷ root 1 ∷ root 15 ∷ root 16 ∷ root (2 ^ 128 - 1) ∷ []) ≡ (0 ∷ 1 ∷ 3 ∷ 4 ∷ (2 ^ 64 - 1) ∷ [])
unfolding root greatest
roots = refl
