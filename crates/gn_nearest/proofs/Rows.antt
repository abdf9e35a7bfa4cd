-- The nearest of two points, by the definition.
use Rattle.std.proofs.Common.{◌≡◌, ℕ, zero, suc, ◌<◌, ◌≤◌, ◌^◌, List, [], ◌∷◌, length, pos, refl, arith}
use Rattle.gn_value.specs.Values.{v3}
use Rattle.gn_value.specs.declared.vector.V3.{V3}
use Rattle.gn_nearest.specs.Nearest.{IsNearest, distance, origin, point_at}

-- (0, 0, 0) and (2, 0, 0), and the place in the middle of them
abbrev two : List V3
two = origin ∷ v3 (pos (2 ^ 33)) (pos 0) (pos 0) ∷ []

abbrev middle : V3
middle = v3 (pos (2 ^ 32)) (pos 0) (pos 0)

as_near : distance (point_at two 0) middle ≡ distance (point_at two 1) middle
unfolding distance
as_near = refl

none_is_nearer : (k : ℕ) → k < length two → distance (point_at two 0) middle ≤ distance (point_at two k) middle
none_is_nearer zero h = omega arith
none_is_nearer (suc zero) h = omega (arith, as_near)
none_is_nearer (suc (suc k)) h = absurd (omega arith)

-- the first of those that are as near
first_of_two : IsNearest two middle 0
first_of_two = record {
  within = omega arith;
  nearest = none_is_nearer;
  first = λ k h. absurd (omega arith);
}
