-- One step of writing values over others where they are selected.
use Rattle.std.proofs.Common.{◌≡◌, ℕ, zero, suc, ◌<◌, Bool, true, false, List, [], ◌∷◌, ◌++◌, length, take, drop, get_or, set, refl, ap, arith}
use Rattle.gn_attr.specs.Writing.{chosen}

module _ {T : Type 0} where
  -- the position is selected
  pub put_step : (ss : List Bool) (ns os : List T) (i : ℕ) (v : T) → length ns ≡ length os → length ss ≡ length os → i < length os → get_or ss i false ≡ true → v ≡ get_or ns i v
      → take i os ++ chosen (drop i ss) (drop i ns) (drop i os) ≡ take (suc i) (set os i v) ++ chosen (drop (suc i) ss) (drop (suc i) ns) (drop (suc i) (set os i v))
  put_step ss ns [] i v n s within selected is = absurd (omega arith)
  put_step [] ns (o ∷ os) i v n s within selected is = absurd (omega (arith, s))
  put_step (b ∷ ss) [] (o ∷ os) i v n s within selected is = absurd (omega (arith, n))
  put_step (b ∷ ss) (u ∷ ns) (o ∷ os) zero v n s within selected is = rw (selected, is) refl
  put_step (b ∷ ss) (u ∷ ns) (o ∷ os) (suc i) v n s within selected is = ap (λ xs. o ∷ xs) (put_step ss ns os i v (omega (arith, n)) (omega (arith, s)) (omega (arith, within)) selected is)

  -- the position is not
  pub skip_step : (ss : List Bool) (ns os : List T) (i : ℕ) → length ns ≡ length os → length ss ≡ length os → i < length os → get_or ss i false ≡ false
      → take i os ++ chosen (drop i ss) (drop i ns) (drop i os) ≡ take (suc i) os ++ chosen (drop (suc i) ss) (drop (suc i) ns) (drop (suc i) os)
  skip_step ss ns [] i n s within selected = absurd (omega arith)
  skip_step [] ns (o ∷ os) i n s within selected = absurd (omega (arith, s))
  skip_step (b ∷ ss) [] (o ∷ os) i n s within selected = absurd (omega (arith, n))
  skip_step (b ∷ ss) (v ∷ ns) (o ∷ os) zero n s within selected = rw selected refl
  skip_step (b ∷ ss) (v ∷ ns) (o ∷ os) (suc i) n s within selected = ap (λ xs. o ∷ xs) (skip_step ss ns os i (omega (arith, n)) (omega (arith, s)) (omega (arith, within)) selected)
