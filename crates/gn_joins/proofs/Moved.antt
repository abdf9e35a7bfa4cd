-- Lists whose members are shifted, and lists one behind another.
use Rattle.std.proofs.Common.{◌≡◌, ℕ, zero, suc, ◌+◌, ◌-◌, ◌≤◌, ◌<◌, List, [], ◌∷◌, ◌++◌, length, map, take, drop, get_or, refl, ap, ◌∙◌, arith}
use Rattle.std.proofs.lemmas.List.{take-append-le, drop-append-le}
use Rattle.std.specs.Prelude.{slice_range}

module _ {X Y : Type 0} (f : X → Y) where
  pub map_both : (xs ys : List X) → map f (xs ++ ys) ≡ map f xs ++ map f ys
  map_both [] ys = refl
  map_both (x ∷ xs) ys = ap (λ l. f x ∷ l) (map_both xs ys)

  take_map : (n : ℕ) (xs : List X) → take n (map f xs) ≡ map f (take n xs)
  take_map zero xs = refl
  take_map (suc n) [] = refl
  take_map (suc n) (x ∷ xs) = ap (λ l. f x ∷ l) (take_map n xs)

  drop_map : (n : ℕ) (xs : List X) → drop n (map f xs) ≡ map f (drop n xs)
  drop_map zero xs = refl
  drop_map (suc n) [] = refl
  drop_map (suc n) (x ∷ xs) = drop_map n xs

  pub range_map : (xs : List X) (a b : ℕ) → slice_range (map f xs) a b ≡ map f (slice_range xs a b)
  range_map xs a b = ap (take (b - a)) (drop_map a xs) ∙ take_map (b - a) (drop a xs)

  pub get_map : (xs : List X) (i : ℕ) (d : X) (e : Y) → i < length xs → get_or (map f xs) i e ≡ f (get_or xs i d)
  get_map [] i d e lt = absurd (omega arith)
  get_map (x ∷ xs) zero d e lt = refl
  get_map (x ∷ xs) (suc i) d e lt = get_map xs i d e (omega (arith, lt))

module _ {X : Type 0} where
  drop_behind : (xs ys : List X) (a : ℕ) → drop (a + length xs) (xs ++ ys) ≡ drop a ys
  drop_behind [] ys a = let same : a + 0 ≡ a = omega arith in ap (λ n. drop n ys) same
  drop_behind (x ∷ xs) ys a = let next : a + suc (length xs) ≡ suc (a + length xs) = omega arith in ap (λ n. drop n (x ∷ (xs ++ ys))) next ∙ drop_behind xs ys a

  -- a part of the second list
  pub range_behind : (xs ys : List X) (a b : ℕ) → slice_range (xs ++ ys) (a + length xs) (b + length xs) ≡ slice_range ys a b
  range_behind xs ys a b =
      let long : (b + length xs) - (a + length xs) ≡ b - a = omega arith in
      ap (λ n. take n (drop (a + length xs) (xs ++ ys))) long ∙ ap (take (b - a)) (drop_behind xs ys a)

  -- a part of the first list
  pub range_front : (xs ys : List X) (a b : ℕ) → a ≤ b → b ≤ length xs → (long : length (drop a xs) ≡ length xs - a) → slice_range (xs ++ ys) a b ≡ slice_range xs a b
  range_front xs ys a b ordered within long =
      ap (take (b - a)) (drop-append-le a xs ys (omega (arith, ordered, within))) ∙ take-append-le (b - a) (drop a xs) ys (omega (arith, ordered, within, long))
