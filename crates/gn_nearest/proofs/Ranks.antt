-- Distances in boxes, and the order of candidates.
use Rattle.std.proofs.Common.{sym, subst, List, length, get_or, inl, inr, ◌≡◌, ℕ, ◌+◌, ◌*◌, ◌<◌, ◌≤◌, ◌^◌, ◌||◌, ◌&&◌, eqb, ltb, arith}
use Rattle.std.specs.Prelude.{ℤ, ◌⊎◌, ◌≤ℤ◌, unsigned_abs}
use Rattle.std.specs.Int.{int_max, int_min}
use Rattle.std.proofs.lemmas.Int.{ints, clamps}
use Rattle.std.proofs.lemmas.Bool.Decides.{nat_tests}
use Rattle.std.proofs.lemmas.Bool.{cases_lt}
use Rattle.std.proofs.lemmas.List.{get_or_default}
use Rattle.gn_value.specs.Values.{by_component}
use Rattle.std.proofs.Math.Nat.{mul-le-mul_left}
use Rattle.gn_value.specs.Arithmetic.{difference_of}
use Rattle.gn_value.specs.declared.vector.V3.{V3}
use Rattle.gn_nearest.specs.Nearest.{distance}
use Rattle.gn_nearest.specs.Boxes.{rank, candidate, bound, next_to, IsInside}
use Rattle.gn_nearest.specs.declared.candidate.Entry.{Entry}
use Rattle.gn_nearest.specs.declared.bounds.Bounds.{Bounds}

-- the order of pairs is that of one number
pub before_is : (d e i j : ℕ) → i < 2 ^ 32 → j < 2 ^ 32 → (ltb d e || (eqb d e && ltb i j)) ≡ ltb (d * 2 ^ 32 + i) (e * 2 ^ 32 + j)
before_is d e i j h k = grind (arith, nat_tests)

-- along an axis, what is next to a number between two others is as near as any number between them
axis_nearer : (v q low high : ℤ) → low ≤ℤ q → q ≤ℤ high → unsigned_abs (difference_of (int_min (int_max v low) high) v) ≤ unsigned_abs (difference_of q v)
axis_nearer v q low high h k = grind (arith, ints, clamps)

square_grows : (a b : ℕ) → a ≤ b → a * a ≤ b * b
square_grows a b h = grind (arith, mul-le-mul_left)

pub next_is_nearer : (to : V3) (b : Bounds) (e : Entry) → IsInside b e → distance (next_to to b) to ≤ distance e.point to
unfolding distance
next_is_nearer to b e h =
    let x = square_grows _ _ (axis_nearer to.x.0 e.point.x.0 b.low.x.0 b.high.x.0 h.low_x h.high_x) in
    let y = square_grows _ _ (axis_nearer to.y.0 e.point.y.0 b.low.y.0 b.high.y.0 h.low_y h.high_y) in
    let z = square_grows _ _ (axis_nearer to.z.0 e.point.z.0 b.low.z.0 b.high.z.0 h.low_z h.high_z) in
    omega (arith, x, y, z)

pub bound_is_first : (to : V3) (b : Bounds) (e : Entry) → IsInside b e → rank (bound to b) ≤ rank (candidate to e)
bound_is_first to b e h =
    let near = next_is_nearer to b e h in
    let least = h.least in
    omega arith

min_left : (a b c : ℤ) → a ≤ℤ c → int_min a b ≤ℤ c
min_left a b c h = grind (arith, ints, clamps)

min_right : (a b : ℤ) → int_min a b ≤ℤ b
min_right a b = grind (arith, ints, clamps)

max_left : (a b c : ℤ) → c ≤ℤ a → c ≤ℤ int_max a b
max_left a b c h = grind (arith, ints, clamps)

max_right : (a b : ℤ) → b ≤ℤ int_max a b
max_right a b = grind (arith, ints, clamps)

-- a box that is made larger has what made it so, and all that it had before
pub with_here : (a : Bounds) (e : Entry) (low high : V3) (least : ℕ) → low ≡ by_component int_min a.low e.point → high ≡ by_component int_max a.high e.point → least ≤ e.index → IsInside (record { low = low; high = high; least = least }) e
with_here a e low high least l h m = record {
  low_x = subst (λ (v : V3). v.x.0 ≤ℤ e.point.x.0) (sym l) (min_right a.low.x.0 e.point.x.0);
  low_y = subst (λ (v : V3). v.y.0 ≤ℤ e.point.y.0) (sym l) (min_right a.low.y.0 e.point.y.0);
  low_z = subst (λ (v : V3). v.z.0 ≤ℤ e.point.z.0) (sym l) (min_right a.low.z.0 e.point.z.0);
  high_x = subst (λ (v : V3). e.point.x.0 ≤ℤ v.x.0) (sym h) (max_right a.high.x.0 e.point.x.0);
  high_y = subst (λ (v : V3). e.point.y.0 ≤ℤ v.y.0) (sym h) (max_right a.high.y.0 e.point.y.0);
  high_z = subst (λ (v : V3). e.point.z.0 ≤ℤ v.z.0) (sym h) (max_right a.high.z.0 e.point.z.0);
  least = m;
}

pub with_before : (a : Bounds) (e x : Entry) (low high : V3) (least : ℕ) → low ≡ by_component int_min a.low e.point → high ≡ by_component int_max a.high e.point → least ≤ a.least → IsInside a x → IsInside (record { low = low; high = high; least = least }) x
with_before a e x low high least l h m i = record {
  low_x = subst (λ (v : V3). v.x.0 ≤ℤ x.point.x.0) (sym l) (min_left a.low.x.0 e.point.x.0 x.point.x.0 i.low_x);
  low_y = subst (λ (v : V3). v.y.0 ≤ℤ x.point.y.0) (sym l) (min_left a.low.y.0 e.point.y.0 x.point.y.0 i.low_y);
  low_z = subst (λ (v : V3). v.z.0 ≤ℤ x.point.z.0) (sym l) (min_left a.low.z.0 e.point.z.0 x.point.z.0 i.low_z);
  high_x = subst (λ (v : V3). x.point.x.0 ≤ℤ v.x.0) (sym h) (max_left a.high.x.0 e.point.x.0 x.point.x.0 i.high_x);
  high_y = subst (λ (v : V3). x.point.y.0 ≤ℤ v.y.0) (sym h) (max_left a.high.y.0 e.point.y.0 x.point.y.0 i.high_y);
  high_z = subst (λ (v : V3). x.point.z.0 ≤ℤ v.z.0) (sym h) (max_left a.high.z.0 e.point.z.0 x.point.z.0 i.high_z);
  least = omega (arith, m, i.least);
}

pub round_more : (old new : Bounds) (entries : List Entry) (i : ℕ) (e : Entry) → i < length entries → ((k : ℕ) (d : Entry) → k < i → IsInside old (get_or entries k d)) → IsInside new (get_or entries i e) → ((x : Entry) → IsInside old x → IsInside new x) → (k : ℕ) (d : Entry) → k < i + 1 → IsInside new (get_or entries k d)
round_more old new entries i e within before here keeps k d h = by (cases_lt k i)
  where
    by : (k < i) ⊎ (i ≤ k) → IsInside new (get_or entries k d)
    by (inl l) = keeps (get_or entries k d) (before k d l)
    by (inr l) =
        let at : k ≡ i = omega arith in
        subst (λ (j : ℕ). IsInside new (get_or entries j d)) (sym at) (subst (λ (x : Entry). IsInside new x) (get_or_default entries i e d within) here)
