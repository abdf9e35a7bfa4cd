-- The parts of a block after each step.
use Rattle.std.proofs.Common.{◌≡◌, ◌≤◌, ◌<◌, ℕ, zero, suc, ◌+◌, ◌-◌, length, List, [], ◌∷◌, ◌++◌, cond, nat_lt, get_or, set, sum, count_by, sym, ◌∙◌, ap, arith}
use mathlib.Core.Option.{some, some-injective, some-ne-none}
use lib.ListN.{get_elem?}
use Rattle.std.proofs.lemmas.Bool.Decides.{nat_tests}
use Rattle.std.proofs.lemmas.List.Sums.{sum_by-cons, sum_by-append, sum_by-set}
use Rattle.gn_block.specs.Parts.{AreDivided}

-- 1 for a handle that is left
abbrev one_if : ℕ → ℕ
one_if p = cond (nat_lt 0 p) 1 0

left : (p : ℕ) → 0 < p → one_if p ≡ 1
left p pos = grind (arith, nat_tests)

gone : one_if 0 ≡ 0
gone = grind (arith, nat_tests)

at_most : (p : ℕ) → one_if p ≤ p
at_most p = grind (arith, nat_tests)

-- there are no more handles than parts
fewer : (handles : List ℕ) → count_by (λ p. nat_lt 0 p) handles ≤ sum handles
fewer [] = omega arith
fewer (p ∷ hs) =
    omega (arith, fewer hs, at_most p, sum_by-cons (λ x. x) p hs, sum_by-cons one_if p hs)

in_list : (hs : List ℕ) (j p : ℕ) → get_elem? hs j ≡ some p → j < length hs
in_list [] j p e = absurd (some-ne-none p (sym e))
in_list (h ∷ hs) zero p e = omega arith
in_list (h ∷ hs) (suc j) p e = let i = in_list hs j p e in omega (arith, i)

at_place : (hs : List ℕ) (j p : ℕ) → get_elem? hs j ≡ some p → get_or hs j 0 ≡ p
at_place [] j p e = absurd (some-ne-none p (sym e))
at_place (h ∷ hs) zero p e = some-injective h p e
at_place (h ∷ hs) (suc j) p e = at_place hs j p e

module _ (limit n w : ℕ) (hs : List ℕ) (j p : ℕ) (divided : AreDivided limit n w hs) (pos : 0 < p) (at : get_elem? hs j ≡ some p) where
  total : (u : ℕ) → sum (set hs j u) + p ≡ sum hs + u
  total u = let s = sum_by-set (λ x. x) hs j u 0 (in_list hs j p at) in let e = at_place hs j p at in omega (arith, s, e)

  count : (u : ℕ) → count_by (λ x. nat_lt 0 x) (set hs j u) + 1 ≡ n + one_if u
  count u =
      let s = sum_by-set one_if hs j u 0 (in_list hs j p at) in
      let e : one_if (get_or hs j 0) ≡ 1 = ap one_if (at_place hs j p at) ∙ left p pos in
      let d = divided.1 in omega (arith, s, e, d)

  pub room : (n ≤ limit) × (0 < n) × (p ≤ limit)
  room =
      let f = fewer hs in let d = divided.0 in let c = divided.1 in let t = total 0 in let k = count 0 in
      (omega (arith, f, d, c), omega (arith, k), omega (arith, t, d))

  pub alone : p ≡ limit → n ≡ 1
  alone all =
      let f = fewer (set hs j 0) in let t = total 0 in let k = count 0 in let d = divided.0 in omega (arith, f, t, k, d, all, gone)

  -- the only handle's parts and the block's are all of them
  pub added : (k : ℕ) → 0 < k → k < p → AreDivided limit (n + 1) w (set hs j (p - k) ++ k ∷ [])
  added k plus less =
      let rest : List ℕ = set hs j (p - k) in
      let t = total (p - k) in let c = count (p - k) in
      let s = sum_by-append (λ x. x) rest (k ∷ []) in
      let m = sum_by-append one_if rest (k ∷ []) in
      let l1 = left (p - k) (omega (arith, less)) in let l2 = left k plus in
      let d = divided.0 in
      (omega (arith, t, s, d, less), omega (arith, c, m, l1, l2))

  pub returned : AreDivided limit (n - 1) (w + p) (set hs j 0)
  returned = let t = total 0 in let c = count 0 in let d = divided.0 in (omega (arith, t, d), omega (arith, c, gone))

pub first_handle : (limit : ℕ) → 0 < limit → AreDivided limit 1 0 (limit ∷ [])
first_handle limit pos = let l = left limit pos in (omega arith, omega (arith, l))
