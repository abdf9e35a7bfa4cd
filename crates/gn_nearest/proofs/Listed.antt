-- Entries that are the points of a list, in any order.
use Rattle.std.proofs.Common.{◌≡◌, ℕ, ◌+◌, ◌*◌, ◌^◌, ◌<◌, ◌≤◌, Bool, true, false, cond, eqb, ltb, ◌||◌, List, [], ◌∷◌, length, map, get_or, refl, sym, ap, ◌∙◌, subst, arith}
use Rattle.std.specs.List.{All, list_any, range_with_len}
use Rattle.std.specs.List.Sorted.{IsPermutation}
use Rattle.std.proofs.lemmas.Bool.{eqb-true, eq-eqb}
use Rattle.std.proofs.lemmas.Bool.Decides.{nat_tests}
use Rattle.std.proofs.lemmas.List.Elements.{All-head, All-tail}
use Rattle.std.proofs.lemmas.List.Folds.{list_any_at, Any-from_list_any}
use Rattle.std.proofs.lemmas.List.FromFn.{length-map-range_with_len, get_or-map-range_with_len, fill_by_all}
use Rattle.std.proofs.lemmas.List.Sorted.{All-permutation, length_permutation, list_any-IsPermutation}
use Rattle.gn_value.specs.declared.vector.V3.{V3}
use Rattle.gn_nearest.specs.Nearest.{IsNearest, distance, origin, point_at}
use Rattle.gn_nearest.specs.Boxes.{AreAll, AreListed, IsAtIndex, IsOf, candidate, entry_at, point_of, points_of, rank}
use Rattle.gn_nearest.specs.declared.candidate.Entry.{Entry}
use Rattle.gn_nearest.specs.declared.candidate.Candidate.{Candidate}

found_first : (points : List V3) (e : Entry) (rest : V3) (k : ℕ) (others : Bool) (t : Bool) → IsAtIndex points e → eqb e.index k ≡ t → (others ≡ true → rest ≡ point_at points k) → (t || others) ≡ true → cond t e.point rest ≡ point_at points k
found_first points e rest k others true h t next any = h.point ∙ ap (point_at points) (eqb-true e.index k t)
found_first points e rest k others false h t next any = next any

point_found : (points : List V3) (entries : List Entry) (k : ℕ) → All (IsAtIndex points) entries → list_any (λ (e : Entry). eqb e.index k) entries ≡ true → point_of entries k ≡ point_at points k
point_found points [] k all any = cc
point_found points (e ∷ entries) k all any =
    found_first points e (point_of entries k) k (list_any (λ (x : Entry). eqb x.index k) entries) (eqb e.index k) (All-head (IsAtIndex points) e entries all) refl (λ (next : list_any (λ (x : Entry). eqb x.index k) entries ≡ true). point_found points entries k (All-tail (IsAtIndex points) e entries all) next) any

listed_at : (points : List V3) → All (IsAtIndex points) (map (entry_at points) (range_with_len 0 (length points)))
listed_at points k d h =
    let n = length-map-range_with_len (entry_at points) 0 (length points) in
    let at = get_or-map-range_with_len (entry_at points) 0 (length points) k k d (omega arith) (omega arith) in
    subst (λ (e : Entry). IsAtIndex points e) (sym at) (record { within = omega arith; point = refl })

all_listed : (points : List V3) (k : ℕ) → k < length points → list_any (λ (e : Entry). eqb e.index k) (map (entry_at points) (range_with_len 0 (length points))) ≡ true
all_listed points k h =
    let n = length-map-range_with_len (entry_at points) 0 (length points) in
    let at = get_or-map-range_with_len (entry_at points) 0 (length points) k k (entry_at points k) (omega arith) (omega arith) in
    list_any_at (λ (e : Entry). eqb e.index k) (map (entry_at points) (range_with_len 0 (length points))) k (entry_at points k) (omega arith) (ap (λ (e : Entry). eqb e.index k) at ∙ eq-eqb k k refl)

-- what is known of entries that are those of a list of points in another order
pub record ArePoints (points : List V3) (entries : List Entry) : Type 0 where
  pub count : length entries ≡ length points
  pub same : points_of entries ≡ points
  pub listed : AreListed entries
  pub all : AreAll entries

pub points_are : (points : List V3) (entries : List Entry) → IsPermutation (map (entry_at points) (range_with_len 0 (length points))) entries → ArePoints points entries
unfolding points_of
points_are points entries moved =
    let list = map (entry_at points) (range_with_len 0 (length points)) in
    let n : length entries ≡ length points = length_permutation list entries moved ∙ length-map-range_with_len (entry_at points) 0 (length points) in
    let all : All (IsAtIndex points) entries = All-permutation (IsAtIndex points) list entries moved (listed_at points) in
    let any : (k : ℕ) → k < length points → list_any (λ (e : Entry). eqb e.index k) entries ≡ true = λ k h. sym (list_any-IsPermutation (λ (e : Entry). eqb e.index k) list entries moved) ∙ all_listed points k h in
    let is : points ≡ map (point_of entries) (range_with_len 0 (length entries)) = fill_by_all (point_of entries) points (length entries) origin (sym n) (λ k h. sym (point_found points entries k all (any k (omega arith)))) in
    record {
      count = n;
      same = sym is;
      listed = subst (λ (ps : List V3). All (IsAtIndex ps) entries) is all;
      all = λ k h. any k (omega arith);
    }

pub length_points : (entries : List Entry) → length (points_of entries) ≡ length entries
unfolding points_of
length_points entries = length-map-range_with_len (point_of entries) 0 (length entries)

pub no_points : (entries : List Entry) → length entries ≡ 0 → points_of entries ≡ []
unfolding points_of
no_points [] e = refl
no_points (x ∷ entries) e = absurd (omega arith)

-- an entry as it is seen from a point
pub candidate_is : (entries : List Entry) (to : V3) (p : ℕ) (d : Entry) → AreListed entries → p < length entries → IsOf (points_of entries) to (candidate to (get_or entries p d))
candidate_is entries to p d listed h = record {
  within = (listed p d h).within;
  distance = ap (λ (x : V3). distance x to) (listed p d h).point;
}

-- the first of two candidates
pub first_is : (points : List V3) (to : V3) (a b r : Candidate) → IsOf points to a → IsOf points to b → r ≡ cond (ltb (rank b) (rank a)) b a → IsOf points to r
first_is points to a b r h k e = subst (λ (x : Candidate). IsOf points to x) (sym e) (by (ltb (rank b) (rank a)))
  where
    by : (t : Bool) → IsOf points to (cond t b a)
    by true = k
    by false = h

pub first_least : (a b r : Candidate) → r ≡ cond (ltb (rank b) (rank a)) b a → (rank r ≤ rank a) × (rank r ≤ rank b)
first_least a b r e = subst (λ (x : Candidate). (rank x ≤ rank a) × (rank x ≤ rank b)) (sym e) (by (ltb (rank b) (rank a)) refl)
  where
    by : (t : Bool) → ltb (rank b) (rank a) ≡ t → (rank (cond t b a) ≤ rank a) × (rank (cond t b a) ≤ rank b)
    by true t = grind (arith, nat_tests)
    by false t = grind (arith, nat_tests)

seen : (entries : List Entry) (c : Candidate) (to : V3) (k : ℕ) → AreListed entries → AreAll entries → ((p : ℕ) (d : Entry) → p < length entries → rank c ≤ rank (candidate to (get_or entries p d))) → k < length entries → rank c ≤ distance (point_at (points_of entries) k) to * 2 ^ 32 + k
seen entries c to k listed all first h =
    let found = Any-from_list_any (λ (e : Entry). eqb e.index k) entries (all k h) in
    let p = found.0 in
    let x : Entry = found.1 in
    let within : p < length entries = found.2 in
    let index : (get_or entries p x).index ≡ k = ap (λ (e : Entry). e.index) found.3 ∙ eqb-true x.index k found.4 in
    let point : distance (get_or entries p x).point to ≡ distance (point_at (points_of entries) k) to = ap (λ (v : V3). distance v to) ((listed p x within).point ∙ ap (point_at (points_of entries)) index) in
    let least = first p x within in
    omega (arith, least, point, index)

-- a candidate that comes behind no entry is the nearest
pub is_nearest : (entries : List Entry) (c : Candidate) (to : V3) → length entries < 2 ^ 32 → AreListed entries → AreAll entries → IsOf (points_of entries) to c → ((p : ℕ) (d : Entry) → p < length entries → rank c ≤ rank (candidate to (get_or entries p d))) → IsNearest (points_of entries) to c.index
is_nearest entries c to short listed all of first =
    let n = length_points entries in
    let here : c.distance ≡ distance (point_at (points_of entries) c.index) to = of.distance in
    let low : c.index < length entries = omega (arith, n, of.within) in
    record {
      within = of.within;
      nearest = λ k h. let there = seen entries c to k listed all first (omega arith) in omega (arith, there, here);
      first = λ k h. let there = seen entries c to k listed all first (omega arith) in omega (arith, there, here);
    }
