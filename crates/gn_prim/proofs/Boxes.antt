-- The lists of a cuboid are those of a mesh.
use Rattle.std.proofs.Common.{◌≡◌, ◌≢◌, ℕ, ◌<◌, ◌==◌, ◌&&◌, nat_lt, Bool, true, false, not, All, AllPairs, List, [], ◌∷◌, length, refl, ap, subst, ◌∙◌, arith}
use Rattle.std.proofs.lemmas.List.Elements.{All-nil, All-cons, All-from_recursion}
use Rattle.std.proofs.lemmas.List.Kept.{AllPairs-cons}
use Rattle.std.proofs.lemmas.Bool.Decides.{nat_tests}
use Rattle.gn_value.specs.declared.vector.V3.{V3}
use Rattle.gn_plain.specs.Topology.{Topology, IsValid, IsNumbered, IsJoined, vertices_of, faces_of, shape_of}
use Rattle.gn_geom.specs.Meshes.{topology}
use Rattle.gn_shapes.specs.Cuboids.{vertices_between, cuboid}

-- ---- lists whose members differ, by a test

both : (a b : Bool) → (a && b) ≡ true → (a ≡ true) × (b ≡ true)
both true true e = (refl, refl)
both true false e = cc
both false b e = cc

not_both : (a : Bool) → not a ≡ true → a ≡ true → ⊥
not_both true e h = cc
not_both false e h = cc

module _ {X : Type 0} (eq : X → X → Bool) (self : (x : X) → eq x x ≡ true) where
  abbrev is_new : X → List X → Bool
  is_new x [] = true
  is_new x (y ∷ ys) = not (eq x y) && is_new x ys

  abbrev all_new : List X → Bool
  all_new [] = true
  all_new (x ∷ xs) = is_new x xs && all_new xs

  new_differs : (x : X) (ys : List X) → is_new x ys ≡ true → All (λ y. x ≢ y) ys
  new_differs x [] e = All-nil (λ y. x ≢ y)
  new_differs x (y ∷ ys) e =
      let parts = both (not (eq x y)) (is_new x ys) e in
      All-cons (λ z. x ≢ z) y ys (λ same. not_both (eq x y) parts.0 (subst (λ z. eq x z ≡ true) same (self x))) (new_differs x ys parts.1)

  all_differ : (xs : List X) → all_new xs ≡ true → AllPairs (λ a b. a ≢ b) xs
  all_differ [] e = λ i j d less within. absurd (omega (arith, within))
  all_differ (x ∷ xs) e = let parts = both (is_new x xs) (all_new xs) e in AllPairs-cons (λ a b. a ≢ b) x xs (new_differs x xs parts.0) (all_differ xs parts.1)

same_number : (n : ℕ) → (n == n) ≡ true
same_number n = grind arith

abbrev is_pair : ℕ × ℕ → ℕ × ℕ → Bool
is_pair a b = a.0 == b.0 && a.1 == b.1

same_pair : (p : ℕ × ℕ) → is_pair p p ≡ true
same_pair p = ap (λ t. t && (p.1 == p.1)) (same_number p.0) ∙ same_number p.1

-- ---- the lists

abbrev pub box : Topology
box = record {
  points = 8;
  edges = (0, 1) ∷ (1, 3) ∷ (2, 3) ∷ (0, 2) ∷ (4, 6) ∷ (6, 7) ∷ (5, 7) ∷ (4, 5) ∷ (0, 4) ∷ (1, 5) ∷ (3, 7) ∷ (2, 6) ∷ [];
  corner_points = 0 ∷ 1 ∷ 3 ∷ 2 ∷ 4 ∷ 6 ∷ 7 ∷ 5 ∷ 0 ∷ 4 ∷ 5 ∷ 1 ∷ 2 ∷ 3 ∷ 7 ∷ 6 ∷ 0 ∷ 2 ∷ 6 ∷ 4 ∷ 1 ∷ 5 ∷ 7 ∷ 3 ∷ [];
  corner_edges = 0 ∷ 1 ∷ 2 ∷ 3 ∷ 4 ∷ 5 ∷ 6 ∷ 7 ∷ 8 ∷ 7 ∷ 9 ∷ 0 ∷ 2 ∷ 10 ∷ 5 ∷ 11 ∷ 3 ∷ 11 ∷ 4 ∷ 8 ∷ 9 ∷ 6 ∷ 10 ∷ 1 ∷ [];
  faces = 0 ∷ 4 ∷ 8 ∷ 12 ∷ 16 ∷ 20 ∷ 24 ∷ [];
}

-- numbers that are all below a bound, by a test
abbrev are_below : ℕ → List ℕ → Bool
are_below n [] = true
are_below n (x ∷ xs) = nat_lt x n && are_below n xs

below : (x n : ℕ) → nat_lt x n ≡ true → x < n
below x n e = grind (arith, nat_tests)

all_below : (n : ℕ) (xs : List ℕ) → are_below n xs ≡ true → All (λ x. x < n) xs
all_below n [] e = All-nil (λ x. x < n)
all_below n (x ∷ xs) e = let parts = both (nat_lt x n) (are_below n xs) e in All-cons (λ y. y < n) x xs (below x n parts.0) (all_below n xs parts.1)

differ_4 : (a b c d : ℕ) → all_new (λ (x y : ℕ). x == y) same_number (a ∷ b ∷ c ∷ d ∷ []) ≡ true → AllPairs (λ x y. x ≢ y) (a ∷ b ∷ c ∷ d ∷ [])
differ_4 a b c d e = all_differ (λ (x y : ℕ). x == y) same_number (a ∷ b ∷ c ∷ d ∷ []) e

pub valid_box : IsValid box
valid_box = record {
  lesser_first = All-from_recursion (λ e. e.0 < e.1) box.edges
      (omega arith, (omega arith, (omega arith, (omega arith, (omega arith, (omega arith, (omega arith, (omega arith, (omega arith, (omega arith, (omega arith, (omega arith, tt))))))))))));
  edges_within = All-from_recursion (λ e. e.1 < 8) box.edges
      (omega arith, (omega arith, (omega arith, (omega arith, (omega arith, (omega arith, (omega arith, (omega arith, (omega arith, (omega arith, (omega arith, (omega arith, tt))))))))))));
  edges_differ = all_differ is_pair same_pair box.edges refl;
  paired = refl;
  corner_points_within = all_below 8 box.corner_points refl;
  corner_edges_within = all_below 12 box.corner_edges refl;
  offsets = (refl, (omega arith, (omega arith, (omega arith, (omega arith, (omega arith, (omega arith, refl)))))));
  vertices_differ = All-from_recursion (λ f. AllPairs (λ a b. a ≢ b) (vertices_of f)) (faces_of box)
      (differ_4 0 1 3 2 refl, (differ_4 4 6 7 5 refl, (differ_4 0 4 5 1 refl, (differ_4 2 3 7 6 refl, (differ_4 0 2 6 4 refl, (differ_4 1 5 7 3 refl, tt))))));
  joined = All-from_recursion (IsJoined box.edges) (faces_of box) (refl, (refl, (refl, (refl, (refl, (refl, tt))))));
}

pub numbered_box : IsNumbered box
numbered_box = record { points = omega arith; edges = omega arith; corner_points = omega arith; corner_edges = omega arith; faces = omega arith }

pub box_is : (low high : V3) → shape_of (vertices_between low high) box ≡ cuboid low high
box_is low high = refl

pub box_of : (points : List V3) (edges : List (ℕ × ℕ)) (faces corner_points corner_edges : List ℕ)
    → length points ≡ 8 → edges ≡ box.edges → faces ≡ box.faces → corner_points ≡ box.corner_points → corner_edges ≡ box.corner_edges
    → topology points edges faces corner_points corner_edges ≡ box
box_of points edges faces corner_points corner_edges p e f v c = λ i. record { points = p i; edges = e i; corner_points = v i; corner_edges = c i; faces = f i }
