-- Walks along the list of a vertex.
use Rattle.std.proofs.Common.{◌≡◌, ℕ, zero, suc, ◌<◌, ◌≤◌, Bool, true, false, cond, eqb, List, [], ◌∷◌, ◌++◌, length, get_or, refl, sym, ap, ◌∙◌, arith}
use Rattle.std.proofs.lemmas.List.{get_or_append_left}
use Rattle.std.proofs.lemmas.Bool.Decides.{Decides-eqb, Decides-and}
use Rattle.std.specs.Bool.{Decides}
use Rattle.gn_edges.specs.Kept.{is_pair, walk}
use Rattle.gn_edges.specs.declared.place.Place.{Place}
use Rattle.gn_edges.specs.declared.place.Place.TheVariants.{At, Nowhere, Beyond}

pub pair_decides : (a b : ℕ × ℕ) → Decides (is_pair a b) (a ≡ b)
pair_decides a b =
    let both = Decides-and (eqb a.0 b.0) (eqb a.1 b.1) (Decides-eqb a.0 b.0) (Decides-eqb a.1 b.1) in
    (λ e. let p = both.0 e in λ i. (p.0 i, p.1 i), λ e. both.1 (ap (λ p. p.0) e, ap (λ p. p.1) e))

-- ---- one step

pub walk_out : (pairs : List (ℕ × ℕ)) (next : List ℕ) (e : ℕ × ℕ) (left link : ℕ) → left ≡ 0 → walk pairs next e left link ≡ Beyond
unfolding walk
walk_out pairs next e left link h = rw h refl

pub walk_end : (pairs : List (ℕ × ℕ)) (next : List ℕ) (e : ℕ × ℕ) (left link : ℕ) → 0 < left → link ≡ 0 → walk pairs next e left link ≡ Nowhere
unfolding walk
walk_end pairs next e zero link h l = absurd (omega arith)
walk_end pairs next e (suc left) link h l = rw l refl

pub walk_at : (pairs : List (ℕ × ℕ)) (next : List ℕ) (e : ℕ × ℕ) (left link k : ℕ) → 0 < left → link ≡ suc k → is_pair e (get_or pairs k (0, 0)) ≡ true → walk pairs next e left link ≡ At k
unfolding walk
walk_at pairs next e zero link k h l t = absurd (omega arith)
walk_at pairs next e (suc left) link k h l t = rw (l, t) refl

pub walk_on : (pairs : List (ℕ × ℕ)) (next : List ℕ) (e : ℕ × ℕ) (left link k rest : ℕ) → left ≡ suc rest → link ≡ suc k → is_pair e (get_or pairs k (0, 0)) ≡ false → walk pairs next e left link ≡ walk pairs next e rest (get_or next k 0)
unfolding walk
walk_on pairs next e left link k rest h l t = rw (h, l, t) refl

-- ---- a pair more behind the others

pub walk_pushed : (pairs : List (ℕ × ℕ)) (next : List ℕ) (e p : ℕ × ℕ) (x left link : ℕ) → length next ≡ length pairs → ((k : ℕ) → get_or next k 0 ≤ length pairs) → link ≤ length pairs
    → walk (pairs ++ p ∷ []) (next ++ x ∷ []) e left link ≡ walk pairs next e left link
unfolding walk
walk_pushed pairs next e p x zero link paired nexts l = refl
walk_pushed pairs next e p x (suc left) zero paired nexts l = refl
walk_pushed pairs next e p x (suc left) (suc k) paired nexts l =
    let in_pairs : k < length pairs = omega arith in
    let in_next : k < length next = omega arith in
    rw (get_or_append_left pairs (p ∷ []) (0, 0) k in_pairs, get_or_append_left next (x ∷ []) 0 k in_next)
    (ap (λ w. cond (is_pair e (get_or pairs k (0, 0))) (At k) w) (walk_pushed pairs next e p x left (get_or next k 0) paired nexts (nexts k)))

-- ---- walks for two pairs along one list

ends_at : (k : ℕ) (u v : Place) (b c : Bool) → cond b (At k) u ≡ Nowhere → cond c (At k) v ≡ Beyond → (u ≡ Nowhere → v ≡ Beyond → ⊥) → ⊥
ends_at k u v true c h g rest = cc
ends_at k u v false true h g rest = cc
ends_at k u v false false h g rest = rest h g

-- a list has an end for both
pub walk_ends : (pairs : List (ℕ × ℕ)) (next : List ℕ) (p q : ℕ × ℕ) (left link : ℕ) → walk pairs next p left link ≡ Nowhere → walk pairs next q left link ≡ Beyond → ⊥
unfolding walk
walk_ends pairs next p q zero link h g = cc
walk_ends pairs next p q (suc left) zero h g = cc
walk_ends pairs next p q (suc left) (suc k) h g =
    ends_at k (walk pairs next p left (get_or next k 0)) (walk pairs next q left (get_or next k 0)) (is_pair p (get_or pairs k (0, 0))) (is_pair q (get_or pairs k (0, 0))) h g
    (walk_ends pairs next p q left (get_or next k 0))

last_at : (j : ℕ) (b : Bool) → cond b (At j) Beyond ≡ Nowhere → ⊥
last_at j true h = cc
last_at j false h = cc

fewer_at : (j k : ℕ) (u v w : Place) (b c : Bool) → cond b (At j) u ≡ Nowhere → cond c (At j) v ≡ At k → (u ≡ Nowhere → v ≡ At k → w ≡ At k) → cond c (At j) w ≡ At k
fewer_at j k u v w true c h g rest = cc
fewer_at j k u v w false true h g rest = g
fewer_at j k u v w false false h g rest = rest h g

-- where a list ends before the last pair that is looked at, all of it is found by one step less
pub walk_fewer : (pairs : List (ℕ × ℕ)) (next : List ℕ) (p q : ℕ × ℕ) (left link k : ℕ) → walk pairs next p (suc left) link ≡ Nowhere → walk pairs next q (suc left) link ≡ At k → walk pairs next q left link ≡ At k
unfolding walk
walk_fewer pairs next p q zero zero k h g = cc
walk_fewer pairs next p q zero (suc j) k h g = absurd (last_at j (is_pair p (get_or pairs j (0, 0))) h)
walk_fewer pairs next p q (suc left) zero k h g = cc
walk_fewer pairs next p q (suc left) (suc j) k h g =
    fewer_at j k (walk pairs next p (suc left) (get_or next j 0)) (walk pairs next q (suc left) (get_or next j 0)) (walk pairs next q left (get_or next j 0)) (is_pair p (get_or pairs j (0, 0))) (is_pair q (get_or pairs j (0, 0))) h g
    (walk_fewer pairs next p q left (get_or next j 0) k)

-- ---- what a walk finds

sound_at : (pairs : List (ℕ × ℕ)) (e : ℕ × ℕ) (j k : ℕ) (w : Place) (b : Bool) → is_pair e (get_or pairs j (0, 0)) ≡ b → j < length pairs → cond b (At j) w ≡ At k → (w ≡ At k → (k < length pairs) × (get_or pairs k (0, 0) ≡ e)) → (k < length pairs) × (get_or pairs k (0, 0) ≡ e)
sound_at pairs e j k w true t within h rest =
    let same : j ≡ k = cc in
    (omega arith, ap (λ i. get_or pairs i (0, 0)) (sym same) ∙ sym ((pair_decides e (get_or pairs j (0, 0))).0 t))
sound_at pairs e j k w false t within h rest = rest h

pub walk_sound : (pairs : List (ℕ × ℕ)) (next : List ℕ) (e : ℕ × ℕ) (left link k : ℕ) → ((k : ℕ) → get_or next k 0 ≤ length pairs) → link ≤ length pairs → walk pairs next e left link ≡ At k → (k < length pairs) × (get_or pairs k (0, 0) ≡ e)
unfolding walk
walk_sound pairs next e zero link k nexts l h = cc
walk_sound pairs next e (suc left) zero k nexts l h = cc
walk_sound pairs next e (suc left) (suc j) k nexts l h =
    sound_at pairs e j k (walk pairs next e left (get_or next j 0)) (is_pair e (get_or pairs j (0, 0))) refl (omega arith) h
    (walk_sound pairs next e left (get_or next j 0) k nexts (nexts j))
