-- The order of paths: it is the one of `Ord`, and of two different paths just one stands before the other.
use Rattle.std.proofs.Common.{◌≡◌, ◌≢◌, ◌⊎◌, inl, inr, ◌<◌, ◌≤◌, ℕ, suc, [], ◌∷◌, Option, Some, None, Bool, true, false, refl, sym, ◌∙◌, ap, subst, Ordering, Less, Equal, Greater, is_lt}
use Rattle.std.specs.Prelude.{◌==◌, ◌&&◌, ◌||◌, nat_lt, cond}
use Rattle.std.specs.Option.{option_cmp}
use Rattle.std.specs.Ordering.{MatchOrdering, nat_cmp, ordering_then, ordering_reverse}
use Rattle.std.specs.Cmp.{IsTotalOrder}
use Rattle.std.specs.Cmp.Lexicographic.{slice_cmp, options_total}
use Rattle.std.proofs.lemmas.Cmp.{tied_itself, nat_cmp_total, on_total, then_total, lists_total}
use Rattle.std.proofs.lemmas.Bool.Decides.{leb_tells, eqb_tells}
use Rattle.gn_lazy.specs.declared.path.PathStep.{PathStep}
use Rattle.gn_node_set.specs.Paths.{Path, same_turn, same_path, turn_before, path_before, PathsAreOrdered}
use Rattle.gn_node_set.proofs.Paths.{path_tells}

-- what two tests say beside an ordering: does the first stand before the second, and are they the same?
data Ranked (o : Ordering) (before same : Bool) : Type 0 where
  less : o ≡ Less → before ≡ true → Ranked o before same
  level : o ≡ Equal → before ≡ false → same ≡ true → Ranked o before same
  greater : o ≡ Greater → before ≡ false → same ≡ false → Ranked o before same

numbers : (j k : ℕ) → Ranked (nat_cmp j k) (nat_lt j k) (j == k)
numbers j k = by_less (leb_tells (suc j) k) (eqb_tells j k)
  where
    under : nat_lt j k ≡ true → Ranked (nat_cmp j k) (nat_lt j k) (j == k)
    under f = less (ap (λ b. cond b Less (cond (j == k) Equal Greater)) f) f

    from_less : nat_lt j k ≡ false → nat_cmp j k ≡ cond (j == k) Equal Greater
    from_less f = ap (λ b. cond b Less (cond (j == k) Equal Greater)) f

    by_less : ((nat_lt j k ≡ true) × (suc j ≤ k)) ⊎ ((nat_lt j k ≡ false) × (k < suc j)) → (((j == k) ≡ true) × (j ≡ k)) ⊎ (((j == k) ≡ false) × (j ≢ k)) → Ranked (nat_cmp j k) (nat_lt j k) (j == k)
    by_less (inl f) same = under f.0
    by_less (inr f) (inl same) = level (from_less f.0 ∙ ap (λ b. cond b Equal Greater) same.0) f.0 same.0
    by_less (inr f) (inr other) = greater (from_less f.0 ∙ ap (λ b. cond b Equal Greater) other.0) f.0 other.0

turns : (s t : Option ℕ) → Ranked (option_cmp nat_cmp s t) (turn_before s t) (same_turn s t)
turns None None = level refl refl refl
turns None (Some k) = less refl refl
turns (Some j) None = greater refl refl refl
turns (Some j) (Some k) = numbers j k

-- the first test decides, and the second one where the first finds no difference
joined : {o r : Ordering} {a b s t : Bool} → Ranked o a s → Ranked r b t → Ranked (ordering_then o r) (a || (s && b)) (s && t)
joined {r = r} {b = b} {s = s} {t = t} (less e f) _ = less (ap (λ x. ordering_then x r) e) (ap (λ x. x || (s && b)) f)
joined {r = r} {b = b} {t = t} (level e f g) (less h i) = less (ap (λ x. ordering_then x r) e ∙ h) ((λ k. f k || (g k && b)) ∙ i)
joined {r = r} {b = b} {t = t} (level e f g) (level h i l) = level (ap (λ x. ordering_then x r) e ∙ h) ((λ k. f k || (g k && b)) ∙ i) (ap (λ x. x && t) g ∙ l)
joined {r = r} {b = b} {t = t} (level e f g) (greater h i l) = greater (ap (λ x. ordering_then x r) e ∙ h) ((λ k. f k || (g k && b)) ∙ i) (ap (λ x. x && t) g ∙ l)
joined {r = r} {b = b} {t = t} (greater e f g) _ = greater (ap (λ x. ordering_then x r) e) (λ k. f k || (g k && b)) (ap (λ x. x && t) g)

regrouped : (a b c : Bool) → ((a && b) && c) ≡ (a && (b && c))
regrouped true b c = refl
regrouped false b c = refl

-- the order of steps, and that of paths
abbrev pub step_cmp : PathStep → PathStep → Ordering
step_cmp s t = ordering_then (nat_cmp s.node t.node) (option_cmp nat_cmp s.turn t.turn)

paths : (p q : Path) → Ranked (slice_cmp step_cmp p q) (path_before p q) (same_path p q)
paths [] [] = level refl refl refl
paths [] (t ∷ q) = less refl refl
paths (s ∷ p) [] = greater refl refl refl
paths (s ∷ p) (t ∷ q) =
    subst (λ e. Ranked (ordering_then (step_cmp s t) (slice_cmp step_cmp p q)) ((nat_lt s.node t.node || (s.node == t.node && turn_before s.turn t.turn)) || e) (s.node == t.node && (same_turn s.turn t.turn && same_path p q)))
    (regrouped (s.node == t.node) (same_turn s.turn t.turn) (path_before p q))
    (subst (λ e. Ranked (ordering_then (step_cmp s t) (slice_cmp step_cmp p q)) ((nat_lt s.node t.node || (s.node == t.node && turn_before s.turn t.turn)) || ((s.node == t.node && same_turn s.turn t.turn) && path_before p q)) e)
    (regrouped (s.node == t.node) (same_turn s.turn t.turn) (same_path p q))
    (joined (joined (numbers s.node t.node) (turns s.turn t.turn)) (paths p q)))

by_rank : {o : Ordering} {before same : Bool} → Ranked o before same → is_lt o ≡ before
by_rank (less e f) = ap is_lt e ∙ sym f
by_rank (level e f g) = ap is_lt e ∙ sym f
by_rank (greater e f g) = ap is_lt e ∙ sym f

-- the order is that of `Ord`
pub by_cmp : (p q : Path) → is_lt (slice_cmp step_cmp p q) ≡ path_before p q
by_cmp p q = by_rank (paths p q)

total : IsTotalOrder {K = Path} (slice_cmp step_cmp)
total = lists_total (then_total (on_total (λ s. s.node) nat_cmp_total) (on_total (λ s. s.turn) (options_total nat_cmp_total)))

cmp_less : {o : Ordering} {before same : Bool} → Ranked o before same → before ≡ true → o ≡ Less
cmp_less (less e f) b = e
cmp_less (level e f g) b = let bad : true ≡ false = sym b ∙ f in cc
cmp_less (greater e f g) b = let bad : true ≡ false = sym b ∙ f in cc

is_less : {o : Ordering} {before same : Bool} → Ranked o before same → o ≡ Less → before ≡ true
is_less r e = sym (by_rank r) ∙ ap is_lt e

is_level : {o : Ordering} {before same : Bool} → Ranked o before same → o ≡ Equal → same ≡ true
is_level (less e f) q = let bad : Less ≡ Equal = sym e ∙ q in cc
is_level (level e f g) q = g
is_level (greater e f g) q = let bad : Greater ≡ Equal = sym e ∙ q in cc

-- what an answer of `cmp` says of two paths
pub told_by_cmp : (p q : Path) (o : Ordering) → o ≡ slice_cmp step_cmp p q → MatchOrdering o (path_before p q ≡ true) (p ≡ q) (path_before q p ≡ true)
told_by_cmp p q Less e = sym (by_cmp p q) ∙ ap is_lt (sym e)
told_by_cmp p q Equal e = elim (path_tells p q) [ inl t ↦ t.1 | inr t ↦ absurd (let bad : true ≡ false = sym (is_level (paths p q) (sym e)) ∙ t.0 in cc) ]
told_by_cmp p q Greater e = is_less (paths q p) (total.antisymm q p ∙ ap ordering_reverse (sym e))

-- ---- a strict total order

pub not_before_itself : (p : Path) → path_before p p ≡ false
not_before_itself p = sym (by_cmp p p) ∙ ap is_lt (tied_itself total p)

pub before_further : (p q r : Path) → path_before p q ≡ true → path_before q r ≡ true → path_before p r ≡ true
before_further p q r b c = is_less (paths p r) (total.trans p q r (cmp_less (paths p q) b) (cmp_less (paths q r) c))

-- of two paths that differ one stands before the other
pub one_before : (p q : Path) → p ≢ q → (path_before p q ≡ true) ⊎ (path_before q p ≡ true)
one_before p q differ = by_first (paths p q)
  where
    by_first : Ranked (slice_cmp step_cmp p q) (path_before p q) (same_path p q) → (path_before p q ≡ true) ⊎ (path_before q p ≡ true)
    by_first (less e f) = inl f
    by_first (level e f g) = elim (path_tells p q) [ inl t ↦ absurd (differ t.1) | inr t ↦ absurd (let bad : true ≡ false = sym g ∙ t.0 in cc) ]
    by_first (greater e f g) = inr (is_less (paths q p) (total.antisymm q p ∙ ap ordering_reverse e))

-- and not both
pub not_back : (p q : Path) → path_before p q ≡ true → path_before q p ≡ false
not_back p q b = sym (by_cmp q p) ∙ ap is_lt (total.antisymm q p ∙ ap ordering_reverse (cmp_less (paths p q) b))

pub are_ordered : PathsAreOrdered
are_ordered = record { not_itself = not_before_itself; carries_on = before_further; one_before = one_before }
