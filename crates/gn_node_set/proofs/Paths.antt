-- Equal paths, tables by paths, and the zone of a path.
use Rattle.std.proofs.Common.{◌≡◌, ◌≢◌, ◌⊎◌, inl, inr, ℕ, [], ◌∷◌, Option, Some, None, Bool, true, false, refl, sym, ◌∙◌, ap, subst}
use Rattle.std.specs.Prelude.{◌==◌, ◌&&◌, ◌||◌, is_some, is_none, option_map, if◌then◌else◌}
use Rattle.std.proofs.lemmas.Bool.Decides.{eqb_tells}
use Rattle.gn_lazy.specs.declared.path.PathStep.{PathStep}
use Rattle.gn_node_set.specs.Paths.{Path, same_turn, same_path, ends_plain, has_turn, left_out, zone_of, with_entry}

-- a test decides whether it holds
abbrev Tells : Bool → Type 0 → Type 0
Tells b P = (b ≡ true) × P ⊎ (b ≡ false) × (¬ P)

turn_tells : (s t : Option ℕ) → Tells (same_turn s t) (s ≡ t)
turn_tells None None = inl (refl, refl)
turn_tells None (Some k) = inr (refl, λ e. let f : None ≡ Some k = e in cc)
turn_tells (Some j) None = inr (refl, λ e. let f : Some j ≡ None = e in cc)
turn_tells (Some j) (Some k) = elim (eqb_tells j k) [ inl t ↦ inl (t.0, ap Some t.1) | inr t ↦ inr (t.0, λ e. t.1 (let f : Some j ≡ Some k = e in cc)) ]

both_tell : (a b : Bool) (P Q R : Type 0) → Tells a P → Tells b Q → (P → Q → R) → (R → P) → (R → Q) → Tells (a && b) R
both_tell a b P Q R (inl p) (inl q) both first second = inl (ap (λ c. c && b) p.0 ∙ q.0, both p.1 q.1)
both_tell a b P Q R (inl p) (inr q) both first second = inr (ap (λ c. c && b) p.0 ∙ q.0, λ r. q.1 (second r))
both_tell a b P Q R (inr p) q both first second = inr (ap (λ c. c && b) p.0, λ r. p.1 (first r))

first_step : Path → Path
first_step [] = []
first_step (s ∷ p) = s ∷ []

node_first : Path → ℕ
node_first [] = 0
node_first (s ∷ p) = s.node

turn_first : Path → Option ℕ
turn_first [] = None
turn_first (s ∷ p) = s.turn

steps_behind : Path → Path
steps_behind [] = []
steps_behind (s ∷ p) = p

pub path_tells : (p q : Path) → Tells (same_path p q) (p ≡ q)
unfolding node_first turn_first steps_behind
path_tells [] [] = inl (refl, refl)
path_tells [] (t ∷ q) = inr (refl, λ e. cc)
path_tells (s ∷ p) [] = inr (refl, λ e. cc)
path_tells (s ∷ p) (t ∷ q) =
    both_tell (s.node == t.node) (same_turn s.turn t.turn && same_path p q) (s.node ≡ t.node) ((s.turn ≡ t.turn) × (p ≡ q)) (◌≡◌ {A = Path} (s ∷ p) (t ∷ q))
    (eqb_tells s.node t.node)
    (both_tell (same_turn s.turn t.turn) (same_path p q) (s.turn ≡ t.turn) (p ≡ q) ((s.turn ≡ t.turn) × (p ≡ q)) (turn_tells s.turn t.turn) (path_tells p q) (λ a b. (a, b)) (λ r. r.0) (λ r. r.1))
    (λ a b i. record { node = a i; turn = b.0 i } ∷ b.1 i) (λ e. ap node_first e) (λ e. (ap turn_first e, ap steps_behind e))

-- by the test of two paths
pub by_path : (P : Bool → Type 0) (p q : Path) → (p ≡ q → P true) → (p ≢ q → P false) → P (same_path p q)
by_path P p q same other = elim (path_tells p q) [ inl t ↦ subst P (sym t.0) (same t.1) | inr t ↦ subst P (sym t.0) (other t.1) ]

pub entry_here : {A : Type 0} (p : Path) (a : A) (table : Path → Option A) → with_entry p a table p ≡ Some a
entry_here p a table = by_path (λ t. (if t then Some a else table p) ≡ Some a) p p (λ _. refl) (λ n. absurd (n refl))

pub entry_other : {A : Type 0} (p : Path) (a : A) (table : Path → Option A) (q : Path) → p ≢ q → with_entry p a table q ≡ table q
entry_other p a table q other = by_path (λ t. (if t then Some a else table q) ≡ table q) p q (λ e. absurd (other e)) (λ _. refl)

-- an entry is the new one or an old one
pub entry_is : {A : Type 0} (p : Path) (a : A) (table : Path → Option A) (q : Path) (b : A) → with_entry p a table q ≡ Some b → (p ≡ q) × (a ≡ b) ⊎ (p ≢ q) × (table q ≡ Some b)
entry_is p a table q b =
    by_path (λ t. (if t then Some a else table q) ≡ Some b → (p ≡ q) × (a ≡ b) ⊎ (p ≢ q) × (table q ≡ Some b)) p q
    (λ same e. inl (same, let f : Some a ≡ Some b = e in cc)) (λ other e. inr (other, e))

-- an entry that is not there yet takes nothing away
pub entry_keeps : {A : Type 0} (p : Path) (a : A) (table : Path → Option A) → table p ≡ None → (q : Path) (b : A) → table q ≡ Some b → with_entry p a table q ≡ Some b
entry_keeps p a table none q b e =
    by_path (λ t. (if t then Some a else table q) ≡ Some b) p q
    (λ same. let bad : None ≡ Some b = sym none ∙ ap table same ∙ e in cc) (λ _. e)

-- a path without turns is in no zone
pub no_zone : (p : Path) → has_turn p ≡ false → zone_of p ≡ None
no_zone [] e = refl
no_zone (s ∷ p) e = by_rest (has_turn p) refl s.turn refl e
  where
    left : (t : Option ℕ) → s.turn ≡ t → is_some t ≡ false → left_out s p ≡ None
    left t is e = by_list p t is e
      where
        by_list : (q : Path) (t : Option ℕ) → s.turn ≡ t → is_some t ≡ false → left_out s q ≡ None
        by_list [] t is e = refl
        by_list (_ ∷ _) None is e = ap (option_map (λ turn. record { node = s.node; turn = None } ∷ [])) is
        by_list (_ ∷ _) (Some k) is e = cc

    by_rest : (b : Bool) → has_turn p ≡ b → (t : Option ℕ) → s.turn ≡ t → (is_some s.turn || has_turn p) ≡ false → (if has_turn p then option_map (λ q. s ∷ q) (zone_of p) else left_out s p) ≡ None
    by_rest true is None at e = let bad : true ≡ false = sym is ∙ ap (λ o. is_some o || has_turn p) (sym at) ∙ e in cc
    by_rest true is (Some k) at e = let bad : true ≡ false = ap (λ o. is_some o || has_turn p) (sym at) ∙ e in cc
    by_rest false is None at e = ap (λ b. if b then option_map (λ q. s ∷ q) (zone_of p) else left_out s p) is ∙ left None at refl
    by_rest false is (Some k) at e = let bad : true ≡ false = ap (λ o. is_some o || has_turn p) (sym at) ∙ e in cc

-- a path without turns that has a last step ends plainly, and so does one into a turn of a zone
ends_behind : (s : PathStep) (p : Path) → ends_plain p ≡ true → ends_plain (s ∷ p) ≡ true
ends_behind s [] e = cc
ends_behind s (t ∷ p) e = e

plain_ends : (p : Path) → has_turn p ≡ false → p ≢ [] → ends_plain p ≡ true
plain_ends [] e some = absurd (some refl)
plain_ends (s ∷ []) e some = by_turn s.turn refl e
  where
    by_turn : (t : Option ℕ) → s.turn ≡ t → (is_some s.turn || false) ≡ false → is_none s.turn ≡ true
    by_turn None is e = ap is_none is
    by_turn (Some k) is e = let bad : true ≡ false = ap (λ o. is_some o || false) (sym is) ∙ e in cc
plain_ends (s ∷ t ∷ p) e some = plain_ends (t ∷ p) (second (is_some s.turn) (has_turn (t ∷ p)) e) (λ q. cc)
  where
    second : (a b : Bool) → (a || b) ≡ false → b ≡ false
    second true b e = cc
    second false b e = e

pub turn_ends : (p q : Path) → zone_of p ≡ Some q → ends_plain p ≡ true
turn_ends [] q e = cc
turn_ends (s ∷ p) q e = by_rest (has_turn p) refl e (turn_ends p)
  where
    left : (r : Path) → has_turn r ≡ false → left_out s r ≡ Some q → ends_plain (s ∷ r) ≡ true
    left [] none e = cc
    left (t ∷ r) none e = plain_ends (t ∷ r) none (λ bad. cc)

    inner : (o : Option Path) → option_map (λ z. s ∷ z) o ≡ Some q → (z : Path) × (o ≡ Some z)
    inner None e = cc
    inner (Some z) e = (z, refl)

    by_rest : (b : Bool) → has_turn p ≡ b → (if b then option_map (λ z. s ∷ z) (zone_of p) else left_out s p) ≡ Some q → ((z : Path) → zone_of p ≡ Some z → ends_plain p ≡ true) → ends_plain (s ∷ p) ≡ true
    by_rest true is e rest = let z : (z : Path) × (zone_of p ≡ Some z) = inner (zone_of p) e in ends_behind s p (rest z.0 z.1)
    by_rest false is e rest = left p is e
