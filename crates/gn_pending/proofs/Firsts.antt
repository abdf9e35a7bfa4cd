-- Of the flagged nodes the one whose path is first, as one more node is looked at.
use Rattle.std.proofs.Common.{◌≡◌, ◌⊎◌, inl, inr, ℕ, zero, suc, ◌+◌, ◌<◌, ◌≤◌, Bool, true, false, List, [], ◌∷◌, ◌++◌, length, take, Option, Some, None, refl, sym, ap, ◌∙◌, subst, true≢false, arith}
use Rattle.std.specs.Prelude.{slice_get, slice_index_or, option_map}
use Rattle.gn_lazy.specs.declared.graph.GraphNode.{GraphNode}
use Rattle.gn_node_set.specs.Meanings.{Has}
use Rattle.gn_node_set.specs.Paths.{Path, path_before}
use Rattle.gn_node_set.proofs.Lists.{some_same, not_both, has_first, has_second, has_either}
use Rattle.gn_node_set.proofs.PathOrder.{not_before_itself, before_further}
use Rattle.gn_pending.specs.Flags.{IsFlagged, IsFirstOf, AreFlagged}

-- ---- flags

pub none_flagged : (flags : List Bool) → AreFlagged flags []
none_flagged flags n h = absurd h

pub one_more_flagged : (flags : List Bool) (ns : List ℕ) (n : ℕ) → AreFlagged flags ns → slice_index_or flags n false ≡ true → AreFlagged flags (ns ++ n ∷ [])
one_more_flagged flags ns n all set k h = elim (has_either ns (n ∷ []) k h) [
  | inl a ↦ all k a
  | inr b ↦ subst (λ j. slice_index_or flags j false ≡ true) (sym (only k b)) set
]
  where
    only : (k : ℕ) → Has (n ∷ []) k → k ≡ n
    only k (inl e) = e
    only k (inr f) = absurd f

pub take_one_more : {A : Type 0} (xs : List A) (n : ℕ) (x : A) → slice_get xs n ≡ Some x → take (n + 1) xs ≡ take n xs ++ x ∷ []
take_one_more xs n x e = let one : n + 1 ≡ suc n = omega arith in ap (λ k. take k xs) one ∙ by xs n e
  where
    by : (xs : List _) (n : ℕ) → slice_get xs n ≡ Some x → take (suc n) xs ≡ take n xs ++ x ∷ []
    by [] n e = cc
    by (y ∷ xs) zero e = ap (λ z. z ∷ []) (some_same e)
    by (y ∷ xs) (suc n) e = ap (λ zs. y ∷ zs) (by xs n e)

-- ---- the first

true_or_false : (b : Bool) → (b ≡ true) ⊎ (b ≡ false)
true_or_false true = inl refl
true_or_false false = inr refl

not_less : (p q r : Path) → path_before p q ≡ true → path_before r q ≡ false → path_before r p ≡ false
not_less p q r before not = elim (true_or_false (path_before r p)) [
  | inl t ↦ absurd (true≢false (sym (before_further r p q t before) ∙ not))
  | inr f ↦ f
]

module _ {G : Type 0} (nodes : List (GraphNode G)) (flags : List Bool) where
  abbrev Flagged : ℕ → GraphNode G → Type 0
  Flagged = IsFlagged nodes flags

  abbrev First : List ℕ → Option ℕ → Type 0
  First = IsFirstOf nodes flags

  one : (n k : ℕ) → Has (n ∷ []) k → k ≡ n
  one n k (inl e) = e
  one n k (inr f) = absurd f

  -- a node that is not flagged changes nothing
  pub first_keeps : (ns : List ℕ) (first : Option ℕ) (n : ℕ) → ((at : GraphNode G) → ¬ Flagged n at) → First ns first → First (ns ++ n ∷ []) first
  first_keeps ns None n not f = λ k at h flagged. elim (has_either ns (n ∷ []) k h) [
    | inl a ↦ f k at a flagged
    | inr b ↦ not at (subst (λ j. Flagged j at) (one n k b) flagged)
  ]
  first_keeps ns (Some j) n not f = (
    has_first ns (n ∷ []) j f.0,
    (
      f.1.0,
      f.1.1,
      λ k at h flagged. elim (has_either ns (n ∷ []) k h) [
        | inl a ↦ f.1.2 k at a flagged
        | inr b ↦ absurd (not at (subst (λ i. Flagged i at) (one n k b) flagged))
      ],
    ),
  )

  same_at : (n k : ℕ) (at other : GraphNode G) → k ≡ n → Flagged n at → Flagged k other → other ≡ at
  same_at n k at other e a b = some_same (sym b.there ∙ ap (λ j. slice_get nodes j) e ∙ a.there)

  -- a flagged node is the first one where none was flagged
  pub first_found : (ns : List ℕ) (n : ℕ) (at : GraphNode G) → Flagged n at → First ns None → First (ns ++ n ∷ []) (Some n)
  first_found ns n at flagged f = (
    has_second ns (n ∷ []) n (inl refl),
    (
      at,
      flagged,
      λ k other h w. elim (has_either ns (n ∷ []) k h) [
        | inl a ↦ absurd (f k other a w)
        | inr b ↦
            subst (λ x. path_before x.path.steps.items at.path.steps.items ≡ false) (sym (same_at n k at other (one n k b) flagged w)) (not_before_itself at.path.steps.items)
      ],
    ),
  )

  -- and where its path is before that of the one that was first
  pub first_goes : (ns : List ℕ) (j n : ℕ) (at before : GraphNode G) → Flagged n at → slice_get nodes j ≡ Some before → path_before at.path.steps.items before.path.steps.items ≡ true → First ns (Some j) → First (ns ++ n ∷ []) (Some n)
  first_goes ns j n at before flagged is less f =
      let same : f.1.0 ≡ before = some_same (sym f.1.1.there ∙ is) in (
        has_second ns (n ∷ []) n (inl refl),
        (
          at,
          flagged,
          λ k other h w. elim (has_either ns (n ∷ []) k h) [
            | inl a ↦ not_less at.path.steps.items before.path.steps.items other.path.steps.items less (subst (λ x. path_before other.path.steps.items x.path.steps.items ≡ false) same (f.1.2 k other a w))
            | inr b ↦
                subst (λ x. path_before x.path.steps.items at.path.steps.items ≡ false) (sym (same_at n k at other (one n k b) flagged w)) (not_before_itself at.path.steps.items)
          ],
        ),
      )

  -- else the one that was first stays so
  pub first_stays : (ns : List ℕ) (j n : ℕ) (at before : GraphNode G) → slice_get nodes n ≡ Some at → slice_get nodes j ≡ Some before → path_before at.path.steps.items before.path.steps.items ≡ false → First ns (Some j) → First (ns ++ n ∷ []) (Some j)
  first_stays ns j n at before here is not f =
      let same : before ≡ f.1.0 = some_same (sym is ∙ f.1.1.there) in (
        has_first ns (n ∷ []) j f.0,
        (
          f.1.0,
          f.1.1,
          λ k other h w. elim (has_either ns (n ∷ []) k h) [
            | inl a ↦ f.1.2 k other a w
            | inr b ↦
                let it : other ≡ at = some_same (sym w.there ∙ ap (λ i. slice_get nodes i) (one n k b) ∙ here) in
                subst (λ x. path_before other.path.steps.items x.path.steps.items ≡ false) same
                (subst (λ x. path_before x.path.steps.items before.path.steps.items ≡ false) (sym it) not)
          ],
        ),
      )

  -- the first one is there
  pub first_there : (ns : List ℕ) (j : ℕ) → First ns (Some j) → slice_get nodes j ≡ None → ⊥
  first_there ns j f none = not_both none f.1.1.there

-- ---- places in a list

pub is_at : {A : Type 0} (xs : List A) (n : ℕ) (d : A) → n < length xs → slice_get xs n ≡ Some (slice_index_or xs n d)
is_at [] n d h = absurd (omega arith)
is_at (x ∷ xs) zero d h = refl
is_at (x ∷ xs) (suc n) d h = is_at xs n d (omega arith)

pub taken_whole : {A : Type 0} (xs : List A) (n : ℕ) → length xs ≤ n → take n xs ≡ xs
taken_whole [] zero h = refl
taken_whole [] (suc n) h = refl
taken_whole (x ∷ xs) zero h = absurd (omega arith)
taken_whole (x ∷ xs) (suc n) h = ap (λ ys. x ∷ ys) (taken_whole xs n (omega arith))

-- a node behind a reference
pub node_at : {A B : Type 0} (f : B → A) (xs : List A) (n : ℕ) (o : Option B) (x : B) → o ≡ Some x → option_map f o ≡ slice_get xs n → slice_get xs n ≡ Some (f x)
node_at f xs n o x is e = sym e ∙ ap (option_map f) is
