-- Fields and steps with the sources of a table.
use Rattle.std.proofs.Common.{◌≡◌, inl, inr, ℕ, zero, suc, List, [], ◌∷◌, ◌++◌, map, Option, Some, refl, sym, subst}
use Rattle.gn_node_set.specs.Meanings.{Has}
use Rattle.gn_node_set.specs.Paths.{Path}
use Rattle.gn_node_set.proofs.Lists.{has_first, has_second, has_either}
use Rattle.gn_plain.specs.Fields.{Expr, constant, input, apply, elsewhere, sampled, Exprs, none, and_one}
use Rattle.gn_plain.specs.Subtrees.{subtrees, subtrees_in}
use Rattle.gn_field.specs.declared.step.FieldStep.{FieldStep}
use Rattle.gn_field.specs.declared.step.FieldStep.TheVariants.{Constant, Input as Read, Apply, Elsewhere, Sampled}
use Rattle.gn_field.specs.Steps.{exprs_of, named, made, built_on}
use Rattle.gn_field.specs.Trees.{bare, bares, HasSources, HaveSources, IsSourced, AreSourced}

module _ {S : Type 0} (table : Path → Option S) where
  mutual
    -- a field with the sources of a table is known by its tree
    pub by_tree : (a b : Expr S) → HasSources table a → HasSources table b → bare a ≡ bare b → a ≡ b
    by_tree (constant v) (constant w) h k e = cc
    by_tree (input x) (input y) h k e = cc
    by_tree (apply f es) (apply g fs) h k e =
        let p : f ≡ g = cc in
        let r : bares es ≡ bares fs = cc in
        let q = by_trees es fs h k r in
        λ i. apply (p i) (q i)
    by_tree (elsewhere f es) (elsewhere g fs) h k e =
        let p : f ≡ g = cc in
        let r : bares es ≡ bares fs = cc in
        let q = by_trees es fs h k r in
        λ i. elsewhere (p i) (q i)
    by_tree (sampled p s x) (sampled q t y) h k e =
        let f : p ≡ q = cc in
        let r : bare x ≡ bare y = cc in
        let same : s ≡ t = let a : table p ≡ Some s = h.0 in let b : table q ≡ Some t = k.0 in cc in
        let rest = by_tree x y h.1 k.1 r in
        λ i. sampled (f i) (same i) (rest i)
    by_tree _ _ h k e = cc

    by_trees : (es fs : Exprs S) → HaveSources table es → HaveSources table fs → bares es ≡ bares fs → es ≡ fs
    by_trees none none h k e = refl
    by_trees (and_one x es) (and_one y fs) h k e =
        let r : bare x ≡ bare y = cc in
        let rs : bares es ≡ bares fs = cc in
        let p = by_tree x y h.0 k.0 r in
        let q = by_trees es fs h.1 k.1 rs in
        λ i. and_one (p i) (q i)
    by_trees _ _ h k e = cc

  mutual
    pub subtree_sourced : (e s : Expr S) → HasSources table e → Has (subtrees e) s → HasSources table s
    subtree_sourced (constant v) s h (inl q) = subst (HasSources table) (sym q) tt
    subtree_sourced (constant v) s h (inr k) = absurd k
    subtree_sourced (input x) s h (inl q) = subst (HasSources table) (sym q) tt
    subtree_sourced (input x) s h (inr k) = absurd k
    subtree_sourced (apply f es) s h k = elim (has_either (subtrees_in es) (apply f es ∷ []) s k) [
      | inl a ↦ arg_sourced es s h a
      | inr b ↦ elim b [ inl q ↦ subst (HasSources table) (sym q) h | inr n ↦ absurd n ]
    ]
    subtree_sourced (elsewhere f es) s h k = elim (has_either (subtrees_in es) (elsewhere f es ∷ []) s k) [
      | inl a ↦ arg_sourced es s h a
      | inr b ↦ elim b [ inl q ↦ subst (HasSources table) (sym q) h | inr n ↦ absurd n ]
    ]
    subtree_sourced (sampled p x e) s h k = elim (has_either (subtrees e) (sampled p x e ∷ []) s k) [
      | inl a ↦ subtree_sourced e s h.1 a
      | inr b ↦ elim b [ inl q ↦ subst (HasSources table) (sym q) h | inr n ↦ absurd n ]
    ]

    arg_sourced : (es : Exprs S) (s : Expr S) → HaveSources table es → Has (subtrees_in es) s → HasSources table s
    arg_sourced none s h k = absurd k
    arg_sourced (and_one e es) s h k = elim (has_either (subtrees e) (subtrees_in es) s k) [
      | inl a ↦ subtree_sourced e s h.0 a
      | inr b ↦ arg_sourced es s h.1 b
    ]

  abbrev pub AllSourced : List (Expr S) → Type 0
  AllSourced es = (e : Expr S) → Has es e → HasSources table e

  pub named_sourced : (es : List (Expr S)) (k : ℕ) → AllSourced es → HasSources table (named es k)
  named_sourced [] k h = tt
  named_sourced (e ∷ es) zero h = h e (inl refl)
  named_sourced (e ∷ es) (suc k) h = named_sourced es k (λ x b. h x (inr b))

  args_sourced : (es : List (Expr S)) (ks : List ℕ) → AllSourced es → HaveSources table (exprs_of (map (named es) ks))
  args_sourced es [] h = tt
  args_sourced es (k ∷ ks) h = (named_sourced es k h, args_sourced es ks h)

  made_sourced : (es : List (Expr S)) (x : FieldStep S) → AllSourced es → IsSourced table x → HasSources table (made es x)
  made_sourced es (Constant v) h is = tt
  made_sourced es (Read x) h is = tt
  made_sourced es (Apply op args) h is = args_sourced es args.items h
  made_sourced es (Elsewhere x args) h is = args_sourced es args.items h
  made_sourced es (Sampled tag source arg) h is = (is, named_sourced es arg h)

  pub built_sourced : (es : List (Expr S)) (xs : List (FieldStep S)) → AllSourced es → AreSourced table xs → AllSourced (built_on es xs)
  built_sourced es [] h are = h
  built_sourced es (x ∷ xs) h are =
      built_sourced (es ++ made es x ∷ []) xs
      (λ e k. elim (has_either es (made es x ∷ []) e k) [
        | inl a ↦ h e a
        | inr b ↦ elim b [ inl q ↦ subst (HasSources table) (sym q) (made_sourced es x h are.0) | inr n ↦ absurd n ]
      ])
      are.1

  step_sourced : (es : List (Expr S)) (x : FieldStep S) → HasSources table (made es x) → IsSourced table x
  step_sourced es (Constant v) h = tt
  step_sourced es (Read x) h = tt
  step_sourced es (Apply op args) h = tt
  step_sourced es (Elsewhere x args) h = tt
  step_sourced es (Sampled tag source arg) h = h.0

  pub built_has : (es : List (Expr S)) (xs : List (FieldStep S)) (e : Expr S) → Has es e → Has (built_on es xs) e
  built_has es [] e h = h
  built_has es (x ∷ xs) e h = built_has (es ++ made es x ∷ []) xs e (has_first es (made es x ∷ []) e h)

  pub steps_sourced : (es : List (Expr S)) (xs : List (FieldStep S)) → AllSourced (built_on es xs) → AreSourced table xs
  steps_sourced es [] h = tt
  steps_sourced es (x ∷ xs) h =
      let m = made es x in
      (step_sourced es x (h m (built_has (es ++ m ∷ []) xs m (has_second es (m ∷ []) m (inl refl)))), steps_sourced (es ++ m ∷ []) xs h)

  pub sourced_push : (xs : List (FieldStep S)) (x : FieldStep S) → AreSourced table xs → IsSourced table x → AreSourced table (xs ++ x ∷ [])
  sourced_push [] x h p = (p, tt)
  sourced_push (y ∷ xs) x h p = (h.0, sourced_push xs x h.1 p)

  pub have_of_all : (es : List (Expr S)) → HaveSources table (exprs_of es) → AllSourced es
  have_of_all [] h e k = absurd k
  have_of_all (x ∷ es) h e (inl q) = subst (HasSources table) (sym q) h.0
  have_of_all (x ∷ es) h e (inr k) = have_of_all es h.1 e k
