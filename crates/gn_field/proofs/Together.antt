-- The steps of several fields, and what each step makes.
use Rattle.std.proofs.Common.{◌≡◌, inl, inr, ℕ, zero, suc, ◌+◌, ◌<◌, List, [], ◌∷◌, ◌++◌, length, map, Option, Some, refl, ap, sym, ◌∙◌, subst, arith}
use Rattle.std.specs.Prelude.{flat_map, slice_get}
use Rattle.std.proofs.lemmas.List.{length-append}
use Rattle.gn_value.specs.Values.{zero_of}
use Rattle.gn_value.specs.declared.value.ValueKind.{ValueKind}
use Rattle.gn_value.specs.declared.value.ValueKind.TheVariants.{Truth}
use Rattle.gn_node_set.specs.Meanings.{Has}
use Rattle.gn_node_set.specs.Paths.{Path}
use Rattle.gn_node_set.proofs.Lists.{has_either, has_image, image_of, index_image}
use Rattle.gn_plain.specs.Fields.{Expr, constant, input, apply, elsewhere, sampled, Exprs, none, and_one, Sources}
use Rattle.gn_plain.specs.Subtrees.{subtrees, subtrees_in}
use Rattle.gn_field.specs.declared.step.FieldStep.{FieldStep}
use Rattle.gn_field.specs.declared.step.FieldStep.TheVariants.{Constant, Input as Read, Apply, Elsewhere, Sampled}
use Rattle.gn_field.specs.Steps.{names, AreBelow, LeadBackFrom, step_of, exprs_of, named, made, built_on, built, key_of, keys}
use Rattle.gn_field.specs.Trees.{bare, trees, HasSources, HaveSources}
use Rattle.gn_field.specs.Kinds.{HasKinds, HaveKinds}
use Rattle.gn_field.specs.Merged.{Gathers}
use Rattle.gn_field.specs.Together.{AreTogether}
use Rattle.gn_field.proofs.Grown.{get_last}
use Rattle.gn_field.proofs.Bare.{bare_built, subtrees_bare}
use Rattle.gn_field.proofs.Sourced.{by_tree, subtree_sourced, built_sourced, named_sourced, AllSourced}
use Rattle.gn_field.proofs.Joining.{count_of_all}
use Rattle.gn_field.proofs.Facts.{built_before}

-- ---- what a step makes of the fields before it

module _ {S : Type 0} where
  named_alike : (es us : List (Expr S)) (ks : List ℕ) (n : ℕ) → AreBelow n ks → ((k : ℕ) → k < n → named es k ≡ named us k) → map (named es) ks ≡ map (named us) ks
  named_alike es us [] n below h = refl
  named_alike es us (k ∷ ks) n below h = let a = h k below.0 in let b = named_alike es us ks n below.1 h in cc

  -- it hangs on those that it names
  made_alike : (es us : List (Expr S)) (x : FieldStep S) (n : ℕ) → AreBelow n (names (key_of x)) → ((k : ℕ) → k < n → named es k ≡ named us k) → made es x ≡ made us x
  made_alike es us (Constant v) n below h = refl
  made_alike es us (Read x) n below h = refl
  made_alike es us (Apply op args) n below h = ap (λ fs. apply op (exprs_of fs)) (named_alike es us args.items n below h)
  made_alike es us (Elsewhere x args) n below h = ap (λ fs. elsewhere (step_of x) (exprs_of fs)) (named_alike es us args.items n below h)
  made_alike es us (Sampled tag source arg) n below h = ap (sampled tag.steps.items source) (h arg below.0)

  built_in : (es : List (Expr S)) (xs : List (FieldStep S)) (i at n : ℕ) (x : FieldStep S) → n ≡ length es → at ≡ n + i → LeadBackFrom n (keys xs) → slice_get xs i ≡ Some x → named (built_on es xs) at ≡ made (built_on es xs) x
  built_in es [] i at n x e a back here = cc
  built_in es (y ∷ xs) zero at n x e a back here =
      let t = made es y in
      let first : at ≡ length es = omega arith in
      let same : y ≡ x = cc in
      built_before (es ++ t ∷ []) xs at (omega (arith, length-append es (t ∷ [])))
      ∙ (ap (λ m. named (es ++ t ∷ []) m) first ∙ (get_last es t (constant (zero_of Truth))
      ∙ (made_alike es (built_on (es ++ t ∷ []) xs) y n back.0 (λ m b. sym (built_before es (y ∷ xs) m (omega arith))) ∙ ap (made (built_on (es ++ t ∷ []) xs)) same)))
  built_in es (y ∷ xs) (suc i) at n x e a back here =
      built_in (es ++ made es y ∷ []) xs i at (suc n) x (omega (arith, length-append es (made es y ∷ []))) (omega arith) back.1 here

  -- at a step's place is what it makes of all
  pub built_at : (xs : List (FieldStep S)) (i : ℕ) (x : FieldStep S) → LeadBackFrom 0 (keys xs) → slice_get xs i ≡ Some x → named (built xs) i ≡ made (built xs) x
  built_at xs i x back here = built_in [] xs i i 0 x refl (omega arith) back here

-- ---- kinds

module _ {S : Type 0} (sources : Sources S) (taken : S → ValueKind) where
  mutual
    pub subtree_kinds : (e s : Expr S) → HasKinds sources taken e → Has (subtrees e) s → HasKinds sources taken s
    subtree_kinds (constant v) s h (inl q) = subst (HasKinds sources taken) (sym q) tt
    subtree_kinds (constant v) s h (inr k) = absurd k
    subtree_kinds (input x) s h (inl q) = subst (HasKinds sources taken) (sym q) tt
    subtree_kinds (input x) s h (inr k) = absurd k
    subtree_kinds (apply f es) s h k = elim (has_either (subtrees_in es) (apply f es ∷ []) s k) [
      | inl a ↦ part_kinds es s h.1 a
      | inr b ↦ elim b [ inl q ↦ subst (HasKinds sources taken) (sym q) h | inr n ↦ absurd n ]
    ]
    subtree_kinds (elsewhere f es) s h k = elim (has_either (subtrees_in es) (elsewhere f es ∷ []) s k) [
      | inl a ↦ part_kinds es s h.1 a
      | inr b ↦ elim b [ inl q ↦ subst (HasKinds sources taken) (sym q) h | inr n ↦ absurd n ]
    ]
    subtree_kinds (sampled p x e) s h k = elim (has_either (subtrees e) (sampled p x e ∷ []) s k) [
      | inl a ↦ subtree_kinds e s h.1 a
      | inr b ↦ elim b [ inl q ↦ subst (HasKinds sources taken) (sym q) h | inr n ↦ absurd n ]
    ]

    part_kinds : (es : Exprs S) (s : Expr S) → HaveKinds sources taken es → Has (subtrees_in es) s → HasKinds sources taken s
    part_kinds none s h k = absurd k
    part_kinds (and_one e es) s h k = elim (has_either (subtrees e) (subtrees_in es) s k) [
      | inl a ↦ subtree_kinds e s h.0 a
      | inr b ↦ part_kinds es s h.1 b
    ]

  named_kinds : (es : List (Expr S)) (k : ℕ) → ((e : Expr S) → Has es e → HasKinds sources taken e) → HasKinds sources taken (named es k)
  named_kinds [] k h = tt
  named_kinds (e ∷ es) zero h = h e (inl refl)
  named_kinds (e ∷ es) (suc k) h = named_kinds es k (λ x b. h x (inr b))

-- ---- the steps of several fields

module _ {S : Type 0} (table : Path → Option S) where
  fields_by_tree : (es fs : List (Expr S)) → HaveSources table (exprs_of es) → HaveSources table (exprs_of fs) → map bare es ≡ map bare fs → es ≡ fs
  fields_by_tree [] [] h k e = refl
  fields_by_tree (x ∷ es) (y ∷ fs) h k e =
      let first : bare x ≡ bare y = cc in
      let rest : map bare es ≡ map bare fs = cc in
      let p = by_tree table x y h.0 k.0 first in
      let q = fields_by_tree es fs h.1 k.1 rest in
      λ i. p i ∷ q i
  fields_by_tree [] (y ∷ fs) h k e = cc
  fields_by_tree (x ∷ es) [] h k e = cc

  roots_sourced : (es : List (Expr S)) (ks : List ℕ) → AllSourced table es → HaveSources table (exprs_of (map (named es) ks))
  roots_sourced es [] h = tt
  roots_sourced es (k ∷ ks) h = (named_sourced table es k h, roots_sourced es ks h)

  -- a subtree without its sources is one with them
  record Known (sources : Sources S) (taken : S → ValueKind) (t : Expr (Unit {0})) : Type 0 where
    field_is : Expr S
    tree : bare field_is ≡ t
    sourced : HasSources table field_is
    kinds : HasKinds sources taken field_is

  known : (sources : Sources S) (taken : S → ValueKind) (es : List (Expr S)) (t : Expr (Unit {0})) → HaveSources table (exprs_of es) → HaveKinds sources taken (exprs_of es) → Has (flat_map subtrees (map bare es)) t → Known sources taken t
  known sources taken [] t h k m = absurd m
  known sources taken (e ∷ es) t h k m = elim (has_either (subtrees (bare e)) (flat_map subtrees (map bare es)) t m) [
    | inl a ↦ found (image_of bare (subtrees e) t (subst (λ ts. Has ts t) (subtrees_bare e) a))
    | inr b ↦ known sources taken es t h.1 k.1 b
  ]
    where
      found : (w : Expr S) × Has (subtrees e) w × (t ≡ bare w) → Known sources taken t
      found (w, is, q) = record { field_is = w; tree = sym q; sourced = subtree_sourced table e w h.0 is; kinds = subtree_kinds sources taken e w k.0 is }

module _ {S : Type 0} (sources : Sources S) (taken : S → ValueKind) (es : List (Expr S)) (xs : List (FieldStep S)) (roots : List ℕ) (g : Gathers sources taken es xs roots) (table : Path → Option S) (h : HaveSources table (exprs_of es)) where
  all_sourced : AllSourced table (built xs)
  all_sourced = built_sourced table [] xs (λ u k. absurd k) (g.sourced table h)

  bare_roots : (ks : List ℕ) → map bare (map (named (built xs)) ks) ≡ map (named (trees (keys xs))) ks
  bare_roots [] = refl
  bare_roots (k ∷ ks) = let a : bare (named (built xs) k) ≡ named (trees (keys xs)) k = bare_at k in let b = bare_roots ks in cc
    where
      bare_at : (k : ℕ) → bare (named (built xs) k) ≡ named (trees (keys xs)) k
      bare_at k = sym (index_image bare (built xs) k (constant (zero_of Truth))) ∙ ap (λ ts. named ts k) (bare_built [] xs)

  all_kinds : (u : Expr S) → Has (built xs) u → HasKinds sources taken u
  all_kinds u k =
      let w : Known table sources taken (bare u) = known table sources taken es (bare u) h g.kinds ((g.members (bare u)).0 (subst (λ ts. Has ts (bare u)) (bare_built [] xs) (has_image bare (built xs) u k))) in
      subst (HasKinds sources taken) (by_tree table w.field_is u w.sourced (all_sourced u k) w.tree) w.kinds

  pub are_together : AreTogether sources taken es xs roots
  are_together = record {
    merged = g.merged;
    fields = fields_by_tree table (map (named (built xs)) roots) es (roots_sourced table (built xs) roots all_sourced) h (bare_roots roots ∙ g.formed);
    within = g.within;
    count = count_of_all sources taken es xs roots g;
    few = g.few;
    kinds = λ k. named_kinds sources taken (built xs) k all_kinds;
  }
