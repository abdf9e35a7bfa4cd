-- Fields and their trees without sources, and how many different subtrees they have.
use Rattle.std.proofs.Common.{◌≡◌, ◌≢◌, inl, inr, ℕ, ◌≤◌, List, [], ◌∷◌, ◌++◌, length, map, Bool, true, false, ◌&&◌, not, refl, ap, sym, ◌∙◌, arith}
use Rattle.std.specs.Prelude.{filter, flat_map}
use Rattle.std.proofs.lemmas.List.{length-map}
use Rattle.gn_node_set.specs.Meanings.{Has, AllDiffer}
use Rattle.gn_node_set.specs.Paths.{same_path}
use Rattle.gn_plain.specs.Equality.{same_op}
use Rattle.gn_node_set.proofs.Lists.{map_append, index_image}
use Rattle.gn_value.specs.Values.{zero_of}
use Rattle.gn_value.specs.declared.value.ValueKind.TheVariants.{Truth}
use Rattle.gn_plain.specs.Fields.{Expr, constant, input, apply, elsewhere, sampled, Exprs, none, and_one}
use Rattle.gn_plain.specs.Subtrees.{same_step, same_field, same_fields, subtrees, subtrees_in, each_once, count_different}
use Rattle.gn_field.specs.declared.step.FieldStep.{FieldStep}
use Rattle.gn_field.specs.declared.step.FieldStep.TheVariants.{Constant, Input as Read, Apply, Elsewhere, Sampled}
use Rattle.gn_field.specs.Steps.{step_of, exprs_of, named, made, built_on, key_of, keys}
use Rattle.gn_field.specs.Trees.{Tree, bare, bares, formed, grown, SameMembers}
use Rattle.gn_field.proofs.SameTrees.{field_is, field_self}
use Rattle.gn_field.proofs.Grown.{not_longer}

module _ {S : Type 0} where
  pub bares_of : (es : List (Expr S)) → bares (exprs_of es) ≡ exprs_of (map bare es)
  bares_of [] = refl
  bares_of (e ∷ es) = ap (and_one (bare e)) (bares_of es)

  bare_named : (es : List (Expr S)) (k : ℕ) → bare (named es k) ≡ named (map bare es) k
  bare_named es k = sym (index_image bare es k (constant (zero_of Truth)))

  bare_map : (es : List (Expr S)) (ks : List ℕ) → map bare (map (named es) ks) ≡ map (named (map bare es)) ks
  bare_map es [] = refl
  bare_map es (k ∷ ks) = let a = bare_named es k in let b = bare_map es ks in cc

  bare_args : (es : List (Expr S)) (ks : List ℕ) → bares (exprs_of (map (named es) ks)) ≡ exprs_of (map (named (map bare es)) ks)
  bare_args es ks = bares_of (map (named es) ks) ∙ ap exprs_of (bare_map es ks)

  pub bare_made : (es : List (Expr S)) (x : FieldStep S) → bare (made es x) ≡ formed (map bare es) (key_of x)
  bare_made es (Constant v) = refl
  bare_made es (Read x) = refl
  bare_made es (Apply op args) = ap (apply op) (bare_args es args.items)
  bare_made es (Elsewhere x args) = ap (elsewhere (step_of x)) (bare_args es args.items)
  bare_made es (Sampled tag source arg) = ap (sampled tag.steps.items tt) (bare_named es arg)

  pub bare_built : (es : List (Expr S)) (xs : List (FieldStep S)) → map bare (built_on es xs) ≡ grown (map bare es) (keys xs)
  bare_built es [] = refl
  bare_built es (x ∷ xs) =
      bare_built (es ++ made es x ∷ []) xs
      ∙ ap (λ ts. grown ts (keys xs)) (map_append bare es (made es x ∷ []) ∙ ap (λ t. map bare es ++ t ∷ []) (bare_made es x))

  mutual
    pub subtrees_bare : (e : Expr S) → subtrees (bare e) ≡ map bare (subtrees e)
    subtrees_bare (constant v) = refl
    subtrees_bare (input x) = refl
    subtrees_bare (apply op es) = ap (λ ts. ts ++ bare (apply op es) ∷ []) (subtrees_bares es) ∙ sym (map_append bare (subtrees_in es) (apply op es ∷ []))
    subtrees_bare (elsewhere x es) = ap (λ ts. ts ++ bare (elsewhere x es) ∷ []) (subtrees_bares es) ∙ sym (map_append bare (subtrees_in es) (elsewhere x es ∷ []))
    subtrees_bare (sampled p s e) = ap (λ ts. ts ++ bare (sampled p s e) ∷ []) (subtrees_bare e) ∙ sym (map_append bare (subtrees e) (sampled p s e ∷ []))

    pub subtrees_bares : (es : Exprs S) → subtrees_in (bares es) ≡ map bare (subtrees_in es)
    subtrees_bares none = refl
    subtrees_bares (and_one e es) =
        ap (λ ts. ts ++ subtrees_in (bares es)) (subtrees_bare e) ∙ (ap (λ ts. map bare (subtrees e) ++ ts) (subtrees_bares es) ∙ sym (map_append bare (subtrees e) (subtrees_in es)))

  mutual
    same_bare : (a b : Expr S) → same_field a b ≡ same_field (bare a) (bare b)
    same_bare (constant v) (constant w) = refl
    same_bare (input x) (input y) = refl
    same_bare (apply f es) (apply g fs) = ap (λ b. same_op f g && b) (same_bares es fs)
    same_bare (elsewhere f es) (elsewhere g fs) = ap (λ b. same_step f g && b) (same_bares es fs)
    same_bare (sampled p s e) (sampled q t f) = ap (λ b. same_path p q && b) (same_bare e f)
    same_bare _ _ = refl

    same_bares : (es fs : Exprs S) → same_fields es fs ≡ same_fields (bares es) (bares fs)
    same_bares none none = refl
    same_bares (and_one e es) (and_one f fs) = let p = same_bare e f in let q = same_bares es fs in λ i. p i && q i
    same_bares _ _ = refl

  -- ---- members that pass a test

  left_bare : (e : Expr S) (fs : List (Expr S)) → filter (λ f. not (same_field (bare e) f)) (map bare fs) ≡ map bare (filter (λ f. not (same_field e f)) fs)
  left_bare e [] = refl
  left_bare e (f ∷ fs) = by_test (same_field e f) refl (left_bare e fs)
    where
      by_test : (b : Bool) → same_field e f ≡ b → filter (λ f. not (same_field (bare e) f)) (map bare fs) ≡ map bare (filter (λ f. not (same_field e f)) fs) → filter (λ f. not (same_field (bare e) f)) (map bare (f ∷ fs)) ≡ map bare (filter (λ f. not (same_field e f)) (f ∷ fs))
      by_test true h rest = rw (sym (same_bare e f), h) rest
      by_test false h rest = rw (sym (same_bare e f), h) (ap (λ ts. bare f ∷ ts) rest)

  once_bare : (es : List (Expr S)) → each_once (map bare es) ≡ map bare (each_once es)
  once_bare [] = refl
  once_bare (e ∷ es) = ap (λ ts. bare e ∷ filter (λ f. not (same_field (bare e) f)) ts) (once_bare es) ∙ ap (λ ts. bare e ∷ ts) (left_bare e (each_once es))

-- ---- each tree once

abbrev without : Tree → List Tree → List Tree
without e fs = filter (λ f. not (same_field e f)) fs

kept : (e : Tree) (fs : List Tree) (s : Tree) → Has (without e fs) s → Has fs s × (s ≢ e)
kept e [] s h = absurd h
kept e (f ∷ fs) s h = by_test (same_field e f) refl (kept e fs s) h
  where
    by_test : (b : Bool) → same_field e f ≡ b → (Has (without e fs) s → Has fs s × (s ≢ e)) → Has (without e (f ∷ fs)) s → Has (f ∷ fs) s × (s ≢ e)
    by_test true q rest k = let j : Has (without e fs) s = rw q at k in let r = rest j in (inr r.0, r.1)
    by_test false q rest k = let j : Has (f ∷ without e fs) s = rw q at k in elim j [
      | inl same ↦ (inl same, λ w. let t : same_field e e ≡ true = field_self e in let u : f ≡ e = sym same ∙ w in let v : same_field e f ≡ true = ap (same_field e) u ∙ t in cc)
      | inr m ↦ let r = rest m in (inr r.0, r.1)
    ]

left : (e : Tree) (fs : List Tree) (s : Tree) → Has fs s → s ≢ e → Has (without e fs) s
left e [] s h other = absurd h
left e (f ∷ fs) s h other = by_test (same_field e f) refl (λ k. left e fs s k other)
  where
    by_test : (b : Bool) → same_field e f ≡ b → (Has fs s → Has (without e fs) s) → Has (without e (f ∷ fs)) s
    by_test true q rest = rw q (elim h [ inl same ↦ absurd (other (same ∙ sym (field_is e f q))) | inr k ↦ rest k ])
    by_test false q rest = rw q (elim h [ inl same ↦ inl same | inr k ↦ inr (rest k) ])

left_differ : (e : Tree) (fs : List Tree) → AllDiffer fs → AllDiffer (without e fs)
left_differ e [] d = tt
left_differ e (f ∷ fs) d = by_test (same_field e f) refl (left_differ e fs d.1)
  where
    by_test : (b : Bool) → same_field e f ≡ b → AllDiffer (without e fs) → AllDiffer (without e (f ∷ fs))
    by_test true q rest = rw q rest
    by_test false q rest = rw q (λ h. d.0 (kept e fs f h).0, rest)

once_members : (es : List Tree) → SameMembers (each_once es) es
once_members [] s = (λ h. h, λ h. h)
once_members (e ∷ es) s = (
  λ h. elim h [ inl q ↦ inl q | inr k ↦ inr ((once_members es s).0 (kept e (each_once es) s k).0) ],
  λ h. elim h [ inl q ↦ inl q | inr k ↦ by_test (same_field e s) refl ((once_members es s).1 k) ],
)
  where
    by_test : (b : Bool) → same_field e s ≡ b → Has (each_once es) s → Has (each_once (e ∷ es)) s
    by_test true q k = inl (sym (field_is e s q))
    by_test false q k = inr (left e (each_once es) s k (λ w. let t : same_field e e ≡ true = field_self e in let v : same_field e s ≡ true = ap (same_field e) w ∙ t in cc))

once_differ : (es : List Tree) → AllDiffer (each_once es)
once_differ [] = tt
once_differ (e ∷ es) = (λ h. (kept e (each_once es) e h).1 refl, left_differ e (each_once es) (once_differ es))

-- ---- how many different subtrees there are

flat_bare : {S : Type 0} (es : List (Expr S)) → map bare (flat_map subtrees es) ≡ flat_map subtrees (map bare es)
flat_bare [] = refl
flat_bare (e ∷ es) = map_append bare (subtrees e) (flat_map subtrees es) ∙ (ap (λ ts. ts ++ map bare (flat_map subtrees es)) (sym (subtrees_bare e)) ∙ ap (λ ts. subtrees (bare e) ++ ts) (flat_bare es))

-- trees that differ, and are just the subtrees of fields, are as many as these have
pub counts : {S : Type 0} (es : List (Expr S)) (ts : List Tree) → AllDiffer ts → SameMembers ts (flat_map subtrees (map bare es)) → count_different es ≡ length ts
counts es ts d same =
    let all = flat_map subtrees (map bare es) in
    let moved : length (each_once (flat_map subtrees es)) ≡ length (each_once all) =
    sym (length-map (each_once (flat_map subtrees es)) bare) ∙ (ap length (sym (once_bare (flat_map subtrees es))) ∙ ap (λ us. length (each_once us)) (flat_bare es)) in
    let up : length (each_once all) ≤ length ts = not_longer (each_once all) ts (once_differ all) (λ s h. (same s).1 ((once_members all s).0 h)) in
    let down : length ts ≤ length (each_once all) = not_longer ts (each_once all) d (λ s h. (once_members all s).1 ((same s).0 h)) in
    omega (arith, moved, up, down)
