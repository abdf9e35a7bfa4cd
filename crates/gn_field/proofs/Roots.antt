-- A step behind those of its arguments is a field.
use Rattle.std.proofs.Common.{◌≡◌, inl, inr, ℕ, suc, ◌+◌, ◌-◌, ◌≤◌, List, [], ◌∷◌, ◌++◌, length, map, Option, Some, refl, ap, sym, ◌∙◌, subst, arith}
use Rattle.std.specs.Prelude.{flat_map}
use Rattle.std.proofs.lemmas.List.{length-append, length-map}
use Rattle.gn_value.specs.declared.value.ValueKind.{ValueKind}
use Rattle.gn_value.specs.Values.{zero_of}
use Rattle.gn_value.specs.declared.value.ValueKind.TheVariants.{Truth}
use Rattle.gn_value.specs.declared.op.Op.{Op}
use Rattle.gn_node_set.specs.Meanings.{Has, AllDiffer}
use Rattle.gn_node_set.specs.Paths.{Path}
use Rattle.gn_node_set.proofs.Lists.{map_append, append_nil, has_first, has_second, has_either, has_image, image_of}
use Rattle.gn_plain.specs.Fields.{Step, Expr, constant, input, apply, elsewhere, sampled, Exprs, none, and_one, Sources}
use Rattle.gn_plain.specs.Subtrees.{subtrees, subtrees_in, count_different}
use Rattle.gn_field.specs.declared.step.FieldStep.{FieldStep}
use Rattle.gn_field.specs.Steps.{of_apply, of_elsewhere, of_sampled, names, AreBelow, LeadBack, exprs_of, named, last_of, built, key_of, keys}
use Rattle.gn_field.specs.Trees.{Tree, bare, bares, formed, trees, SameMembers, HasSources, IsSourced}
use Rattle.gn_field.specs.Kinds.{HasKinds}
use Rattle.gn_field.specs.Merged.{IsMerged, IsField, Gathers, Makes, Finishes}
use Rattle.gn_field.proofs.Grown.{get_last, differ_push, grown_push, back_push}
use Rattle.gn_field.proofs.Bare.{bares_of, bare_built, subtrees_bare, counts}
use Rattle.gn_field.proofs.Sourced.{by_tree, subtree_sourced, built_sourced, sourced_push, AllSourced, named_sourced}
use Rattle.gn_field.proofs.Joining.{bare_last, length_trees}

-- ---- a tree is larger than the subtrees of its arguments

abbrev mutual
  weight : Tree → ℕ
  weight (constant v) = 1
  weight (input x) = 1
  weight (apply op es) = suc (weights es)
  weight (elsewhere x es) = suc (weights es)
  weight (sampled path source e) = suc (weight e)

  weights : Exprs (Unit {0}) → ℕ
  weights none = 0
  weights (and_one e es) = weight e + weights es

mutual
  not_heavier : (e s : Tree) → Has (subtrees e) s → weight s ≤ weight e
  not_heavier (constant v) s (inl q) = omega (arith, ap weight q)
  not_heavier (constant v) s (inr h) = absurd h
  not_heavier (input x) s (inl q) = omega (arith, ap weight q)
  not_heavier (input x) s (inr h) = absurd h
  not_heavier (apply f es) s h = elim (has_either (subtrees_in es) (apply f es ∷ []) s h) [
    | inl a ↦ omega (arith, lighter es s a)
    | inr b ↦ elim b [ inl q ↦ omega (arith, ap weight q) | inr n ↦ absurd n ]
  ]
  not_heavier (elsewhere f es) s h = elim (has_either (subtrees_in es) (elsewhere f es ∷ []) s h) [
    | inl a ↦ omega (arith, lighter es s a)
    | inr b ↦ elim b [ inl q ↦ omega (arith, ap weight q) | inr n ↦ absurd n ]
  ]
  not_heavier (sampled p x e) s h = elim (has_either (subtrees e) (sampled p x e ∷ []) s h) [
    | inl a ↦ omega (arith, not_heavier e s a)
    | inr b ↦ elim b [ inl q ↦ omega (arith, ap weight q) | inr n ↦ absurd n ]
  ]

  lighter : (es : Exprs (Unit {0})) (s : Tree) → Has (subtrees_in es) s → weight s ≤ weights es
  lighter none s h = absurd h
  lighter (and_one e es) s h = elim (has_either (subtrees e) (subtrees_in es) s h) [
    | inl a ↦ omega (arith, not_heavier e s a)
    | inr b ↦ omega (arith, lighter es s b)
  ]

flat_in : (ts : List Tree) → flat_map subtrees ts ≡ subtrees_in (exprs_of ts)
flat_in [] = refl
flat_in (t ∷ ts) = ap (λ us. subtrees t ++ us) (flat_in ts)

-- ---- a step whose arguments are gathered

module _ {S : Type 0} (sources : Sources S) (taken : S → ValueKind) (es : List (Expr S)) (xs : List (FieldStep S)) (x : FieldStep S) (e : Expr S) (m : Makes sources taken es xs x e) where
  all : List (FieldStep S)
  all = xs ++ x ∷ []

  old : List Tree
  old = trees (keys xs)

  long : length (keys xs) ≡ length xs
  long = length-map xs key_of

  keys_are : keys (xs ++ x ∷ []) ≡ keys xs ++ key_of x ∷ []
  keys_are = map_append key_of xs (x ∷ [])

  trees_are : trees (keys (xs ++ x ∷ [])) ≡ trees (keys xs) ++ bare e ∷ []
  trees_are = ap trees keys_are ∙ (grown_push [] (keys xs) (key_of x) ∙ ap (λ t. trees (keys xs) ++ t ∷ []) m.forms)

  pub all_merged : IsMerged (xs ++ x ∷ [])
  all_merged = record {
    back = subst LeadBack (sym keys_are) (back_push 0 (length (keys xs)) (keys xs) (key_of x) (omega arith) m.merged.back (subst (λ n. AreBelow n (names (key_of x))) (sym long) m.below));
    differ = subst AllDiffer (sym trees_are) (differ_push (trees (keys xs)) (bare e) m.merged.differ (λ h. m.larger (bare e) ((m.members (bare e)).0 h) refl));
  }

  all_members : SameMembers (trees (keys (xs ++ x ∷ []))) (subtrees (bare e))
  all_members t = (
    λ h. subst (λ us. Has us t) (sym m.parts) (elim (has_either (trees (keys xs)) (bare e ∷ []) t (subst (λ us. Has us t) trees_are h)) [
      | inl a ↦ has_first (flat_map subtrees (map bare es)) (bare e ∷ []) t ((m.members t).0 a)
      | inr b ↦ has_second (flat_map subtrees (map bare es)) (bare e ∷ []) t b
    ]),
    λ h. subst (λ us. Has us t) (sym trees_are) (elim (has_either (flat_map subtrees (map bare es)) (bare e ∷ []) t (subst (λ us. Has us t) m.parts h)) [
      | inl a ↦ has_first (trees (keys xs)) (bare e ∷ []) t ((m.members t).1 a)
      | inr b ↦ has_second (trees (keys xs)) (bare e ∷ []) t b
    ]),
  )

  pub count_is : count_different (e ∷ []) ≡ length xs + 1
  count_is =
      counts (e ∷ []) (trees (keys (xs ++ x ∷ []))) all_merged.differ
      (λ t. (λ h. has_first (subtrees (bare e)) [] t ((all_members t).0 h), λ h. (all_members t).1 (subst (λ ts. Has ts t) (append_nil (subtrees (bare e))) h)))
      ∙ (length_trees (xs ++ x ∷ []) ∙ length-append xs (x ∷ []))

  module _ (table : Path → Option S) (h : HasSources table e) where
    sourced_all : AllSourced table (built (xs ++ x ∷ []))
    sourced_all = let s = m.sourced table h in built_sourced table [] (xs ++ x ∷ []) (λ u k. absurd k) (sourced_push table xs x s.0 s.1)

    pub is_last : last_of (built (xs ++ x ∷ [])) ≡ e
    is_last =
        let fields = built (xs ++ x ∷ []) in
        let tree : bare (last_of fields) ≡ bare e =
        bare_last fields ∙ (ap last_of (bare_built [] (xs ++ x ∷ []) ∙ trees_are)
        ∙ (ap (λ n. named (trees (keys xs) ++ bare e ∷ []) (n - 1)) (length-append (trees (keys xs)) (bare e ∷ []))
        ∙ (ap (named (trees (keys xs) ++ bare e ∷ [])) (let q : length (trees (keys xs)) + 1 - 1 ≡ length (trees (keys xs)) = omega arith in q)
        ∙ get_last (trees (keys xs)) (bare e) (constant (zero_of Truth))))) in
        by_tree table (last_of fields) e (named_sourced table fields (length fields - 1) sourced_all) h tree

    reached_all : (u : Expr S) → Has (built (xs ++ x ∷ [])) u → Has (subtrees e) u
    reached_all u k = found (image_of bare (subtrees e) (bare u) (subst (λ ts. Has ts (bare u)) (subtrees_bare e) ((all_members (bare u)).0 (subst (λ ts. Has ts (bare u)) (bare_built [] (xs ++ x ∷ [])) image))))
      where
        image : Has (map bare (built (xs ++ x ∷ []))) (bare u)
        image = has_image bare (built (xs ++ x ∷ [])) u k

        found : (w : Expr S) × Has (subtrees e) w × (bare u ≡ bare w) → Has (subtrees e) u
        found (w, is, q) = subst (Has (subtrees e)) (sym (by_tree table u w (sourced_all u k) (subtree_sourced table e w h is) q)) is

    pub is_field : length xs + 1 ≤ 4096 → IsField sources taken (xs ++ x ∷ [])
    is_field most = record {
      some = omega (arith, length-append xs (x ∷ []));
      few = omega (arith, most, length-append xs (x ∷ []));
      merged = all_merged;
      reached = λ u k. subst (λ w. Has (subtrees w) u) (sym is_last) (reached_all u k);
      kinds = subst (HasKinds sources taken) (sym is_last) m.kinds;
    }

-- ---- the three kinds of steps that take fields

module _ {S : Type 0} (sources : Sources S) (taken : S → ValueKind) (es : List (Expr S)) (xs : List (FieldStep S)) (roots : List ℕ) (g : Gathers sources taken es xs roots) where
  args_are : exprs_of (map (named (trees (keys xs))) roots) ≡ bares (exprs_of es)
  args_are = ap exprs_of g.formed ∙ sym (bares_of es)

  parts_are : subtrees_in (bares (exprs_of es)) ≡ flat_map subtrees (map bare es)
  parts_are = ap subtrees_in (bares_of es) ∙ sym (flat_in (map bare es))

  light : (t : Tree) → Has (flat_map subtrees (map bare es)) t → weight t ≤ weights (bares (exprs_of es))
  light t h = lighter (bares (exprs_of es)) t (subst (λ ts. Has ts t) (sym parts_are) h)

  pub applies : (op : Op) (x : FieldStep S) → key_of x ≡ of_apply op roots → ((table : Path → Option S) → IsSourced table x) → HasKinds sources taken (apply op (exprs_of es)) → Makes sources taken es xs x (apply op (exprs_of es))
  applies op x key free kinds = record {
    merged = g.merged;
    members = g.members;
    below = subst (λ k. AreBelow (length xs) (names k)) (sym key) g.within;
    forms = ap (formed (trees (keys xs))) key ∙ ap (apply op) args_are;
    parts = ap (λ ts. ts ++ apply op (bares (exprs_of es)) ∷ []) parts_are;
    larger = λ t h e. let w : weight t ≤ weights (bares (exprs_of es)) = light t h in let q : weight t ≡ suc (weights (bares (exprs_of es))) = ap weight e in absurd (omega arith);
    sourced = λ table h. (g.sourced table h, free table);
    kinds = kinds;
  }

  pub reads_elsewhere : (step : Step) (x : FieldStep S) → key_of x ≡ of_elsewhere step roots → ((table : Path → Option S) → IsSourced table x) → HasKinds sources taken (elsewhere step (exprs_of es)) → Makes sources taken es xs x (elsewhere step (exprs_of es))
  reads_elsewhere step x key free kinds = record {
    merged = g.merged;
    members = g.members;
    below = subst (λ k. AreBelow (length xs) (names k)) (sym key) g.within;
    forms = ap (formed (trees (keys xs))) key ∙ ap (elsewhere step) args_are;
    parts = ap (λ ts. ts ++ elsewhere step (bares (exprs_of es)) ∷ []) parts_are;
    larger = λ t h e. let w : weight t ≤ weights (bares (exprs_of es)) = light t h in let q : weight t ≡ suc (weights (bares (exprs_of es))) = ap weight e in absurd (omega arith);
    sourced = λ table h. (g.sourced table h, free table);
    kinds = kinds;
  }

module _ {S : Type 0} (sources : Sources S) (taken : S → ValueKind) (arg : Expr S) (xs : List (FieldStep S)) (root : ℕ) (g : Gathers sources taken (arg ∷ []) xs (root ∷ [])) where
  pub samples : (path : Path) (source : S) (x : FieldStep S) → key_of x ≡ of_sampled path root → ((table : Path → Option S) → table path ≡ Some source → IsSourced table x) → HasKinds sources taken (sampled path source arg) → Makes sources taken (arg ∷ []) xs x (sampled path source arg)
  samples path source x key is kinds =
      let tree : named (trees (keys xs)) root ≡ bare arg = let f = g.formed in cc in
      record {
        merged = g.merged;
        members = g.members;
        below = subst (λ k. AreBelow (length xs) (names k)) (sym key) g.within;
        forms = ap (formed (trees (keys xs))) key ∙ ap (sampled path tt) tree;
        parts = ap (λ ts. ts ++ sampled path tt (bare arg) ∷ []) (sym (append_nil (subtrees (bare arg))));
        larger = λ t h e.
            let w : weight t ≤ weight (bare arg) = not_heavier (bare arg) t (subst (λ ts. Has ts t) (append_nil (subtrees (bare arg))) h) in
            let q : weight t ≡ suc (weight (bare arg)) = ap weight e in
            absurd (omega arith);
        sourced = λ table h. (g.sourced table (h.1, tt), is table h.0);
        kinds = kinds;
      }

module _ {S : Type 0} (sources : Sources S) (taken : S → ValueKind) (xs : List (FieldStep S)) (x : FieldStep S) where
  pub finished : Finishes sources taken xs x → length xs + 1 ≤ 4096 → IsField sources taken (xs ++ x ∷ [])
  finished f most = is_field sources taken f.args xs x f.field f.makes f.one_source.0 f.one_source.1 most
