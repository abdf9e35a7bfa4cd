-- The steps of fields, gathered into those of one of them.
use Rattle.std.proofs.Common.{◌≡◌, inl, inr, ℕ, zero, suc, ◌+◌, ◌-◌, ◌<◌, ◌≤◌, List, [], ◌∷◌, ◌++◌, length, map, take, Option, Some, None, get_or, refl, ap, sym, ◌∙◌, subst, arith}
use Rattle.std.specs.Prelude.{flat_map, unwrap_or}
use Rattle.std.proofs.lemmas.List.{length-append, take_more}
use Rattle.gn_value.specs.declared.value.ValueKind.{ValueKind}
use Rattle.gn_node_set.specs.Meanings.{Has}
use Rattle.gn_node_set.specs.Paths.{Path}
use Rattle.gn_node_set.proofs.Lists.{map_append, has_first, has_second, has_either}
use Rattle.gn_plain.specs.Fields.{Expr, Sources}
use Rattle.gn_plain.specs.Subtrees.{subtrees}
use Rattle.gn_field.specs.declared.step.FieldStep.{FieldStep}
use Rattle.gn_field.specs.Steps.{exprs_of, named, last_of, built, keys}
use Rattle.gn_field.specs.Trees.{Tree, bare, trees, HasSources, HaveSources}
use Rattle.gn_field.specs.Kinds.{HasKinds, HaveKinds}
use Rattle.gn_field.specs.Merged.{IsField, Joins, Gathers, IsLeft, AreLeft, filled, JoinsLeft, IsGathering}
use Rattle.gn_field.proofs.Grown.{below_more, below_push}
use Rattle.gn_field.proofs.Merging.{still, take_all}
use Rattle.gn_field.proofs.Joining.{same_subtrees, length_trees, tree_of, own_sources, flat_push, sources_pushed, kinds_push}

module _ {S : Type 0} (sources : Sources S) (taken : S → ValueKind) where
  -- a field is at the last of its own steps
  pub joins_itself : (xs : List (FieldStep S)) → IsField sources taken xs → Joins sources taken [] (last_of (built xs)) (length xs - 1) xs
  joins_itself xs f = record {
    merged = f.merged;
    grows = record { longer = omega arith; extends = λ k h. absurd (omega arith); stays = λ t h. absurd h };
    root_is = sym (tree_of xs);
    within = omega (arith, f.some);
    members = λ t h. inr ((same_subtrees sources taken xs f t).0 h);
    subtrees_in = λ t h. (same_subtrees sources taken xs f t).1 h;
    sourced = λ table b h. own_sources sources taken xs f table h;
    few = omega (arith, f.few);
    kinds = f.kinds;
  }

  module _ (base : Expr S) (root : ℕ) where
    pub begun : (xs : List (FieldStep S)) → Joins sources taken [] base root xs → IsGathering sources taken base root [] xs []
    begun xs j = record {
      merged = j.merged;
      root_is = j.root_is;
      root_within = j.within;
      formed = refl;
      within = tt;
      members = λ t h. elim (j.members t h) [ inl a ↦ absurd a | inr b ↦ inl b ];
      base_in = j.subtrees_in;
      all_in = λ t h. absurd h;
      sourced = λ table h k. j.sourced table tt h;
      few = omega (arith, j.few);
      kinds = tt;
      base_kinds = j.kinds;
    }

    module _ (es : List (Expr S)) (xs : List (FieldStep S)) (roots : List ℕ) (e : Expr S) (g : IsGathering sources taken base root es xs roots) where
      flat : List Tree
      flat = flat_map subtrees (map bare es)

      all : flat_map subtrees (map bare (es ++ e ∷ [])) ≡ flat_map subtrees (map bare es) ++ subtrees (bare e)
      all = ap (flat_map subtrees) (map_append bare es (e ∷ [])) ∙ flat_push (map bare es) (bare e)

      -- a field of the same tree as the base
      pub again : bare e ≡ bare base → HasKinds sources taken e → IsGathering sources taken base root (es ++ e ∷ []) xs (roots ++ root ∷ [])
      again same kinds = record {
        merged = g.merged;
        root_is = g.root_is;
        root_within = g.root_within;
        formed = map_append (named (trees (keys xs))) roots (root ∷ [])
            ∙ (ap (λ us. us ++ named (trees (keys xs)) root ∷ []) g.formed
            ∙ (ap (λ t. map bare es ++ t ∷ []) (g.root_is ∙ sym same) ∙ sym (map_append bare es (e ∷ []))));
        within = below_push (length xs) roots root g.within g.root_within;
        members = λ t h. elim (g.members t h) [ inl a ↦ inl a | inr b ↦ inr (subst (λ us. Has us t) (sym all) (has_first (flat_map subtrees (map bare es)) (subtrees (bare e)) t b)) ];
        base_in = g.base_in;
        all_in = λ t h. elim (has_either (flat_map subtrees (map bare es)) (subtrees (bare e)) t (subst (λ us. Has us t) all h)) [
          | inl a ↦ g.all_in t a
          | inr b ↦ g.base_in t (subst (λ u. Has (subtrees u) t) same b)
        ];
        sourced = λ table h k. g.sourced table h (sources_pushed table es e k).0;
        few = omega (arith, g.few, length-append es (e ∷ []));
        kinds = kinds_push sources taken es e g.kinds kinds;
        base_kinds = g.base_kinds;
      }

      pub another : (at : ℕ) (after : List (FieldStep S)) → Joins sources taken xs e at after → IsGathering sources taken base root (es ++ e ∷ []) after (roots ++ at ∷ [])
      another at after j = record {
        merged = j.merged;
        root_is = j.grows.extends root g.root_within ∙ g.root_is;
        root_within = omega (arith, j.grows.longer, g.root_within);
        formed = map_append (named (trees (keys after))) roots (at ∷ [])
            ∙ (ap (λ us. us ++ named (trees (keys after)) at ∷ []) (still xs after roots j.grows g.within ∙ g.formed)
            ∙ (ap (λ t. map bare es ++ t ∷ []) j.root_is ∙ sym (map_append bare es (e ∷ []))));
        within = below_push (length after) roots at (below_more (length xs) (length after) roots j.grows.longer g.within) j.within;
        members = λ t h. elim (j.members t h) [
          | inl a ↦ elim (g.members t a) [ inl b ↦ inl b | inr b ↦ inr (subst (λ us. Has us t) (sym all) (has_first (flat_map subtrees (map bare es)) (subtrees (bare e)) t b)) ]
          | inr b ↦ inr (subst (λ us. Has us t) (sym all) (has_second (flat_map subtrees (map bare es)) (subtrees (bare e)) t b))
        ];
        base_in = λ t h. j.grows.stays t (g.base_in t h);
        all_in = λ t h. elim (has_either (flat_map subtrees (map bare es)) (subtrees (bare e)) t (subst (λ us. Has us t) all h)) [
          | inl a ↦ j.grows.stays t (g.all_in t a)
          | inr b ↦ j.subtrees_in t b
        ];
        sourced = λ table h k. let r = sources_pushed table es e k in j.sourced table (g.sourced table h r.0) r.1;
        few = omega (arith, j.few, g.few, length-append es (e ∷ []));
        kinds = kinds_push sources taken es e g.kinds j.kinds;
        base_kinds = g.base_kinds;
      }

    in_flat : (es : List (Expr S)) (t : Tree) → Has es base → Has (subtrees (bare base)) t → Has (flat_map subtrees (map bare es)) t
    in_flat [] t h k = absurd h
    in_flat (e ∷ es) t (inl q) k = has_first (subtrees (bare e)) (flat_map subtrees (map bare es)) t (subst (λ u. Has (subtrees (bare u)) t) q k)
    in_flat (e ∷ es) t (inr h) k = has_second (subtrees (bare e)) (flat_map subtrees (map bare es)) t (in_flat es t h k)

    source_in : (table : Path → Option S) (es : List (Expr S)) → Has es base → HaveSources table (exprs_of es) → HasSources table base
    source_in table [] h k = absurd h
    source_in table (e ∷ es) (inl q) k = subst (HasSources table) (sym q) k.0
    source_in table (e ∷ es) (inr h) k = source_in table es h k.1

    pub gathered : (es : List (Expr S)) (xs : List (FieldStep S)) (roots : List ℕ) → Has es base → IsGathering sources taken base root es xs roots → Gathers sources taken es xs roots
    gathered es xs roots is g = record {
      merged = g.merged;
      formed = g.formed;
      within = g.within;
      members = λ t. (λ h. elim (g.members t h) [ inl a ↦ in_flat es t is a | inr b ↦ b ], g.all_in t);
      sourced = λ table k. g.sourced table (source_in table es is k) k;
      few = g.few;
      kinds = g.kinds;
    }

  -- ---- what is left of fields

  pub left_push : (base : Expr S) (es : List (Expr S)) (os : List (Option (Expr S))) (e : Expr S) (o : Option (Expr S)) → AreLeft sources taken base es os → IsLeft sources taken base e o → AreLeft sources taken base (es ++ e ∷ []) (os ++ o ∷ [])
  left_push base [] [] e o h is = (is, tt)
  left_push base (x ∷ es) (y ∷ os) e o h is = (h.0, left_push base es os e o h.1 is)
  left_push base [] (y ∷ os) e o h is = absurd h
  left_push base (x ∷ es) [] e o h is = absurd h

  pub left_length : (base : Expr S) (es : List (Expr S)) (os : List (Option (Expr S))) → AreLeft sources taken base es os → length es ≡ length os
  left_length base [] [] h = refl
  left_length base (x ∷ es) (y ∷ os) h = ap suc (left_length base es os h.1)
  left_length base [] (y ∷ os) h = absurd h
  left_length base (x ∷ es) [] h = absurd h

  pub left_at : (base : Expr S) (es : List (Expr S)) (os : List (Option (Expr S))) (i : ℕ) (e : Expr S) (o : Option (Expr S)) → AreLeft sources taken base es os → i < length os → IsLeft sources taken base (get_or es i e) (get_or os i o)
  left_at base [] [] i e o h within = absurd (omega arith)
  left_at base (x ∷ es) (y ∷ os) zero e o h within = h.0
  left_at base (x ∷ es) (y ∷ os) (suc i) e o h within = left_at base es os i e o h.1 (omega arith)
  left_at base [] (y ∷ os) i e o h within = absurd h
  left_at base (x ∷ es) [] i e o h within = absurd h

  -- fields with the same keys have the same tree
  pub one_tree : (xs ys : List (FieldStep S)) → keys xs ≡ keys ys → bare (last_of (built xs)) ≡ bare (last_of (built ys))
  one_tree xs ys e =
      let long : length xs ≡ length ys = sym (length_trees xs) ∙ (ap (λ ks. length (trees ks)) e ∙ length_trees ys) in
      tree_of xs ∙ (ap (λ ks. named (trees ks) (length xs - 1)) e ∙ (ap (λ n. named (trees (keys ys)) (n - 1)) long ∙ sym (tree_of ys)))

  -- nothing is left of a field whose keys are those of a base
  pub left_none : (xs ys : List (FieldStep S)) (e b : Expr S) → IsField sources taken xs → last_of (built xs) ≡ e → last_of (built ys) ≡ b → keys xs ≡ keys ys → IsLeft sources taken b e None
  left_none xs ys e b f p q k = (ap bare (sym p) ∙ (one_tree xs ys k ∙ ap bare q), subst (HasKinds sources taken) p f.kinds)

  bare_left : (base : Expr S) (es : List (Expr S)) (os : List (Option (Expr S))) → AreLeft sources taken base es os → map bare (filled base os) ≡ map bare es
  bare_left base [] [] h = refl
  bare_left base (e ∷ es) (None ∷ os) h = let p = h.0.0 in let q = bare_left base es os h.1 in λ i. sym p i ∷ q i
  bare_left base (e ∷ es) (Some f ∷ os) h = let p = h.0 in let q = bare_left base es os h.1 in λ i. bare (p i) ∷ q i
  bare_left base [] (o ∷ os) h = absurd h
  bare_left base (e ∷ es) [] h = absurd h

  length_filled : (base : Expr S) (os : List (Option (Expr S))) → length (filled base os) ≡ length os
  length_filled base [] = refl
  length_filled base (o ∷ os) = ap suc (length_filled base os)

  sources_left : (table : Path → Option S) (base : Expr S) (es : List (Expr S)) (os : List (Option (Expr S))) → AreLeft sources taken base es os → HasSources table base → HaveSources table (exprs_of es) → HaveSources table (exprs_of (filled base os))
  sources_left table base [] [] h b k = tt
  sources_left table base (e ∷ es) (None ∷ os) h b k = (b, sources_left table base es os h.1 b k.1)
  sources_left table base (e ∷ es) (Some f ∷ os) h b k = (subst (HasSources table) (sym h.0) k.0, sources_left table base es os h.1 b k.1)
  sources_left table base [] (o ∷ os) h b k = absurd h
  sources_left table base (e ∷ es) [] h b k = absurd h

  kinds_left : (base : Expr S) (es : List (Expr S)) (os : List (Option (Expr S))) → AreLeft sources taken base es os → HaveKinds sources taken (exprs_of (filled base os)) → HaveKinds sources taken (exprs_of es)
  kinds_left base [] [] h k = tt
  kinds_left base (e ∷ es) (None ∷ os) h k = (h.0.1, kinds_left base es os h.1 k.1)
  kinds_left base (e ∷ es) (Some f ∷ os) h k = (subst (HasKinds sources taken) h.0 k.0, kinds_left base es os h.1 k.1)
  kinds_left base [] (o ∷ os) h k = absurd h
  kinds_left base (e ∷ es) [] h k = absurd h

  pub from_left : (base : Expr S) (root : ℕ) (es : List (Expr S)) (os : List (Option (Expr S))) (xs : List (FieldStep S)) (roots : List ℕ) → AreLeft sources taken base es os → Has es base → IsGathering sources taken base root (filled base os) xs roots → Gathers sources taken es xs roots
  from_left base root es os xs roots h is g =
      let same = bare_left base es os h in
      let flat : flat_map subtrees (map bare (filled base os)) ≡ flat_map subtrees (map bare es) = ap (flat_map subtrees) same in
      gathered base root es xs roots is (record {
        merged = g.merged;
        root_is = g.root_is;
        root_within = g.root_within;
        formed = g.formed ∙ same;
        within = g.within;
        members = λ t k. elim (g.members t k) [ inl a ↦ inl a | inr b ↦ inr (subst (λ us. Has us t) flat b) ];
        base_in = g.base_in;
        all_in = λ t k. g.all_in t (subst (λ us. Has us t) (sym flat) k);
        sourced = λ table b k. g.sourced table b (sources_left table base es os h b k);
        few = omega (arith, g.few, left_length base es os h, length_filled base os);
        kinds = kinds_left base es os h g.kinds;
        base_kinds = g.base_kinds;
      })

  -- one more of what is left
  pub left_more : (base : Expr S) (root : ℕ) (es : List (Expr S)) (xs : List (FieldStep S)) (roots : List ℕ) (o : Option (Expr S)) (place : ℕ) (after : List (FieldStep S)) → IsGathering sources taken base root es xs roots → JoinsLeft sources taken xs o root place after → IsGathering sources taken base root (es ++ unwrap_or o base ∷ []) after (roots ++ place ∷ [])
  left_more base root es xs roots None place after g j = subst (λ p. IsGathering sources taken base root (es ++ base ∷ []) after (roots ++ p ∷ [])) (sym j.1) (subst (λ ys. IsGathering sources taken base root (es ++ base ∷ []) ys (roots ++ root ∷ [])) (sym j.0) (again base root es xs roots base g refl g.base_kinds))
  left_more base root es xs roots (Some f) place after g j = another base root es xs roots f g place after j

  entry : (base : Expr S) (o : Option (Expr S)) (ps : List (Option (Expr S))) (k : ℕ) → k < length ps → get_or (filled base ps) k (unwrap_or o base) ≡ unwrap_or (get_or ps k o) base
  entry base o [] k h = absurd (omega arith)
  entry base o (p ∷ ps) zero h = refl
  entry base o (p ∷ ps) (suc k) h = entry base o ps k (omega arith)

  pub filled_take : (base : Expr S) (os : List (Option (Expr S))) (i : ℕ) (o : Option (Expr S)) → i < length os → o ≡ get_or os i o → take (i + 1) (filled base os) ≡ take i (filled base os) ++ unwrap_or o base ∷ []
  filled_take base os i o within at =
      let long : i < length (filled base os) = omega (arith, within, length_filled base os) in
      take_more (filled base os) i (unwrap_or o base) long ∙ ap (λ e. take i (filled base os) ++ e ∷ []) (entry base o os i within ∙ ap (λ p. unwrap_or p base) (sym at))

  pub filled_all : (base : Expr S) (os : List (Option (Expr S))) (i : ℕ) → length os ≤ i → take i (filled base os) ≡ filled base os
  filled_all base os i h = take_all i (filled base os) (omega (arith, h, length_filled base os))
