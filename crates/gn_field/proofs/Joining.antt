-- The steps of a field, and of several, in one list.
use Rattle.std.proofs.Common.{◌≡◌, inl, inr, ℕ, ◌-◌, ◌<◌, List, [], ◌∷◌, ◌++◌, length, map, Option, get_or, refl, ap, sym, ◌∙◌, subst, arith}
use Rattle.std.specs.Prelude.{flat_map}
use Rattle.std.proofs.lemmas.List.{length-append, length-map, get_or-map}
use Rattle.gn_value.specs.declared.value.ValueKind.{ValueKind}
use Rattle.gn_value.specs.Values.{zero_of}
use Rattle.gn_value.specs.declared.value.ValueKind.TheVariants.{Truth}
use Rattle.gn_node_set.specs.Meanings.{Has}
use Rattle.gn_node_set.specs.Paths.{Path}
use Rattle.gn_node_set.proofs.Lists.{map_append, append_nil, append_assoc, index_image, has_first, has_second, has_either, has_image, image_of}
use Rattle.gn_plain.specs.Fields.{Expr, constant, Sources}
use Rattle.gn_plain.specs.Subtrees.{subtrees, count_different}
use Rattle.gn_field.specs.declared.step.FieldStep.{FieldStep}
use Rattle.gn_field.specs.Steps.{AreBelow, exprs_of, named, last_of, built, key_of, keys}
use Rattle.gn_field.specs.Trees.{Tree, bare, trees, SameMembers, HasSources, HaveSources, AreSourced}
use Rattle.gn_field.specs.Kinds.{HasKinds, HaveKinds}
use Rattle.gn_field.specs.Merged.{Merges, IsField, Joins, Gathers}
use Rattle.gn_field.proofs.Grown.{has_at, below_at, below_more, below_push, length_grown, Closed, closed_grown}
use Rattle.gn_field.proofs.Bare.{bare_built, subtrees_bare, counts}
use Rattle.gn_field.proofs.Sourced.{subtree_sourced, steps_sourced}
use Rattle.gn_field.proofs.Merging.{still}

abbrev nothing : Tree
nothing = constant (zero_of Truth)

named_has : (ts : List Tree) (ks : List ℕ) (t : Tree) → AreBelow (length ts) ks → Has (map (named ts) ks) t → Has ts t
named_has ts [] t below h = absurd h
named_has ts (k ∷ ks) t below (inl e) = subst (Has ts) (sym e) (has_at ts k nothing below.0)
named_has ts (k ∷ ks) t below (inr h) = named_has ts ks t below.1 h

module _ {S : Type 0} where
  pub bare_last : (es : List (Expr S)) → bare (last_of es) ≡ last_of (map bare es)
  bare_last es = sym (index_image bare es (length es - 1) (constant (zero_of Truth))) ∙ ap (λ n. named (map bare es) (n - 1)) (sym (length-map es bare))

  pub length_trees : (xs : List (FieldStep S)) → length (trees (keys xs)) ≡ length xs
  length_trees xs = omega (arith, length_grown [] (keys xs), length-map xs key_of)

  pub tree_of : (xs : List (FieldStep S)) → bare (last_of (built xs)) ≡ named (trees (keys xs)) (length xs - 1)
  tree_of xs = bare_last (built xs) ∙ (ap last_of (bare_built [] xs) ∙ ap (λ n. named (trees (keys xs)) (n - 1)) (length_trees xs))

module _ {S : Type 0} (sources : Sources S) (taken : S → ValueKind) (xs : List (FieldStep S)) (f : IsField sources taken xs) where
  -- the trees of a field's steps are its subtrees
  pub same_subtrees : SameMembers (trees (keys xs)) (subtrees (bare (last_of (built xs))))
  same_subtrees t = (λ h. up (image_of bare (built xs) t (subst (λ ts. Has ts t) (sym (bare_built [] xs)) h)), down)
    where
      e : Expr S
      e = last_of (built xs)

      up : (u : Expr S) × Has (built xs) u × (t ≡ bare u) → Has (subtrees (bare (last_of (built xs)))) t
      up (u, h, q) = subst (λ s. Has (subtrees (bare (last_of (built xs)))) s) (sym q) (subst (λ ts. Has ts (bare u)) (sym (subtrees_bare (last_of (built xs)))) (has_image bare (subtrees (last_of (built xs))) u (f.reached u h)))

      closed : Closed (trees (keys xs))
      closed = closed_grown 0 [] (keys xs) refl (λ a s h k. absurd h) f.merged.back

      whole : Has (trees (keys xs)) (bare (last_of (built xs)))
      whole = subst (Has (trees (keys xs))) (sym (tree_of xs)) (has_at (trees (keys xs)) (length xs - 1) nothing (omega (arith, f.some, length_trees xs)))

      down : Has (subtrees (bare (last_of (built xs)))) t → Has (trees (keys xs)) t
      down h = closed (bare (last_of (built xs))) t whole h

  pub counted : count_different (last_of (built xs) ∷ []) ≡ length xs
  counted =
      let e = last_of (built xs) in
      counts (e ∷ []) (trees (keys xs)) f.merged.differ (λ t. (λ h. has_first (subtrees (bare e)) [] t ((same_subtrees t).0 h), λ h. (same_subtrees t).1 (subst (λ ts. Has ts t) (append_nil (subtrees (bare e))) h))) ∙ length_trees xs

  pub own_sources : (table : Path → Option S) → HasSources table (last_of (built xs)) → AreSourced table xs
  own_sources table h = steps_sourced table [] xs (λ u k. subtree_sourced table (last_of (built xs)) u h (f.reached u k))

  pub joined : (before after : List (FieldStep S)) (places : List ℕ) (root : ℕ) → Merges before xs after places → root ≡ get_or places (length places - 1) 0 → Joins sources taken before (last_of (built xs)) root after
  joined before after places root m at =
      let e = last_of (built xs) in
      let long : length places ≡ length xs = sym (length-map places (named (trees (keys after)))) ∙ (ap length m.formed ∙ length_trees xs) in
      let inside : length places - 1 < length places = omega (arith, long, f.some) in
      let below : AreBelow (length (trees (keys after))) places = subst (λ n. AreBelow n places) (sym (length_trees after)) m.within in
      record {
        merged = m.merged;
        grows = m.grows;
        root_is = ap (named (trees (keys after))) at ∙ (sym (get_or-map (named (trees (keys after))) places (length places - 1) 0 nothing inside)
            ∙ (ap (λ ts. named ts (length places - 1)) m.formed ∙ (ap (λ n. named (trees (keys xs)) (n - 1)) long ∙ sym (tree_of xs))));
        within = subst (λ k. k < length after) (sym at) (below_at (length after) places (length places - 1) 0 m.within inside);
        members = λ t h. elim (m.members t h) [ inl a ↦ inl a | inr b ↦ inr ((same_subtrees t).0 b) ];
        subtrees_in = λ t h. named_has (trees (keys after)) places t below (subst (λ ts. Has ts t) (sym m.formed) ((same_subtrees t).1 h));
        sourced = λ table b h. m.sourced table b (own_sources table h);
        few = omega (arith, m.few, f.few);
        kinds = f.kinds;
      }

-- ---- several fields

pub flat_push : (ts : List Tree) (t : Tree) → flat_map subtrees (ts ++ t ∷ []) ≡ flat_map subtrees ts ++ subtrees t
flat_push [] t = append_nil (subtrees t)
flat_push (s ∷ ts) t = ap (λ us. subtrees s ++ us) (flat_push ts t) ∙ sym (append_assoc (subtrees s) (flat_map subtrees ts) (subtrees t))

module _ {S : Type 0} where
  pub sources_pushed : (table : Path → Option S) (es : List (Expr S)) (e : Expr S) → HaveSources table (exprs_of (es ++ e ∷ [])) → HaveSources table (exprs_of es) × HasSources table e
  sources_pushed table [] e h = (tt, h.0)
  sources_pushed table (x ∷ es) e h = let r = sources_pushed table es e h.1 in ((h.0, r.0), r.1)

module _ {S : Type 0} (sources : Sources S) (taken : S → ValueKind) where
  pub kinds_push : (es : List (Expr S)) (e : Expr S) → HaveKinds sources taken (exprs_of es) → HasKinds sources taken e → HaveKinds sources taken (exprs_of (es ++ e ∷ []))
  kinds_push [] e h k = (k, tt)
  kinds_push (x ∷ es) e h k = (h.0, kinds_push es e h.1 k)

  pub gathers_none : Gathers sources taken [] [] []
  gathers_none = record {
    merged = record { back = tt; differ = tt };
    formed = refl;
    within = tt;
    members = λ t. (λ h. h, λ h. h);
    sourced = λ table h. tt;
    few = omega arith;
    kinds = tt;
  }

  pub gathers_more : (es : List (Expr S)) (xs : List (FieldStep S)) (roots : List ℕ) (e : Expr S) (root : ℕ) (after : List (FieldStep S)) → Gathers sources taken es xs roots → Joins sources taken xs e root after → Gathers sources taken (es ++ e ∷ []) after (roots ++ root ∷ [])
  gathers_more es xs roots e root after g j =
      let trees_of = flat_map subtrees (map bare es) in
      let all : flat_map subtrees (map bare (es ++ e ∷ [])) ≡ trees_of ++ subtrees (bare e) = ap (flat_map subtrees) (map_append bare es (e ∷ [])) ∙ flat_push (map bare es) (bare e) in
      let ts = trees (keys after) in
      record {
        merged = j.merged;
        formed = map_append (named ts) roots (root ∷ [])
            ∙ (ap (λ us. us ++ named ts root ∷ []) (still xs after roots j.grows g.within ∙ g.formed)
            ∙ (ap (λ t. map bare es ++ t ∷ []) j.root_is ∙ sym (map_append bare es (e ∷ []))));
        within = below_push (length after) roots root (below_more (length xs) (length after) roots j.grows.longer g.within) j.within;
        members = λ t. (
          λ h. subst (λ us. Has us t) (sym all) (elim (j.members t h) [
            | inl a ↦ has_first trees_of (subtrees (bare e)) t ((g.members t).0 a)
            | inr b ↦ has_second trees_of (subtrees (bare e)) t b
          ]),
          λ h. elim (has_either trees_of (subtrees (bare e)) t (subst (λ us. Has us t) all h)) [
            | inl a ↦ j.grows.stays t ((g.members t).1 a)
            | inr b ↦ j.subtrees_in t b
          ],
        );
        sourced = λ table h. let r = sources_pushed table es e h in j.sourced table (g.sourced table r.0) r.1;
        few = omega (arith, j.few, g.few, length-append es (e ∷ []));
        kinds = kinds_push es e g.kinds j.kinds;
      }

module _ {S : Type 0} (sources : Sources S) (taken : S → ValueKind) where
  pub distinct_is : (xs : List (FieldStep S)) (e : Expr S) → IsField sources taken xs → last_of (built xs) ≡ e → length xs ≡ count_different (e ∷ [])
  distinct_is xs e f p = sym (counted sources taken xs f) ∙ ap (λ x. count_different (x ∷ [])) p

  pub some_places : (before xs after : List (FieldStep S)) (places : List ℕ) → IsField sources taken xs → Merges before xs after places → 0 < length places
  some_places before xs after places f m = omega (arith, sym (length-map places (named (trees (keys after)))) ∙ (ap length m.formed ∙ length_trees xs), f.some)

  pub count_of_all : (es : List (Expr S)) (xs : List (FieldStep S)) (roots : List ℕ) → Gathers sources taken es xs roots → length xs ≡ count_different es
  count_of_all es xs roots g = sym (counts es (trees (keys xs)) g.merged.differ g.members ∙ length_trees xs)
