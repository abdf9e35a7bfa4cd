-- What an input reads, by the value of its origin.
use Rattle.std.proofs.Common.{◌≡◌, ◌++◌, ◌≤◌, ℕ, List, [], ◌∷◌, Some, refl, sym, ◌∙◌, ap, subst, arith}
use Rattle.std.specs.Prelude.{max, option_map}
use Rattle.gn_tree.specs.NodeKinds.{Kind}
use Rattle.gn_tree.specs.Trees.{Tree}
use Rattle.gn_node_set.specs.Meanings.{Rows, converted}
use Rattle.gn_meaning.specs.Sites.{Site, Read, plain_read}
use Rattle.gn_meaning.specs.Denotation.{Given, read_value, read_values, value_within, StandsAt}
use Rattle.gn_meaning.specs.Origins.{origin_within, ComesFrom, IsReadFrom}
use Rattle.gn_meaning.proofs.Options.{map_some}
use Rattle.gn_meaning.proofs.Values.{value_stays}
use Rattle.gn_meaning.proofs.Origins.{origin_carries}

no_more : (xs ys : List ℕ) → xs ++ ys ≡ [] → (xs ≡ []) × (ys ≡ [])
no_more [] ys e = (refl, e)
no_more (x ∷ xs) ys e = cc

module _ (t : Tree) where
  -- the origin of what is read comes from that of the site
  pub record Inside (r origin : Read) : Type 0 where
    pub inner : Read
    pub comes : ComesFrom t r.from inner
    pub from : inner.from ≡ origin.from
    pub through : inner.through ++ r.through ≡ origin.through

  pub inside : (r origin : Read) → IsReadFrom t r origin → Inside r origin
  inside r origin (k, e) =
      let found = map_some (λ o. record { from = o.from; through = o.through ++ r.through }) (origin_within t k r.from) origin e in
      record { inner = found.0; comes = (k, found.1); from = ap (λ o. o.from) found.2; through = ap (λ o. o.through) found.2 }

module _ {V : Type 0} (rows : Rows Kind V) (given : Given V) (t : Tree) where
  converted_on : (v : V) (kinds more : List ℕ) → converted rows v (kinds ++ more) ≡ converted rows (converted rows v kinds) more
  converted_on v [] more = refl
  converted_on v (kind ∷ kinds) more = converted_on (rows.convert v kind) kinds more

  -- what is read has the value of its origin, converted
  abbrev pub Reads : Read → V → Type 0
  Reads r v = (k : ℕ) × (read_value rows given t (value_within rows given t k) r ≡ Some v)

  pub reads_value : (r origin : Read) (v : V) → IsReadFrom t r origin → StandsAt rows given t origin.from v → Reads r (converted rows v origin.through)
  reads_value r origin v h stands =
      let i : Inside t r origin = inside t r origin h in
      let here : StandsAt rows given t i.inner.from v = subst (λ s. StandsAt rows given t s v) (sym i.from) stands in
      let at : StandsAt rows given t r.from (converted rows v i.inner.through) = origin_carries rows given t i.comes.0 r.from i.inner i.comes.1 v here in
      (at.0, ap (option_map (λ u. converted rows u r.through)) at.1 ∙ ap Some (sym (converted_on v i.inner.through r.through)) ∙ ap (λ kinds. Some (converted rows v kinds)) i.through)

  -- what is read without conversions stands at its site
  pub reads_site : (r : Read) (site : Site) (v : V) → IsReadFrom t r (plain_read site) → StandsAt rows given t site v → StandsAt rows given t r.from v
  reads_site r site v h stands =
      let i : Inside t r (plain_read site) = inside t r (plain_read site) h in
      let here : StandsAt rows given t i.inner.from v = subst (λ s. StandsAt rows given t s v) (sym i.from) stands in
      let at : StandsAt rows given t r.from (converted rows v i.inner.through) = origin_carries rows given t i.comes.0 r.from i.inner i.comes.1 v here in
      (at.0, at.1 ∙ ap (λ kinds. Some (converted rows v kinds)) (no_more i.inner.through r.through i.through).0)

  read_later : (j k : ℕ) → j ≤ k → (r : Read) (v : V) → read_value rows given t (value_within rows given t j) r ≡ Some v → read_value rows given t (value_within rows given t k) r ≡ Some v
  read_later j k h r v e =
      let found = map_some (λ u. converted rows u r.through) (value_within rows given t j r.from) v e in
      ap (option_map (λ u. converted rows u r.through)) (value_stays rows given t j k h r.from found.0 found.1) ∙ ap Some found.2

  -- the reads have these values, one by one
  abbrev pub AllRead : List Read → List V → Type 0
  AllRead [] [] = Unit {0}
  AllRead (r ∷ rs) (v ∷ vs) = Reads r v × AllRead rs vs
  AllRead _ _ = ⊥

  -- along that number of steps all values are found
  steps_for : (rs : List Read) (vs : List V) → AllRead rs vs → ℕ
  steps_for [] vs h = 0
  steps_for (r ∷ rs) [] h = 0
  steps_for (r ∷ rs) (v ∷ vs) h = max h.0.0 (steps_for rs vs h.1)

  all_at : (rs : List Read) (vs : List V) (h : AllRead rs vs) (k : ℕ) → steps_for rs vs h ≤ k → read_values rows given t (value_within rows given t k) rs ≡ Some vs
  unfolding steps_for
  all_at [] [] h k e = refl
  all_at [] (v ∷ vs) h k e = absurd h
  all_at (r ∷ rs) [] h k e = absurd h
  all_at (r ∷ rs) (v ∷ vs) h k e =
      let here : read_value rows given t (value_within rows given t k) r ≡ Some v = read_later h.0.0 k (omega (arith, e)) r v h.0.1 in
      let behind : read_values rows given t (value_within rows given t k) rs ≡ Some vs = all_at rs vs h.1 k (omega (arith, e)) in
      rw (here, behind) refl

  pub all_read : (rs : List Read) (vs : List V) → AllRead rs vs → (k : ℕ) × (read_values rows given t (value_within rows given t k) rs ≡ Some vs)
  all_read rs vs h = (steps_for rs vs h, all_at rs vs h (steps_for rs vs h) (omega arith))
