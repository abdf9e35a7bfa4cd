-- A site has one origin, and its value is that of its origin after the conversions on the way.
use Rattle.std.proofs.Common.{◌≡◌, ◌++◌, ℕ, zero, suc, pos, List, [], ◌∷◌, Option, Some, None, refl, sym, ◌∙◌, ap, subst}
use Rattle.std.specs.Prelude.{option_map}
use Rattle.gn_value.specs.declared.value.Value.TheVariants.{Int as int}
use Rattle.gn_lazy.specs.declared.path.PathStep.{PathStep}
use Rattle.gn_tree.specs.NodeKinds.{Kind}
use Rattle.gn_tree.specs.Trees.{Tree}
use Rattle.gn_node_set.specs.Meanings.{Rows, converted}
use Rattle.gn_meaning.specs.Sites.{Constant, a_value, Way, the_tree, into, plain_step, turn_step, Site, at_output, at_input, at_item, at_constant, nowhere, Read, plain_read}
use Rattle.gn_meaning.specs.Reads.{read_at, Part, a_node, a_group, a_repeat, part_at, out_of}
use Rattle.gn_meaning.specs.Denotation.{Given, read_value, output_value, turn_value, input_value, first_item, next, value_within, StandsAt}
use Rattle.gn_meaning.specs.Origins.{read_origin, output_origin, turn_origin, input_origin, first_origin, next_origin, origin_within, ComesFrom}
use Rattle.gn_meaning.proofs.Options.{Kept, map_kept, map_some, some_same, found_once}
use Rattle.gn_meaning.proofs.Values.{one_value}

abbrev Finds : Type 0 → Type 0
Finds A = Site → Option A

-- how the value of a site comes about, if not by a run: it goes back to that of another one, whole or after conversions; it is a constant; there is none; or the site is its own origin
data Back : Type 0 where
  to_read : Read → Back
  to_site : Site → Back
  to_constant : Constant → Back
  to_nothing to_itself : Back

module _ (t : Tree) where
  of_output : Way → ℕ → ℕ → Option Part → Back
  of_output way n s None = to_nothing
  of_output way n s (Some (a_node run)) = to_itself
  of_output way n s (Some (a_group b reads)) = to_read (out_of t (into way (plain_step n)) s)
  of_output way n s (Some (a_repeat run b)) = to_itself

  of_turn : Way → ℕ → Option ℕ → ℕ → Back
  of_turn way n None i = to_nothing
  of_turn way n (Some k) zero = to_constant (a_value (int (pos k)))
  of_turn way n (Some k) (suc i) = to_site (at_item way n k i)

  of_input : Way → PathStep → ℕ → Option Part → Back
  of_input way step i None = to_nothing
  of_input way step i (Some (a_node run)) = to_nothing
  of_input way step i (Some (a_group b reads)) = to_read (read_at reads i)
  of_input way step i (Some (a_repeat run b)) = of_turn way step.node step.turn i

  of_item : ℕ → Option Part → Back
  of_item i None = to_nothing
  of_item i (Some (a_node run)) = to_nothing
  of_item i (Some (a_group b reads)) = to_nothing
  of_item i (Some (a_repeat run b)) = to_read (read_at run.reads (suc i))

  back : Site → Back
  back (at_output way n s) = of_output way n s (part_at t way n)
  back (at_input the_tree i) = to_itself
  back (at_input (into way step) i) = of_input way step i (part_at t way step.node)
  back (at_item way n zero i) = of_item i (part_at t way n)
  back (at_item way n (suc k) i) = to_read (out_of t (into way (turn_step n k)) i)
  back (at_constant c) = to_itself
  back nowhere = to_nothing

  -- ---- by the definitions

  origin_by : Finds Read → Site → Back → Option Read
  origin_by origin site (to_read r) = read_origin t origin r
  origin_by origin site (to_site other) = origin other
  origin_by origin site (to_constant c) = Some (plain_read (at_constant c))
  origin_by origin site to_nothing = None
  origin_by origin site to_itself = Some (plain_read site)

  module _ (origin : Finds Read) where
    origin_of_output : (way : Way) (n s : ℕ) (part : Option Part) → output_origin t origin way n s part ≡ origin_by origin (at_output way n s) (of_output way n s part)
    unfolding of_output origin_by
    origin_of_output way n s None = refl
    origin_of_output way n s (Some (a_node run)) = refl
    origin_of_output way n s (Some (a_group b reads)) = refl
    origin_of_output way n s (Some (a_repeat run b)) = refl

    origin_of_turn : (site : Site) (way : Way) (n : ℕ) (turn : Option ℕ) (i : ℕ) → turn_origin t origin way n turn i ≡ origin_by origin site (of_turn way n turn i)
    unfolding of_turn origin_by
    origin_of_turn site way n None i = refl
    origin_of_turn site way n (Some k) zero = refl
    origin_of_turn site way n (Some k) (suc i) = refl

    origin_of_input : (site : Site) (way : Way) (step : PathStep) (i : ℕ) (part : Option Part) → input_origin t origin way step i part ≡ origin_by origin site (of_input way step i part)
    unfolding of_input origin_by
    origin_of_input site way step i None = refl
    origin_of_input site way step i (Some (a_node run)) = refl
    origin_of_input site way step i (Some (a_group b reads)) = refl
    origin_of_input site way step i (Some (a_repeat run b)) = origin_of_turn site way step.node step.turn i

    origin_of_item : (site : Site) (i : ℕ) (part : Option Part) → first_origin t origin i part ≡ origin_by origin site (of_item i part)
    unfolding of_item origin_by
    origin_of_item site i None = refl
    origin_of_item site i (Some (a_node run)) = refl
    origin_of_item site i (Some (a_group b reads)) = refl
    origin_of_item site i (Some (a_repeat run b)) = refl

    origin_back : (site : Site) → next_origin t origin site ≡ origin_by origin site (back site)
    unfolding back origin_by
    origin_back (at_output way n s) = origin_of_output way n s (part_at t way n)
    origin_back (at_input the_tree i) = refl
    origin_back (at_input (into way step) i) = origin_of_input (at_input (into way step) i) way step i (part_at t way step.node)
    origin_back (at_item way n zero i) = origin_of_item (at_item way n zero i) i (part_at t way n)
    origin_back (at_item way n (suc k) i) = refl
    origin_back (at_constant c) = refl
    origin_back nowhere = refl

  -- ---- a site has one origin

  module _ (f g : Finds Read) (kept : (site : Site) → Kept (f site) (g site)) where
    back_kept : (site : Site) (b : Back) → Kept (origin_by f site b) (origin_by g site b)
    unfolding origin_by
    back_kept site (to_read r) = map_kept (λ o. record { from = o.from; through = o.through ++ r.through }) (f r.from) (g r.from) (kept r.from)
    back_kept site (to_site other) = kept other
    back_kept site (to_constant c) = λ o e. e
    back_kept site to_nothing = λ o e. e
    back_kept site to_itself = λ o e. e

    next_kept : (site : Site) → Kept (next_origin t f site) (next_origin t g site)
    next_kept site o e = origin_back g site ∙ back_kept site (back site) o (sym (origin_back f site) ∙ e)

  one_more : (k : ℕ) (site : Site) → Kept (origin_within t k site) (origin_within t (suc k) site)
  one_more zero site = λ o e. cc
  one_more (suc k) site = next_kept (origin_within t k) (origin_within t (suc k)) (one_more k) site

  pub one_origin : (site : Site) (o q : Read) → ComesFrom t site o → ComesFrom t site q → o ≡ q
  one_origin site o q c d = found_once (λ k. origin_within t k site) (λ k. one_more k site) o q c d

-- ---- the value of a site is that of its origin, converted

module _ {V : Type 0} (rows : Rows Kind V) (given : Given V) (t : Tree) where
  converted_on : (v : V) (kinds more : List ℕ) → converted rows v (kinds ++ more) ≡ converted rows (converted rows v kinds) more
  converted_on v [] more = refl
  converted_on v (kind ∷ kinds) more = converted_on (rows.convert v kind) kinds more

  value_by : Finds V → Site → Back → Option V
  value_by value site (to_read r) = read_value rows given t value r
  value_by value site (to_site other) = value other
  value_by value site (to_constant c) = Some (given.constant c)
  value_by value site to_nothing = None
  value_by value site to_itself = next rows given t value site

  module _ (value : Finds V) where
    value_of_output : (way : Way) (n s : ℕ) (part : Option Part) → part_at t way n ≡ part → output_value rows given t value way n s part ≡ value_by value (at_output way n s) (of_output t way n s part)
    unfolding of_output value_by
    value_of_output way n s None e = refl
    value_of_output way n s (Some (a_node run)) e = ap (output_value rows given t value way n s) (sym e)
    value_of_output way n s (Some (a_group b reads)) e = refl
    value_of_output way n s (Some (a_repeat run b)) e = ap (output_value rows given t value way n s) (sym e)

    value_of_turn : (site : Site) (way : Way) (n : ℕ) (turn : Option ℕ) (i : ℕ) → turn_value rows given t value way n turn i ≡ value_by value site (of_turn t way n turn i)
    unfolding of_turn value_by
    value_of_turn site way n None i = refl
    value_of_turn site way n (Some k) zero = refl
    value_of_turn site way n (Some k) (suc i) = refl

    value_of_input : (site : Site) (way : Way) (step : PathStep) (i : ℕ) (part : Option Part) → input_value rows given t value way step i part ≡ value_by value site (of_input t way step i part)
    unfolding of_input value_by
    value_of_input site way step i None = refl
    value_of_input site way step i (Some (a_node run)) = refl
    value_of_input site way step i (Some (a_group b reads)) = refl
    value_of_input site way step i (Some (a_repeat run b)) = value_of_turn site way step.node step.turn i

    value_of_item : (site : Site) (i : ℕ) (part : Option Part) → first_item rows given t value i part ≡ value_by value site (of_item t i part)
    unfolding of_item value_by
    value_of_item site i None = refl
    value_of_item site i (Some (a_node run)) = refl
    value_of_item site i (Some (a_group b reads)) = refl
    value_of_item site i (Some (a_repeat run b)) = refl

    value_back : (site : Site) → next rows given t value site ≡ value_by value site (back t site)
    unfolding back value_by
    value_back (at_output way n s) = value_of_output way n s (part_at t way n) refl
    value_back (at_input the_tree i) = refl
    value_back (at_input (into way step) i) = value_of_input (at_input (into way step) i) way step i (part_at t way step.node)
    value_back (at_item way n zero i) = value_of_item (at_item way n zero i) i (part_at t way n)
    value_back (at_item way n (suc k) i) = refl
    value_back (at_constant c) = refl
    value_back nowhere = refl

  abbrev Stands : Site → V → Type 0
  Stands site v = StandsAt rows given t site v

  moved : (site other : Site) (v : V) → site ≡ other → Stands site v → Stands other v
  moved site other v e h = subst (λ x. Stands x v) e h

  -- where the origin has a value, the site has it converted
  abbrev CarriesOn : ℕ → Type 0
  CarriesOn k = (site : Site) (o : Read) → origin_within t k site ≡ Some o → (v : V) → Stands o.from v → Stands site (converted rows v o.through)

  carried_back : (k : ℕ) → CarriesOn k → (site : Site) (o : Read) (v : V) → Stands o.from v → (b : Back)
      → ((value : Finds V) → next rows given t value site ≡ value_by value site b) → origin_by t (origin_within t k) site b ≡ Some o → Stands site (converted rows v o.through)
  unfolding value_by origin_by
  carried_back k before site o v h (to_read r) f d =
      let inner : (q : Read) × (origin_within t k r.from ≡ Some q) × (record { from = q.from; through = q.through ++ r.through } ≡ o) = map_some (λ q. record { from = q.from; through = q.through ++ r.through }) (origin_within t k r.from) o d in
      let there : Stands r.from (converted rows v inner.0.through) = before r.from inner.0 inner.1 v (moved o.from inner.0.from v (sym (ap (λ q. q.from) inner.2)) h) in
      (suc there.0, f (value_within rows given t there.0) ∙ ap (option_map (λ u. converted rows u r.through)) there.1 ∙ ap Some (sym (converted_on v inner.0.through r.through)) ∙ ap (λ q. Some (converted rows v q.through)) inner.2)
  carried_back k before site o v h (to_site other) f d =
      let there : Stands other (converted rows v o.through) = before other o d v h in
      (suc there.0, f (value_within rows given t there.0) ∙ there.1)
  carried_back k before site o v h (to_constant c) f d =
      let same : given.constant c ≡ v = one_value rows given t (at_constant c) (given.constant c) v (1, refl) (moved o.from (at_constant c) v (sym (ap (λ q. q.from) (some_same d))) h) in
      (1, f (value_within rows given t 0) ∙ ap Some same ∙ ap (λ q. Some (converted rows v q.through)) (some_same d))
  carried_back k before site o v h to_nothing f d = cc
  carried_back k before site o v h to_itself f d =
      let there : Stands site v = moved o.from site v (sym (ap (λ q. q.from) (some_same d))) h in
      (there.0, there.1 ∙ ap (λ q. Some (converted rows v q.through)) (some_same d))

  pub origin_carries : (k : ℕ) → CarriesOn k
  origin_carries zero site o e v h = cc
  origin_carries (suc k) site o e v h = carried_back k (origin_carries k) site o v h (back t site) (λ value. value_back value site) (sym (origin_back t (origin_within t k) site) ∙ e)

  -- where the site has a value, the origin has one, of which it is the converted one
  abbrev Carried : Read → V → Type 0
  Carried o w = (v : V) × Stands o.from v × (converted rows v o.through ≡ w)

  abbrev ComesOf : ℕ → Type 0
  ComesOf k = (site : Site) (o : Read) → origin_within t k site ≡ Some o → (j : ℕ) (w : V) → value_within rows given t j site ≡ Some w → Carried o w

  found_back : (k j : ℕ) → ComesOf k → (site : Site) (o : Read) (w : V) → value_within rows given t (suc j) site ≡ Some w → (b : Back)
      → value_by (value_within rows given t j) site b ≡ Some w → origin_by t (origin_within t k) site b ≡ Some o → Carried o w
  unfolding value_by origin_by
  found_back k j before site o w h (to_read r) f d =
      let inner : (q : Read) × (origin_within t k r.from ≡ Some q) × (record { from = q.from; through = q.through ++ r.through } ≡ o) = map_some (λ q. record { from = q.from; through = q.through ++ r.through }) (origin_within t k r.from) o d in
      let read : (u : V) × (value_within rows given t j r.from ≡ Some u) × (converted rows u r.through ≡ w) = map_some (λ u. converted rows u r.through) (value_within rows given t j r.from) w f in
      let there : Carried inner.0 read.0 = before r.from inner.0 inner.1 j read.0 read.1 in (
        there.0,
        moved inner.0.from o.from there.0 (ap (λ q. q.from) inner.2) there.1,
        ap (λ q. converted rows there.0 q.through) (sym inner.2) ∙ converted_on there.0 inner.0.through r.through ∙ ap (λ u. converted rows u r.through) there.2 ∙ read.2,
      )
  found_back k j before site o w h (to_site other) f d = before other o d j w f
  found_back k j before site o w h (to_constant c) f d =
      (w, moved (at_constant c) o.from w (ap (λ q. q.from) (some_same d)) (1, f), ap (λ q. converted rows w q.through) (sym (some_same d)))
  found_back k j before site o w h to_nothing f d = cc
  found_back k j before site o w h to_itself f d = (w, moved site o.from w (ap (λ q. q.from) (some_same d)) (suc j, h), ap (λ q. converted rows w q.through) (sym (some_same d)))

  pub value_from_origin : (k : ℕ) → ComesOf k
  value_from_origin zero site o e j w h = cc
  value_from_origin (suc k) site o e zero w h = cc
  value_from_origin (suc k) site o e (suc j) w h =
      found_back k j (value_from_origin k) site o w h (back t site) (sym (value_back (value_within rows given t j) site) ∙ h) (sym (origin_back t (origin_within t k) site) ∙ e)
