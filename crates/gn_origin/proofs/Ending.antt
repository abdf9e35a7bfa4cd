-- What the end of a walk says of what was read.
use Rattle.std.proofs.Common.{◌≡◌, ℕ, List, map, length, Option, Some, None, refl, sym, ◌∙◌, ap, subst}
use Rattle.gn_value.specs.declared.value.Value.{Value}
use Rattle.gn_tree.specs.Trees.{Tree}
use Rattle.gn_meaning.specs.Sites as sites
use Rattle.gn_meaning.specs.Sites.{Way, a_value, at_constant, Read, plain_read}
use Rattle.gn_meaning.specs.Reads.{kind_number}
use Rattle.gn_meaning.specs.Origins.{IsReadFrom}
use Rattle.gn_origin.specs.declared.walk.Walk.{Walk}
use Rattle.gn_origin.specs.declared.read.Site.{Site}
use Rattle.gn_origin.specs.declared.read.Site.TheVariants as site
use Rattle.gn_origin.specs.declared.read.Constant.TheVariants as constant
use Rattle.gn_origin.specs.Frames.{way_of, site_of}
use Rattle.gn_origin.specs.Walking.{read_by}
use Rattle.gn_plans.specs.Plans.{Carries}
use Rattle.gn_rows.specs.Carried.{value_through}
use Rattle.gn_origin.specs.Moves.{EndsAt, carried_at, carried_by}
use Rattle.gn_origin.proofs.Back.{from_itself, only_itself}

constant_here : (way : Way) (s : Site) (kinds : List ℕ) (c : Value) (ks : List ℕ) → at_constant (a_value c) ≡ site_of way s → ks ≡ kinds → carried_at s kinds ≡ Some (value_through c ks, length ks)
constant_here way (site.Group f o x) kinds c ks e through = let bad : at_constant (a_value c) ≡ sites.at_output way f.number o = e in cc
constant_here way (site.Moved n x) kinds c ks e through = let bad : at_constant (a_value c) ≡ sites.at_output way n 0 = e in cc
constant_here way (site.Entry i x) kinds c ks e through = let bad : at_constant (a_value c) ≡ sites.at_input way i = e in cc
constant_here way (site.Constant (constant.Value v)) kinds c ks e through =
    let there : at_constant (a_value c) ≡ at_constant (a_value v) = e in
    let same : c ≡ v = cc in
    λ i. Some (value_through (sym same i) (sym through i), length (sym through i))
constant_here way (site.Constant constant.Position) kinds c ks e through = let bad : at_constant (a_value c) ≡ at_constant (sites.a_leaf sites.its_position) = e in cc
constant_here way (site.Constant constant.NoGeometry) kinds c ks e through = let bad : at_constant (a_value c) ≡ at_constant sites.no_geometry = e in cc

pair_of : Option (Value × ℕ) → Value × ℕ → Value × ℕ
pair_of None other = other
pair_of (Some p) other = p

fst_same : (a b : Value) (m n : ℕ) → ◌≡◌ {A = Option (Value × ℕ)} (Some (a, m)) (Some (b, n)) → a ≡ b
unfolding pair_of
fst_same a b m n e = ap (λ o. (pair_of o (a, m)).0) e

snd_same : (a b : Value) (m n : ℕ) → ◌≡◌ {A = Option (Value × ℕ)} (Some (a, m)) (Some (b, n)) → m ≡ n
unfolding pair_of
snd_same a b m n e = ap (λ o. (pair_of o (a, m)).1) e

constant_there : (way : Way) (s : Site) (kinds : List ℕ) (v : Value) (n : ℕ) → carried_at s kinds ≡ Some (v, n) → (c : Value) × (site_of way s ≡ at_constant (a_value c)) × (v ≡ value_through c kinds) × (n ≡ length kinds)
constant_there way (site.Group f o x) kinds v n e = cc
constant_there way (site.Moved m x) kinds v n e = cc
constant_there way (site.Entry i x) kinds v n e = cc
constant_there way (site.Constant (constant.Value c)) kinds v n e =
    (c, refl, sym (fst_same (value_through c kinds) v (length kinds) n e), sym (snd_same (value_through c kinds) v (length kinds) n e))
constant_there way (site.Constant constant.Position) kinds v n e = cc
constant_there way (site.Constant constant.NoGeometry) kinds v n e = cc

module _ (t : Tree) (r : Read) (w : Walk) (ends : EndsAt t r (Some w)) where
  -- where the value comes from, and that it comes from nowhere else
  pub ends_from : IsReadFrom t r (read_by w)
  ends_from = (ends.1 (read_by w)).1 (from_itself t (read_by w) ends.2)

  pub ends_only : (o : Read) → IsReadFrom t r o → o ≡ read_by w
  ends_only o from = only_itself t (read_by w) o ends.2 ((ends.1 o).0 from)

  pub carries : (v : Value) (n : ℕ) → carried_by w ≡ Some (v, n) → Carries t r v n
  carries v n e =
      let there = constant_there (way_of w.frames.items) w.site (map kind_number w.conversions.items) v n e in
      (there.0, map kind_number w.conversions.items, subst (λ s. IsReadFrom t r (record { from = s; through = map kind_number w.conversions.items })) there.1 ends_from, there.2, there.3)

  pub carries_only : (v : Value) (n : ℕ) → Carries t r v n → carried_by w ≡ Some (v, n)
  carries_only v n (c, kinds, from, e, f) =
      constant_here (way_of w.frames.items) w.site (map kind_number w.conversions.items) c kinds (ap (λ r. r.from) (ends_only (record { from = at_constant (a_value c); through = kinds }) from)) (ap (λ r. r.through) (ends_only (record { from = at_constant (a_value c); through = kinds }) from))
      ∙ (λ i. Some (sym e i, sym f i))
