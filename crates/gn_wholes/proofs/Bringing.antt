-- Values on a place of a context's component as values on the context's own place.
use Rattle.std.proofs.Common.{◌≡◌, ℕ, ◌<◌, true, Some, None, refl, ap, sym, subst, ◌∙◌}
use Rattle.gn_value.specs.Registers.{register_kind, register_len}
use Rattle.gn_value.specs.declared.op.Register.{Register}
use Rattle.gn_value.specs.declared.op.Topology as code
use Rattle.gn_value.specs.declared.value.Value.{Value}
use Rattle.gn_value.specs.declared.value.ValueKind.{ValueKind}
use Rattle.gn_value.specs.declared.value.Place.{Place}
use Rattle.gn_value.specs.declared.value.Place.TheVariants.{Point, Edge, Face, Corner, Cloud, Instance}
use Rattle.gn_plain.specs.Columns.{kind_of_values, count_of_values, value_of}
use Rattle.gn_plain.specs.Contexts.{Context, nowhere, on, length_of}
use Rattle.gn_plain.specs.Equality.{same_place}
use Rattle.gn_plain.specs.Geometry.{Shape}
use Rattle.gn_plain.specs.Interpolation.{interpolated}
use Rattle.gn_plain.specs.Topology.{Topology}
use Rattle.gn_field.specs.Contexts.{place_of, IsTopologyOf, topology_of, count_on}
use Rattle.gn_interp.specs.Gathered.{count_on as elements_on, IsAdapted}
use Rattle.gn_interp.specs.Takings.{unplaced}
use Rattle.gn_elsewhere.specs.Registers.{values_in}
use Rattle.gn_elsewhere.proofs.Registers.{kind_in, count_in, value_in}
use Rattle.gn_wholes.specs.Contexts.{HasPlace, IsBrought, moved}

same_count : (t : Topology) (p : Place) → count_on t p ≡ elements_on t p
same_count t Point = refl
same_count t Edge = refl
same_count t Face = refl
same_count t Corner = refl
same_count t Cloud = refl
same_count t Instance = refl

place_itself : (p : Place) → same_place p p ≡ true
place_itself Point = refl
place_itself Edge = refl
place_itself Face = refl
place_itself Corner = refl
place_itself Cloud = refl
place_itself Instance = refl

stays : (s : Shape) (kind : ValueKind) (p : Place) (value : ℕ → Value) (i : ℕ) → interpolated s kind p p value i ≡ value i
stays s kind p value i = rw (place_itself p) refl

-- without a topology the component has one place
pub kept : (c : Context) (from : Place) (values : Register) → IsTopologyOf c None → HasPlace c from → register_len values ≡ length_of (moved c from) → IsBrought c from values values
kept nowhere from values law has long = absurd has
kept (on c p) from values law has long =
    let many : register_len values ≡ c.count p = long ∙ ap c.count (law.1.1 from has) in
    record { kind = refl; len = many; each = λ value agrees i below. sym (law.1.0 (register_kind values) from value i has ∙ agrees i (subst (λ n. i < n) (sym many) below)) }

-- the context's own place
pub stayed : (c : Context) (from to : Place) (t : code.Topology) (values : Register) → IsTopologyOf c (Some t) → place_of c ≡ Some to → from ≡ to → register_len values ≡ length_of (moved c from) → IsBrought c from values values
stayed nowhere from to t values law at same long = cc
stayed (on c p) from to t values law at same long =
    let own : p ≡ to = cc in
    let here : from ≡ p = same ∙ sym own in
    let many : register_len values ≡ c.count p = long ∙ ap c.count here in
    let kind = register_kind values in
    record {
      kind = refl;
      len = many;
      each =
          λ value agrees i below.
          let is : c.interpolated kind p p value i ≡ value i = law.1.interpolated kind p p value i ∙ stays (unplaced (topology_of t)) kind p value i in
          sym (ap (λ q. c.interpolated kind q p value i) here ∙ (is ∙ agrees i (subst (λ n. i < n) (sym many) below)));
    }

-- how many values there are to bring
pub counted : (c : Context) (from : Place) (t : code.Topology) (values : Register) → IsTopologyOf c (Some t) → HasPlace c from → register_len values ≡ length_of (moved c from) → register_len values ≡ elements_on (topology_of t) from
counted nowhere from t values law has long = absurd has
counted (on c p) from t values law has long = long ∙ (law.1.count from (sym (law.1.has from) ∙ has) ∙ same_count (topology_of t) from)

pub valued : (c : Context) (from to : Place) (t : code.Topology) (values r : Register) → IsTopologyOf c (Some t) → place_of c ≡ Some to → IsAdapted (unplaced (topology_of t)) from to (elements_on (topology_of t) to) (values_in values) (values_in r)
    → IsBrought c from values r
valued nowhere from to t values r law at is = cc
valued (on c p) from to t values r law at is =
    let own : p ≡ to = cc in
    let kinds = kind_in values in
    let many : c.count p ≡ elements_on (topology_of t) to = law.1.count p law.0 ∙ (same_count (topology_of t) p ∙ ap (elements_on (topology_of t)) own) in
    record {
      kind = sym (kind_in r) ∙ (is.kind ∙ kinds);
      len = sym (count_in r) ∙ (is.many ∙ sym many);
      each =
          λ value agrees i below.
          let extends : (j : ℕ) → j < count_of_values (values_in values) → value j ≡ value_of (values_in values) j =
          λ j within. agrees j (subst (λ n. j < n) (count_in values) within) ∙ sym (value_in values j) in
          let shape = unplaced (topology_of t) in
          sym (value_in r i)
          ∙ (is.values value extends i (subst (λ n. i < n) many below)
          ∙ (ap (λ q. interpolated shape (kind_of_values (values_in values)) from q value i) (sym own)
          ∙ (ap (λ k. interpolated shape k from p value i) kinds ∙ sym (law.1.interpolated (register_kind values) from p value i))));
    }
