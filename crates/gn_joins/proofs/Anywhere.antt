-- Interpolation does not depend on where the vertices are.
use Rattle.std.proofs.Common.{◌≡◌, ℕ, List, map, if◌then◌else◌, refl, ap}
use Rattle.gn_value.specs.declared.vector.V3.{V3}
use Rattle.gn_value.specs.declared.value.Value.{Value}
use Rattle.gn_value.specs.declared.value.ValueKind.{ValueKind}
use Rattle.gn_value.specs.declared.value.Place.{Place}
use Rattle.gn_value.specs.declared.value.Place.TheVariants.{Point, Edge, Face, Corner, Cloud, Instance}
use Rattle.gn_plain.specs.Equality.{same_place}
use Rattle.gn_plain.specs.Topology.{Topology, shape_of}
use Rattle.gn_plain.specs.Interpolation.{Taking, combined, interpolated, one_suffices, taken_by, takings}

takings_anywhere : (ps qs : List V3) (t : Topology) (from to : Place) → takings from to (shape_of ps t) ≡ takings from to (shape_of qs t)
takings_anywhere ps qs t Point Point = refl
takings_anywhere ps qs t Point Edge = refl
takings_anywhere ps qs t Point Face = refl
takings_anywhere ps qs t Point Corner = refl
takings_anywhere ps qs t Point Cloud = refl
takings_anywhere ps qs t Point Instance = refl
takings_anywhere ps qs t Edge Point = refl
takings_anywhere ps qs t Edge Edge = refl
takings_anywhere ps qs t Edge Face = refl
takings_anywhere ps qs t Edge Corner = refl
takings_anywhere ps qs t Edge Cloud = refl
takings_anywhere ps qs t Edge Instance = refl
takings_anywhere ps qs t Face Point = refl
takings_anywhere ps qs t Face Edge = refl
takings_anywhere ps qs t Face Face = refl
takings_anywhere ps qs t Face Corner = refl
takings_anywhere ps qs t Face Cloud = refl
takings_anywhere ps qs t Face Instance = refl
takings_anywhere ps qs t Corner Point = refl
takings_anywhere ps qs t Corner Edge = refl
takings_anywhere ps qs t Corner Face = refl
takings_anywhere ps qs t Corner Corner = refl
takings_anywhere ps qs t Corner Cloud = refl
takings_anywhere ps qs t Corner Instance = refl
takings_anywhere ps qs t Cloud Point = refl
takings_anywhere ps qs t Cloud Edge = refl
takings_anywhere ps qs t Cloud Face = refl
takings_anywhere ps qs t Cloud Corner = refl
takings_anywhere ps qs t Cloud Cloud = refl
takings_anywhere ps qs t Cloud Instance = refl
takings_anywhere ps qs t Instance Point = refl
takings_anywhere ps qs t Instance Edge = refl
takings_anywhere ps qs t Instance Face = refl
takings_anywhere ps qs t Instance Corner = refl
takings_anywhere ps qs t Instance Cloud = refl
takings_anywhere ps qs t Instance Instance = refl

pub interpolated_anywhere : (ps qs : List V3) (t : Topology) (kind : ValueKind) (from to : Place) (value : ℕ → Value) (i : ℕ) → interpolated (shape_of ps t) kind from to value i ≡ interpolated (shape_of qs t) kind from to value i
interpolated_anywhere ps qs t kind from to value i =
    ap (λ (ts : List Taking). if same_place from to then value i else combined kind (one_suffices from to) (map value (taken_by i ts))) (takings_anywhere ps qs t from to)
