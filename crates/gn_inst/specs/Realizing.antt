-- Geometry without its instances, and what these place.
use Rattle.std.specs.Prelude.{◌≡◌, ℕ, suc, ◌-◌, ◌^◌, ◌==◌, Bool, min, List, [], ◌∷◌, map, All, slice_index_or}
use Rattle.std.specs.List.{list_any}
use Rattle.gn_value.specs.declared.value.Place.{Place}
use Rattle.gn_plain.specs.Columns.{Column}
use Rattle.gn_plain.specs.Geometry as plain
use Rattle.gn_plain.specs.Geometry.{count}
use Rattle.gn_geometry.specs.declared.geometry.Transform.{Transform}
use Rattle.gn_geometry.specs.Geometries.{GeometryView, instances_in, items_in, parts_in, plain_geometry, plain_transform}
use Rattle.gn_joins.specs.Realized.{realized, with_columns_of}
use Rattle.gn_joins.specs.Transforms.{moved}

-- a number, or the largest of 64 bits where that is less
abbrev pub capped : ℕ → ℕ
capped n = min n (2 ^ 64 - 1)

abbrev pub capped_count : Place → GeometryView → ℕ
capped_count p g = capped (count (realized (plain_geometry g)) p)

-- a geometry without its instances
abbrev pub own : plain.Geometry → plain.Geometry
own g = record { mesh = g.mesh; cloud = g.cloud; instances = plain.no_instances }

-- a part as an item of this number places it
abbrev pub placed_part : List Column → ℕ → plain.Geometry → Transform → plain.Geometry
placed_part columns k g t = with_columns_of k columns (moved (plain_transform t) g)

-- parts as items place them, which are numbered from k
abbrev pub placed_parts : List Column → ℕ → List (Transform × ℕ) → List plain.Geometry → List plain.Geometry
placed_parts columns k [] parts = []
placed_parts columns k (i ∷ items) parts = placed_part columns k (slice_index_or parts i.1 plain.empty) i.0 ∷ placed_parts columns (suc k) items parts

-- does an item name the part?
abbrev pub is_named : List (Transform × ℕ) → ℕ → Bool
is_named items k = list_any (λ i. i.1 == k) items

-- each part that an item names is realised in the second list
pub record AreRealized (g : GeometryView) (done : List GeometryView) : Type 0 where
  pub parts : All (λ i. slice_index_or (map plain_geometry done) i.1 plain.empty ≡ realized (slice_index_or (map plain_geometry (parts_in (instances_in g))) i.1 plain.empty)) (items_in (instances_in g))
