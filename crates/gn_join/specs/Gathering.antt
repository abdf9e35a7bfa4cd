-- Instances that are gathered from several geometries.
use Rattle.std.specs.Prelude.{◌≡◌, ℕ, ◌<◌, ◌≤◌, List, [], ◌∷◌, ◌++◌, length, map, All, Option, Some, None, slice_index_or, if◌then◌else◌}
use Rattle.gn_plain.specs.Geometry as plain
use Rattle.gn_value.specs.declared.value.Place.{Place}
use Rattle.gn_value.specs.declared.value.Place.TheVariants.{Instance}
use Rattle.gn_plain.specs.Equality.{same_place}
use Rattle.gn_plain.specs.Columns.{Entry}
use Rattle.gn_attr.specs.Columns.{AreSole}
use Rattle.gn_attr.specs.declared.column.Column.{Column}
use Rattle.gn_geometry.specs.Fits.{AreFitting}
use Rattle.gn_geometry.specs.declared.geometry.Transform.{Transform}
use Rattle.gn_geometry.specs.Geometries.{GeometryView, placed_by, plain_geometry, IsSole}
use Rattle.gn_joins.specs.Limits.{count_together}
use Rattle.gn_join.specs.declared.placed.Gathered.{Gathered}
use Rattle.gn_join.specs.declared.placed.Slot.{Slot}
use Rattle.gn_join.specs.declared.placed.Slot.TheVariants.{Waiting, At}

-- what the items place
abbrev pub placed_of : Gathered → plain.Placed
placed_of g = placed_by g.items.items (map plain_geometry g.parts.items)

-- an item that places one of these parts
abbrev pub item_placed : List plain.Geometry → Transform × ℕ → plain.Placed
item_placed parts item = placed_by (item ∷ []) parts

abbrev pub slots_of : List GeometryView → List Slot
slots_of parts = map Waiting parts

-- the part that a slot stands for
abbrev pub part_in : List GeometryView → Slot → plain.Geometry
part_in parts (Waiting g) = plain_geometry g
part_in parts (At k) = slice_index_or (map plain_geometry parts) k plain.empty

-- a slot's number is that of a part
abbrev pub IsBelow : ℕ → Slot → Type 0
IsBelow count (Waiting g) = Unit {0}
IsBelow count (At k) = k < count

abbrev pub AreNumbered : List GeometryView → List Slot → Type 0
AreNumbered parts slots = All (IsBelow (length parts)) slots

-- each item names a part, and there are no more parts than items
pub record IsGathered (g : Gathered) : Type 0 where
  pub named : All (λ i. i.1 < length g.parts.items) g.items.items
  pub few : length g.parts.items ≤ length g.items.items

-- a part that waits goes behind the others, and one that is there keeps its number
abbrev pub Numbers : Slot → List GeometryView → List GeometryView → ℕ → Slot → Type 0
Numbers (Waiting g) before after n slot = (after ≡ before ++ g ∷ []) × (n ≡ length before) × (slot ≡ At n)
Numbers (At k) before after n slot = (after ≡ before) × (n ≡ k) × (slot ≡ At k)

-- a part that waits has the only handle of each of its blocks
abbrev pub IsSoleSlot : Slot → Type 0
IsSoleSlot (Waiting g) = IsSole g
IsSoleSlot (At k) = Unit {0}

-- where no part shared a block, gathered or waiting, none does afterwards
abbrev pub StaySole : List GeometryView → List Slot → List GeometryView → List Slot → Type 0
StaySole parts slots parts' slots' = All IsSole parts → All IsSoleSlot slots → (All IsSole parts') × (All IsSoleSlot slots')

-- the number of instances of geometries together, on their own place
abbrev pub all_instances : List plain.Geometry → Place → Option ℕ
all_instances gs p = if same_place Instance p then Some (count_together gs p) else None

-- each handle is the only one of its block, and each column has a value for each instance
pub record AreColumnsOfAll (gs : List plain.Geometry) (columns : List (Entry Column)) : Type 0 where
  pub sole : AreSole columns
  pub fit : AreFitting (all_instances gs) columns
