-- Columns that fit the places of a component.
use Rattle.std.specs.Prelude.{◌≡◌, ℕ, List, [], ◌∷◌, Option, Some, None, if◌then◌else◌}
use Rattle.gn_value.specs.declared.value.Place.{Place}
use Rattle.gn_value.specs.declared.value.Place.TheVariants.{Cloud}
use Rattle.gn_plain.specs.Columns.{Entry, count_of_values}
use Rattle.gn_plain.specs.Contexts.{is_of_mesh}
use Rattle.gn_plain.specs.Equality.{same_place}
use Rattle.gn_plain.specs.Geometry.{Shape, count_in}
use Rattle.gn_attr.specs.Columns.{values_of}
use Rattle.gn_attr.specs.declared.column.Column.{Column}

-- how many elements a mesh has on a place, where that is a place of meshes
abbrev pub mesh_count : Shape → Place → Option ℕ
mesh_count s p = if is_of_mesh p then Some (count_in s p) else None

-- `count` elements on one place, and no other place
abbrev pub count_only : Place → ℕ → Place → Option ℕ
count_only only count p = if same_place only p then Some count else None

abbrev pub cloud_count : ℕ → Place → Option ℕ
cloud_count points = count_only Cloud points

-- a column has a value for each element of a place that there is
abbrev pub Fits : (Place → Option ℕ) → Place → Column → Type 0
Fits count place column = count place ≡ Some (count_of_values (values_of column))

abbrev pub AreFitting : (Place → Option ℕ) → List (Entry Column) → Type 0
AreFitting count [] = Unit {0}
AreFitting count (e ∷ es) = Fits count e.place e.column × AreFitting count es
