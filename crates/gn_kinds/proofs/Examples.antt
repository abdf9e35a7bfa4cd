-- The table of kinds, by computation.
use Rattle.std.proofs.Common.{◌≡◌, ℕ, ◌+◌, List, [], ◌∷◌, Some, None, map, length, codes, refl}
use Rattle.std.specs.Prelude.{option_map}
use Rattle.gn_kinds.specs.declared.row.SocketKind.TheVariants.{Fixed}
use Rattle.gn_kinds.specs.Names.{kind_named, place_named}
use Rattle.gn_kinds.specs.Row.{KindRow, input_name, output_name}
use Rattle.gn_kinds.specs.Table.{table, values, functions, elsewhere, attributes, geometry_kinds, instance_kinds, groups, row_of_kind, value_kinds, any_but_corner}

abbrev together : List (List KindRow) → ℕ
together [] = 0
together (rows ∷ more) = length rows + together more

-- 58 kinds, and groups
number_of_kinds : together table ≡ 59
unfolding table values functions elsewhere attributes geometry_kinds instance_kinds groups
number_of_kinds = refl

inputs_of_a_join : option_map (λ row. map input_name row.inputs) (row_of_kind (codes "join_geometry")) ≡ Some (codes "geometry" ∷ [])
unfolding row_of_kind table values functions elsewhere attributes geometry_kinds instance_kinds groups
inputs_of_a_join = refl

outputs_of_a_sum : option_map (λ row. map output_name row.outputs) (row_of_kind (codes "accumulate_field")) ≡ Some (codes "leading" ∷ codes "trailing" ∷ codes "total" ∷ [])
unfolding row_of_kind table values functions elsewhere attributes geometry_kinds instance_kinds groups
outputs_of_a_sum = refl

no_such_kind : row_of_kind (codes "set_positions") ≡ None
unfolding row_of_kind table values functions elsewhere attributes geometry_kinds instance_kinds groups
no_such_kind = refl

a_kind_of_values : kind_named value_kinds (codes "fixed") ≡ Some Fixed
a_kind_of_values = refl

geometry_is_no_kind_of_values : kind_named value_kinds (codes "geometry") ≡ None
geometry_is_no_kind_of_values = refl

no_corners : place_named any_but_corner (codes "corner") ≡ None
no_corners = refl
