-- Joins, transforms and realised geometry, by computation.
use Rattle.std.proofs.Common.{◌≡◌, ℕ, ◌+◌, ◌-◌, ◌*◌, ◌^◌, List, [], ◌∷◌, Some, None, true, false, pos, codes, refl}
use Rattle.gn_value.specs.Values.{fx, v3, converted}
use Rattle.gn_value.specs.Arithmetic.{exact_product}
use Rattle.gn_value.specs.declared.vector.V3.{V3}
use Rattle.gn_value.specs.declared.value.Place.{Place}
use Rattle.gn_value.specs.declared.value.Place.TheVariants.{Point, Edge, Face, Corner, Cloud, Instance}
use Rattle.gn_plain.specs.Columns.{named, Values, truths, ints, fixed_numbers, Column}
use Rattle.gn_plain.specs.Geometry.{Geometry, Transform, of_shape, empty, with_columns, and_placed, none_placed, placed_in, transforms, depth}
use Rattle.gn_plain.proofs.Samples.{at_units, edge, corner, triangle}
use Rattle.gn_joins.specs.Transforms.{moved_point, moved_transform}
use Rattle.gn_joins.specs.Joins.{joined}
use Rattle.gn_joins.specs.Limits.{first_over, all_places}
use Rattle.gn_joins.specs.Realized.{realized}

-- ---- transforms

abbrev shift : ℕ → ℕ → ℕ → Transform
shift x y z = record { row_x = at_units 1 0 0; row_y = at_units 0 1 0; row_z = at_units 0 0 1; translation = at_units x y z }

-- x goes to y, y to z and z to x, and then 1 is added to x
abbrev turn : Transform
turn = record { row_x = at_units 0 0 1; row_y = at_units 1 0 0; row_z = at_units 0 1 0; translation = at_units 1 0 0 }

a_point_is_shifted : moved_point (shift 1 2 3) (at_units 4 5 6) ≡ at_units 5 7 9
unfolding exact_product
a_point_is_shifted = refl

a_point_is_turned : moved_point turn (at_units 4 5 6) ≡ at_units 7 4 5
unfolding exact_product
a_point_is_turned = refl

-- 2^63 - 1 and 1 are 2^63 - 1
a_component_stops_at_the_end : moved_point (shift 0 0 1) (v3 (pos 0) (pos 0) (pos (2 ^ 63 - 1))) ≡ v3 (pos 0) (pos 0) (pos (2 ^ 63 - 1))
unfolding exact_product
a_component_stops_at_the_end = refl

-- products of half a raw unit are rounded down one by one
products_are_rounded_by_themselves : moved_point (record { row_x = v3 (pos (2 ^ 31)) (pos (2 ^ 31)) (pos 0); row_y = at_units 0 0 0; row_z = at_units 0 0 0; translation = at_units 0 0 0 }) (v3 (pos 1) (pos 1) (pos 0)) ≡ at_units 0 0 0
unfolding exact_product
products_are_rounded_by_themselves = refl

-- the second transform acts first
rows_become_those_of_a_product : moved_transform turn (record { row_x = at_units 2 0 0; row_y = at_units 0 3 0; row_z = at_units 0 0 5; translation = at_units 7 8 9 })
    ≡ record { row_x = at_units 0 0 5; row_y = at_units 2 0 0; row_z = at_units 0 3 0; translation = at_units 10 7 8 }
unfolding exact_product
rows_become_those_of_a_product = refl

-- ---- joins

abbrev two : Geometry
two = joined (of_shape triangle ∷ of_shape triangle ∷ [])

numbers_are_shifted : two.mesh.shape ≡ record {
  points = at_units 0 0 0 ∷ at_units 1 0 0 ∷ at_units 0 1 0 ∷ at_units 0 0 0 ∷ at_units 1 0 0 ∷ at_units 0 1 0 ∷ [];
  edges = edge 0 1 ∷ edge 1 2 ∷ edge 0 2 ∷ edge 3 4 ∷ edge 4 5 ∷ edge 3 5 ∷ [];
  faces = (corner 0 0 ∷ corner 1 1 ∷ corner 2 2 ∷ []) ∷ (corner 3 3 ∷ corner 4 4 ∷ corner 5 5 ∷ []) ∷ [];
}
numbers_are_shifted = refl

the_join_of_nothing_is_empty : joined [] ≡ empty
the_join_of_nothing_is_empty = refl

abbrev with_column : Column → Geometry
with_column c = record (of_shape triangle) { mesh = record { shape = triangle; columns = c ∷ [] } }

abbrev column : List ℕ → Place → Values → Column
column name place values = record { name = named name; place = place; column = values }

-- integers of vertices, 1.5 of a face, and a part without the column
abbrev ages : List Geometry
ages = with_column (column (codes "age") Point (ints (pos 7 ∷ pos 8 ∷ pos 9 ∷ []))) ∷ with_column (column (codes "age") Face (fixed_numbers (fx (pos (3 * 2 ^ 31)) ∷ []))) ∷ of_shape triangle ∷ []

the_first_part_says_place_and_kind : (joined ages).mesh.columns ≡ column (codes "age") Point (ints (pos 7 ∷ pos 8 ∷ pos 9 ∷ pos 1 ∷ pos 1 ∷ pos 1 ∷ pos 0 ∷ pos 0 ∷ pos 0 ∷ [])) ∷ []
unfolding converted
the_first_part_says_place_and_kind = refl

-- names in the order in which they are first seen
abbrev marked : List Geometry
marked = with_column (column (codes "b") Face (truths (true ∷ []))) ∷ with_column (column (codes "a") Face (ints (pos 5 ∷ []))) ∷ []

columns_come_in_first_seen_order : (joined marked).mesh.columns ≡ column (codes "b") Face (truths (true ∷ false ∷ [])) ∷ column (codes "a") Face (ints (pos 0 ∷ pos 5 ∷ [])) ∷ []
unfolding converted
columns_come_in_first_seen_order = refl

abbrev cloud_of : List V3 → Values → Geometry
cloud_of points values = record empty { cloud = record { points = points; columns = column (codes "w") Cloud values ∷ [] } }

-- also where it has no element there
a_part_without_elements_says_the_kind : (joined (cloud_of [] (ints []) ∷ cloud_of (at_units 1 2 3 ∷ []) (truths (true ∷ [])) ∷ [])).cloud
    ≡ record { points = at_units 1 2 3 ∷ []; columns = column (codes "w") Cloud (ints (pos 1 ∷ [])) ∷ [] }
unfolding converted
a_part_without_elements_says_the_kind = refl

-- ---- instances

-- an instance of a geometry, with a column of instances
abbrev instance : Transform → Geometry → List Column → Geometry
instance t g columns = record empty { instances = with_columns (and_placed t g.mesh g.cloud g.instances none_placed) columns }

abbrev weights : Column
weights = column (codes "w") Instance (ints (pos 4 ∷ []))

instances_are_joined : transforms (placed_in (joined (instance (shift 1 0 0) empty [] ∷ instance turn empty [] ∷ [])).instances) ≡ shift 1 0 0 ∷ turn ∷ []
instances_are_joined = refl

-- the triangle, and once more one unit above
abbrev above : Geometry
above = record (instance (shift 0 0 1) (of_shape triangle) []) { mesh = record { shape = triangle; columns = [] } }

an_instance_is_realised_behind_the_mesh : (realized above).mesh.shape.points ≡ at_units 0 0 0 ∷ at_units 1 0 0 ∷ at_units 0 1 0 ∷ at_units 0 0 1 ∷ at_units 1 0 1 ∷ at_units 0 1 1 ∷ []
unfolding exact_product
an_instance_is_realised_behind_the_mesh = refl

no_instance_is_left : depth (realized above) ≡ 0
no_instance_is_left = refl

-- the inner transform acts first
nested_instances_are_moved_twice : (realized (instance turn (instance (shift 0 0 2) (cloud_of (at_units 0 0 0 ∷ []) (ints (pos 0 ∷ []))) []) [])).cloud.points ≡ at_units 3 0 0 ∷ []
unfolding exact_product
nested_instances_are_moved_twice = refl

an_instance_hands_its_columns_on : (realized (record (instance (shift 0 0 1) (of_shape triangle) (weights ∷ [])) { mesh = record { shape = triangle; columns = [] } })).mesh.columns
    ≡ column (codes "w") Point (ints (pos 0 ∷ pos 0 ∷ pos 0 ∷ pos 4 ∷ pos 4 ∷ pos 4 ∷ [])) ∷ []
unfolding exact_product converted
an_instance_hands_its_columns_on = refl

-- a column of the part's own stays
a_part_keeps_its_own_column : (realized (instance (shift 0 0 0) (cloud_of (at_units 0 0 0 ∷ []) (truths (true ∷ []))) (weights ∷ []))).cloud.columns ≡ column (codes "w") Cloud (truths (true ∷ [])) ∷ []
unfolding exact_product converted
a_part_keeps_its_own_column = refl

nothing_is_handed_to_an_empty_part : (realized (instance (shift 0 0 0) empty (weights ∷ []))).mesh.columns ≡ []
nothing_is_handed_to_an_empty_part = refl

-- ---- limits

abbrev all_but : Place → ℕ → Place → ℕ
all_but Edge n Edge = n
all_but Corner n Corner = n
all_but _ n _ = 2 ^ 23

as_many_as_there_may_be : first_over (all_but Point 0) all_places ≡ None
as_many_as_there_may_be = refl

one_corner_too_many : first_over (all_but Corner (2 ^ 23 + 1)) all_places ≡ Some (Corner, 2 ^ 23 + 1)
one_corner_too_many = refl

the_number_stops : first_over (all_but Edge (2 ^ 70)) all_places ≡ Some (Edge, 2 ^ 64 - 1)
the_number_stops = refl

the_first_place_is_named : first_over (λ p. 2 ^ 23 + 1) all_places ≡ Some (Point, 2 ^ 23 + 1)
the_first_place_is_named = refl
