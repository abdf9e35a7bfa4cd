-- What fields give in contexts, by computation.
use Rattle.std.proofs.Common.{◌≡◌, ℕ, List, [], ◌∷◌, None, map, true, false, pos, negsuc, ◌*◌, ◌^◌, ◌-◌, codes, refl}
use Rattle.gn_value.specs.Values.{fx, v3, zero_of, exact_length, converted}
use Rattle.gn_root.specs.Roots.{greatest, root}
use Rattle.gn_value.specs.Arithmetic.{exact_product}
use Rattle.gn_value.specs.Rows.{row, compare_row}
use Rattle.gn_value.specs.Operations.{gives}
use Rattle.gn_value.specs.declared.value.Value.{Value}
use Rattle.gn_value.specs.declared.value.Value.TheVariants.{Truth as truth, Int as int, Fixed as fixed, Vector as vector}
use Rattle.gn_value.specs.declared.value.ValueKind.TheVariants.{Truth, Int, Fixed, Vector}
use Rattle.gn_value.specs.declared.value.Place.{Place}
use Rattle.gn_value.specs.declared.value.Place.TheVariants.{Point, Edge, Face, Corner, Cloud, Instance}
use Rattle.gn_value.specs.declared.op.Op.TheVariants.{Compare, Math}
use Rattle.gn_value.specs.declared.op.CompareKind.TheVariants.{Int as Integers}
use Rattle.gn_value.specs.declared.op.CompareOp.TheVariants.{Less}
use Rattle.gn_value.specs.declared.op.MathOp.TheVariants.{Add}
use Rattle.gn_plain.specs.Columns.{named, fixed_numbers, Column}
use Rattle.gn_plain.specs.Geometry as geometry
use Rattle.gn_plain.specs.Geometry.{Geometry, of_shape, and_placed, none_placed, with_columns, no_cloud, no_instances}
use Rattle.gn_plain.specs.Contexts.{Input, position, index, id, normal, column, exists, edge_index_1, edge_index_2, edge_position_1, edge_position_2, vertex_edges, vertex_faces, Context, nowhere, context, input_at, length_of, normal_of}
use Rattle.gn_plain.specs.Fields.{leading, trailing, total, accumulate, at_index, on_domain, Expr, constant, input, apply, elsewhere, sampled, none, and_one, Sources, at, varies, kind_of_field}
use Rattle.gn_plain.specs.Subtrees.{different, count_different}
use Rattle.gn_plain.proofs.Samples.{units, at_units, corner, triangle, two_triangles}

-- ---- inputs

-- the triangle, whose vertices have the identifiers 1.5, 2.5 and 0
abbrev ids : Column
ids = record { name = named (codes "id"); place = Point; column = fixed_numbers (fx (pos (3 * 2 ^ 31)) ∷ fx (pos (5 * 2 ^ 31)) ∷ fx (pos 0) ∷ []) }

-- a cloud of one point and an instance of nothing
abbrev whole : Geometry
whole = record {
  mesh = record { shape = triangle; columns = ids ∷ [] };
  cloud = record { points = at_units 7 0 0 ∷ []; columns = [] };
  instances = with_columns (and_placed (record { row_x = at_units 1 0 0; row_y = at_units 0 1 0; row_z = at_units 0 0 1; translation = at_units 0 0 9 }) (record { shape = triangle; columns = [] }) no_cloud no_instances none_placed) [];
}

abbrev read : Place → Input → ℕ → Value
read p x i = input_at (context whole p) x i

positions : read Point position 1 ∷ read Face position 0 ∷ read Corner position 1 ∷ read Cloud position 0 ∷ read Instance position 0 ∷ []
    ≡ vector (at_units 1 0 0) ∷ vector (v3 (pos 1431655765) (pos 1431655765) (pos 0)) ∷ vector (at_units 1 0 0) ∷ vector (at_units 7 0 0) ∷ vector (at_units 0 0 9) ∷ []
positions = refl

numbers_of_elements : read Face index 0 ∷ read Corner index 2 ∷ read Instance index 0 ∷ [] ≡ int (pos 0) ∷ int (pos 2) ∷ int (pos 0) ∷ []
numbers_of_elements = refl

-- the mean of 1.5 and 2.5 is 2; a cloud without such a column has numbers
identifiers : read Point id 0 ∷ read Edge id 0 ∷ read Cloud id 0 ∷ [] ≡ int (pos 1) ∷ int (pos 2) ∷ int (pos 0) ∷ []
unfolding converted
identifiers = refl

columns_by_name : read Edge (column (named (codes "id")) Truth) 1 ∷ read Point (column (named (codes "no")) Vector) 1 ∷ read Point (exists (codes "id")) 0 ∷ read Cloud (exists (codes "id")) 0 ∷ []
    ≡ truth true ∷ zero_of Vector ∷ truth true ∷ truth false ∷ []
unfolding converted
columns_by_name = refl

abbrev around_three : List geometry.Corner
around_three = corner 0 0 ∷ corner 1 1 ∷ corner 2 2 ∷ []

normals : read Face normal 0 ∷ read Point normal 2 ∷ read Cloud normal 0 ∷ [] ≡ vector (at_units 0 0 1) ∷ vector (at_units 0 0 1) ∷ zero_of Vector ∷ []
unfolding exact_product exact_length root greatest
normals = refl

-- faces in the two other planes
across_a_face : normal_of (at_units 0 0 0 ∷ at_units 0 1 0 ∷ at_units 0 0 1 ∷ []) around_three ∷ normal_of (at_units 0 0 0 ∷ at_units 0 0 1 ∷ at_units 1 0 0 ∷ []) around_three ∷ [] ≡ at_units 1 0 0 ∷ at_units 0 1 0 ∷ []
unfolding exact_product exact_length root greatest
across_a_face = refl

-- on a face the means of 0, 1, 0 and of 1, 2, 2
ends_of_edges : read Edge edge_index_1 2 ∷ read Edge edge_index_2 2 ∷ read Face edge_index_1 0 ∷ read Face edge_index_2 0 ∷ read Edge edge_position_1 1 ∷ read Edge edge_position_2 1 ∷ read Cloud edge_index_2 0 ∷ []
    ≡ int (pos 0) ∷ int (pos 2) ∷ int (pos 0) ∷ int (pos 1) ∷ vector (at_units 1 0 0) ∷ vector (at_units 0 1 0) ∷ int (pos 0) ∷ []
ends_of_edges = refl

abbrev on_two : Place → Context
on_two p = context (of_shape two_triangles) p

neighbours_of_vertices : map (input_at (on_two Point) vertex_edges) (0 ∷ 1 ∷ 4 ∷ []) ≡ int (pos 2) ∷ int (pos 3) ∷ int (pos 0) ∷ []
neighbours_of_vertices = refl

faces_of_vertices : map (input_at (on_two Point) vertex_faces) (0 ∷ 1 ∷ 4 ∷ []) ≡ int (pos 1) ∷ int (pos 2) ∷ int (pos 0) ∷ []
faces_of_vertices = refl

lengths : map (λ p. length_of (on_two p)) (Point ∷ Corner ∷ Cloud ∷ []) ≡ 5 ∷ 6 ∷ 0 ∷ []
lengths = refl

nowhere_is_one_element : length_of nowhere ≡ 1
nowhere_is_one_element = refl

nothing_is_read_nowhere : input_at nowhere index 0 ∷ input_at nowhere id 0 ∷ input_at nowhere position 0 ∷ [] ≡ int (pos 0) ∷ int (pos 0) ∷ zero_of Vector ∷ []
nothing_is_read_nowhere = refl

-- ---- fields

-- each source gives twice what it is
abbrev sources : Sources ℕ
sources = record { kind = λ s. Int; value = λ s v. int (pos (2 * s)) }

abbrev Field : Type 0
Field = Expr ℕ

abbrev whole_number : ℕ → Field
whole_number n = constant (int (pos n))

abbrev index_below : ℕ → Field
index_below n = apply (Compare Integers Less) (and_one (input index) (and_one (whole_number n) none))

index_on_points_of_faces : map (at sources (elsewhere (on_domain Truth Point) (and_one (index_below 3) none)) (on_two Face)) (0 ∷ 1 ∷ []) ≡ truth true ∷ truth false ∷ []
unfolding row compare_row
index_on_points_of_faces = refl

index_on_faces_of_points : map (at sources (elsewhere (on_domain Truth Face) (and_one (index_below 1) none)) (on_two Point)) (0 ∷ 1 ∷ 2 ∷ 3 ∷ 4 ∷ [])
    ≡ truth true ∷ truth true ∷ truth true ∷ truth false ∷ truth false ∷ []
unfolding row compare_row
index_on_faces_of_points = refl

-- three numbers, which add up to more than there is and come back
abbrev far : Column
far = record { name = named (codes "far"); place = Point; column = fixed_numbers (fx (units 2000000000) ∷ fx (units 2000000000) ∷ fx (negsuc (2000000000 * 2 ^ 32 - 1)) ∷ []) }

abbrev with_far : Context
with_far = context (record whole { mesh = record { shape = triangle; columns = far ∷ [] } }) Point

abbrev values_of : Field → List Value
values_of e = map (at sources e with_far) (0 ∷ 1 ∷ 2 ∷ [])

abbrev far_values : Field
far_values = input (column (named (codes "far")) Fixed)

leading_sums : values_of (elsewhere (accumulate Fixed Point leading) (and_one far_values (and_one (whole_number 0) none))) ≡ fixed (fx (units 2000000000)) ∷ fixed (fx (pos (2 ^ 63 - 1))) ∷ fixed (fx (units 2000000000)) ∷ []
unfolding converted
leading_sums = refl

-- the first two are a group
trailing_sums_of_groups : values_of (elsewhere (accumulate Int Point trailing) (and_one (whole_number 5) (and_one (input (column (named (codes "far")) Truth)) none))) ≡ int (pos 0) ∷ int (pos 5) ∷ int (pos 0) ∷ []
unfolding converted
trailing_sums_of_groups = refl

totals_on_corners : at sources (elsewhere (accumulate Int Face total) (and_one (whole_number 1) (and_one (whole_number 0) none))) (on_two Corner) 5 ≡ int (pos 2)
totals_on_corners = refl

-- where the greater end of each edge is
values_at_an_index : map (at sources (elsewhere (at_index Vector Point) (and_one (input position) (and_one (input edge_index_2) none))) (on_two Edge)) (0 ∷ 3 ∷ []) ≡ vector (at_units 1 0 0) ∷ vector (at_units 1 1 0) ∷ []
values_at_an_index = refl

no_such_index : at sources (elsewhere (at_index Int Point) (and_one (whole_number 7) (and_one (whole_number 5) none))) (on_two Point) 0 ≡ int (pos 0)
no_such_index = refl

no_place_of_the_component : at sources (elsewhere (on_domain Int Cloud) (and_one (whole_number 7) none)) (on_two Point) 0 ∷ at sources (elsewhere (on_domain Int Point) (and_one (whole_number 7) none)) nowhere 0 ∷ [] ≡ int (pos 0) ∷ int (pos 0) ∷ []
no_place_of_the_component = refl

a_sampled_value : at sources (sampled [] 5 (input index)) (on_two Point) 3 ≡ int (pos 10)
a_sampled_value = refl

what_varies : map varies (whole_number 7 ∷ index_below 3 ∷ sampled [] 5 (whole_number 7) ∷ sampled [] 5 (input index) ∷ elsewhere (on_domain Int Point) (and_one (whole_number 7) none) ∷ [])
    ≡ false ∷ true ∷ false ∷ true ∷ true ∷ []
what_varies = refl

kinds : map (kind_of_field sources) (whole_number 7 ∷ index_below 3 ∷ input normal ∷ sampled [] 5 (whole_number 7) ∷ []) ≡ Int ∷ Truth ∷ Vector ∷ Int ∷ []
unfolding gives
kinds = refl

-- ---- subtrees

abbrev doubled : Field → Field
doubled e = apply (Math Add) (and_one e (and_one e none))

a_doubling_adds_one_subtree : different (doubled (doubled (input position)) ∷ []) ≡ input position ∷ doubled (input position) ∷ doubled (doubled (input position)) ∷ []
a_doubling_adds_one_subtree = refl

subtrees_of_several_fields : count_different (index_below 3 ∷ index_below 4 ∷ index_below 3 ∷ []) ≡ 5
subtrees_of_several_fields = refl

-- fields of one node are the same by their arguments, whatever their sources are
samples_go_by_their_nodes : count_different {S = ℕ} (sampled [] 5 (input index) ∷ sampled [] 6 (input index) ∷ sampled (record { node = 1; turn = None } ∷ []) 5 (input index) ∷ []) ≡ 3
samples_go_by_their_nodes = refl
