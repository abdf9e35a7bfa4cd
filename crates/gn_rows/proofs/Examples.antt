-- What nodes give, by computation.
use Rattle.std.proofs.Common.{◌≡◌, ℕ, List, [], ◌∷◌, Option, Some, None, map, true, false, pos, negsuc, ◌^◌, ◌-◌, codes, refl}
use Rattle.std.specs.Fmt.{digits}
use Rattle.gn_value.specs.Values.{v3, zero_of, converted}
use Rattle.gn_value.specs.Rows.{row, compare_row, chosen}
use Rattle.gn_value.specs.Operations.{gives}
use Rattle.gn_value.specs.declared.value.Value.{Value}
use Rattle.gn_value.specs.declared.value.Value.TheVariants.{Truth as truth, Int as int, Vector as vector}
use Rattle.gn_value.specs.declared.value.ValueKind.TheVariants as value_kind
use Rattle.gn_value.specs.declared.value.Place.TheVariants.{Point}
use Rattle.gn_value.specs.declared.op.Op.TheVariants.{Compare}
use Rattle.gn_value.specs.declared.op.CompareKind.TheVariants.{Int as Integers}
use Rattle.gn_value.specs.declared.op.CompareOp.TheVariants.{Less}
use Rattle.gn_kinds.specs.declared.row.SocketKind.TheVariants.{Truth, Geometry as OfGeometry}
use Rattle.gn_kinds.specs.Row.{Text}
use Rattle.gn_kinds.specs.Table.{row_of_kind, table, values, functions, elsewhere, attributes, geometry_kinds, instance_kinds, groups}
use Rattle.gn_lines.specs.Lines.{lines}
use Rattle.gn_elements.specs.Read.{mesh}
use Rattle.gn_tree.specs.Trees.{Settings, no_settings, and_setting, of_kind, constant as a_constant, link, node, no_nodes, and_node, Tree}
use Rattle.gn_node_set.specs.Meanings.{Choice, one_case, all_cases, Answer, Absent, Whole, Done}
use Rattle.gn_meaning.specs.Sites.{the_tree, at_output}
use Rattle.gn_meaning.specs.Denotation.{Given, value_within}
use Rattle.gn_plain.specs.Columns.{anonymous, vectors}
use Rattle.gn_plain.specs.Geometry.{Shape, Geometry, Transform, and_placed, none_placed, with_columns, of_shape, empty, no_cloud, no_instances}
use Rattle.gn_plain.specs.Contexts.{position, index, column, context}
use Rattle.gn_plain.specs.Fields.{at_index, Expr, constant, input, apply, elsewhere as somewhere, none, and_one, no_sources, at}
use Rattle.gn_plain.proofs.Samples.{at_units, triangle}
use Rattle.gn_rows.specs.Carried.{Carried, a_geometry, a_field, of_constant}
use Rattle.gn_rows.specs.Library.{library}

abbrev Item : Type 0
Item = Carried ⊥

abbrev Field : Type 0
Field = Expr ⊥

-- the run of a node without settings
abbrev gives_for : Text → List Item → Option Answer → Done Item
gives_for name inputs answer = (library no_sources).row [] (record { name = name; settings = no_settings; groups = [] }) inputs answer

abbrev alone : List Item → Done Item
alone outputs = record { outputs = outputs; warnings = [] }

abbrev warned : List Item → Text → Done Item
warned outputs text = record { outputs = outputs; warnings = record { path = []; text = text } ∷ [] }

-- ---- set position

abbrev moved : Geometry → Field → Field → Field → Done Item
moved g selection to by = gives_for (codes "set_position") (a_geometry g ∷ a_field selection ∷ a_field to ∷ a_field by ∷ []) None

abbrev all : Field
all = constant (truth true)

abbrev still : Field
still = constant (zero_of value_kind.Vector)

abbrev up : Field
up = constant (vector (at_units 0 0 1))

abbrev raised : Shape
raised = record triangle { points = at_units 0 0 1 ∷ at_units 1 0 1 ∷ at_units 0 1 1 ∷ [] }

abbrev first_alone : Field
first_alone = apply (Compare Integers Less) (and_one (input index) (and_one (constant (int (pos 1))) none))

a_mesh_is_raised : moved (of_shape triangle) all (input position) up ≡ alone (a_geometry (of_shape raised) ∷ [])
a_mesh_is_raised = refl

one_vertex_is_raised : moved (of_shape triangle) first_alone (input position) up ≡ alone (a_geometry (of_shape (record triangle { points = at_units 0 0 1 ∷ at_units 1 0 0 ∷ at_units 0 1 0 ∷ [] })) ∷ [])
unfolding row compare_row
one_vertex_is_raised = refl

nothing_is_selected : moved (of_shape triangle) (constant (truth false)) (input position) up ≡ alone (a_geometry (of_shape triangle) ∷ [])
nothing_is_selected = refl

abbrev at_height : ℕ → Transform
at_height z = record { row_x = at_units 1 0 0; row_y = at_units 0 1 0; row_z = at_units 0 0 1; translation = at_units 0 0 z }

-- a point of a cloud at a height, and at the same height an instance of the triangle
abbrev two_more : ℕ → Geometry
two_more z = record empty {
  cloud = record { points = at_units 7 0 z ∷ []; columns = [] };
  instances = with_columns (and_placed (at_height z) (record { shape = triangle; columns = [] }) no_cloud no_instances none_placed) [];
}

points_and_instances_are_raised : moved (two_more 0) all (input position) up ≡ alone (a_geometry (two_more 1) ∷ [])
points_and_instances_are_raised = refl

-- all go to the first vertex, as it was
values_are_taken_before : moved (of_shape triangle) all (somewhere (at_index value_kind.Vector Point) (and_one (input position) (and_one (constant (int (pos 0))) none))) up
    ≡ alone (a_geometry (of_shape (record triangle { points = at_units 0 0 1 ∷ at_units 0 0 1 ∷ at_units 0 0 1 ∷ [] })) ∷ [])
values_are_taken_before = refl

-- positions that were kept before the mesh was raised
abbrev kept : Shape → Geometry
kept s = record empty { mesh = record { shape = s; columns = record { name = anonymous [] 1; place = Point; column = vectors triangle.points } ∷ [] } }

a_mesh_goes_back : moved (kept raised) all (input (column (anonymous [] 1) value_kind.Vector)) still ≡ alone (a_geometry (kept triangle) ∷ [])
unfolding converted
a_mesh_goes_back = refl

abbrev one_point : ℕ → Geometry
one_point x = of_shape (record { points = v3 (pos x) (pos 0) (pos 0) ∷ []; edges = []; faces = [] })

a_sum_at_the_end_of_the_range : moved (one_point (2 ^ 63 - 1)) all (input position) (constant (vector (at_units 1 0 0))) ≡ alone (a_geometry (one_point (2 ^ 63 - 1)) ∷ [])
a_sum_at_the_end_of_the_range = refl

-- ---- switch

abbrev chooses : Settings → Field → Choice
chooses settings condition = (library no_sources).choice (record { name = codes "switch"; settings = settings; groups = [] }) (a_field condition)

abbrev of_truths : Settings
of_truths = and_setting (of_kind Truth) no_settings

abbrev of_geometry : Settings
of_geometry = and_setting (of_kind OfGeometry) no_settings

choices : chooses of_truths (constant (truth false)) ∷ chooses of_truths all ∷ chooses of_truths first_alone ∷ chooses of_geometry first_alone ∷ []
    ≡ one_case 0 ∷ one_case 1 ∷ all_cases ∷ one_case 1 ∷ []
unfolding row compare_row
choices = refl

the_chosen_case : gives_for (codes "switch") (a_field all ∷ a_field up ∷ []) None ≡ alone (a_field up ∷ [])
the_chosen_case = refl

abbrev value_at : List Item → ℕ → List Value
value_at (a_field e ∷ []) i = at no_sources e (context (of_shape triangle) Point) i ∷ []
value_at _ i = []

each_element_chooses : map (value_at (gives_for (codes "switch") (a_field first_alone ∷ a_field still ∷ a_field up ∷ []) None).outputs) (0 ∷ 1 ∷ [])
    ≡ (vector (at_units 0 0 1) ∷ []) ∷ (vector (at_units 0 0 0) ∷ []) ∷ []
unfolding row compare_row chosen gives
each_element_chooses = refl

-- ---- repeat

abbrev whole_number : ℕ → Field
whole_number n = constant (int (pos n))

as_often_as_asked : gives_for (codes "repeat") (a_field (whole_number 3) ∷ []) None ≡ alone (a_field (whole_number 3) ∷ [])
as_often_as_asked = refl

too_often : gives_for (codes "repeat") (a_field (whole_number 70000) ∷ []) None ≡ warned (a_field (whole_number 65536) ∷ []) (codes "iterations")
too_often = refl

below_0 : gives_for (codes "repeat") (a_field (constant (int (negsuc 4))) ∷ []) None ≡ alone (a_field (whole_number 0) ∷ [])
below_0 = refl

-- ---- import

no_file : gives_for (codes "import_obj") [] (Some Absent) ≡ warned (a_geometry empty ∷ []) (codes "absent")
no_file = refl

a_bad_line : gives_for (codes "import_obj") [] (Some (Whole (codes "\nf 1\n"))) ≡ warned (a_geometry empty ∷ []) (codes "obj line 2: O2")
unfolding lines mesh digits
a_bad_line = refl

-- ---- limits

-- an instance of the geometry
abbrev instance_of : Geometry → Geometry
instance_of g = record empty { instances = with_columns (and_placed (at_height 0) g.mesh g.cloud g.instances none_placed) [] }

abbrev eight_deep : Geometry
eight_deep = instance_of (instance_of (instance_of (instance_of (instance_of (instance_of (instance_of (instance_of empty)))))))

as_deep_as_may_be : moved eight_deep (constant (truth false)) (input position) up ≡ alone (a_geometry eight_deep ∷ [])
as_deep_as_may_be = refl

too_deep : moved (instance_of eight_deep) all (input position) up ≡ warned (a_geometry empty ∷ []) (codes "depth")
too_deep = refl

-- ---- a tree

-- a node that raises the tree's input
abbrev raising : Tree
raising = record {
  format = 1;
  groups = [];
  nodes = and_node (node (codes "up") (codes "set_position") no_settings (
      record { name = codes "geometry"; input = link (record { from = codes "input"; socket = codes "geometry" }) } ∷
      record { name = codes "offset"; input = a_constant (vector (at_units 0 0 1)) } ∷ [])) no_nodes;
  output = Some (link (record { from = codes "up"; socket = codes "geometry" }));
}

abbrev given : Given Item
given = record { constant = of_constant; inputs = a_geometry (of_shape triangle) ∷ []; files = λ name. Absent }

the_input_is_raised : value_within (library no_sources) given raising 2 (at_output the_tree 0 0) ≡ Some (a_geometry (of_shape raised))
unfolding row_of_kind table values functions elsewhere attributes geometry_kinds instance_kinds groups
the_input_is_raised = refl
