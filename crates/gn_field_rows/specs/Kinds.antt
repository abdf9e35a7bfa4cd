-- The kinds of values that a node's fields have.
use Rattle.std.specs.Prelude.{◌≡◌, List, [], ◌∷◌}
use Rattle.gn_value.specs.Operations.{compare_takes, mix_takes, mix_gives}
use Rattle.gn_value.specs.declared.value.ValueKind.{ValueKind}
use Rattle.gn_value.specs.declared.value.ValueKind.TheVariants.{Truth, Int, Fixed, Vector}
use Rattle.gn_plain.specs.Fields.{Expr, Sources}
use Rattle.gn_node_kind.specs.Kinds.{NodeKind, float, integer, boolean, vector, position, index, id, normal, named_attribute, edge_vertices, vertex_neighbors, math, integer_math, vector_math, boolean_math, compare, clamp, map_range, mix, float_to_integer, combine_xyz, separate_xyz, random_value, accumulate_field, evaluate_at_index, evaluate_on_domain}
use Rattle.gn_field.specs.Kinds.{kinds_in, HaveKinds}
use Rattle.gn_field.specs.Steps.{exprs_of}

-- of the fields at the inputs; a kind of node that gives other things than fields is left out
abbrev pub input_kinds : NodeKind → List ValueKind
input_kinds (math op) = Fixed ∷ Fixed ∷ []
input_kinds (integer_math op) = Int ∷ Int ∷ []
input_kinds (vector_math op) = Vector ∷ Vector ∷ Fixed ∷ []
input_kinds (boolean_math op) = Truth ∷ Truth ∷ []
input_kinds (compare kind op) = compare_takes kind
input_kinds clamp = Fixed ∷ Fixed ∷ Fixed ∷ []
input_kinds (map_range inside) = Fixed ∷ Fixed ∷ Fixed ∷ Fixed ∷ Fixed ∷ []
input_kinds (mix kind) = mix_takes kind
input_kinds (float_to_integer op) = Fixed ∷ []
input_kinds combine_xyz = Fixed ∷ Fixed ∷ Fixed ∷ []
input_kinds separate_xyz = Vector ∷ []
input_kinds (random_value kind) = kind ∷ kind ∷ Fixed ∷ Int ∷ Int ∷ []
input_kinds (accumulate_field kind place) = kind ∷ Int ∷ []
input_kinds (evaluate_at_index kind place) = kind ∷ Int ∷ []
input_kinds (evaluate_on_domain kind place) = kind ∷ []
input_kinds kind = []

-- of the fields at the outputs
abbrev pub output_kinds : NodeKind → List ValueKind
output_kinds (float x) = Fixed ∷ []
output_kinds (integer n) = Int ∷ []
output_kinds (boolean b) = Truth ∷ []
output_kinds (vector v) = Vector ∷ []
output_kinds position = Vector ∷ []
output_kinds index = Int ∷ []
output_kinds id = Int ∷ []
output_kinds normal = Vector ∷ []
output_kinds (named_attribute name kind) = kind ∷ Truth ∷ []
output_kinds edge_vertices = Int ∷ Int ∷ Vector ∷ Vector ∷ []
output_kinds vertex_neighbors = Int ∷ Int ∷ []
output_kinds (math op) = Fixed ∷ []
output_kinds (integer_math op) = Int ∷ []
output_kinds (vector_math op) = Vector ∷ Fixed ∷ []
output_kinds (boolean_math op) = Truth ∷ []
output_kinds (compare kind op) = Truth ∷ []
output_kinds clamp = Fixed ∷ []
output_kinds (map_range inside) = Fixed ∷ []
output_kinds (mix kind) = mix_gives kind ∷ []
output_kinds (float_to_integer op) = Int ∷ []
output_kinds combine_xyz = Vector ∷ []
output_kinds separate_xyz = Fixed ∷ Fixed ∷ Fixed ∷ []
output_kinds (random_value kind) = kind ∷ []
output_kinds (accumulate_field kind place) = kind ∷ kind ∷ kind ∷ []
output_kinds (evaluate_at_index kind place) = kind ∷ []
output_kinds (evaluate_on_domain kind place) = kind ∷ []
output_kinds kind = []

-- fields of these kinds, whose own arguments have the kinds that are taken
abbrev pub AreOfKinds : {S : Type 0} → Sources S → (S → ValueKind) → List ValueKind → List (Expr S) → Type 0
AreOfKinds sources taken kinds es = (kinds_in sources (exprs_of es) ≡ kinds) × HaveKinds sources taken (exprs_of es)
