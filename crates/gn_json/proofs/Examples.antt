-- Trees of texts, by computation.
use Rattle.std.proofs.Common.{◌≡◌, ℕ, false, List, [], Option, Some, None, codes, refl}
use Rattle.std.specs.Prelude.{option_and_then}
use Rattle.serde_json.specs.Read.{read}
use Rattle.serde_json.proofs.OnLiterals.{serde_json_on_literals}
use Rattle.gn_value.specs.declared.value.Value.TheVariants.{Truth as truth}
use Rattle.gn_kinds.specs.Table.{row_of_kind, table, values, functions, elsewhere, attributes, geometry_kinds, instance_kinds, groups}
use Rattle.gn_tree.specs.Trees.{value, node, no_settings, and_setting, no_nodes, and_node, Tree}
use Rattle.gn_json.specs.Exact.{tree_from}

-- the tree that a text of ASCII is
abbrev tree_of_text : List ℕ → Option Tree
tree_of_text text = option_and_then tree_from (read text)

abbrev one_index : Tree
one_index = record { format = 1; groups = []; nodes = and_node (node (codes "a") (codes "index") no_settings []) no_nodes; output = None }

an_empty_tree : tree_of_text (codes "{\"format\":1,\"nodes\":[]}") ≡ Some (record { format = 1; groups = []; nodes = no_nodes; output = None })
unfolding serde_json_on_literals
an_empty_tree = refl

a_node_without_set : tree_of_text (codes "{\"format\":1,\"nodes\":[{\"id\":\"a\",\"kind\":\"index\"}]}") ≡ Some one_index
unfolding serde_json_on_literals row_of_kind table values functions elsewhere attributes geometry_kinds instance_kinds groups
a_node_without_set = refl

-- nothing is made up: no id, no format, no value of a setting
a_node_without_id : tree_of_text (codes "{\"format\":1,\"nodes\":[{\"kind\":\"index\"}]}") ≡ None
unfolding serde_json_on_literals row_of_kind table values functions elsewhere attributes geometry_kinds instance_kinds groups
a_node_without_id = refl

a_tree_without_format : tree_of_text (codes "{\"nodes\":[]}") ≡ None
unfolding serde_json_on_literals
a_tree_without_format = refl

a_float_without_value : tree_of_text (codes "{\"format\":1,\"nodes\":[{\"id\":\"a\",\"kind\":\"float\",\"set\":{}}]}") ≡ None
unfolding serde_json_on_literals row_of_kind table values functions elsewhere attributes geometry_kinds instance_kinds groups
a_float_without_value = refl

a_float_without_set : tree_of_text (codes "{\"format\":1,\"nodes\":[{\"id\":\"a\",\"kind\":\"float\"}]}") ≡ None
unfolding serde_json_on_literals row_of_kind table values functions elsewhere attributes geometry_kinds instance_kinds groups
a_float_without_set = refl

a_truth_that_is_a_number : tree_of_text (codes "{\"format\":1,\"nodes\":[{\"id\":\"a\",\"kind\":\"boolean\",\"set\":{\"value\":0}}]}") ≡ None
unfolding serde_json_on_literals row_of_kind table values functions elsewhere attributes geometry_kinds instance_kinds groups
a_truth_that_is_a_number = refl

a_truth : tree_of_text (codes "{\"format\":1,\"nodes\":[{\"id\":\"a\",\"kind\":\"boolean\",\"set\":{\"value\":false}}]}")
    ≡ Some (record { format = 1; groups = []; nodes = and_node (node (codes "a") (codes "boolean") (and_setting (value (truth false)) no_settings) []) no_nodes; output = None })
unfolding serde_json_on_literals row_of_kind table values functions elsewhere attributes geometry_kinds instance_kinds groups
a_truth = refl
