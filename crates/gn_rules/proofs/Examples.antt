-- Small trees that break each rule, and ones that keep it, by computation.
use Rattle.std.proofs.Common.{◌≡◌, true, List, [], ◌∷◌, ◌++◌, Some, None, codes, refl}
use Rattle.gn_value.specs.declared.value.Value.TheVariants.{Truth as truth}
use Rattle.gn_kinds.specs.Row.{Text}
use Rattle.gn_kinds.specs.Table.{table, values, functions, elsewhere, attributes, geometry_kinds, instance_kinds, groups, row_of_kind}
use Rattle.gn_pointers.specs.Pointers.{index, key}
use Rattle.gn_tree.specs.Trees.{Input, constant, link, Node, node, no_settings, and_setting, and_zone, Nodes, no_nodes, and_node, Group, Tree, of_group}
use Rattle.gn_cycle.specs.Ways.{is_on_cycle}
use Rattle.gn_rules.specs.declared.rule.Rule.TheVariants.{Names, Links, Kinds, Order, Height, Count}
use Rattle.gn_rules.specs.Rules.{node_count}
use Rattle.gn_rules.specs.Walk.{named}

abbrev tree : List Group → Nodes → Tree
tree gs ns = record { format = 1; groups = gs; nodes = ns; output = None }

abbrev from : Text → Input
from id = link (record { from = id; socket = codes "geometry" })

-- a node that turns the faces of what stands at its input
abbrev flip : Text → Input → Node
flip id x = node id (codes "flip_faces") no_settings (record { name = codes "geometry"; input = x } ∷ [])

abbrev two : Node → Node → Nodes
two a b = and_node a (and_node b no_nodes)

a_tree_that_keeps_all : named (tree [] (two (flip (codes "a") (from (codes "b"))) (flip (codes "b") (from (codes "input"))))) ≡ None
unfolding row_of_kind table values functions elsewhere attributes geometry_kinds instance_kinds groups is_on_cycle
a_tree_that_keeps_all = refl

an_id_twice : named (tree [] (two (flip (codes "a") (from (codes "input"))) (flip (codes "a") (from (codes "input"))))) ≡ Some (Names, key (codes "nodes") ∷ index 1 ∷ [])
unfolding row_of_kind table values functions elsewhere attributes geometry_kinds instance_kinds groups is_on_cycle
an_id_twice = refl

a_link_from_nothing : named (tree [] (and_node (flip (codes "a") (from (codes "b"))) no_nodes)) ≡ Some (Links, key (codes "nodes") ∷ index 0 ∷ key (codes "in") ∷ key (codes "geometry") ∷ [])
unfolding row_of_kind table values functions elsewhere attributes geometry_kinds instance_kinds groups is_on_cycle
a_link_from_nothing = refl

a_truth_for_geometry : named (tree [] (and_node (flip (codes "a") (constant (truth true))) no_nodes)) ≡ Some (Kinds, key (codes "nodes") ∷ index 0 ∷ key (codes "in") ∷ key (codes "geometry") ∷ [])
unfolding row_of_kind table values functions elsewhere attributes geometry_kinds instance_kinds groups is_on_cycle
a_truth_for_geometry = refl

a_cycle_of_two : named (tree [] (two (flip (codes "a") (from (codes "b"))) (flip (codes "b") (from (codes "a"))))) ≡ Some (Order, key (codes "nodes") ∷ index 0 ∷ [])
unfolding row_of_kind table values functions elsewhere attributes geometry_kinds instance_kinds groups is_on_cycle
a_cycle_of_two = refl

-- the first node only leads into the cycle
a_way_into_a_cycle : named (tree [] (two (flip (codes "a") (from (codes "b"))) (flip (codes "b") (from (codes "b"))))) ≡ Some (Order, key (codes "nodes") ∷ index 1 ∷ [])
unfolding row_of_kind table values functions elsewhere attributes geometry_kinds instance_kinds groups is_on_cycle
a_way_into_a_cycle = refl

abbrev zone : Nodes → Nodes
zone body = and_node (node (codes "z") (codes "repeat") (and_zone [] body [] no_settings) []) no_nodes

two_zones : named (tree [] (zone (zone no_nodes))) ≡ None
unfolding row_of_kind table values functions elsewhere attributes geometry_kinds instance_kinds groups is_on_cycle
two_zones = refl

three_zones : named (tree [] (zone (zone (zone no_nodes)))) ≡ Some (Height, key (codes "nodes") ∷ index 0 ∷ [])
unfolding row_of_kind table values functions elsewhere attributes geometry_kinds instance_kinds groups is_on_cycle
three_zones = refl

abbrev group : Text → Nodes → Group
group name nodes = record { name = name; inputs = []; outputs = []; nodes = nodes; output = [] }

abbrev use_of : Text → Text → Node
use_of id name = node id (codes "group") (and_setting (of_group name) no_settings) []

-- a group of two nodes, and further ones of two uses of the one before
doubling : List Text → Text → List Group
doubling [] last = group last (two (node (codes "a") (codes "index") no_settings []) (node (codes "b") (codes "index") no_settings [])) ∷ []
doubling (name ∷ names) last = doubling names name ++ group last (two (use_of (codes "a") name) (use_of (codes "b") name)) ∷ []

abbrev names : List Text
names = codes "l" ∷ codes "k" ∷ codes "j" ∷ codes "i" ∷ codes "h" ∷ codes "g" ∷ codes "f" ∷ codes "e" ∷ codes "d" ∷ codes "c" ∷ codes "b" ∷ codes "a" ∷ []

as_many_as_there_may_be : node_count (tree (doubling names (codes "m")) (two (use_of (codes "x") (codes "m")) (node (codes "y") (codes "index") no_settings []))) ≡ 16384
unfolding doubling
as_many_as_there_may_be = refl

one_too_many : named (tree (doubling names (codes "m")) (and_node (use_of (codes "w") (codes "m")) (two (node (codes "x") (codes "index") no_settings []) (node (codes "y") (codes "index") no_settings [])))) ≡ Some (Count, key (codes "nodes") ∷ [])
unfolding doubling row_of_kind table values functions elsewhere attributes geometry_kinds instance_kinds groups is_on_cycle
one_too_many = refl
