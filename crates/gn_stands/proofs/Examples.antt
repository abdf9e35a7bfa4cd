-- The graph of a small tree, and what its zone opens, by computation.
use Rattle.std.proofs.Common.{◌≡◌, ℕ, List, [], ◌∷◌, Option, Some, None, pos, codes, refl}
use Rattle.std.specs.Prelude.{map, option_map}
use Rattle.gn_value.specs.declared.value.Value.{Value}
use Rattle.gn_value.specs.declared.value.Value.TheVariants.{Int as int}
use Rattle.gn_kinds.specs.declared.row.SocketKind.TheVariants.{Int, Fixed}
use Rattle.gn_kinds.specs.Row.{Text}
use Rattle.gn_kinds.specs.Table.{row_of_kind, table, values, functions, elsewhere, attributes, geometry_kinds, instance_kinds, groups}
use Rattle.gn_tree.specs.NodeKinds.{Kind}
use Rattle.gn_tree.specs.Trees.{Input, constant, link, Named, Node, node, no_settings, and_setting, and_zone, no_nodes, and_node, Group, Tree, of_group, op, value}
use Rattle.gn_node_set.specs.Paths.{Path}
use Rattle.gn_node_set.specs.Meanings.{Source, a_value as a_given, an_item, an_output, Link, Opened, Absent}
use Rattle.gn_node_set.specs.Meanings as graph
use Rattle.gn_meaning.specs.Sites.{Constant, a_value, the_tree, plain_step, turn_step}
use Rattle.gn_meaning.specs.Reads.{Part, a_repeat, part_at}
use Rattle.gn_meaning.specs.Denotation.{Given}
use Rattle.gn_stands.specs.Order.{by_rank}
use Rattle.gn_stands.specs.Tasks.{task_within}
use Rattle.gn_stands.specs.Zones.{opened_within}

-- ---- ranks: 0 leads to 1 and 3, 1 leads to 2, and 3 and 2 lead to nothing

ranks : by_rank ((1 ∷ 3 ∷ []) ∷ (2 ∷ []) ∷ [] ∷ [] ∷ []) ≡ 2 ∷ 3 ∷ 1 ∷ 0 ∷ []
ranks = refl

-- ---- a tree

abbrev from : Text → Text → Input
from id name = link (record { from = id; socket = name })

abbrev under : Text → Input → Named
under name x = record { name = name; input = x }

abbrev sum_node : Text → Input → Input → Node
sum_node id x y = node id (codes "integer_math") (and_setting (op (codes "add")) no_settings) (under (codes "a") x ∷ under (codes "b") y ∷ [])

-- what comes in as a fixed number is added to 1
abbrev one_more : Group
one_more = record {
  name = codes "one_more";
  inputs = record { name = codes "p"; kind = Fixed } ∷ [];
  outputs = record { name = codes "q"; kind = Int } ∷ [];
  nodes = and_node (sum_node (codes "u") (from (codes "input") (codes "p")) (constant (int (pos 1)))) no_nodes;
  output = under (codes "q") (from (codes "u") (codes "value")) ∷ [];
}

-- nodes that are written out of order: a sum of the group's output, the group, the number that goes into it, and a zone that adds the numbers of its turns to the sum
abbrev pub small : Tree
small = record {
  format = 1;
  groups = one_more ∷ [];
  nodes =
      and_node (sum_node (codes "s") (from (codes "g") (codes "q")) (constant (int (pos 5))))
      (and_node (node (codes "g") (codes "group") (and_setting (of_group (codes "one_more")) no_settings) (under (codes "p") (from (codes "n") (codes "value")) ∷ []))
      (and_node (node (codes "n") (codes "integer") (and_setting (value (int (pos 3))) no_settings) [])
      (and_node
      (node (codes "z") (codes "repeat")
      (and_zone (record { name = codes "a"; kind = Int } ∷ [])
      (and_node (sum_node (codes "t") (from (codes "input") (codes "a")) (from (codes "input") (codes "iteration"))) no_nodes)
      (under (codes "a") (from (codes "t") (codes "value")) ∷ [])
      no_settings)
      (under (codes "iterations") (constant (int (pos 2))) ∷ under (codes "a") (from (codes "s") (codes "value")) ∷ []))
      no_nodes)));
  output = None;
}

abbrev value_of : Constant → Value
value_of (a_value v) = v
value_of _ = int (pos 0)

abbrev pub nothing_given : Given Value
nothing_given = record { constant = value_of; inputs = []; files = λ name. Absent }

abbrev links : graph.Node Kind Value → List (Link Value)
links x = x.links

abbrev path : graph.Node Kind Value → Path
path x = x.path

abbrev carried : Source Value → List ℕ → Link Value
carried x kinds = record { from = x; through = kinds }

abbrev number : ℕ → Source Value
number n = a_given (int (pos n))

-- ---- its graph: by rank, with the group's node in the group's place

paths_by_rank : option_map (λ task. map path task.nodes) (task_within nothing_given small 9)
    ≡ Some ((plain_step 2 ∷ []) ∷ (plain_step 1 ∷ plain_step 0 ∷ []) ∷ (plain_step 0 ∷ []) ∷ (plain_step 3 ∷ []) ∷ [])
unfolding row_of_kind table values functions elsewhere attributes geometry_kinds instance_kinds groups
paths_by_rank = refl

-- the number becomes a fixed one at the group's input, and an integer again in the group
conversions_on_the_way : option_map (λ task. map links task.nodes) (task_within nothing_given small 9)
    ≡ Some (
    []
    ∷ (carried (an_output (plain_step 2 ∷ []) 0) (2 ∷ 1 ∷ []) ∷ carried (number 1) [] ∷ [])
    ∷ (carried (an_output (plain_step 1 ∷ plain_step 0 ∷ []) 0) [] ∷ carried (number 5) [] ∷ [])
    ∷ (carried (number 2) [] ∷ carried (an_output (plain_step 0 ∷ []) 0) [] ∷ [])
    ∷ []
    )
unfolding row_of_kind table values functions elsewhere attributes geometry_kinds instance_kinds groups
conversions_on_the_way = refl

-- ---- what its zone opens for two turns

abbrev opened_by : Option Part → Option (Opened Kind Value)
opened_by (Some (a_repeat run b)) = opened_within run.kind run.path nothing_given 9 2
opened_by _ = None

abbrev in_turn : ℕ → Path
in_turn k = turn_step 3 k ∷ plain_step 0 ∷ []

turn_by_turn : option_map (λ opened. map path opened.nodes) (opened_by (part_at small the_tree 3)) ≡ Some (in_turn 0 ∷ in_turn 1 ∷ [])
unfolding row_of_kind table values functions elsewhere attributes geometry_kinds instance_kinds groups
turn_by_turn = refl

-- the first turn reads the zone's item, the second one what the first gave
items_on_the_way : option_map (λ opened. map links opened.nodes) (opened_by (part_at small the_tree 3))
    ≡ Some ((carried (an_item 0) [] ∷ carried (number 0) [] ∷ []) ∷ (carried (an_output (in_turn 0) 0) [] ∷ carried (number 1) [] ∷ []) ∷ [])
unfolding row_of_kind table values functions elsewhere attributes geometry_kinds instance_kinds groups
items_on_the_way = refl

last_turn_out : option_map (λ opened. opened.outputs) (opened_by (part_at small the_tree 3)) ≡ Some (carried (an_output (in_turn 1) 0) [] ∷ [])
unfolding row_of_kind table values functions elsewhere attributes geometry_kinds instance_kinds groups
last_turn_out = refl
