-- Lists of nodes, with what the links in them may name.
use Rattle.std.specs.Prelude.{ℕ, List, [], ◌∷◌, map, length, codes, Bool, false, Option, option_and_then, bytes_eq, nat_lt, if◌then◌else◌}
use Rattle.std.specs.Option.{option_map_or}
use Rattle.gn_kinds.specs.declared.row.SocketKind.TheVariants.{Int, Geometry}
use Rattle.gn_kinds.specs.Row.{Text}
use Rattle.gn_names.specs.First.{first_of}
use Rattle.gn_tree.specs.Trees.{Socket, Link, Nodes, Group, Tree}
use Rattle.gn_rules.specs.declared.shape.Shape.{Shape}
use Rattle.gn_rules.specs.Sockets.{Declared, one, one_of, declared, group_names, node_named, outputs_of}

pub record Scope : Type 0 where
  pub nodes : Nodes
  -- what links from `input` may name
  pub entries : List Declared
  -- the groups of the tree, and how many of them stand above
  pub groups : List Group
  pub above : ℕ

abbrev pub tree_entries : List Declared
tree_entries = one (codes "geometry") Geometry ∷ []

abbrev pub zone_entries : List Socket → List Declared
zone_entries items = one (codes "iteration") Int ∷ map one_of items

abbrev pub tree_scope : Tree → Scope
tree_scope t = record { nodes = t.nodes; entries = tree_entries; groups = t.groups; above = length t.groups }

abbrev pub group_scope : List Group → ℕ → Group → Scope
group_scope gs i g = record { nodes = g.nodes; entries = map one_of g.inputs; groups = gs; above = i }

abbrev pub zone_scope : Scope → List Socket → Nodes → Scope
zone_scope s items nodes = record { nodes = nodes; entries = zone_entries items; groups = s.groups; above = s.above }

-- what the output carries that a link leads from
abbrev pub source : Scope → Link → Option Shape
source s l = if bytes_eq l.from (codes "input") then declared s.entries l.socket else option_and_then (λ n. declared (outputs_of s.groups n) l.socket) (node_named s.nodes l.from)

-- a group with the name stands above
abbrev pub is_above : Scope → Text → Bool
is_above s name = option_map_or (λ i. nat_lt i s.above) (first_of (group_names s.groups) name) false
