-- The rules F2 to F7, and which of them is named at which pointer.
use Rattle.std.specs.Prelude.{ℕ, ◌<◌, Bool, true, false, not, ◌&&◌, ◌||◌, nat_lt, List, [], ◌∷◌, ◌++◌, length, codes, Some, is_none, bytes_eq, IsTrue, if◌then◌else◌}
use Rattle.std.specs.Option.{option_map_or}
use Rattle.std.specs.List.{list_any}
use Rattle.gn_value.specs.declared.value.Value.{Value}
use Rattle.gn_value.specs.declared.value.Value.TheVariants as v
use Rattle.gn_kinds.specs.declared.row.SocketKind.{SocketKind}
use Rattle.gn_kinds.specs.declared.row.SocketKind.TheVariants.{Truth, Int, Fixed, Vector, Geometry}
use Rattle.gn_kinds.specs.Row.{Text}
use Rattle.gn_names.specs.First.{first_of}
use Rattle.gn_pointers.specs.Pointers.{Pointer, IsBadAt, IsFirst}
use Rattle.gn_tree.specs.Trees.{Link, Input, constant, link, links, Named, Node, node, Nodes, no_nodes, and_node, Tree}
use Rattle.gn_tree.specs.Nodes.{id_in}
use Rattle.gn_cycle.specs.Graph.{Graph, Leads}
use Rattle.gn_rules.specs.declared.rule.Rule.{Rule}
use Rattle.gn_rules.specs.declared.rule.Rule.TheVariants as rule
use Rattle.gn_rules.specs.Number.{number_of}
use Rattle.gn_rules.specs.declared.shape.Shape.{Shape}
use Rattle.gn_rules.specs.Sockets.{is_zone, group_names, ids}
use Rattle.gn_rules.specs.Scopes.{Scope, source, is_above}
use Rattle.gn_rules.specs.Things.{Thing, the_tree, a_group, a_socket, all_nodes, a_node, a_group_name, an_input, a_link, parts}
use Rattle.gn_rules.specs.Measures.{height, heights, counts, known_above}

-- ---- F2: a name stands twice in its list, or is one that links use

abbrev pub is_reserved : Text → Bool
is_reserved name = list_any (bytes_eq name) (codes "input" ∷ codes "output" ∷ codes "iteration" ∷ codes "iterations" ∷ [])

-- the name with that number stands in the list earlier
abbrev pub is_earlier : List Text → ℕ → Text → Bool
is_earlier names i name = option_map_or (λ j. nat_lt j i) (first_of names name) false

abbrev pub is_taken : List Text → ℕ → Text → Bool
is_taken names i name = is_reserved name || is_earlier names i name

abbrev pub breaks_names : Thing → Bool
breaks_names (a_group gs i g) = is_taken (group_names gs) i g.name
breaks_names (a_socket names i name) = is_taken names i name
breaks_names (a_node s i n) = is_taken (ids s.nodes) i (id_in n)
breaks_names _ = false

-- ---- F3: a link leads from nothing, a group is not one above, or a key names no socket

abbrev pub is_loose : Scope → Input → Bool
is_loose s (constant x) = false
is_loose s (link l) = is_none (source s l)
is_loose s (links ls) = false

abbrev pub breaks_links : Thing → Bool
breaks_links (an_input s shape x) = is_none shape || is_loose s x
breaks_links (a_link s l) = is_none (source s l)
breaks_links (a_group_name s name) = not (is_above s name)
breaks_links _ = false

-- ---- F4: geometry meets another kind, a constant is of another kind, or an array is for no list

abbrev pub is_geometry : SocketKind → Bool
is_geometry Geometry = true
is_geometry _ = false

-- one of them is geometry, and the other is not
abbrev pub clash : SocketKind → SocketKind → Bool
clash k l = if is_geometry k then not (is_geometry l) else is_geometry l

abbrev pub is_of : SocketKind → Value → Bool
is_of Truth (v.Truth x) = true
is_of Int (v.Int x) = true
is_of Fixed (v.Fixed x) = true
is_of Vector (v.Vector x) = true
is_of _ _ = false

abbrev pub link_clashes : Scope → SocketKind → Link → Bool
link_clashes s kind l = option_map_or (λ shape. clash kind shape.kind) (source s l) false

abbrev pub is_unfit : Scope → Shape → Input → Bool
is_unfit s shape (constant x) = not (is_of shape.kind x)
is_unfit s shape (link l) = link_clashes s shape.kind l
is_unfit s shape (links ls) = not shape.many || list_any (link_clashes s shape.kind) ls

abbrev pub breaks_kinds : Thing → Bool
breaks_kinds (an_input s shape x) = option_map_or (λ there. is_unfit s there x) shape false
breaks_kinds _ = false

-- ---- F5: a node leads to itself along links in its list

abbrev pub links_of_input : Input → List Link
links_of_input (constant v) = []
links_of_input (link l) = l ∷ []
links_of_input (links ls) = ls

abbrev pub links_of : List Named → List Link
links_of [] = []
links_of (x ∷ xs) = links_of_input x.input ++ links_of xs

-- the numbers of the nodes that the links come from
abbrev pub numbers_of : List Text → List Link → List ℕ
numbers_of names [] = []
numbers_of names (l ∷ ls) = option_map_or (λ i. i ∷ numbers_of names ls) (first_of names l.from) (numbers_of names ls)

abbrev pub graph_from : List Text → Nodes → Graph
graph_from names no_nodes = []
graph_from names (and_node (node _ _ _ inputs) ns) = numbers_of names (links_of inputs) ∷ graph_from names ns

-- an edge for each link, from the node that has it as an input
abbrev pub graph_of : Nodes → Graph
graph_of ns = graph_from (ids ns) ns

abbrev pub BreaksOrder : Thing → Type 0
BreaksOrder (a_node s i n) = Leads (graph_of s.nodes) i i
BreaksOrder _ = ⊥

-- ---- F6: a zone is higher than 2

abbrev pub is_too_high : Scope → Node → Bool
is_too_high s (node id kind settings inputs) = is_zone settings && nat_lt 2 (height (known_above heights s.groups s.above) (node id kind settings inputs))

abbrev pub breaks_height : Thing → Bool
breaks_height (a_node s i n) = is_too_high s n
breaks_height _ = false

-- ---- F7: the tree has more than 16,384 nodes

abbrev pub node_count : Tree → ℕ
node_count t = counts (known_above counts t.groups (length t.groups)) t.nodes

abbrev pub breaks_count : Thing → Bool
breaks_count (all_nodes t) = nat_lt 16384 (node_count t)
breaks_count _ = false

-- ---- which rule is named

-- the thing breaks the rule by itself
abbrev pub Breaks : Rule → Thing → Type 0
Breaks rule.Names x = IsTrue (breaks_names x)
Breaks rule.Links x = IsTrue (breaks_links x)
Breaks rule.Kinds x = IsTrue (breaks_kinds x)
Breaks rule.Order x = BreaksOrder x
Breaks rule.Height x = IsTrue (breaks_height x)
Breaks rule.Count x = IsTrue (breaks_count x)

abbrev pub IsBrokenAt : Tree → Rule → Pointer → Type 0
IsBrokenAt t r = IsBadAt parts (Breaks r) (the_tree t)

abbrev pub Keeps : Tree → Rule → Type 0
Keeps t r = (pointer : Pointer) → ¬ IsBrokenAt t r pointer

-- the least rule that is broken, and the first pointer where it is
pub record IsNamed (t : Tree) (r : Rule) (pointer : Pointer) : Type 0 where
  pub least : (q : Rule) → number_of q < number_of r → Keeps t q
  pub first : IsFirst (IsBrokenAt t r) (Some pointer)

-- the tree keeps the rules F2 to F7
abbrev pub KeepsRules : Tree → Type 0
KeepsRules t = (r : Rule) → Keeps t r
