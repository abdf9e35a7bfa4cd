-- The first pointer where one of the rules that are looked for is broken, as it is found by going through the
-- tree once.
use Rattle.std.specs.Prelude.{ℕ, suc, Bool, false, not, ◌&&◌, ◌||◌, nat_lt, is_none, List, [], ◌∷◌, map, codes, Option, Some, None, if◌then◌else◌}
use Rattle.std.specs.Option.{option_map_or}
use Rattle.gn_kinds.specs.declared.row.SocketKind.TheVariants.{Geometry}
use Rattle.gn_kinds.specs.Row.{Text}
use Rattle.gn_pointers.specs.Pointers.{index, key, Pointer, joined}
use Rattle.gn_tree.specs.Trees.{Socket, Link, Input, constant, link, links, Named, Node, node, Settings, no_settings, and_setting, and_zone, Nodes, no_nodes, and_node, Group, Tree, of_group}
use Rattle.gn_tree.specs.Nodes.{id_in}
use Rattle.gn_cycle.specs.Ways.{is_on_cycle}
use Rattle.gn_rules.specs.declared.rule.Rule.{Rule}
use Rattle.gn_rules.specs.declared.rule.Rule.TheVariants as rule
use Rattle.gn_rules.specs.declared.sought.Sought.{Sought}
use Rattle.gn_rules.specs.declared.sought.Sought.TheVariants.{Any, Only}
use Rattle.gn_rules.specs.Sought.{has}
use Rattle.gn_rules.specs.declared.shape.Shape.{Shape}
use Rattle.gn_rules.specs.Sockets.{Declared, single, one_of, declared, group_names, ids, inputs_of}
use Rattle.gn_rules.specs.Scopes.{Scope, source, is_above, tree_scope, group_scope, zone_scope}
use Rattle.gn_rules.specs.Things.{Thing, the_tree, the_groups, a_group, the_sockets, a_socket, all_nodes, the_nodes, a_node, the_settings, a_group_name, the_inputs, an_input, a_link, socket_names}
use Rattle.gn_rules.specs.Rules.{is_taken, is_loose, is_unfit, graph_of, is_too_high, node_count, IsNamed, KeepsRules}

-- ---- does a thing break one of the rules that are looked for by itself?

abbrev pub breaks_name : Sought → List Text → ℕ → Text → Bool
breaks_name w names i name = has w rule.Names && is_taken names i name

abbrev pub breaks_node : Sought → Scope → ℕ → Node → Bool
breaks_node w s i n = (has w rule.Names && is_taken (ids s.nodes) i (id_in n)) || ((has w rule.Height && is_too_high s n) || (has w rule.Order && is_on_cycle (graph_of s.nodes) i))

abbrev pub breaks_group_name : Sought → Scope → Text → Bool
breaks_group_name w s name = has w rule.Links && not (is_above s name)

abbrev pub breaks_input : Sought → Scope → Option Shape → Input → Bool
breaks_input w s shape x = (has w rule.Links && (is_none shape || is_loose s x)) || (has w rule.Kinds && option_map_or (λ there. is_unfit s there x) shape false)

abbrev pub breaks_link : Sought → Scope → Link → Bool
breaks_link w s l = has w rule.Links && is_none (source s l)

abbrev pub breaks_all : Sought → Tree → Bool
breaks_all w t = has w rule.Count && nat_lt 16384 (node_count t)

abbrev pub breaks : Sought → Thing → Bool
breaks w (a_group gs i g) = breaks_name w (group_names gs) i g.name
breaks w (a_socket names i name) = breaks_name w names i name
breaks w (a_node s i n) = breaks_node w s i n
breaks w (a_group_name s name) = breaks_group_name w s name
breaks w (an_input s shape x) = breaks_input w s shape x
breaks w (a_link s l) = breaks_link w s l
breaks w (all_nodes t) = breaks_all w t
breaks w _ = false

-- ---- the way through the tree

module _ (bad : Thing → Bool) where
  -- this thing, or else what is found in it
  abbrev pub this_or : Thing → Option Pointer → Option Pointer
  this_or x found = if bad x then Some [] else found

  abbrev pub first_link : Scope → ℕ → List Link → Option Pointer
  first_link s i [] = None
  first_link s i (l ∷ ls) = joined (index i) (this_or (a_link s l) None) (first_link s (suc i) ls)

  abbrev pub in_links : Scope → Input → Option Pointer
  in_links s (constant v) = None
  in_links s (link l) = None
  in_links s (links ls) = first_link s 0 ls

  abbrev pub in_input : Scope → Option Shape → Input → Option Pointer
  in_input s shape x = this_or (an_input s shape x) (in_links s x)

  abbrev pub first_input : Scope → List Declared → List Named → Option Pointer
  first_input s ds [] = None
  first_input s ds (x ∷ xs) = joined (key x.name) (in_input s (declared ds x.name) x.input) (first_input s ds xs)

  abbrev pub in_inputs : Scope → List Declared → List Named → Option Pointer
  in_inputs s ds xs = this_or (the_inputs s ds xs) (first_input s ds xs)

  abbrev pub in_given_out : Scope → List Socket → List Named → Option Pointer
  in_given_out s sockets output = in_inputs s (map one_of sockets) output

  abbrev pub first_socket : List Text → ℕ → List Socket → Option Pointer
  first_socket names i [] = None
  first_socket names i (x ∷ xs) = joined (index i) (this_or (a_socket names i x.name) None) (first_socket names (suc i) xs)

  abbrev pub in_sockets : List Socket → Option Pointer
  in_sockets xs = this_or (the_sockets xs) (first_socket (socket_names xs) 0 xs)

  abbrev pub in_group_name : Scope → Text → Option Pointer
  in_group_name s name = joined (key (codes "group")) (this_or (a_group_name s name) None) None

  abbrev mutual
    pub in_node : Scope → ℕ → Node → Option Pointer
    in_node s i (node id kind settings inputs) =
        this_or (a_node s i (node id kind settings inputs))
        (joined (key (codes "in")) (in_inputs s (inputs_of s.groups (node id kind settings inputs)) inputs)
        (joined (key (codes "set")) (this_or (the_settings s settings) (in_settings s settings)) None))

    pub in_settings : Scope → Settings → Option Pointer
    in_settings s no_settings = None
    in_settings s (and_setting (of_group name) rest) = in_group_name s name
    in_settings s (and_setting x rest) = in_settings s rest
    in_settings s (and_zone items nodes output rest) =
        joined (key (codes "items")) (in_sockets items)
        (joined (key (codes "nodes")) (this_or (the_nodes (zone_scope s items nodes)) (first_node (zone_scope s items nodes) 0 nodes))
        (joined (key (codes "output")) (in_given_out (zone_scope s items nodes) items output) None))

    pub first_node : Scope → ℕ → Nodes → Option Pointer
    first_node s i no_nodes = None
    first_node s i (and_node n ns) = joined (index i) (in_node s i n) (first_node s (suc i) ns)

  abbrev pub in_nodes : Scope → Option Pointer
  in_nodes s = this_or (the_nodes s) (first_node s 0 s.nodes)

  abbrev pub in_group : List Group → ℕ → Group → Option Pointer
  in_group gs i g =
      this_or (a_group gs i g)
      (joined (key (codes "inputs")) (in_sockets g.inputs)
      (joined (key (codes "nodes")) (in_nodes (group_scope gs i g))
      (joined (key (codes "output")) (in_given_out (group_scope gs i g) g.outputs g.output)
      (joined (key (codes "outputs")) (in_sockets g.outputs) None))))

  abbrev pub first_group : List Group → ℕ → List Group → Option Pointer
  first_group all i [] = None
  first_group all i (g ∷ gs) = joined (index i) (in_group all i g) (first_group all (suc i) gs)

  abbrev pub in_groups : List Group → Option Pointer
  in_groups gs = this_or (the_groups gs) (first_group gs 0 gs)

  abbrev pub in_output : Scope → Option Input → Option Pointer
  in_output s None = None
  in_output s (Some x) = joined (key (codes "output")) (in_input s (Some (single Geometry)) x) None

  abbrev pub in_tree : Tree → Option Pointer
  in_tree t =
      this_or (the_tree t)
      (joined (key (codes "groups")) (in_groups t.groups)
      (joined (key (codes "nodes")) (this_or (all_nodes t) (first_node (tree_scope t) 0 t.nodes))
      (in_output (tree_scope t) t.output)))

abbrev pub first_pointer : Tree → Sought → Option Pointer
first_pointer t w = in_tree (breaks w) t

-- a rule with its pointer, or else what comes later
abbrev pub named_or : Rule → Option Pointer → Option (Rule × Pointer) → Option (Rule × Pointer)
named_or r None later = later
named_or r (Some pointer) later = Some (r, pointer)

abbrev pub named_from : Tree → List Rule → Option (Rule × Pointer)
named_from t [] = None
named_from t (r ∷ rs) = named_or r (first_pointer t (Only r)) (named_from t rs)

-- the rules, from the least
abbrev pub all_rules : List Rule
all_rules = rule.Names ∷ rule.Links ∷ rule.Kinds ∷ rule.Order ∷ rule.Height ∷ rule.Count ∷ []

-- the rules are gone through one by one only where a pointer was found at which any of them is broken
abbrev pub named_if : Tree → Option Pointer → Option (Rule × Pointer)
named_if t None = None
named_if t (Some pointer) = named_from t all_rules

abbrev pub named : Tree → Option (Rule × Pointer)
named t = named_if t (first_pointer t Any)

-- the named rule and pointer are the least broken rule and its first pointer, and none is named only
-- where all rules are kept
abbrev pub Tells : Tree → Option (Rule × Pointer) → Type 0
Tells t None = KeepsRules t
Tells t (Some (r, pointer)) = IsNamed t r pointer
