-- The way through nodes and zones, step by step.
use Rattle.std.proofs.Common.{◌≡◌, ℕ, suc, ◌+◌, ◌<◌, Bool, true, false, List, [], map, codes, length, get_or, drop, Option, Some, None, Result, Ok, Err, option_map, refl, sym, ap, ◌∙◌, arith}
use Rattle.std.specs.Prelude.{is_some}
use Rattle.std.specs.Option.{option_map_or}
use Rattle.std.specs.declared.alloc.Global.{Global}
use Rattle.std.specs.declared.collections.VecDeque.{VecDeque}
use Rattle.std.proofs.lemmas.List.{drop_more}
use Rattle.gn_memory.specs.declared.Memory.{Memory}
use Rattle.gn_pointers.specs.Pointers.{Step, index, key, Pointer, joined}
use Rattle.gn_pointers.specs.Seen.{pointer_of}
use Rattle.gn_pointers.specs.declared.step.Step.{Step as CodeStep}
use Rattle.gn_tree.specs.Trees.{Tree, Input, Group, Socket, Named, Nodes, Node, node, node_size, Settings, settings_size, nodes_size, no_settings}
use Rattle.gn_tree.specs.Seen.{socket_of, group_of, named_of, nodes_of, setting_then, settings_of}
use Rattle.gn_tree.specs.declared.tree.Setting.{Setting}
use Rattle.gn_tree.specs.declared.tree.Setting.TheVariants as s
use Rattle.gn_tree.specs.declared.tree.Zone.{Zone}
use Rattle.gn_tree.specs.declared.tree.Group.{Group as CodeGroup}
use Rattle.gn_rules.specs.declared.sought.Sought.{Sought}
use Rattle.gn_rules.specs.Scopes.{Scope, tree_entries, tree_scope, zone_scope, group_scope}
use Rattle.gn_rules.specs.declared.shape.Shape.{Shape}
use Rattle.gn_rules.specs.Things.{all_nodes}
use Rattle.gn_rules.specs.Walk.{breaks, breaks_node, in_group_name, in_node, in_settings, first_node, in_sockets, in_given_out, first_input, in_group, first_group, this_or, in_input, in_output, breaks_all}
use Rattle.gn_rules.specs.Sockets.{Declared, one_of, inputs_of}
use Rattle.gn_tree.specs.Nodes.{settings_in, inputs_in}
use Rattle.gn_scopes.specs.Settings.{group_set, zone_set}
use Rattle.gn_check.specs.Finds.{Finds}
use Rattle.gn_check.specs.Zones.{in_inputs_of_node, in_zone, in_body}

abbrev pub Found : Type 0
Found = Option (VecDeque CodeStep Global)

abbrev pub Answer : Type 0
Answer = Result Found Memory

pub is_same : (r : Answer) (x y : Option Pointer) → x ≡ y → Finds r x → Finds r y
is_same (Ok found) x y e h = h ∙ e
is_same (Err m) x y e h = tt

first_wins : (k : Step) (found : Found) (rest : Option Pointer) → is_some found ≡ true → joined k (option_map pointer_of found) None ≡ joined k (option_map pointer_of found) rest
first_wins k None rest h = absurd (cc)
first_wins k (Some pointer) rest h = refl

next_goes : (k : Step) (found : Found) (rest : Option Pointer) → is_some found ≡ false → rest ≡ joined k (option_map pointer_of found) rest
next_goes k None rest h = refl
next_goes k (Some pointer) rest h = absurd (cc)

-- what was found in the first of two parts, or in the second where nothing was found in the first
pub in_first : (k : Step) (found : Found) (first rest all : Option Pointer) (r : Answer) → is_some found ≡ true → option_map pointer_of found ≡ first → all ≡ joined k first rest → Finds r (joined k (option_map pointer_of found) None) → Finds r all
in_first k found first rest all r h e a i = is_same r (joined k (option_map pointer_of found) None) all (first_wins k found rest h ∙ (ap (λ x. joined k x rest) e ∙ sym a)) i

pub in_rest : (k : Step) (found : Found) (first rest all : Option Pointer) (r : Answer) → is_some found ≡ false → option_map pointer_of found ≡ first → all ≡ joined k first rest → Finds r rest → Finds r all
in_rest k found first rest all r h e a i = is_same r rest all (next_goes k found rest h ∙ (ap (λ x. joined k x rest) e ∙ sym a)) i

pub in_last : (k : Step) (found : Found) (last : Option Pointer) (r : Answer) → option_map pointer_of found ≡ last → Finds r (joined k (option_map pointer_of found) None) → Finds r (joined k last None)
in_last k found last r e i = is_same r (joined k (option_map pointer_of found) None) (joined k last None) (ap (λ x. joined k x None) e) i

-- ---- nodes

pub size_of_node : (n : Node) → node_size n ≡ suc (settings_size (settings_in n))
size_of_node (node id kind set inputs) = refl

node_way_at : (w : Sought) (sc : Scope) (i : ℕ) (n : Node) → breaks_node w sc i n ≡ false
    → in_node (breaks w) sc i n ≡ joined (key (codes "in")) (in_inputs_of_node (breaks w) sc n) (joined (key (codes "set")) (in_settings (breaks w) sc (settings_in n)) None)
node_way_at w sc i (node id kind set inputs) e = rw e

pub node_way : (w : Sought) (sc : Scope) (i : ℕ) (n : Node) (b : Bool) → b ≡ breaks_node w sc i n → b ≡ false
    → in_node (breaks w) sc i n ≡ joined (key (codes "in")) (in_inputs_of_node (breaks w) sc n) (joined (key (codes "set")) (in_settings (breaks w) sc (settings_in n)) None)
node_way w sc i n b e f = node_way_at w sc i n (sym e ∙ f)

-- ---- settings

pub settings_way : (w : Sought) (sc : Scope) (x : Setting) (rest : Settings)
    → in_settings (breaks w) sc (setting_then x rest) ≡ option_map_or (λ name. in_group_name (breaks w) sc name) (group_set x) (option_map_or (λ z. in_zone (breaks w) sc z) (zone_set x) (in_settings (breaks w) sc rest))
settings_way w sc (s.Group name) rest = refl
settings_way w sc (s.Zone zone) rest = refl
settings_way w sc _ rest = refl

no_group : (x : Setting) (z : Zone) → zone_set x ≡ Some z → group_set x ≡ None
no_group (s.Group name) z e = absurd (cc)
no_group (s.Zone zone) z e = refl
no_group _ z e = refl

-- where the next setting is a zone
pub zone_next : (w : Sought) (sc : Scope) (xs : List Setting) (i : ℕ) (x : Setting) (z : Zone) → i < length xs → x ≡ get_or xs i x → zone_set x ≡ Some z → in_settings (breaks w) sc (settings_of (drop i xs)) ≡ in_zone (breaks w) sc z
zone_next w sc xs i x z h e f =
    ap (λ ys. in_settings (breaks w) sc (settings_of ys)) (drop_more xs i x h)
    ∙ (ap (λ y. in_settings (breaks w) sc (setting_then y (settings_of (drop (i + 1) xs)))) (sym e)
    ∙ (settings_way w sc x (settings_of (drop (i + 1) xs))
    ∙ (ap (λ o. option_map_or (λ name. in_group_name (breaks w) sc name) o (option_map_or (λ y. in_zone (breaks w) sc y) (zone_set x) (in_settings (breaks w) sc (settings_of (drop (i + 1) xs))))) (no_group x z f)
    ∙ ap (λ o. option_map_or (λ y. in_zone (breaks w) sc y) o (in_settings (breaks w) sc (settings_of (drop (i + 1) xs)))) f)))

pub zone_smaller : (x : Setting) (z : Zone) → zone_set x ≡ Some z → nodes_size (nodes_of z.nodes.items) < settings_size (setting_then x no_settings)
zone_smaller (s.Zone y) z e =
    let same : nodes_size (nodes_of y.nodes.items) ≡ nodes_size (nodes_of z.nodes.items) = ap (λ o. option_map_or (λ v. nodes_size (nodes_of v.nodes.items)) o 0) e in
    omega arith
zone_smaller _ z e = absurd (cc)

-- ---- zones

pub zone_way : (w : Sought) (sc : Scope) (z : Zone) (items : List Socket) (inner : Scope) (nodes : Nodes) → items ≡ map socket_of z.items.items → inner ≡ zone_scope sc items (nodes_of z.nodes.items) → nodes ≡ nodes_of z.nodes.items
    → in_zone (breaks w) sc z
    ≡ joined (key (codes "items")) (in_sockets (breaks w) items)
    (joined (key (codes "nodes")) (first_node (breaks w) inner 0 nodes) (joined (key (codes "output")) (in_given_out (breaks w) inner items (map named_of z.output.items)) None))
zone_way w sc z items inner nodes e f g = rw (f, g, e) refl

-- what is found in the nodes, and in what the body gives out, by the scope that the code has
pub nodes_way : (w v : Sought) (one other : Scope) (ms ns : Nodes) → v ≡ w → one ≡ other → ms ≡ ns → first_node (breaks v) one 0 ms ≡ first_node (breaks w) other 0 ns
nodes_way w v one other ms ns e f g = rw (e, f, g) refl

pub inputs_way : (w : Sought) (sc : Scope) (n : Node) (ds : List Declared) (xs : List Named) → ds ≡ inputs_of sc.groups n → xs ≡ inputs_in n → first_input (breaks w) sc ds xs ≡ in_inputs_of_node (breaks w) sc n
inputs_way w sc n ds xs e f = rw (e, f) refl

-- ---- groups

pub group_next : (w : Sought) (all : List Group) (xs : List CodeGroup) (i : ℕ) (x : CodeGroup) → i < length xs → x ≡ get_or xs i x
    → first_group (breaks w) all i (map group_of (drop i xs)) ≡ joined (index i) (in_group (breaks w) all i (group_of x)) (first_group (breaks w) all (i + 1) (map group_of (drop (i + 1) xs)))
group_next w all xs i x h e =
    let more : suc i ≡ i + 1 = omega arith in
    ap (λ ys. first_group (breaks w) all i (map group_of ys)) (drop_more xs i x h)
    ∙ (ap (λ y. joined (index i) (in_group (breaks w) all i (group_of y)) (first_group (breaks w) all (suc i) (map group_of (drop (i + 1) xs)))) (sym e)
    ∙ ap (λ n. joined (index i) (in_group (breaks w) all i (group_of x)) (first_group (breaks w) all n (map group_of (drop (i + 1) xs)))) more)

-- the rest where nothing was found
pub rest_alone : (k : Step) (found : Found) (first rest : Option Pointer) → is_some found ≡ false → option_map pointer_of found ≡ first → joined k first rest ≡ rest
rest_alone k found first rest h e = ap (λ x. joined k x rest) (sym e) ∙ sym (next_goes k found rest h)

pub results_way : (w v : Sought) (sc : Scope) (outs : List Socket) (xs : List Named) (found : Option Pointer) → v ≡ w → found ≡ in_given_out (breaks v) sc outs xs → found ≡ in_given_out (breaks w) sc outs xs
results_way w v sc outs xs found e f = f ∙ ap (λ p. in_given_out (breaks p) sc outs xs) e

pub scope_way : (gs : List Group) (i : ℕ) (g : Group) (inputs : List Socket) (sc : Scope) → inputs ≡ g.inputs → sc ≡ record { nodes = g.nodes; entries = map one_of inputs; groups = gs; above = i } → sc ≡ group_scope gs i g
scope_way gs i g inputs sc e f = f ∙ ap (λ xs. record { nodes = g.nodes; entries = map one_of xs; groups = gs; above = i }) e

-- ---- the tree

pub tree_scope_way : (t : Tree) (gs : List Group) (a : ℕ) (sc : Scope) → gs ≡ t.groups → a ≡ length gs → sc ≡ record { nodes = t.nodes; entries = tree_entries; groups = gs; above = a } → sc ≡ tree_scope t
tree_scope_way t gs a sc e n f =
    f ∙ (ap (λ m. record { nodes = t.nodes; entries = tree_entries; groups = gs; above = m }) n
    ∙ ap (λ xs. record { nodes = t.nodes; entries = tree_entries; groups = xs; above = length xs }) e)

abbrev pub own_nodes : Sought → Tree → Option Pointer
own_nodes w t = joined (key (codes "nodes")) (this_or (breaks w) (all_nodes t) (first_node (breaks w) (tree_scope t) 0 t.nodes)) (in_output (breaks w) (tree_scope t) t.output)

pub own_nodes_break : (w : Sought) (t : Tree) (found : Found) → breaks_all w t ≡ true → option_map pointer_of found ≡ Some [] → joined (key (codes "nodes")) (option_map pointer_of found) None ≡ own_nodes w t
own_nodes_break w t found e f = ap (λ x. joined (key (codes "nodes")) x None) f ∙ sym (rw e)

pub own_nodes_keep : (w : Sought) (t : Tree) → breaks_all w t ≡ false → in_body (breaks w) t ≡ own_nodes w t
own_nodes_keep w t e = sym (rw e)

pub groups_way : (w : Sought) (gs hs : List Group) → gs ≡ hs → first_group (breaks w) gs 0 gs ≡ first_group (breaks w) hs 0 hs
groups_way w gs hs e = ap (λ xs. first_group (breaks w) xs 0 xs) e

pub output_way : (w v : Sought) (one other : Scope) (shape there : Option Shape) (x : Input) → v ≡ w → one ≡ other → shape ≡ there → in_input (breaks v) one shape x ≡ in_input (breaks w) other there x
output_way w v one other shape there x e f g = rw (e, f, g) refl
