-- In a tree that keeps the rules, each list that a way leads to keeps them, and so do the parts of its nodes.
use Rattle.std.proofs.Common.{◌≡◌, ◌<◌, ◌+◌, ℕ, zero, suc, List, [], ◌∷◌, ◌++◌, map, Option, Some, None, codes, refl, sym, ◌∙◌, ap, subst, arith}
use Rattle.std.specs.Prelude.{Bool, true, false, not, bytes_eq, nat_lt, slice_get, IsTrue, option_map, if◌then◌else◌}
use Rattle.std.specs.Option.{option_map_or}
use Rattle.std.proofs.lemmas.Bool.Decides.{nat_tests}
use Rattle.gn_kinds.specs.declared.row.SocketKind.TheVariants.{Int, Geometry}
use Rattle.gn_kinds.specs.Row.{Text}
use Rattle.gn_kinds.specs.Table.{row_of_kind, table, values, functions, elsewhere, attributes, geometry_kinds, instance_kinds, groups}
use Rattle.gn_names.specs.First.{first_of}
use Rattle.gn_pointers.specs.Pointers.{Step, index, key, part_at as member_at}
use Rattle.gn_tree.specs.Trees.{Input, Named, Socket, Node, node, Settings, no_settings, and_setting, and_zone, Nodes, no_nodes, and_node, Group, Tree, of_group, settings_size, nodes_size}
use Rattle.gn_rules.specs.declared.rule.Rule.TheVariants as rule
use Rattle.gn_rules.specs.Sockets.{declared, single, one, one_of, chosen, group_in, items_in, further, inputs_of, outputs_of, inputs_of_kind, outputs_of_kind, input_of_row, output_of_row, group_names, node_at}
use Rattle.gn_rules.specs.Scopes.{Scope, tree_scope, group_scope, zone_scope, is_above}
use Rattle.gn_rules.specs.Things.{Thing, the_groups, a_group as a_group_thing, all_nodes, the_nodes, a_node as a_node_thing, a_group_name, an_input, given_out as given_out_thing, settings_under, output_under}
use Rattle.gn_rules.specs.Rules.{KeepsRules}
use Rattle.gn_meaning.specs.Bodies.{Body, output_of, tree_body, group_body, body_named, zone_body, body_in}
use Rattle.gn_meaning.specs.Forms.{NodesHaveForm, NodeHasForm, SettingsHaveForm, GroupsHaveForm, HasForm}
use Rattle.gn_meaning.proofs.Options.{some_same, then_some, map_some}
use Rattle.gn_meaning.proofs.Reached.{Reached, at_top, part, keeps_rule, node_part, group_part}
use Rattle.gn_meaning.proofs.Inputs.{AllSingle, InputsReached, inputs_reached}

-- ---- what groups and zones declare

-- a node's further sockets are its group's, or its zone's items
pub further_group : (side : Group → List Socket) (gs : List Group) (set : Settings) (name : Text) (i : ℕ) (g : Group) → group_in set ≡ Some name → first_of (group_names gs) name ≡ Some i → slice_get gs i ≡ Some g → further side gs set ≡ side g
further_group side gs set name i g e f h = rw (e, f, h) refl

pub further_zone : (side : Group → List Socket) (gs : List Group) (set : Settings) → group_in set ≡ None → further side gs set ≡ items_in set
further_zone side gs set e = rw e refl

pub group_inputs : (gs : List Group) (id kind : Text) (set : Settings) (inputs : List Named) (xs : List Socket) → kind ≡ codes "group" → further (λ g. g.inputs) gs set ≡ xs → inputs_of gs (node id kind set inputs) ≡ map one_of xs
unfolding row_of_kind table values functions elsewhere attributes geometry_kinds instance_kinds groups
group_inputs gs id kind set inputs xs e f = λ i. map (input_of_row (chosen set)) (inputs_of_kind (e i)) ++ map one_of (f i)

pub group_outputs : (gs : List Group) (id kind : Text) (set : Settings) (inputs : List Named) (xs : List Socket) → kind ≡ codes "group" → further (λ g. g.outputs) gs set ≡ xs → outputs_of gs (node id kind set inputs) ≡ map one_of xs
unfolding row_of_kind table values functions elsewhere attributes geometry_kinds instance_kinds groups
group_outputs gs id kind set inputs xs e f = λ i. map (output_of_row (chosen set)) (outputs_of_kind (e i)) ++ map one_of (f i)

pub zone_inputs : (gs : List Group) (id kind : Text) (set : Settings) (inputs : List Named) (xs : List Socket) → kind ≡ codes "repeat" → further (λ g. g.inputs) gs set ≡ xs → inputs_of gs (node id kind set inputs) ≡ one (codes "iterations") Int ∷ map one_of xs
unfolding row_of_kind table values functions elsewhere attributes geometry_kinds instance_kinds groups
zone_inputs gs id kind set inputs xs e f = λ i. map (input_of_row (chosen set)) (inputs_of_kind (e i)) ++ map one_of (f i)

pub zone_outputs : (gs : List Group) (id kind : Text) (set : Settings) (inputs : List Named) (xs : List Socket) → kind ≡ codes "repeat" → further (λ g. g.outputs) gs set ≡ xs → outputs_of gs (node id kind set inputs) ≡ map one_of xs
unfolding row_of_kind table values functions elsewhere attributes geometry_kinds instance_kinds groups
zone_outputs gs id kind set inputs xs e f = λ i. map (output_of_row (chosen set)) (outputs_of_kind (e i)) ++ map one_of (f i)

-- a repeat names no group
no_group : (kind : Text) (set : Settings) → kind ≡ codes "repeat" → SettingsHaveForm kind set → group_in set ≡ None
no_group kind no_settings e h = refl
no_group kind (and_setting (of_group name) rest) e h = let bad : codes "repeat" ≡ codes "group" = sym e ∙ h.0 in cc
no_group kind (and_setting x rest) e h = no_group kind rest e h
no_group kind (and_zone items nodes output rest) e h = no_group kind rest e h.2

pub singles : (xs : List Socket) → AllSingle (map one_of xs)
singles [] = tt
singles (x ∷ xs) = (refl, singles xs)

-- ---- the body of a node

-- a group above, or the body of a smaller zone; with what the settings name and how large they are
pub data Inner (t : Tree) (s : Scope) (kind : Text) (named : Option Text) (items : List Socket) (size : ℕ) : Body → Type 0 where
  group_inner : (name : Text) (i : ℕ) (g : Group) → named ≡ Some name → first_of (group_names s.groups) name ≡ Some i → slice_get s.groups i ≡ Some g → i < s.above → kind ≡ codes "group" → Inner t s kind named items size (group_body s.groups i g)
  zone_inner : (xs : List Socket) (nodes : Nodes) (output : List Named) → named ≡ None → items ≡ xs → nodes_size nodes < size → kind ≡ codes "repeat" → NodesHaveForm nodes
      → Reached t (the_nodes (zone_scope s xs nodes)) → Reached t (given_out_thing (zone_scope s xs nodes) xs output) → Inner t s kind named items size (zone_body s kind xs nodes output)

less : (i n : ℕ) → nat_lt i n ≡ true → i < n
less i n e = grind (arith, nat_tests)

pub not_false : (b : Bool) → ¬ IsTrue (not b) → b ≡ true
not_false true n = refl
not_false false n = absurd (n refl)

module _ (t : Tree) (keeps : KeepsRules t) (s : Scope) (kind : Text) where
  -- what stands in these settings stands in the tree
  abbrev pub Under : Settings → Type 0
  Under set = (step : Step) (x : Thing) → member_at step (settings_under s set) ≡ Some x → Reached t x

  inner_of_group : (set : Settings) (name : Text) (b : Body) → group_in set ≡ Some name → kind ≡ codes "group" → Reached t (a_group_name s name) → body_named s.groups name ≡ Some b → Inner t s kind (group_in set) (items_in set) (settings_size set) b
  inner_of_group set name b at is there e =
      let number : (i : ℕ) × (first_of (group_names s.groups) name ≡ Some i) × (option_map (group_body s.groups i) (slice_get s.groups i) ≡ Some b) =
      then_some (λ i. option_map (group_body s.groups i) (slice_get s.groups i)) (first_of (group_names s.groups) name) b e in
      let group : (g : Group) × (slice_get s.groups number.0 ≡ Some g) × (group_body s.groups number.0 g ≡ b) = map_some (group_body s.groups number.0) (slice_get s.groups number.0) b number.2 in
      let above : is_above s name ≡ true = not_false (is_above s name) (keeps_rule t rule.Links keeps there) in
      let lower : number.0 < s.above = less number.0 s.above (sym (ap (λ o. option_map_or (λ i. nat_lt i s.above) o false) number.1) ∙ above) in
      subst (λ x. Inner t s kind (group_in set) (items_in set) (settings_size set) x) group.2 (group_inner name number.0 group.0 at number.1 group.1 lower is)

  pub inner_of : (set : Settings) (b : Body) → SettingsHaveForm kind set → Under set → body_in s kind set ≡ Some b → Inner t s kind (group_in set) (items_in set) (settings_size set) b
  inner_of no_settings b form under e = cc
  inner_of (and_setting (of_group name) rest) b form under e = inner_of_group (and_setting (of_group name) rest) name b refl form.0 (under (key (codes "group")) (a_group_name s name) refl) e
  inner_of (and_setting x rest) b form under e = inner_of rest b form under e
  inner_of (and_zone items nodes output rest) b form under e =
      let smaller : nodes_size nodes < suc (nodes_size nodes + settings_size rest) = omega arith in
      subst (λ x. Inner t s kind (group_in rest) items (suc (nodes_size nodes + settings_size rest)) x) (some_same e)
      (zone_inner items nodes output (no_group kind rest form.0 form.2) refl smaller form.0 form.1
      (under (key (codes "nodes")) (the_nodes (zone_scope s items nodes)) refl) (under (key (codes "output")) (given_out_thing (zone_scope s items nodes) items output) refl))

-- ---- lists that ways lead to

module _ (t : Tree) where
  -- the list is of the tree, with all that stands in it
  pub record Holds (b : Body) : Type 0 where
    pub groups : b.scope.groups ≡ t.groups
    pub nodes : (n : ℕ) (x : Node) → node_at b.scope.nodes n ≡ Some x → Reached t (a_node_thing b.scope n x)
    pub form : NodesHaveForm b.scope.nodes
    pub out : InputsReached t b.scope (map one_of b.sockets) b.output

  from_zero : (n : ℕ) → 0 + n ≡ n
  from_zero n = omega arith

  nodes_reached : (s : Scope) → Reached t (the_nodes s) → (n : ℕ) (x : Node) → node_at s.nodes n ≡ Some x → Reached t (a_node_thing s n x)
  nodes_reached s there n x e = subst (λ i. Reached t (a_node_thing s i x)) (from_zero n) (part (index (0 + n)) (a_node_thing s (0 + n) x) there (node_part s 0 n s.nodes x e))

  pub node_form : (ns : Nodes) (n : ℕ) (x : Node) → NodesHaveForm ns → node_at ns n ≡ Some x → NodeHasForm x
  node_form no_nodes n x form e = cc
  node_form (and_node y ns) zero x form e = subst NodeHasForm (some_same e) form.0
  node_form (and_node y ns) (suc n) x form e = node_form ns n x form.1 e

  group_form : (gs : List Group) (i : ℕ) (g : Group) → GroupsHaveForm gs → slice_get gs i ≡ Some g → NodesHaveForm g.nodes
  group_form [] i g form e = cc
  group_form (h ∷ gs) zero g form e = subst (λ x. NodesHaveForm x.nodes) (some_same e) form.0
  group_form (h ∷ gs) (suc i) g form e = group_form gs i g form.1 e

  pub holds_tree : HasForm t → Holds (tree_body t)
  holds_tree form = record {
    groups = refl;
    nodes = λ n x e. subst (λ i. Reached t (a_node_thing (tree_scope t) i x)) (from_zero n)
        (part (index (0 + n)) (a_node_thing (tree_scope t) (0 + n) x) (part (key (codes "nodes")) (all_nodes t) at_top refl) (node_part (tree_scope t) 0 n t.nodes x e));
    form = form.1;
    out = out_of_tree t.output refl;
  }
    where
      one_input : (x : Input) → t.output ≡ Some x → InputsReached t (tree_scope t) (map one_of (tree_body t).sockets) (record { name = codes "geometry"; input = x } ∷ [])
      one_input x at name y e = by_test (bytes_eq name (codes "geometry")) e
        where
          by_test : (b : Bool) → (if b then Some (record { name = codes "geometry"; input = x }) else None) ≡ Some y → Reached t (an_input (tree_scope t) (declared (map one_of (tree_body t).sockets) y.name) y.input)
          by_test true h =
              subst (λ z. Reached t (an_input (tree_scope t) (declared (map one_of (tree_body t).sockets) z.name) z.input)) (some_same h)
              (part (key (codes "output")) (an_input (tree_scope t) (Some (single Geometry)) x) at_top (ap (λ o. member_at (key (codes "output")) (output_under (tree_scope t) o)) at))
          by_test false h = cc

      out_of_tree : (o : Option Input) → t.output ≡ o → InputsReached t (tree_scope t) (map one_of (tree_body t).sockets) (output_of o)
      out_of_tree None at = λ name y e. cc
      out_of_tree (Some x) at = one_input x at

  module _ (keeps : KeepsRules t) (form : HasForm t) where
    holds_group : (i : ℕ) (g : Group) → slice_get t.groups i ≡ Some g → Holds (group_body t.groups i g)
    holds_group i g e =
        let there : Reached t (a_group_thing t.groups i g) =
        subst (λ n. Reached t (a_group_thing t.groups n g)) (from_zero i) (part (index (0 + i)) (a_group_thing t.groups (0 + i) g) (part (key (codes "groups")) (the_groups t.groups) at_top refl) (group_part t.groups 0 i t.groups g e)) in
        record {
          groups = refl;
          nodes = nodes_reached (group_scope t.groups i g) (part (key (codes "nodes")) (the_nodes (group_scope t.groups i g)) there refl);
          form = group_form t.groups i g form.0 e;
          out = inputs_reached t (group_scope t.groups i g) (map one_of g.outputs) g.output (part (key (codes "output")) (given_out_thing (group_scope t.groups i g) g.outputs g.output) there refl);
        }

    pub holds_inner : (b : Body) → Holds b → {kind : Text} {named : Option Text} {items : List Socket} {size : ℕ} {inner : Body} → Inner t b.scope kind named items size inner → Holds inner
    holds_inner b holds (group_inner name i g named at there above is) =
        subst (λ gs. Holds (group_body gs i g)) (sym holds.groups) (holds_group i g (ap (λ gs. slice_get gs i) (sym holds.groups) ∙ there))
    holds_inner b holds {kind} (zone_inner xs nodes output named same smaller is has_form nodes_there output_there) = record {
      groups = holds.groups;
      nodes = nodes_reached (zone_scope b.scope xs nodes) nodes_there;
      form = has_form;
      out = inputs_reached t (zone_scope b.scope xs nodes) (map one_of xs) output output_there;
    }
