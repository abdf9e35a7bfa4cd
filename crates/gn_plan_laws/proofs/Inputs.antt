-- In a tree that keeps the rules a Set Position that is run reads four values.
use Rattle.std.proofs.Common.{◌≡◌, inl, inr, ℕ, List, [], length, map, Option, Some, None, codes, refl, sym, ◌∙◌, ap, subst}
use Rattle.std.specs.Prelude.{Bool, true, false, bytes_eq, option_map, option_and_then, if◌then◌else◌}
use Rattle.gn_kinds.specs.Row.{Text}
use Rattle.gn_kinds.specs.Table.{row_of_kind, table, values, functions, elsewhere, attributes, geometry_kinds, instance_kinds, groups}
use Rattle.gn_pointers.specs.Pointers.{key}
use Rattle.gn_tree.specs.NodeKinds.{Kind}
use Rattle.gn_tree.specs.Trees.{Named, Node, node, Settings, no_settings, and_setting, and_zone, Group, Tree, of_group}
use Rattle.gn_rules.specs.Sockets.{Declared, is_zone, group_in, items_in, further, inputs_of, inputs_of_kind, node_at}
use Rattle.gn_rules.specs.Scopes.{Scope}
use Rattle.gn_rules.specs.Things.{the_inputs}
use Rattle.gn_rules.specs.Rules.{KeepsRules}
use Rattle.gn_meaning.specs.Sites.{Way, the_tree, into, path_of}
use Rattle.gn_meaning.specs.Bodies.{Body, tree_body, body_in, body_at, kind_in}
use Rattle.gn_meaning.specs.Reads.{default_of, node_reads, Run, a_node, a_group, a_repeat, part_by, part_in, part_at}
use Rattle.gn_meaning.specs.Forms.{SettingsHaveForm, HasForm}
use Rattle.gn_meaning.specs.There.{LeadsTo, to_the_tree, into_group, into_turn}
use Rattle.gn_meaning.proofs.Options.{map_some}
use Rattle.gn_meaning.proofs.Parts.{further_zone, Holds, node_form}
use Rattle.gn_meaning.proofs.Reached.{part}
use Rattle.gn_meaning.proofs.Inputs.{AllSingle, InputsReached, inputs_reached, reads_once}
use Rattle.gn_meaning.proofs.Opened.{at_way}
use Rattle.gn_plan_laws.proofs.Ways.{Opens}

-- ---- its sockets

abbrev IsSet : Text → Type 0
IsSet kind = kind ≡ codes "set_position"

no_group : (kind : Text) (set : Settings) → IsSet kind → SettingsHaveForm kind set → group_in set ≡ None
no_group kind no_settings e h = refl
no_group kind (and_setting (of_group name) rest) e h = let bad : codes "set_position" ≡ codes "group" = sym e ∙ h.0 in cc
no_group kind (and_setting x rest) e h = no_group kind rest e h
no_group kind (and_zone items nodes output rest) e h = let bad : codes "set_position" ≡ codes "repeat" = sym e ∙ h.0 in cc

no_items : (kind : Text) (set : Settings) → IsSet kind → SettingsHaveForm kind set → items_in set ≡ []
no_items kind no_settings e h = refl
no_items kind (and_setting (of_group name) rest) e h = let bad : codes "set_position" ≡ codes "group" = sym e ∙ h.0 in cc
no_items kind (and_setting x rest) e h = no_items kind rest e h
no_items kind (and_zone items nodes output rest) e h = let bad : codes "set_position" ≡ codes "repeat" = sym e ∙ h.0 in cc

-- four, none of which takes a list
abbrev AreFour : List Declared → Type 0
AreFour ds = AllSingle ds × (length ds ≡ 4)

four_inputs : (gs : List Group) (id kind : Text) (set : Settings) (inputs : List Named) → IsSet kind → SettingsHaveForm kind set → AreFour (inputs_of gs (node id kind set inputs))
unfolding row_of_kind table values functions elsewhere attributes geometry_kinds instance_kinds groups
four_inputs gs id kind set inputs e form =
    let none : further (λ g. g.inputs) gs set ≡ [] = further_zone (λ g. g.inputs) gs set (no_group kind set e form) ∙ no_items kind set e form in
    rw (e, none) ((refl, (refl, (refl, (refl, tt)))), refl)

-- ---- its node

-- a way into group nodes and turns of repeats leads to a list
leads_to : (t : Tree) (way : Way) → Opens t way → (b : Body) × LeadsTo t way b
leads_to t the_tree h = (tree_body t, to_the_tree)
leads_to t (into way step) (h, inl (n, b, reads, same, at)) = (b, subst (λ s. LeadsTo t (into way s) b) (sym same) (into_group n reads (leads_to t way h).1 at))
leads_to t (into way step) (h, inr (n, k, run, b, same, at)) = (b, subst (λ s. LeadsTo t (into way s) b) (sym same) (into_turn n k run (leads_to t way h).1 at))

own_run : (kind : Text) (o : Option Body) (own run : Run) → part_by kind o own ≡ a_node run → own ≡ run
own_run kind None own run e = cc
own_run kind (Some b) own run e = by_name (bytes_eq kind (codes "group")) e
  where
    by_name : (group : Bool) → (if group then a_group b own.reads else a_repeat own b) ≡ a_node run → own ≡ run
    by_name true h = cc
    by_name false h = cc

-- with its settings and a list of groups, a node has its kind's name
named_in : (kind : Text) (set : Settings) (gs : List Group) (zone : Bool) (k : Kind) → k ≡ (if zone then record { name = kind; settings = set; groups = gs } else record { name = kind; settings = set; groups = [] }) → k.name ≡ kind
named_in kind set gs true k e = ap (λ x. x.name) e
named_in kind set gs false k e = ap (λ x. x.name) e

name_of : (s : Scope) (id kind : Text) (set : Settings) (inputs : List Named) → (kind_in s (node id kind set inputs)).name ≡ kind
name_of s id kind set inputs = named_in kind set s.groups (is_zone set) (kind_in s (node id kind set inputs)) refl

module _ (t : Tree) (keeps : KeepsRules t) (form : HasForm t) where
  four_of : (way : Way) (n : ℕ) (run : Run) (b : Body) → Holds t b → (x : Node) → node_at b.scope.nodes n ≡ Some x → part_in b.scope way n x ≡ a_node run → IsSet run.kind.name → length run.reads ≡ 4
  four_of way n run b holds (node id kind set inputs) there same is =
      let x : Node = node id kind set inputs in
      let own : Run = record { path = path_of way n; kind = kind_in b.scope x; reads = node_reads b.scope way x } in
      let one : own ≡ run = own_run kind (body_in b.scope kind set) own run same in
      let named : IsSet kind = sym (name_of b.scope id kind set inputs) ∙ ap (λ r. r.kind.name) one ∙ is in
      let all : List Declared = inputs_of b.scope.groups x in
      let four : AreFour all = four_inputs b.scope.groups id kind set inputs named (node_form t b.scope.nodes n x holds.form there) in
      let read : InputsReached t b.scope all inputs = inputs_reached t b.scope all inputs (part (key (codes "in")) (the_inputs b.scope all inputs) (holds.nodes n x there) refl) in
      ap (λ r. length r.reads) (sym one) ∙ reads_once t keeps b.scope way all inputs read four.0 all (map default_of (inputs_of_kind kind)) four.0 ∙ four.1

  pub four_read : (way : Way) (n : ℕ) (run : Run) → Opens t way → part_at t way n ≡ Some (a_node run) → IsSet run.kind.name → length run.reads ≡ 4
  four_read way n run h at is =
      let leads = leads_to t way h in
      let list : (body_at t way ≡ Some leads.0) × Holds t leads.0 = at_way t keeps form leads.1 in
      let found = map_some (part_in leads.0.scope way n) (node_at leads.0.scope.nodes n) (a_node run)
      (sym (ap (option_and_then (λ c. option_map (part_in c.scope way n) (node_at c.scope.nodes n))) list.0) ∙ at) in
      four_of way n run leads.0 list.1 found.0 found.1 found.2 is
