-- Each node that is run has a typed kind, which is written as its own.
use Rattle.std.proofs.Common.{◌≡◌, ◌≢◌, ◌<◌, ℕ, zero, suc, Bool, true, false, ◌&&◌, List, [], ◌∷◌, length, Option, Some, None, codes, refl, sym, ◌∙◌, ap, subst}
use Rattle.std.specs.Prelude.{bytes_eq, nat_lt, slice_get, option_map, option_and_then, if◌then◌else◌}
use Rattle.std.specs.Option.{option_map_or}
use Rattle.std.specs.List.{list_all}
use Rattle.std.proofs.lemmas.List.{length-map}
use Rattle.std.proofs.lemmas.Slice.Eq.{bytes_eq-Decides}
use Rattle.gn_kinds.specs.Row as row
use Rattle.gn_kinds.specs.Row.{Text, KindRow}
use Rattle.gn_kinds.specs.Table.{table, values, functions, elsewhere, attributes, geometry_kinds, instance_kinds, groups, row_of_kind}
use Rattle.gn_lazy.specs.declared.path.PathStep.{PathStep}
use Rattle.gn_lazy.specs.declared.graph.GraphNode.{GraphNode}
use Rattle.gn_names.specs.First.{first_of}
use Rattle.gn_pointers.specs.Pointers.{key}
use Rattle.gn_tree.specs.NodeKinds as written
use Rattle.gn_tree.specs.Trees.{Node, node, Settings, no_settings, and_setting, and_zone, Nodes, no_nodes, and_node, Group, Tree, of_group}
use Rattle.gn_tree.specs.Form.{kept, settings_fit, inputs_fit, node_fits, nodes_fit, group_fits, output_fits, input_fits, IsOfForm}
use Rattle.gn_tree.specs.Nodes.{kind_in, settings_in}
use Rattle.gn_tree.specs.declared.kind.Kind.{Kind}
use Rattle.gn_node_kind.specs.Claims.{IsWritten}
use Rattle.gn_node_kind.specs.Kinds.{kind_with}
use Rattle.gn_node_kind.specs.Seen.{seen, written_as}
use Rattle.gn_node_kind.proofs.AsWritten.{as_written}
use Rattle.gn_rules.specs.declared.rule.Rule.TheVariants as rule
use Rattle.gn_rules.specs.Rules.{KeepsRules}
use Rattle.gn_rules.specs.Scopes.{Scope, is_above}
use Rattle.gn_rules.specs.Sockets.{group_names, is_zone, node_at}
use Rattle.gn_rules.specs.Things.{the_settings, a_group_name}
use Rattle.gn_meaning.specs.Sites.{Way, path_of}
use Rattle.gn_meaning.specs.Bodies as bodies
use Rattle.gn_meaning.specs.Bodies.{Body, body_at, body_in, body_named, group_body, tree_body}
use Rattle.gn_meaning.specs.Forms.{HasForm}
use Rattle.gn_meaning.specs.There.{LeadsTo, into_group}
use Rattle.gn_meaning.specs.Reads.{Run, a_group, a_repeat, node_reads, part_by, part_in, run_in}
use Rattle.gn_meaning.proofs.Formed.{has_form}
use Rattle.gn_meaning.proofs.Lists.{get_below}
use Rattle.gn_meaning.proofs.Opened.{at_way}
use Rattle.gn_meaning.proofs.Options.{some_same}
use Rattle.gn_meaning.proofs.Parts.{Holds, not_false}
use Rattle.gn_meaning.proofs.Reached.{Reached, keeps_rule, part}
use Rattle.gn_table.proofs.Finding.{first_within}
use Rattle.gn_lower.specs.declared.visit.Visit.{Visit}
use Rattle.gn_lower.specs.Unfolding.{Around, inside, outermost, way_by}
use Rattle.gn_lower.proofs.Counted.{IsGroupAbove, group_of_node}

-- ---- a kind that is found is written as its node

pub kind_written : (known : List Group) (x : Node) (kind : Kind) (s : Scope) → kind_with known (kind_in x) (settings_in x) ≡ Some (seen kind) → known ≡ s.groups → written_as kind ≡ bodies.kind_in s x
kind_written known (node id name set inputs) kind s e same =
    let w : IsWritten known name set (seen kind) = as_written known name set (seen kind) e in
    let own : written_as kind ≡ record { name = name; settings = set; groups = if is_zone set then known else [] } = λ i. record { name = w.0 i; settings = w.1 i; groups = w.2 i } in
    own ∙ by_zone (is_zone set)
  where
    by_zone : (zone : Bool) → ◌≡◌ {A = written.Kind} (record { name = name; settings = set; groups = if zone then known else [] }) (if zone then record { name = name; settings = set; groups = s.groups } else record { name = name; settings = set; groups = [] })
    by_zone true = λ i. record { name = name; settings = set; groups = same i }
    by_zone false = refl

-- ---- nodes of their form

both : (a b : Bool) → (a && b) ≡ true → (a ≡ true) × (b ≡ true)
both true b e = (refl, e)
both false b e = absurd (cc)

member_fits : (gs : List Group) (i : ℕ) (g : Group) → list_all group_fits gs ≡ true → slice_get gs i ≡ Some g → group_fits g ≡ true
member_fits [] i g e at = cc
member_fits (x ∷ gs) zero g e at = subst (λ y. group_fits y ≡ true) (some_same at) (both (group_fits x) (list_all group_fits gs) e).0
member_fits (x ∷ gs) (suc i) g e at = member_fits gs i g (both (group_fits x) (list_all group_fits gs) e).1 at

node_at_fits : (ns : Nodes) (n : ℕ) (x : Node) → nodes_fit ns ≡ true → node_at ns n ≡ Some x → node_fits x ≡ true
node_at_fits no_nodes n x e at = cc
node_at_fits (and_node y ns) zero x e at = subst (λ z. node_fits z ≡ true) (some_same at) (both (node_fits y) (nodes_fit ns) e).0
node_at_fits (and_node y ns) (suc n) x e at = node_at_fits ns n x (both (node_fits y) (nodes_fit ns) e).1 at

-- a group node names a group
group_settings : option_map_or (λ r. kept r.settings) (row_of_kind (codes "group")) [] ≡ row.group_name ∷ []
unfolding row_of_kind table values functions elsewhere attributes geometry_kinds instance_kinds groups
group_settings = refl

by_kept : (set : Settings) (fits : KindRow → Bool) (found : Option KindRow) → option_map_or (λ r. kept r.settings) found [] ≡ row.group_name ∷ [] → option_map_or (λ r. settings_fit (kept r.settings) set && fits r) found false ≡ true → settings_fit (row.group_name ∷ []) set ≡ true
by_kept set fits None k e = absurd (cc)
by_kept set fits (Some r) k e = subst (λ ss. settings_fit ss set ≡ true) k (both (settings_fit (kept r.settings) set) (fits r) e).0

above_found : (s : Scope) (o : Option ℕ) → option_map_or (λ i. nat_lt i s.above) o false ≡ true → (i : ℕ) × (o ≡ Some i)
above_found s None e = absurd (cc)
above_found s (Some i) e = (i, refl)

not_run : (kind : Text) (o : Option Body) (b : Body) (run found : Run) → kind ≡ codes "group" → o ≡ Some b → run_in (part_by kind o run) ≡ Some found → ⊥
not_run kind o b run found is at e =
    let yes : bytes_eq kind (codes "group") ≡ true = (bytes_eq-Decides kind (codes "group")).1 is in
    let group : part_by kind o run ≡ a_group b run.reads = ap (λ p. part_by kind p run) at ∙ ap (λ t. if t then a_group b run.reads else a_repeat run b) yes in
    let none : run_in (part_by kind o run) ≡ None = ap run_in group in
    let bad : None ≡ Some found = sym none ∙ e in
    cc

module _ (t : Tree) (keeps : KeepsRules t) (form : IsOfForm t) where
  abbrev formed : HasForm t
  formed = has_form t form

  -- the group that a setting names is there
  named_there : (b : Body) (n : ℕ) (x : Node) → Holds t b → node_at b.scope.nodes n ≡ Some x → (name : Text) (rest : Settings) → settings_in x ≡ and_setting (of_group name) rest → (c : Body) × (body_named b.scope.groups name ≡ Some c)
  named_there b n (node id kind set inputs) holds there name rest is =
      let all : Reached t (the_settings b.scope set) = part (key (codes "set")) (the_settings b.scope set) (holds.nodes n (node id kind set inputs) there) refl in
      let reached : Reached t (a_group_name b.scope name) = part (key (codes "group")) (a_group_name b.scope name) (subst (λ xs. Reached t (the_settings b.scope xs)) is all) refl in
      let above : is_above b.scope name ≡ true = not_false (is_above b.scope name) (keeps_rule t rule.Links keeps reached) in
      let i : (i : ℕ) × (first_of (group_names b.scope.groups) name ≡ Some i) = above_found b.scope (first_of (group_names b.scope.groups) name) above in
      let within : i.0 < length b.scope.groups = subst (λ k. i.0 < k) (length-map b.scope.groups (λ g. g.name)) (first_within name i.0 (group_names b.scope.groups) i.1) in
      let g : (g : Group) × (slice_get b.scope.groups i.0 ≡ Some g) = get_below b.scope.groups i.0 within in
      (group_body b.scope.groups i.0 g.0, ap (option_and_then (λ k. option_map (group_body b.scope.groups k) (slice_get b.scope.groups k))) i.1 ∙ ap (option_map (group_body b.scope.groups i.0)) g.1)

  -- so a node that is run is no group node
  pub no_group : (b : Body) (n : ℕ) (x : Node) → Holds t b → node_fits x ≡ true → node_at b.scope.nodes n ≡ Some x → (way : Way) (run : Run) → run_in (part_in b.scope way n x) ≡ Some run → kind_in x ≢ codes "group"
  no_group b n (node id kind set inputs) holds fits there way run e is =
      let suits : settings_fit (row.group_name ∷ []) set ≡ true =
      by_kept set (λ r. inputs_fit r inputs) (row_of_kind kind) (ap (λ k. option_map_or (λ r. kept r.settings) (row_of_kind k) []) is ∙ group_settings) (both _ _ fits).1 in
      by_settings set refl suits
    where
      own : Run
      own = record { path = path_of way n; kind = bodies.kind_in b.scope (node id kind set inputs); reads = node_reads b.scope way (node id kind set inputs) }

      by_settings : (xs : Settings) → set ≡ xs → settings_fit (row.group_name ∷ []) xs ≡ true → ⊥
      by_settings no_settings at f = cc
      by_settings (and_zone items nodes output rest) at f = cc
      by_settings (and_setting (of_group name) rest) at f =
          let c : (c : Body) × (body_named b.scope.groups name ≡ Some c) = named_there b n (node id kind set inputs) holds there name rest at in
          not_run kind (body_in b.scope kind set) c.0 own run is (ap (body_in b.scope kind) at ∙ c.1) e
      by_settings (and_setting x rest) at f = cc

  -- ---- lists that are unfolded are of their form

  group_list_fits : (s : Scope) (inner : Body) → s.groups ≡ t.groups → IsGroupAbove s inner → nodes_fit inner.scope.nodes ≡ true
  group_list_fits s inner same group =
      let front = both _ (option_map_or input_fits t.output true) form.0 in
      let lists = both _ (nodes_fit t.nodes) front.0 in
      let all : list_all group_fits t.groups ≡ true = (both _ (list_all group_fits t.groups) lists.0).1 in
      let fit : group_fits group.group ≡ true = member_fits t.groups group.number group.group all (ap (λ gs. slice_get gs group.number) (sym same) ∙ group.at) in
      subst (λ c. nodes_fit c.scope.nodes ≡ true) group.is (both _ (nodes_fit group.group.nodes) (both _ (output_fits group.group.output) fit).0).1

  list_fits : (nodes : List (GraphNode Kind)) {visits : List Visit} {steps : List PathStep} {runs : List Run} → Around t nodes visits steps runs → (b : Body) → LeadsTo t (way_by steps) b → nodes_fit b.scope.nodes ≡ true
  list_fits nodes outermost b leads =
      let front = both _ (option_map_or input_fits t.output true) form.0 in
      let lists = both _ (nodes_fit t.nodes) front.0 in
      let same : tree_body t ≡ b = some_same (at_way t keeps formed leads).0 in
      subst (λ c. nodes_fit c.scope.nodes ≡ true) same lists.1
  list_fits nodes (inside {steps = steps} visit n inner reads v next at u around) b leads =
      let outer : (body_at t (way_by steps) ≡ Some v.body) × Holds t v.body = at_way t keeps formed v.leads in
      let same : inner ≡ b = some_same (sym (at_way t keeps formed (into_group n reads v.leads at)).0 ∙ (at_way t keeps formed leads).0) in
      subst (λ c. nodes_fit c.scope.nodes ≡ true) same (group_list_fits v.body.scope inner outer.1.groups (group_of_node t keeps formed (way_by steps) v.body inner n reads v.leads at))

  pub written_fits : (nodes : List (GraphNode Kind)) {visits : List Visit} {steps : List PathStep} {runs : List Run} → Around t nodes visits steps runs → (b : Body) → LeadsTo t (way_by steps) b → (n : ℕ) (x : Node) → node_at b.scope.nodes n ≡ Some x → node_fits x ≡ true
  written_fits nodes around b leads n x there = node_at_fits b.scope.nodes n x (list_fits nodes around b leads) there
