-- Each repeat of a tree that is of its form has a body.
use Rattle.std.proofs.Common.{◌≡◌, ◌≢◌, Bool, true, false, ◌&&◌, ℕ, zero, suc, List, [], ◌∷◌, Option, Some, None, codes, refl, sym, ◌∙◌, ap, subst}
use Rattle.std.specs.Prelude.{bytes_eq, slice_get, option_map, option_and_then, if◌then◌else◌}
use Rattle.std.specs.Option.{option_map_or}
use Rattle.std.specs.List.{list_all}
use Rattle.gn_kinds.specs.Row as row
use Rattle.gn_kinds.specs.Row.{Text, KindRow}
use Rattle.gn_kinds.specs.Table.{table, values, functions, elsewhere, attributes, geometry_kinds, instance_kinds, groups, row_of_kind}
use Rattle.gn_names.specs.First.{first_of}
use Rattle.gn_tree.specs.Trees.{Node, node, Settings, no_settings, and_setting, and_zone, Nodes, no_nodes, and_node, Group, Tree, of_group}
use Rattle.gn_tree.specs.Form.{socket_fits, inputs_fit, output_fits, setting_fits, kept, node_fits, settings_fit, nodes_fit, group_fits, input_fits, IsOfForm}
use Rattle.gn_rules.specs.Sockets.{group_names, node_at}
use Rattle.gn_rules.specs.Scopes.{Scope}
use Rattle.gn_rules.specs.Rules.{KeepsRules}
use Rattle.gn_meaning.specs.Sites.{Way, path_of}
use Rattle.gn_meaning.specs.Bodies.{Body, group_body, body_in, body_of, body_at, kind_in}
use Rattle.gn_meaning.specs.Reads.{Run, a_node, a_group, a_repeat, part_by, part_in, part_at, node_reads}
use Rattle.gn_meaning.specs.Forms.{HasForm}
use Rattle.gn_meaning.specs.There.{LeadsTo, to_the_tree, into_group, into_turn}
use Rattle.gn_meaning.proofs.Options.{some_same, then_some, map_some}
use Rattle.gn_meaning.proofs.Formed.{has_form}
use Rattle.gn_meaning.proofs.Parts.{Holds}
use Rattle.gn_meaning.proofs.Opened.{Opens, kind_name, node_of, group_opens, repeat_opens, at_way}

both : (a b : Bool) → (a && b) ≡ true → (a ≡ true) × (b ≡ true)
both true b e = (refl, e)
both false b e = absurd (cc)

member_fits : (gs : List Group) (i : ℕ) (g : Group) → list_all group_fits gs ≡ true → slice_get gs i ≡ Some g → group_fits g ≡ true
member_fits [] i g e at = cc
member_fits (x ∷ gs) zero g e at = subst (λ y. group_fits y ≡ true) (some_same at) (both (group_fits x) (list_all group_fits gs) e).0
member_fits (x ∷ gs) (suc i) g e at = member_fits gs i g (both (group_fits x) (list_all group_fits gs) e).1 at

node_at_fits : (ns : Nodes) (n : ℕ) (x : Node) → nodes_fit ns ≡ true → node_at ns n ≡ Some x → node_fits x ≡ true
node_at_fits no_nodes n x e at = cc
node_at_fits (and_node y ns) zero x e at = subst (λ z. node_fits z ≡ true) (some_same at) (both (node_fits y) (nodes_fit ns) e).0
node_at_fits (and_node y ns) (suc n) x e at = node_at_fits ns n x (both (node_fits y) (nodes_fit ns) e).1 at

record Fits (b : Body) : Type 0 where
  nodes : nodes_fit b.scope.nodes ≡ true
  groups : list_all group_fits b.scope.groups ≡ true

module _ (s : Scope) (kind : Text) (all : list_all group_fits s.groups ≡ true) where
  group_fits_in : (name : Text) (inner : Body) → option_and_then (λ i. option_map (group_body s.groups i) (slice_get s.groups i)) (first_of (group_names s.groups) name) ≡ Some inner → Fits inner
  group_fits_in name inner e =
      let i : (i : ℕ) × (first_of (group_names s.groups) name ≡ Some i) × (option_map (group_body s.groups i) (slice_get s.groups i) ≡ Some inner) = then_some (λ i. option_map (group_body s.groups i) (slice_get s.groups i)) (first_of (group_names s.groups) name) inner e in
      let g : (g : Group) × (slice_get s.groups i.0 ≡ Some g) × (group_body s.groups i.0 g ≡ inner) = map_some (group_body s.groups i.0) (slice_get s.groups i.0) inner i.2 in
      let fit : group_fits g.0 ≡ true = member_fits s.groups i.0 g.0 all g.1 in
      subst Fits g.2 (record { nodes = (both _ (nodes_fit g.0.nodes) (both _ (output_fits g.0.output) fit).0).1; groups = all })

  body_fits : (ss : List row.Setting) (set : Settings) (inner : Body) → settings_fit ss set ≡ true → body_in s kind set ≡ Some inner → Fits inner
  body_fits [] no_settings inner f e = cc
  body_fits (x ∷ ss) (and_setting (of_group name) rest) inner f e = group_fits_in name inner e
  body_fits (x ∷ ss) (and_setting y rest) inner f e = body_fits ss rest inner (both (setting_fits x y) (settings_fit ss rest) f).1 e
  body_fits (row.zone_items ∷ ss) (and_zone items nodes output rest) inner f e =
      let fit : ((list_all socket_fits items && nodes_fit nodes && output_fits output) ≡ true) × (settings_fit ss rest ≡ true) = both (list_all socket_fits items && nodes_fit nodes && output_fits output) (settings_fit ss rest) f in
      let body : ((list_all socket_fits items && nodes_fit nodes) ≡ true) × (output_fits output ≡ true) = both (list_all socket_fits items && nodes_fit nodes) (output_fits output) fit.0 in
      subst Fits (some_same e) (record { nodes = (both (list_all socket_fits items) (nodes_fit nodes) body.0).1; groups = all })
  body_fits _ _ inner f e = absurd (cc)

by_row : (kind : Text) (set : Settings) (fits : KindRow → Bool) (found : Option KindRow) → option_map_or (λ r. settings_fit (kept r.settings) set && fits r) found false ≡ true → (ss : List row.Setting) × (settings_fit ss set ≡ true)
by_row kind set fits None e = absurd (cc)
by_row kind set fits (Some r) e = (kept r.settings, (both (settings_fit (kept r.settings) set) (fits r) e).0)

node_body_fits : (s : Scope) (x : Node) (inner : Body) → list_all group_fits s.groups ≡ true → node_fits x ≡ true → body_of s x ≡ Some inner → Fits inner
node_body_fits s (node id kind set inputs) inner all f e =
    let fit : (ss : List row.Setting) × (settings_fit ss set ≡ true) = by_row kind set (λ r. inputs_fit r inputs) (row_of_kind kind) (both _ _ f).1 in
    body_fits s kind all fit.0 set inner fit.1 e

-- ---- repeats

repeat_settings : option_map_or (λ r. kept r.settings) (row_of_kind (codes "repeat")) [] ≡ row.zone_items ∷ []
unfolding row_of_kind table values functions elsewhere attributes geometry_kinds instance_kinds groups
repeat_settings = refl

by_kept : (set : Settings) (fits : KindRow → Bool) (found : Option KindRow) → option_map_or (λ r. kept r.settings) found [] ≡ row.zone_items ∷ [] → option_map_or (λ r. settings_fit (kept r.settings) set && fits r) found false ≡ true → settings_fit (row.zone_items ∷ []) set ≡ true
by_kept set fits None k e = absurd (cc)
by_kept set fits (Some r) k e = subst (λ ss. settings_fit ss set ≡ true) k (both (settings_fit (kept r.settings) set) (fits r) e).0

zone_stands : (s : Scope) (kind : Text) (set : Settings) → settings_fit (row.zone_items ∷ []) set ≡ true → body_in s kind set ≡ None → ⊥
zone_stands s kind no_settings f e = absurd (cc)
zone_stands s kind (and_setting x rest) f e = absurd (cc)
zone_stands s kind (and_zone items nodes output rest) f e = absurd (cc)

alone : (kind : Text) (o : Option Body) (own run : Run) → part_by kind o own ≡ a_node run → (o ≡ None) × (own ≡ run)
alone kind None own run e = (refl, cc)
alone kind (Some b) own run e = by_name (bytes_eq kind (codes "group")) e
  where
    by_name : (group : Bool) → (if group then a_group b own.reads else a_repeat own b) ≡ a_node run → (Some b ≡ None) × (own ≡ run)
    by_name true h = absurd (cc)
    by_name false h = absurd (cc)

module _ (t : Tree) (form : IsOfForm t) (keeps : KeepsRules t) where
  abbrev formed : HasForm t
  formed = has_form t form

  fits : {way : Way} {b : Body} → LeadsTo t way b → Fits b
  fits to_the_tree =
      let front = both _ (option_map_or input_fits t.output true) form.0 in
      let lists = both _ (nodes_fit t.nodes) front.0 in
      record { nodes = lists.1; groups = (both _ (list_all group_fits t.groups) lists.0).1 }
  fits (into_group {way} {b} {inner} n reads leads e) =
      let list : (body_at t way ≡ Some b) × Holds t b = at_way t keeps formed leads in
      let opens : (x : Node) × (node_at b.scope.nodes n ≡ Some x) × Opens t b x inner reads = group_opens t keeps formed way b list.0 n list.1 inner reads e in
      let own : Fits b = fits leads in
      node_body_fits b.scope opens.0 inner own.groups (node_at_fits b.scope.nodes n opens.0 own.nodes opens.1) opens.2.body
  fits (into_turn {way} {b} {inner} n k run leads e) =
      let list : (body_at t way ≡ Some b) × Holds t b = at_way t keeps formed leads in
      let opens = repeat_opens t keeps formed way b list.0 n list.1 run inner e in
      let own : Fits b = fits leads in
      node_body_fits b.scope opens.0 inner own.groups (node_at_fits b.scope.nodes n opens.0 own.nodes opens.1) opens.2.body

  pub no_lone_repeat : (way : Way) (b : Body) (n : ℕ) (run : Run) → LeadsTo t way b → part_at t way n ≡ Some (a_node run) → run.kind.name ≢ codes "repeat"
  no_lone_repeat way b n run leads e named =
      let list : (body_at t way ≡ Some b) × Holds t b = at_way t keeps formed leads in
      let x : (x : Node) × (node_at b.scope.nodes n ≡ Some x) × (part_in b.scope way n x ≡ a_node run) = node_of t keeps formed way b list.0 n (a_node run) e in
      by_node x.0 (node_at_fits b.scope.nodes n x.0 (fits leads).nodes x.1) x.2
    where
      by_node : (x : Node) → node_fits x ≡ true → part_in b.scope way n x ≡ a_node run → ⊥
      by_node (node id kind set inputs) f p =
          let own : Run = record { path = path_of way n; kind = kind_in b.scope (node id kind set inputs); reads = node_reads b.scope way (node id kind set inputs) } in
          let q : (body_in b.scope kind set ≡ None) × (own ≡ run) = alone kind (body_in b.scope kind set) own run p in
          let name : kind ≡ codes "repeat" = sym (kind_name b.scope id kind set inputs) ∙ (ap (λ r. r.kind.name) q.1 ∙ named) in
          zone_stands b.scope kind set
          (by_kept set (λ r. inputs_fit r inputs) (row_of_kind kind) (ap (λ k. option_map_or (λ r. kept r.settings) (row_of_kind k) []) name ∙ repeat_settings) (both _ _ f).1) q.0
