-- A tree that is of its form has its settings in nodes of their kinds.
use Rattle.std.proofs.Common.{◌≡◌, Bool, true, false, ◌&&◌, List, [], ◌∷◌, Option, Some, None, codes, refl, subst, true≢false, sym}
use Rattle.std.specs.Prelude.{bytes_eq}
use Rattle.std.specs.Option.{option_map_or}
use Rattle.std.specs.List.{list_all}
use Rattle.std.proofs.lemmas.Slice.Eq.{bytes_eq-Decides}
use Rattle.gn_kinds.specs.Row as row
use Rattle.gn_kinds.specs.Row.{Text, KindRow}
use Rattle.gn_kinds.specs.Table.{table, values, functions, elsewhere, attributes, geometry_kinds, instance_kinds, groups, row_of_kind}
use Rattle.gn_kinds.proofs.Rows.{row_passes}
use Rattle.gn_tree.specs.Trees.{Node, node, Settings, no_settings, and_setting, and_zone, Nodes, no_nodes, and_node, Group, Tree, of_group}
use Rattle.gn_tree.specs.Form.{socket_fits, inputs_fit, output_fits, setting_fits, kept, node_fits, settings_fit, nodes_fit, group_fits, input_fits, IsOfForm}
use Rattle.gn_meaning.specs.Forms.{NodeHasForm, SettingsHaveForm, NodesHaveForm, GroupsHaveForm, HasForm}

both_true : (a b : Bool) → (a && b) ≡ true → (a ≡ true) × (b ≡ true)
both_true true b e = (refl, e)
both_true false b e = absurd (cc)

-- ---- the table

-- a group is named by groups alone, and a body belongs to repeats alone
abbrev suits : Text → row.Setting → Bool
suits kind row.group_name = bytes_eq kind (codes "group")
suits kind row.zone_items = bytes_eq kind (codes "repeat")
suits kind _ = true

abbrev all_suit : Text → List row.Setting → Bool
all_suit kind ss = list_all (suits kind) ss

abbrev row_suits : KindRow → Bool
row_suits r = all_suit r.kind (kept r.settings)

table_suits : list_all (list_all row_suits) table ≡ true
unfolding table values functions elsewhere attributes geometry_kinds instance_kinds groups
table_suits = refl

settings_suit : (kind : Text) (r : KindRow) → row_of_kind kind ≡ Some r → all_suit kind (kept r.settings) ≡ true
settings_suit kind r e =
    let found = row_passes row_suits table_suits kind r e in
    subst (λ k. all_suit k (kept r.settings) ≡ true) found.0 found.1

same_name : (kind name : Text) → bytes_eq kind name ≡ true → kind ≡ name
same_name kind name e = (bytes_eq-Decides kind name).0 e

-- ---- nodes

names_group : (kind name : Text) (s : row.Setting) → suits kind s ≡ true → setting_fits s (of_group name) ≡ true → kind ≡ codes "group"
names_group kind name row.group_name f e = same_name kind (codes "group") f
names_group kind name s f e = absurd (cc)

module _ (kind : Text) (settings : Settings) (fits : KindRow → Bool) (form : (ss : List row.Setting) → all_suit kind ss ≡ true → settings_fit ss settings ≡ true → SettingsHaveForm kind settings) where
  row_form : (found : Option KindRow) → row_of_kind kind ≡ found → option_map_or (λ r. settings_fit (kept r.settings) settings && fits r) found false ≡ true → SettingsHaveForm kind settings
  row_form None e h = absurd (true≢false (sym h))
  row_form (Some r) e h = form (kept r.settings) (settings_suit kind r e) (both_true (settings_fit (kept r.settings) settings) (fits r) h).0

mutual
  node_form : (x : Node) → node_fits x ≡ true → NodeHasForm x
  node_form (node id kind settings inputs) e =
      row_form kind settings (λ r. inputs_fit r inputs) (λ ss f h. settings_form kind ss settings f h) (row_of_kind kind) refl (both_true _ _ e).1

  settings_form : (kind : Text) (ss : List row.Setting) (xs : Settings) → all_suit kind ss ≡ true → settings_fit ss xs ≡ true → SettingsHaveForm kind xs
  settings_form kind [] no_settings f e = tt
  settings_form kind (s ∷ ss) (and_setting (of_group name) rest) f e =
      let here = both_true (suits kind s) (all_suit kind ss) f in
      let fit = both_true (setting_fits s (of_group name)) (settings_fit ss rest) e in
      (names_group kind name s here.0 fit.0, settings_form kind ss rest here.1 fit.1)
  settings_form kind (s ∷ ss) (and_setting x rest) f e =
      settings_form kind ss rest (both_true (suits kind s) (all_suit kind ss) f).1 (both_true (setting_fits s x) (settings_fit ss rest) e).1
  settings_form kind (row.zone_items ∷ ss) (and_zone items nodes output rest) f e =
      let here = both_true (bytes_eq kind (codes "repeat")) (all_suit kind ss) f in
      let fit = both_true (list_all socket_fits items && nodes_fit nodes && output_fits output) (settings_fit ss rest) e in
      let body = both_true (list_all socket_fits items && nodes_fit nodes) (output_fits output) fit.0 in
      (same_name kind (codes "repeat") here.0, nodes_form nodes (both_true (list_all socket_fits items) (nodes_fit nodes) body.0).1, settings_form kind ss rest here.1 fit.1)
  settings_form kind _ _ f e = absurd (cc)

  nodes_form : (xs : Nodes) → nodes_fit xs ≡ true → NodesHaveForm xs
  nodes_form no_nodes e = tt
  nodes_form (and_node x xs) e = let fit = both_true (node_fits x) (nodes_fit xs) e in (node_form x fit.0, nodes_form xs fit.1)

-- ---- groups and trees

groups_form : (gs : List Group) → list_all group_fits gs ≡ true → GroupsHaveForm gs
groups_form [] e = tt
groups_form (g ∷ gs) e =
    let fit = both_true (group_fits g) (list_all group_fits gs) e in
    (nodes_form g.nodes (both_true _ _ (both_true _ _ fit.0).0).1, groups_form gs fit.1)

pub has_form : (t : Tree) → IsOfForm t → HasForm t
has_form t h =
    let front = both_true _ (option_map_or input_fits t.output true) h.0 in
    let lists = both_true _ (nodes_fit t.nodes) front.0 in
    (groups_form t.groups (both_true _ (list_all group_fits t.groups) lists.0).1, nodes_form t.nodes lists.1)
