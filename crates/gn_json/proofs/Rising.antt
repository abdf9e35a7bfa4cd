-- Where the keys of each object of a value rise, so do the names in the tree that the value is.
use Rattle.std.proofs.Common.{◌≡◌, ℕ, Bool, true, false, List, [], ◌∷◌, Option, Some, None, All, map, codes, bytes_eq, option_and_then, subst, sym, ◌∙◌, if◌then◌else◌}
use Rattle.std.specs.Option.{option_map_or}
use Rattle.std.specs.List.{list_any}
use Rattle.std.specs.declared.cmp.Ordering.{Ordering}
use Rattle.std.specs.declared.cmp.Ordering.TheVariants.{Less, Equal, Greater}
use Rattle.std.specs.Ordering.{nat_cmp, match_ordering}
use Rattle.std.specs.Cmp.Lexicographic.{slice_cmp}
use Rattle.std.specs.List.{AllByRecursion}
use Rattle.std.specs.List.Sorted.{IsStrictlySortedBy}
use Rattle.std.proofs.lemmas.List.Elements.{All-nil, All-cons}
use Rattle.serde_json.specs.Data.{Data, null, boolean, number, string, array, object, Items, no_items, item, Members, no_members, member}
use Rattle.serde_json.specs.Find.{get, get_member, as_array, as_object}
use Rattle.gn_kinds.specs.Row as row
use Rattle.gn_kinds.specs.Row.{Text}
use Rattle.gn_form.specs.Order.{Precedes, InOrder, ItemsInOrder, MembersInOrder}
use Rattle.gn_tree.specs.Trees.{Node, Settings, Setting, Tree}
use Rattle.gn_tree.specs.Seen.{nodes_of}
use Rattle.gn_tree.specs.Rising.{NamesRise, NamesRiseAt, NamesRiseInSettings, NamesRiseInNodes, NamesRiseInGroup, NamesRiseInTree}
use Rattle.gn_json.specs.Answers.{FirstMisfit}
use Rattle.gn_json.specs.Exact.{is_zone, tree_from}
use Rattle.gn_json.specs.Typed.{inputs_in, inputs_at, setting_in, then_setting, settings_before, zone_if, settings_in, settings_of_kind, node_in, settings_among, settings_under, nodes_among, nodes_under, nodes_in, nodes_at, group_in, groups_in, tree_in}
use Rattle.gn_json.proofs.Clean.{same_some}
use Rattle.gn_json.proofs.Whole.{tree_is_whole}
use Rattle.gn_json.proofs.Top.{json_in_order}

-- P of what an option has
abbrev If : {A : Type 0} → (A → Type 0) → Option A → Type 0
If P None = Unit {0}
If P (Some a) = P a

-- ---- the members of an object, and what is found in it

name_precedes : (k : Text) (ms : Members) → Precedes k ms → AllByRecursion (λ l. slice_cmp nat_cmp k l ≡ Less) (map (λ x. x.name) (inputs_in ms))
name_precedes k no_members h = tt
name_precedes k (member l d ms) h = (h.0, name_precedes k ms h.1)

names_rise : (ms : Members) → MembersInOrder ms → NamesRise (inputs_in ms)
unfolding IsStrictlySortedBy
names_rise no_members h = tt
names_rise (member k d ms) h = (name_precedes k ms h.0, names_rise ms h.2)

found_at : (o : Ordering) (found : Option Data) (d : Data) → If InOrder found → InOrder d → If InOrder (match_ordering o found (Some d) found)
found_at Less found d h i = h
found_at Equal found d h i = i
found_at Greater found d h i = h

member_in_order : (k : Text) (ms : Members) → MembersInOrder ms → If InOrder (get_member k ms)
member_in_order k no_members h = tt
member_in_order k (member l d ms) h = found_at (slice_cmp nat_cmp k l) (get_member k ms) d (member_in_order k ms h.2) h.1

get_in_order : (k : Text) (d : Data) → InOrder d → If InOrder (get k d)
get_in_order k null h = tt
get_in_order k (boolean b) h = tt
get_in_order k (number n) h = tt
get_in_order k (string s) h = tt
get_in_order k (array ds) h = tt
get_in_order k (object ms) h = member_in_order k ms h

rise_in_found : (found : Option Data) → If InOrder found → NamesRise (option_map_or inputs_in (option_and_then as_object found) [])
unfolding IsStrictlySortedBy
rise_in_found None h = tt
rise_in_found (Some null) h = tt
rise_in_found (Some (boolean b)) h = tt
rise_in_found (Some (number n)) h = tt
rise_in_found (Some (string s)) h = tt
rise_in_found (Some (array ds)) h = tt
rise_in_found (Some (object ms)) h = names_rise ms h

names_rise_under : (k : Text) (d : Data) → InOrder d → NamesRise (inputs_at k d)
names_rise_under k d h = rise_in_found (get k d) (get_in_order k d h)

-- ---- settings

rise_with_setting : (x : Option Setting) (rest : Settings) → NamesRiseInSettings rest → NamesRiseInSettings (then_setting x rest)
rise_with_setting None rest h = h
rise_with_setting (Some x) rest h = h

rise_in_settings_before : (rest : Settings) (ss : List row.Setting) (d : Data) → NamesRiseInSettings rest → NamesRiseInSettings (settings_before rest ss d)
rise_in_settings_before rest [] d h = h
rise_in_settings_before rest (s ∷ ss) d h = rise_with_setting (setting_in s d) (settings_before rest ss d) (rise_in_settings_before rest ss d h)

rise_in_zone : (b : Bool) (d : Data) (nodes : List Node) → InOrder d → NamesRiseInNodes (nodes_of nodes) → NamesRiseInSettings (zone_if b d nodes)
rise_in_zone false d nodes h i = tt
rise_in_zone true d nodes h i = (i, names_rise_under (codes "output") d h, tt)

rise_in_settings_in : (ss : List row.Setting) (d : Data) (nodes : List Node) → InOrder d → NamesRiseInNodes (nodes_of nodes) → NamesRiseInSettings (settings_in ss d nodes)
rise_in_settings_in ss d nodes h i = rise_in_settings_before (zone_if (list_any is_zone ss) d nodes) ss d (rise_in_zone (list_any is_zone ss) d nodes h i)

-- ---- nodes

settings_if : (b : Bool) (xs ys : Settings) → NamesRiseInSettings xs → NamesRiseInSettings ys → NamesRiseInSettings (if b then xs else ys)
settings_if true xs ys h i = h
settings_if false xs ys h i = i

nodes_if : (b : Bool) (xs ys : List Node) → NamesRiseInNodes (nodes_of xs) → NamesRiseInNodes (nodes_of ys) → NamesRiseInNodes (nodes_of (if b then xs else ys))
nodes_if true xs ys h i = h
nodes_if false xs ys h i = i

no_names_rise : NamesRise []
unfolding IsStrictlySortedBy
no_names_rise = tt

mutual
  rise_at_node : (d : Data) → InOrder d → NamesRiseAt (node_in d)
  rise_at_node (object ms) h = (names_rise_under (codes "in") (object ms) h, rise_among (settings_of_kind (object ms)) ms h)
  rise_at_node null h = (no_names_rise, tt)
  rise_at_node (boolean b) h = (no_names_rise, tt)
  rise_at_node (number n) h = (no_names_rise, tt)
  rise_at_node (string s) h = (no_names_rise, tt)
  rise_at_node (array ds) h = (no_names_rise, tt)

  rise_among : (ss : List row.Setting) (ms : Members) → MembersInOrder ms → NamesRiseInSettings (settings_among ss ms)
  rise_among ss no_members h = tt
  rise_among ss (member k d ms) h = settings_if (bytes_eq (codes "set") k) (settings_under ss d) (settings_among ss ms) (rise_under ss d h.1) (rise_among ss ms h.2)

  rise_under : (ss : List row.Setting) (d : Data) → InOrder d → NamesRiseInSettings (settings_under ss d)
  rise_under ss (object ms) h = rise_in_settings_in ss (object ms) (nodes_among ms) h (rise_in_nodes_among ms h)
  rise_under ss null h = tt
  rise_under ss (boolean b) h = tt
  rise_under ss (number n) h = tt
  rise_under ss (string s) h = tt
  rise_under ss (array ds) h = tt

  rise_in_nodes_among : (ms : Members) → MembersInOrder ms → NamesRiseInNodes (nodes_of (nodes_among ms))
  rise_in_nodes_among no_members h = tt
  rise_in_nodes_among (member k d ms) h = nodes_if (bytes_eq (codes "nodes") k) (nodes_under d) (nodes_among ms) (rise_in_nodes_under d h.1) (rise_in_nodes_among ms h.2)

  rise_in_nodes_under : (d : Data) → InOrder d → NamesRiseInNodes (nodes_of (nodes_under d))
  rise_in_nodes_under (array ds) h = rise_in_nodes ds h
  rise_in_nodes_under null h = tt
  rise_in_nodes_under (boolean b) h = tt
  rise_in_nodes_under (number n) h = tt
  rise_in_nodes_under (string s) h = tt
  rise_in_nodes_under (object ms) h = tt

  rise_in_nodes : (ds : Items) → ItemsInOrder ds → NamesRiseInNodes (nodes_of (nodes_in ds))
  rise_in_nodes no_items h = tt
  rise_in_nodes (item d ds) h = (rise_at_node d h.0, rise_in_nodes ds h.1)

rise_in_nodes_at : (d : Data) → InOrder d → NamesRiseInNodes (nodes_of (nodes_at d))
rise_in_nodes_at null h = tt
rise_in_nodes_at (boolean b) h = tt
rise_in_nodes_at (number n) h = tt
rise_in_nodes_at (string s) h = tt
rise_in_nodes_at (array ds) h = tt
rise_in_nodes_at (object ms) h = rise_in_nodes_among ms h

-- ---- groups and trees

rise_in_group : (d : Data) → InOrder d → NamesRiseInGroup (group_in d)
rise_in_group d h = (rise_in_nodes_at d h, names_rise_under (codes "output") d h)

rise_in_groups : (ds : Items) → ItemsInOrder ds → All NamesRiseInGroup (groups_in ds)
rise_in_groups no_items h = All-nil NamesRiseInGroup
rise_in_groups (item d ds) h = All-cons NamesRiseInGroup (group_in d) (groups_in ds) (rise_in_group d h.0) (rise_in_groups ds h.1)

rise_in_groups_found : (found : Option Data) → If InOrder found → All NamesRiseInGroup (option_map_or groups_in (option_and_then as_array found) [])
rise_in_groups_found None h = All-nil NamesRiseInGroup
rise_in_groups_found (Some null) h = All-nil NamesRiseInGroup
rise_in_groups_found (Some (boolean b)) h = All-nil NamesRiseInGroup
rise_in_groups_found (Some (number n)) h = All-nil NamesRiseInGroup
rise_in_groups_found (Some (string s)) h = All-nil NamesRiseInGroup
rise_in_groups_found (Some (array ds)) h = rise_in_groups ds h
rise_in_groups_found (Some (object ms)) h = All-nil NamesRiseInGroup

rise_in_tree : (d : Data) → InOrder d → NamesRiseInTree (tree_in d)
rise_in_tree d h = (rise_in_groups_found (get (codes "groups") d) (get_in_order (codes "groups") d h), rise_in_nodes_at d h)

-- ---- what is read of bytes

-- the tree that the bytes are is the one that is made of the value
pub made_of : (bytes : List ℕ) (d : Data) (t : Tree) → FirstMisfit bytes d None → tree_from d ≡ Some t → tree_in d ≡ t
made_of bytes d t h e = same_some (tree_in d) t (sym (tree_is_whole d (json_in_order bytes d h.0) h.1) ∙ e)

pub names_rise_in : (bytes : List ℕ) (d : Data) (t : Tree) → FirstMisfit bytes d None → tree_from d ≡ Some t → NamesRiseInTree t
names_rise_in bytes d t h e = subst NamesRiseInTree (made_of bytes d t h e) (rise_in_tree d (json_in_order bytes d h.0))
