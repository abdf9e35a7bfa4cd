-- The forms of a tree in JSON: what a value must be, and what its parts must be.
use Rattle.std.specs.Prelude.{◌≡◌, ℕ, suc, Bool, true, false, not, ◌&&◌, ◌||◌, List, [], ◌∷◌, codes, Option, Some, None, option_and_then, option_map, is_some, find, map, bytes_eq, if◌then◌else◌}
use Rattle.std.specs.Option.{option_map_or}
use Rattle.std.specs.List.{list_all, list_any}
use Rattle.serde_json.specs.Data.{Data, array, object, Items, no_items, item, Members, no_members, member}
use Rattle.serde_json.specs.Find.{get, as_str, as_array, as_object}
use Rattle.gn_kinds.specs.Row.{Text, Setting, type_in, op_in, place_in, a_clamp, a_name, a_file, value_of, group_name, zone_items, zone_nodes, zone_output, has_input, KindRow}
use Rattle.gn_kinds.specs.Table.{any_kind, row_of_kind}
use Rattle.gn_pointers.specs.Pointers.{Step, index, key, IsBadAt, Pointer as At}
use Rattle.gn_kinds.specs.Text.{is_id}
use Rattle.gn_atom.specs.Atom.{Atom, the_format, an_id, a_node_kind, a_truth, a_column_name, a_file_name, a_kind_in, a_word_of, a_place_in, a_constant_as, is_atom}
use Rattle.gn_atom.specs.Constant.{constant_in, three_numbers}

-- what a value must be
pub data Form : Type 0 where
  a_tree a_group a_socket a_node a_link an_input : Form
  an_atom : Atom → Form
  groups sockets nodes : Form
  -- an object from ids to inputs
  outputs : Form
  -- the inputs and the settings of a kind, and where a node's kind is none
  inputs_of settings_of : KindRow → Form
  any_inputs any_object : Form

-- a key of an object: what stands under it, and whether it must be there
pub record Key : Type 0 where
  pub name : Text
  pub needed : Bool
  pub form : Form

abbrev pub needs : Text → Form → Key
needs name form = record { name = name; needed = true; form = form }

abbrev pub may_have : Text → Form → Key
may_have name form = record { name = name; needed = false; form = form }

abbrev pub setting_key : Setting → Key
setting_key (type_in kinds) = needs (codes "type") (an_atom (a_kind_in kinds))
setting_key (op_in names) = needs (codes "op") (an_atom (a_word_of names))
setting_key (place_in places) = needs (codes "place") (an_atom (a_place_in places))
setting_key a_clamp = needs (codes "clamp") (an_atom a_truth)
setting_key a_name = needs (codes "name") (an_atom a_column_name)
setting_key a_file = needs (codes "file") (an_atom a_file_name)
setting_key (value_of kind) = needs (codes "value") (an_atom (a_constant_as kind))
setting_key group_name = needs (codes "group") (an_atom an_id)
setting_key zone_items = needs (codes "items") sockets
setting_key zone_nodes = needs (codes "nodes") nodes
setting_key zone_output = may_have (codes "output") outputs

-- the row of a node's kind
abbrev pub row_in_node : Data → Option KindRow
row_in_node d = option_and_then row_of_kind (option_and_then as_str (get (codes "kind") d))

-- where a required setting is in no `set`, it is a key that is missing in the node
abbrev pub node_keys : Option KindRow → List Key
node_keys None = needs (codes "id") (an_atom an_id) ∷ may_have (codes "in") any_inputs ∷ needs (codes "kind") (an_atom a_node_kind) ∷ may_have (codes "set") any_object ∷ []
node_keys (Some row) =
    needs (codes "id") (an_atom an_id) ∷ may_have (codes "in") (inputs_of row) ∷ needs (codes "kind") (an_atom a_node_kind) ∷
    record { name = codes "set"; needed = list_any (λ s. (setting_key s).needed) row.settings; form = settings_of row } ∷ []

-- the keys of an object; of a node's they go by its row
abbrev pub keys_of : Form → Option KindRow → List Key
keys_of a_tree row = needs (codes "format") (an_atom the_format) ∷ may_have (codes "groups") groups ∷ needs (codes "nodes") nodes ∷ may_have (codes "output") an_input ∷ []
keys_of a_group row = needs (codes "inputs") sockets ∷ needs (codes "name") (an_atom an_id) ∷ needs (codes "nodes") nodes ∷ may_have (codes "output") outputs ∷ needs (codes "outputs") sockets ∷ []
keys_of a_socket row = needs (codes "kind") (an_atom (a_kind_in any_kind)) ∷ needs (codes "name") (an_atom an_id) ∷ []
keys_of a_link row = needs (codes "from") (an_atom an_id) ∷ needs (codes "socket") (an_atom an_id) ∷ []
keys_of an_input row = needs (codes "from") (an_atom an_id) ∷ needs (codes "socket") (an_atom an_id) ∷ []
keys_of a_node row = node_keys row
keys_of (settings_of kind) row = map setting_key kind.settings
keys_of _ row = []

abbrev pub named : List Key → Text → Option Key
named keys k = find (λ key. bytes_eq key.name k) keys

-- what stands under a key
abbrev pub member_form : Form → Option KindRow → Text → Option Form
member_form outputs row k = Some an_input
member_form any_inputs row k = Some an_input
member_form (inputs_of kind) row k = Some an_input
member_form form row k = option_map (λ key. key.form) (named (keys_of form row) k)

-- ---- is a value of its form? what stands in an array or an object is looked at by itself

abbrev pub is_object : Data → Bool
is_object d = is_some (as_object d)

abbrev pub has_object : Items → Bool
has_object no_items = false
has_object (item d ds) = is_object d || has_object ds

-- an array with an object in it has links, and so has the empty one
abbrev pub are_links : Items → Bool
are_links no_items = true
are_links (item d ds) = has_object (item d ds)

abbrev pub all_keys : (Text → Bool) → Members → Bool
all_keys good no_members = true
all_keys good (member k d ms) = good k && all_keys good ms

-- no key is unknown
abbrev pub is_known : Form → Option KindRow → Data → Bool
is_known form row d = option_map_or (all_keys (λ k. is_some (member_form form row k))) (as_object d) false

-- each key that is needed is there
abbrev pub are_there : List Key → Data → Bool
are_there keys d = list_all (λ key. not key.needed || is_some (get key.name d)) keys

abbrev pub has_keys : Form → Option KindRow → Data → Bool
has_keys form row d = is_known form row d && are_there (keys_of form row) d

-- a constant, a link or an array of links
abbrev pub is_input : Data → Bool
is_input (array ds) = are_links ds || is_some (three_numbers ds)
is_input (object ms) = has_keys a_link None (object ms)
is_input d = is_some (constant_in d)

abbrev pub fits : Form → Data → Bool
fits (an_atom atom) d = is_atom atom d
fits groups d = is_some (as_array d)
fits sockets d = is_some (as_array d)
fits nodes d = is_some (as_array d)
fits outputs d = option_map_or (all_keys is_id) (as_object d) false
fits any_inputs d = is_object d
fits any_object d = is_object d
fits (inputs_of kind) d = option_map_or (λ ms. kind.open_ended || all_keys (has_input kind.inputs) ms) (as_object d) false
fits an_input d = is_input d
fits form d = has_keys form (row_in_node d) d

-- ---- the parts of a value that must have forms

-- a value with the form that it must have
abbrev pub Asked : Type 0
Asked = Form × Data

abbrev pub numbered : Form → ℕ → Items → List (Step × Asked)
numbered form i no_items = []
numbered form i (item d ds) = (index i, (form, d)) ∷ numbered form (suc i) ds

abbrev pub under_key : Text → Data → Option Form → List (Step × Asked) → List (Step × Asked)
under_key k d None rest = rest
under_key k d (Some form) rest = (key k, (form, d)) ∷ rest

abbrev pub members_asked : (Text → Option Form) → Members → List (Step × Asked)
members_asked form no_members = []
members_asked form (member k d ms) = under_key k d (form k) (members_asked form ms)

abbrev pub item_form : Form → Items → Option Form
item_form groups ds = Some a_group
item_form sockets ds = Some a_socket
item_form nodes ds = Some a_node
item_form an_input ds = if are_links ds then Some a_link else None
item_form _ ds = None

abbrev pub numbered_if : Option Form → Items → List (Step × Asked)
numbered_if None ds = []
numbered_if (Some form) ds = numbered form 0 ds

abbrev pub parts_of : Form → Data → List (Step × Asked)
parts_of form (array ds) = numbered_if (item_form form ds) ds
parts_of form (object ms) = members_asked (member_form form (row_in_node (object ms))) ms
parts_of form _ = []

abbrev pub parts : Asked → List (Step × Asked)
parts (form, d) = parts_of form d

abbrev pub IsMisfit : Asked → Type 0
IsMisfit (form, d) = fits form d ≡ false

-- the value at that pointer of a tree is not of its form
abbrev pub BreaksForm : Data → At → Type 0
BreaksForm d = IsBadAt parts IsMisfit (a_tree, d)
