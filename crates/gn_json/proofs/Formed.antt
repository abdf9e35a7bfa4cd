-- What is made of a value with no misfit is a tree of its form.
use Rattle.std.proofs.Common.{◌≡◌, ℕ, ℤ, suc, ◌==◌, Bool, true, false, ◌&&◌, ◌||◌, List, [], ◌∷◌, Option, Some, None, Result, Ok, Err, IfOk, codes, map, option_map, option_and_then, is_some, bytes_eq, cond, refl, sym, ap, ◌∙◌, subst, true≢false, eqb-true, if◌then◌else◌}
use Rattle.std.specs.Prelude.{pos, negsuc, int_le}
use Rattle.std.specs.Option.{option_map_or}
use Rattle.std.specs.List.{list_any, list_all}
use Rattle.std.proofs.lemmas.Bool.{and_from}
use Rattle.serde_json.specs.Data.{Data, null, boolean, number, string, array, object, Items, no_items, item, Members, no_members, member}
use Rattle.serde_json.specs.Find.{get, as_bool, as_array, as_object, as_number, as_u64, as_i64}
use Rattle.gn_value.specs.declared.value.Value.{Value}
use Rattle.gn_value.specs.declared.value.Value.TheVariants.{Truth as truth, Int as int, Fixed as fixed, Vector as vector}
use Rattle.gn_value.specs.Values.{fx, v3}
use Rattle.gn_value.specs.declared.value.ValueKind.{ValueKind}
use Rattle.gn_value.specs.declared.value.ValueKind.TheVariants as a
use Rattle.gn_value.specs.declared.value.Place.{Place}
use Rattle.gn_value.specs.declared.value.Place.TheVariants.{Point}
use Rattle.gn_kinds.specs.declared.row.SocketKind.{SocketKind}
use Rattle.gn_kinds.specs.declared.row.SocketKind.TheVariants.{Truth}
use Rattle.gn_kinds.specs.Names.{kind_name, kind_named, place_name, place_named}
use Rattle.gn_kinds.specs.Row as row
use Rattle.gn_kinds.specs.Row.{Text, KindRow, has_input}
use Rattle.gn_kinds.specs.Table.{row_of_kind}
use Rattle.gn_kinds.specs.Text.{is_id, is_column_name, is_file_name, is_word}
use Rattle.gn_pointers.specs.Pointers.{index, key}
use Rattle.gn_atom.specs.Constant.{constant_as, three_numbers, number_in, int_of}
use Rattle.gn_atom.specs.Atom as atom
use Rattle.gn_form.specs.Form as form
use Rattle.gn_form.specs.Form.{Form, Key, needs, may_have, named, all_keys, is_known, are_links, keys_of, node_keys, setting_key, row_in_node, BreaksForm}
use Rattle.gn_form.specs.Walk.{if_asked, first_in, first_item, first_member}
use Rattle.gn_form.proofs.Exact.{tree_is_first}
use Rattle.gn_tree.specs.Trees.{links, constant, Named, Settings, no_settings, Tree}
use Rattle.gn_tree.specs.Form.{socket_fits, link_fits, input_fits, inputs_fit, output_fits, is_of_kind, stands_with_items, kept, node_fits, settings_fit, nodes_fit, group_fits, tree_fits, IsOfForm}
use Rattle.gn_tree.specs.Seen.{nodes_of, tree_of}
use Rattle.gn_tree.specs.declared.tree.Tree as rust
use Rattle.gn_json.specs.Answers.{FirstMisfit, Answers}
use Rattle.gn_json.specs.declared.fault.JsonFault.{JsonFault}
use Rattle.gn_json.specs.Typed.{text_at, link_in, links_in, constant_or_false, input_in, inputs_in, inputs_at, kind_at, socket_in, sockets_in, sockets_at, place_at, value_at, setting_in, then_setting, settings_before, zone_if, settings_in, node_in, settings_among, settings_under, nodes_among, nodes_under, nodes_in, group_in, groups_in, in_32_bits, format_in, tree_in}
use Rattle.gn_json.specs.Exact.{is_zone, is_needed, tree_from}
use Rattle.gn_json.proofs.Clean.{both_left, both_right, some_or, same_some, same_bytes, IsClean, none_joined, fit, items_clean, members_clean, none_first, asked_clean, IsCleanUnder, IsThere, there_later, HasKeys, has_keys_if, clean_under, there_in}
use Rattle.gn_json.proofs.Rows.{NamesEach, AreWhole, row_whole, zone_is_last}
use Rattle.gn_json.proofs.Whole.{good_under, Names, there_as, clean_as, no_row, kind_in_node, set_needed, forms_of}
use Rattle.gn_json.proofs.Top.{json_in_order}
use Rattle.gn_json.proofs.Rising.{made_of, names_rise_in}

-- ---- tests

all_four : (a b c d : Bool) → a ≡ true → b ≡ true → c ≡ true → d ≡ true → (a && b && c && d) ≡ true
all_four a b c d e f g h = rw (e, f, g, h) refl

all_five : (a b c d x : Bool) → a ≡ true → b ≡ true → c ≡ true → d ≡ true → x ≡ true → (a && b && c && d && x) ≡ true
all_five a b c d x e f g h i = rw (e, f, g, h, i) refl

-- ---- ids, links and inputs

id_fits : (k : Text) (d : Data) → IsThere k d → IsCleanUnder (form.an_atom atom.an_id) k d → is_id (text_at k d) ≡ true
id_fits k d t c = (good_under is_id k d t (λ e m. fit (form.an_atom atom.an_id) e (c e m))).1

-- the id under a key that must be there
id_at : (keys : List Key) (ms : Members) (k : Text) → HasKeys keys ms → named keys k ≡ Some (needs k (form.an_atom atom.an_id)) → is_id (text_at k (object ms)) ≡ true
id_at keys ms k h n = id_fits k (object ms) (there_in keys ms k (needs k (form.an_atom atom.an_id)) h n refl) (clean_under keys ms k (needs k (form.an_atom atom.an_id)) h n)

link_of_fits : (keys : List Key) (ms : Members) → HasKeys keys ms → named keys (codes "from") ≡ Some (needs (codes "from") (form.an_atom atom.an_id)) → named keys (codes "socket") ≡ Some (needs (codes "socket") (form.an_atom atom.an_id))
    → link_fits (link_in (object ms)) ≡ true
link_of_fits keys ms h from socket =
    let d = object ms in
    and_from (is_id (text_at (codes "from") d)) (is_id (text_at (codes "socket") d)) (id_at keys ms (codes "from") h from) (id_at keys ms (codes "socket") h socket)

link_in_fits : (d : Data) → IsClean form.a_link d → link_fits (link_in d) ≡ true
link_in_fits null e = absurd (cc)
link_in_fits (boolean b) e = absurd (cc)
link_in_fits (number n) e = absurd (cc)
link_in_fits (string s) e = absurd (cc)
link_in_fits (array ds) e = absurd (cc)
link_in_fits (object ms) e =
    let row = row_in_node (object ms) in
    let keys = keys_of form.a_link row in
    link_of_fits keys ms (has_keys_if (is_known form.a_link row (object ms)) keys ms e) refl refl

links_in_fit : (i : ℕ) (ds : Items) → first_item form.a_link i ds ≡ None → list_all link_fits (links_in ds) ≡ true
links_in_fit i no_items e = refl
links_in_fit i (item d ds) e =
    let none = none_joined (index i) (first_in form.a_link d) (first_item form.a_link (suc i) ds) e in
    and_from (link_fits (link_in d)) (list_all link_fits (links_in ds)) (link_in_fits d none.0) (links_in_fit (suc i) ds none.1)

array_fits : (b : Bool) (ds : Items) → if_asked (if b then Some form.a_link else None) (λ g. first_item g 0 ds) ≡ None
    → input_fits (if b then links (links_in ds) else constant (constant_or_false (three_numbers ds))) ≡ true
array_fits true ds e = links_in_fit 0 ds e
array_fits false ds e = refl

input_in_fits : (d : Data) → IsClean form.an_input d → input_fits (input_in d) ≡ true
input_in_fits null e = refl
input_in_fits (boolean b) e = refl
input_in_fits (number n) e = refl
input_in_fits (string s) e = refl
input_in_fits (array ds) e = array_fits (are_links ds) ds (items_clean form.an_input ds e)
input_in_fits (object ms) e =
    let keys = keys_of form.an_input None in
    link_of_fits keys ms (has_keys_if (is_known form.a_link None (object ms)) keys ms e) refl refl

-- inputs under names that are good
inputs_in_fit : (good : Text → Bool) (ms : Members) → all_keys good ms ≡ true → first_member (λ k. Some form.an_input) ms ≡ None → list_all (λ x. good x.name && input_fits x.input) (inputs_in ms) ≡ true
inputs_in_fit good no_members g e = refl
inputs_in_fit good (member k d ms) g e =
    let none = none_joined (key k) (first_in form.an_input d) (first_member (λ k. Some form.an_input) ms) e in
    and_from (good k && input_fits (input_in d)) (list_all (λ x. good x.name && input_fits x.input) (inputs_in ms))
    (and_from (good k) (input_fits (input_in d)) (both_left (good k) (all_keys good ms) g) (input_in_fits d none.0))
    (inputs_in_fit good ms (both_right (good k) (all_keys good ms) g) none.1)

open_or : (b : Bool) (good : Text → Bool) (ms : Members) → (b || all_keys good ms) ≡ true → all_keys (λ k. b || good k) ms ≡ true
open_or false good ms e = e
open_or true good no_members e = refl
open_or true good (member k d ms) e = open_or true good ms e

output_in_fits : (d : Data) → IsClean form.outputs d → output_fits (option_map_or inputs_in (as_object d) []) ≡ true
output_in_fits null e = refl
output_in_fits (boolean b) e = refl
output_in_fits (number n) e = refl
output_in_fits (string s) e = refl
output_in_fits (array ds) e = refl
output_in_fits (object ms) e = inputs_in_fit is_id ms (fit form.outputs (object ms) e) (members_clean form.outputs ms e)

inputs_of_fit : (row : KindRow) (d : Data) → IsClean (form.inputs_of row) d → inputs_fit row (option_map_or inputs_in (as_object d) []) ≡ true
inputs_of_fit row null e = refl
inputs_of_fit row (boolean b) e = refl
inputs_of_fit row (number n) e = refl
inputs_of_fit row (string s) e = refl
inputs_of_fit row (array ds) e = refl
inputs_of_fit row (object ms) e =
    inputs_in_fit (λ k. row.open_ended || has_input row.inputs k) ms (open_or row.open_ended (has_input row.inputs) ms (fit (form.inputs_of row) (object ms) e)) (members_clean (form.inputs_of row) ms e)

-- a test of the inputs under a key, which none pass where the key is missing
under_fit : (test : List Named → Bool) (found : Option Data) → test [] ≡ true → ((d : Data) → found ≡ Some d → test (option_map_or inputs_in (as_object d) []) ≡ true)
    → test (option_map_or inputs_in (option_and_then as_object found) []) ≡ true
under_fit test None none f = none
under_fit test (Some d) none f = f d refl

output_at_fits : (k : Text) (d : Data) → IsCleanUnder form.outputs k d → output_fits (inputs_at k d) ≡ true
output_at_fits k d c = under_fit output_fits (get k d) refl (λ e m. output_in_fits e (c e m))

inputs_at_fit : (row : KindRow) (k : Text) (d : Data) → IsCleanUnder (form.inputs_of row) k d → inputs_fit row (inputs_at k d) ≡ true
inputs_at_fit row k d c = under_fit (inputs_fit row) (get k d) refl (λ e m. inputs_of_fit row e (c e m))

-- ---- sockets

socket_in_fits : (d : Data) → IsClean form.a_socket d → socket_fits (socket_in d) ≡ true
socket_in_fits null e = absurd (cc)
socket_in_fits (boolean b) e = absurd (cc)
socket_in_fits (number n) e = absurd (cc)
socket_in_fits (string s) e = absurd (cc)
socket_in_fits (array ds) e = absurd (cc)
socket_in_fits (object ms) e =
    let row = row_in_node (object ms) in
    let keys = keys_of form.a_socket row in
    id_at keys ms (codes "name") (has_keys_if (is_known form.a_socket row (object ms)) keys ms e) refl

sockets_in_fit : (i : ℕ) (ds : Items) → first_item form.a_socket i ds ≡ None → list_all socket_fits (sockets_in ds) ≡ true
sockets_in_fit i no_items e = refl
sockets_in_fit i (item d ds) e =
    let none = none_joined (index i) (first_in form.a_socket d) (first_item form.a_socket (suc i) ds) e in
    and_from (socket_fits (socket_in d)) (list_all socket_fits (sockets_in ds)) (socket_in_fits d none.0) (sockets_in_fit (suc i) ds none.1)

sockets_found_fit : (found : Option Data) → ((d : Data) → found ≡ Some d → IsClean form.sockets d) → list_all socket_fits (option_map_or sockets_in (option_and_then as_array found) []) ≡ true
sockets_found_fit None f = refl
sockets_found_fit (Some null) f = refl
sockets_found_fit (Some (boolean b)) f = refl
sockets_found_fit (Some (number n)) f = refl
sockets_found_fit (Some (string s)) f = refl
sockets_found_fit (Some (array ds)) f = sockets_in_fit 0 ds (items_clean form.sockets ds (f (array ds) refl))
sockets_found_fit (Some (object ms)) f = refl

sockets_at_fit : (k : Text) (d : Data) → IsCleanUnder form.sockets k d → list_all socket_fits (sockets_at k d) ≡ true
sockets_at_fit k d c = sockets_found_fit (get k d) c

-- ---- kinds, places and constants

-- what is found by its name is found by it again
module _ {A : Type 0} (name_of : A → Text) (name : Text) where
  found_again : (b : Bool) (x y : A) (rest : Option A) → bytes_eq (name_of x) name ≡ b → (rest ≡ Some y → name_of y ≡ name) → cond b (Some x) rest ≡ Some y → name_of y ≡ name
  found_again true x y rest same more e = ap name_of (sym (same_some x y e)) ∙ same_bytes (name_of x) name same
  found_again false x y rest same more e = more e

kind_has_name : (kinds : List SocketKind) (name : Text) (k : SocketKind) → kind_named kinds name ≡ Some k → kind_name k ≡ name
kind_has_name [] name k e = absurd (cc)
kind_has_name (x ∷ xs) name k e = found_again kind_name name (bytes_eq (kind_name x) name) x k (kind_named xs name) refl (kind_has_name xs name k) e

place_has_name : (places : List Place) (name : Text) (p : Place) → place_named places name ≡ Some p → place_name p ≡ name
place_has_name [] name p e = absurd (cc)
place_has_name (x ∷ xs) name p e = found_again place_name name (bytes_eq (place_name x) name) x p (place_named xs name) refl (place_has_name xs name p) e

kind_at_fits : (kinds : List SocketKind) (k : Text) (d : Data) → IsThere k d → IsCleanUnder (form.an_atom (atom.a_kind_in kinds)) k d → is_some (kind_named kinds (kind_name (kind_at kinds k d))) ≡ true
kind_at_fits kinds k d t c =
    let good = (good_under (λ n. is_some (kind_named kinds n)) k d t (λ e m. fit (form.an_atom (atom.a_kind_in kinds)) e (c e m))).1 in
    ap (λ n. is_some (kind_named kinds n)) (kind_has_name kinds (text_at k d) (kind_at kinds k d) (some_or (kind_named kinds (text_at k d)) Truth good)) ∙ good

place_at_fits : (places : List Place) (k : Text) (d : Data) → IsThere k d → IsCleanUnder (form.an_atom (atom.a_place_in places)) k d → is_some (place_named places (place_name (place_at places k d))) ≡ true
place_at_fits places k d t c =
    let good = (good_under (λ n. is_some (place_named places n)) k d t (λ e m. fit (form.an_atom (atom.a_place_in places)) e (c e m))).1 in
    ap (λ n. is_some (place_named places n)) (place_has_name places (text_at k d) (place_at places k d) (some_or (place_named places (text_at k d)) Point good)) ∙ good

-- each constant of a kind that is found is of that kind
abbrev AreOf : ValueKind → Option Value → Type 0
AreOf kind found = option_map_or (is_of_kind kind) found true ≡ true

truths_are : (o : Option Bool) → AreOf a.Truth (option_map truth o)
truths_are None = refl
truths_are (Some b) = refl

int_if : (b : Bool) (z : ℤ) → AreOf a.Int (if b then Some (int z) else None)
int_if true z = refl
int_if false z = refl

ints_are : (o : Option ℤ) → AreOf a.Int (option_and_then int_of o)
ints_are None = refl
ints_are (Some z) = int_if (int_le (negsuc 2147483647) z && int_le z (pos 2147483647)) z

fixed_are : (o : Option ℤ) → AreOf a.Fixed (option_map (λ n. fixed (fx n)) o)
fixed_are None = refl
fixed_are (Some n) = refl

vector_of : (o p q : Option ℤ) → AreOf a.Vector (option_and_then (λ a. option_and_then (λ b. option_map (λ c. vector (v3 a b c)) q) p) o)
vector_of None p q = refl
vector_of (Some a) None q = refl
vector_of (Some a) (Some b) None = refl
vector_of (Some a) (Some b) (Some c) = refl

three_are : (ds : Items) → AreOf a.Vector (three_numbers ds)
three_are no_items = refl
three_are (item x no_items) = refl
three_are (item x (item y no_items)) = refl
three_are (item x (item y (item z no_items))) = vector_of (number_in x) (number_in y) (number_in z)
three_are (item x (item y (item z (item w ds)))) = refl

vectors_are : (o : Option Items) → AreOf a.Vector (option_and_then three_numbers o)
vectors_are None = refl
vectors_are (Some ds) = three_are ds

constants_are : (kind : ValueKind) (d : Data) → AreOf kind (constant_as kind d)
constants_are a.Truth d = truths_are (as_bool d)
constants_are a.Int d = ints_are (option_and_then as_i64 (as_number d))
constants_are a.Fixed d = fixed_are (number_in d)
constants_are a.Vector d = vectors_are (as_array d)

one_of_kind : (kind : ValueKind) (o : Option Value) → is_some o ≡ true → AreOf kind o → is_of_kind kind (constant_or_false o) ≡ true
one_of_kind kind None t h = absurd (true≢false (sym t))
one_of_kind kind (Some x) t h = h

value_found_fits : (kind : ValueKind) (found : Option Data) → is_some found ≡ true → ((d : Data) → found ≡ Some d → is_some (constant_as kind d) ≡ true)
    → is_of_kind kind (constant_or_false (option_and_then (constant_as kind) found)) ≡ true
value_found_fits kind None t f = absurd (true≢false (sym t))
value_found_fits kind (Some d) t f = one_of_kind kind (constant_as kind d) (f d refl) (constants_are kind d)

value_at_fits : (kind : ValueKind) (k : Text) (d : Data) → IsThere k d → IsCleanUnder (form.an_atom (atom.a_constant_as kind)) k d → is_of_kind kind (value_at kind k d) ≡ true
value_at_fits kind k d t c = value_found_fits kind (get k d) t (λ e m. fit (form.an_atom (atom.a_constant_as kind)) e (c e m))

-- ---- settings

-- one setting more, which is none of a zone or stands with its items
setting_in_fits : (s : row.Setting) (ss : List row.Setting) (d : Data) (rest : Settings) → (is_needed s ≡ true → IsThere (setting_key s).name d) → IsCleanUnder (setting_key s).form (setting_key s).name d
    → is_zone s ≡ false → settings_fit (kept ss) rest ≡ true → settings_fit (kept (s ∷ ss)) (then_setting (setting_in s d) rest) ≡ true
setting_in_fits (row.type_in kinds) ss d rest t c z h =
    and_from (is_some (kind_named kinds (kind_name (kind_at kinds (codes "type") d)))) (settings_fit (kept ss) rest) (kind_at_fits kinds (codes "type") d (t refl) c) h
setting_in_fits (row.op_in names) ss d rest t c z h =
    and_from (is_word names (text_at (codes "op") d)) (settings_fit (kept ss) rest) (good_under (is_word names) (codes "op") d (t refl) (λ e m. fit (form.an_atom (atom.a_word_of names)) e (c e m))).1 h
setting_in_fits (row.place_in places) ss d rest t c z h =
    and_from (is_some (place_named places (place_name (place_at places (codes "place") d)))) (settings_fit (kept ss) rest) (place_at_fits places (codes "place") d (t refl) c) h
setting_in_fits row.a_clamp ss d rest t c z h = h
setting_in_fits row.a_name ss d rest t c z h =
    and_from (is_column_name (text_at (codes "name") d)) (settings_fit (kept ss) rest) (good_under is_column_name (codes "name") d (t refl) (λ e m. fit (form.an_atom atom.a_column_name) e (c e m))).1 h
setting_in_fits row.a_file ss d rest t c z h =
    and_from (is_file_name (text_at (codes "file") d)) (settings_fit (kept ss) rest) (good_under is_file_name (codes "file") d (t refl) (λ e m. fit (form.an_atom atom.a_file_name) e (c e m))).1 h
setting_in_fits (row.value_of kind) ss d rest t c z h =
    and_from (is_of_kind kind (value_at kind (codes "value") d)) (settings_fit (kept ss) rest) (value_at_fits kind (codes "value") d (t refl) c) h
setting_in_fits row.group_name ss d rest t c z h = and_from (is_id (text_at (codes "group") d)) (settings_fit (kept ss) rest) (id_fits (codes "group") d (t refl) c) h
setting_in_fits row.zone_items ss d rest t c z h = absurd (true≢false z)
setting_in_fits row.zone_nodes ss d rest t c z h = h
setting_in_fits row.zone_output ss d rest t c z h = h

-- behind the items of a zone nothing is added
zone_last_fits : (zone : Settings) (ss : List row.Setting) (d : Data) → list_all stands_with_items ss ≡ true → settings_fit (row.zone_items ∷ []) zone ≡ true
    → settings_fit (row.zone_items ∷ kept ss) (settings_before zone ss d) ≡ true
zone_last_fits zone [] d l h = h
zone_last_fits zone (row.zone_nodes ∷ ss) d l h = zone_last_fits zone ss d l h
zone_last_fits zone (row.zone_output ∷ ss) d l h = zone_last_fits zone ss d l h
zone_last_fits zone (s ∷ ss) d l h = absurd (cc)

module _ (keys : List Key) (ms : Members) (h : HasKeys keys ms) where
  next_fits : (zone : Settings) (s : row.Setting) (ss : List row.Setting) → Names keys s → is_zone s ≡ false → settings_fit (kept ss) (settings_before zone ss (object ms)) ≡ true
      → settings_fit (kept (s ∷ ss)) (settings_before zone (s ∷ ss) (object ms)) ≡ true
  next_fits zone s ss n z more = setting_in_fits s ss (object ms) (settings_before zone ss (object ms)) (there_as keys ms s h n) (clean_as keys ms s h n) z more

  settings_before_fit : (zone : Settings) (ss : List row.Setting) → NamesEach keys ss → zone_is_last ss ≡ true → (list_any is_zone ss ≡ true → settings_fit (row.zone_items ∷ []) zone ≡ true)
      → (list_any is_zone ss ≡ false → zone ≡ no_settings) → settings_fit (kept ss) (settings_before zone ss (object ms)) ≡ true
  settings_before_fit zone [] n l body bare = subst (λ z. settings_fit [] z ≡ true) (sym (bare refl)) refl
  settings_before_fit zone (row.zone_items ∷ ss) n l body bare = zone_last_fits zone ss (object ms) l (body refl)
  settings_before_fit zone (s ∷ ss) n l body bare = next_fits zone s ss n.0 refl (settings_before_fit zone ss n.1 l body bare)

  zone_fits : Names keys row.zone_items → Names keys row.zone_output → nodes_fit (nodes_of (nodes_among ms)) ≡ true → settings_fit (row.zone_items ∷ []) (zone_if true (object ms) (nodes_among ms)) ≡ true
  zone_fits items output e =
      let d = object ms in
      all_four (list_all socket_fits (sockets_at (codes "items") d)) (nodes_fit (nodes_of (nodes_among ms))) (output_fits (inputs_at (codes "output") d)) true
      (sockets_at_fit (codes "items") d (clean_as keys ms row.zone_items h items)) e (output_at_fits (codes "output") d (clean_as keys ms row.zone_output h output)) refl

set_fits : (ss : List row.Setting) (ms : Members) → AreWhole ss → HasKeys (map setting_key ss) ms → (Names (map setting_key ss) row.zone_nodes → nodes_fit (nodes_of (nodes_among ms)) ≡ true)
    → settings_fit (kept ss) (settings_in ss (object ms) (nodes_among ms)) ≡ true
set_fits ss ms w h f =
    let keys = map setting_key ss in
    settings_before_fit keys ms h (zone_if (list_any is_zone ss) (object ms) (nodes_among ms)) ss w.0 w.2
    (λ e. subst (λ b. settings_fit (row.zone_items ∷ []) (zone_if b (object ms) (nodes_among ms)) ≡ true) (sym e) (zone_fits keys ms h (w.1 e).0 (w.1 e).2 (f (w.1 e).1)))
    (λ e. ap (λ b. zone_if b (object ms) (nodes_among ms)) e)

none_needed_fits : (ss : List row.Setting) → list_any is_needed ss ≡ false → settings_fit (kept ss) no_settings ≡ true
none_needed_fits [] e = refl
none_needed_fits (row.zone_output ∷ ss) e = none_needed_fits ss e
none_needed_fits (s ∷ ss) e = absurd (cc)

none_there_fits : (ss : List row.Setting) (b : Bool) → list_any is_needed ss ≡ b → (b ≡ true → false ≡ true) → settings_fit (kept ss) no_settings ≡ true
none_there_fits ss true e t = absurd (true≢false (sym (t refl)))
none_there_fits ss false e t = none_needed_fits ss e

-- ---- nodes

if_fits : {A : Type 0} (test : A → Bool) (b : Bool) (x y : A) → (b ≡ true → test x ≡ true) → (b ≡ false → test y ≡ true) → test (if b then x else y) ≡ true
if_fits test true x y f g = f refl
if_fits test false x y f g = g refl

row_fits : (o p : Option KindRow) (row : KindRow) (ms : Members) (xs : List Named) → o ≡ Some row → p ≡ Some row → settings_fit (kept row.settings) (settings_among row.settings ms) ≡ true → inputs_fit row xs ≡ true
    → option_map_or (λ r. settings_fit (kept r.settings) (settings_among (option_map_or (λ x. x.settings) p []) ms) && inputs_fit r xs) o false ≡ true
row_fits o p row ms xs e f g h = rw (e, f) (and_from (settings_fit (kept row.settings) (settings_among row.settings ms)) (inputs_fit row xs) g h)

node_with_fits : (ms : Members) (r : Option KindRow) → row_in_node (object ms) ≡ r → HasKeys (node_keys r) ms
    → ((row : KindRow) → AreWhole row.settings → HasKeys (node_keys (Some row)) ms → settings_fit (kept row.settings) (settings_among row.settings ms) ≡ true) → node_fits (node_in (object ms)) ≡ true
node_with_fits ms None e h f =
    let kind = kind_in_node (node_keys None) ms h refl in
    absurd (no_row (row_of_kind (text_at (codes "kind") (object ms))) kind.1 (ap (option_and_then row_of_kind) (sym kind.0) ∙ e))
node_with_fits ms (Some row) e h f =
    let d = object ms in
    let keys = node_keys (Some row) in
    let kind = kind_in_node keys ms h refl in
    let inputs = may_have (codes "in") (form.inputs_of row) in
    let is_row : row_of_kind (text_at (codes "kind") d) ≡ Some row = ap (option_and_then row_of_kind) (sym kind.0) ∙ e in
    and_from (is_id (text_at (codes "id") d)) _ (id_at keys ms (codes "id") h refl)
    (row_fits (row_of_kind (text_at (codes "kind") d)) (row_in_node d) row ms (inputs_at (codes "in") d) is_row e (f row (row_whole (text_at (codes "kind") d) row is_row) h)
    (inputs_at_fit row (codes "in") d (clean_under keys ms (codes "in") inputs h refl)))

mutual
  node_in_fits : (d : Data) → IsClean form.a_node d → node_fits (node_in d) ≡ true
  node_in_fits (object ms) e =
      let r = row_in_node (object ms) in
      node_with_fits ms r refl (has_keys_if (is_known form.a_node r (object ms)) (node_keys r) ms e)
      (λ row w h. settings_among_fit (forms_of (node_keys (Some row))) row ms w refl h.1 (set_needed row ms h))
  node_in_fits null e = absurd (cc)
  node_in_fits (boolean b) e = absurd (cc)
  node_in_fits (number n) e = absurd (cc)
  node_in_fits (string s) e = absurd (cc)
  node_in_fits (array ds) e = absurd (cc)

  settings_among_fit : (forms : Text → Option Form) (row : KindRow) (ms : Members) → AreWhole row.settings → forms (codes "set") ≡ Some (form.settings_of row) → first_member forms ms ≡ None
      → (list_any is_needed row.settings ≡ true → IsThere (codes "set") (object ms)) → settings_fit (kept row.settings) (settings_among row.settings ms) ≡ true
  settings_among_fit forms row no_members w a e t = none_there_fits row.settings (list_any is_needed row.settings) refl t
  settings_among_fit forms row (member k d ms) w a e t =
      let none = none_joined (key k) (if_asked (forms k) (λ g. first_in g d)) (first_member forms ms) e in
      if_fits (settings_fit (kept row.settings)) (bytes_eq (codes "set") k) (settings_under row.settings d) (settings_among row.settings ms)
      (λ same. settings_under_fit row d w (asked_clean (forms k) (form.settings_of row) d (ap forms (sym (same_bytes (codes "set") k same)) ∙ a) none.0))
      (λ other. settings_among_fit forms row ms w a none.1 (λ needed. there_later (codes "set") k d ms other (t needed)))

  settings_under_fit : (kind : KindRow) (d : Data) → AreWhole kind.settings → IsClean (form.settings_of kind) d → settings_fit (kept kind.settings) (settings_under kind.settings d) ≡ true
  settings_under_fit kind (object ms) w e =
      let keys = map setting_key kind.settings in
      let h = has_keys_if (is_known (form.settings_of kind) (row_in_node (object ms)) (object ms)) keys ms e in
      set_fits kind.settings ms w h (λ n. nodes_among_fit (forms_of keys) ms (ap (option_map (λ key. key.form)) n) h.1)
  settings_under_fit kind null w e = absurd (cc)
  settings_under_fit kind (boolean b) w e = absurd (cc)
  settings_under_fit kind (number n) w e = absurd (cc)
  settings_under_fit kind (string s) w e = absurd (cc)
  settings_under_fit kind (array ds) w e = absurd (cc)

  nodes_among_fit : (forms : Text → Option Form) (ms : Members) → forms (codes "nodes") ≡ Some form.nodes → first_member forms ms ≡ None → nodes_fit (nodes_of (nodes_among ms)) ≡ true
  nodes_among_fit forms no_members a e = refl
  nodes_among_fit forms (member k d ms) a e =
      let none = none_joined (key k) (if_asked (forms k) (λ g. first_in g d)) (first_member forms ms) e in
      if_fits (λ xs. nodes_fit (nodes_of xs)) (bytes_eq (codes "nodes") k) (nodes_under d) (nodes_among ms)
      (λ same. nodes_under_fit d (asked_clean (forms k) form.nodes d (ap forms (sym (same_bytes (codes "nodes") k same)) ∙ a) none.0))
      (λ other. nodes_among_fit forms ms a none.1)

  nodes_under_fit : (d : Data) → IsClean form.nodes d → nodes_fit (nodes_of (nodes_under d)) ≡ true
  nodes_under_fit (array ds) e = nodes_in_fit 0 ds (items_clean form.nodes ds e)
  nodes_under_fit null e = refl
  nodes_under_fit (boolean b) e = refl
  nodes_under_fit (number n) e = refl
  nodes_under_fit (string s) e = refl
  nodes_under_fit (object ms) e = refl

  nodes_in_fit : (i : ℕ) (ds : Items) → first_item form.a_node i ds ≡ None → nodes_fit (nodes_of (nodes_in ds)) ≡ true
  nodes_in_fit i no_items e = refl
  nodes_in_fit i (item d ds) e =
      let none = none_joined (index i) (first_in form.a_node d) (first_item form.a_node (suc i) ds) e in
      and_from (node_fits (node_in d)) (nodes_fit (nodes_of (nodes_in ds))) (node_in_fits d none.0) (nodes_in_fit (suc i) ds none.1)

-- ---- groups and trees

nodes_at_fit : (keys : List Key) (ms : Members) → HasKeys keys ms → named keys (codes "nodes") ≡ Some (needs (codes "nodes") form.nodes) → nodes_fit (nodes_of (nodes_among ms)) ≡ true
nodes_at_fit keys ms h n = nodes_among_fit (forms_of keys) ms (ap (option_map (λ key. key.form)) n) h.1

group_in_fits : (d : Data) → IsClean form.a_group d → group_fits (group_in d) ≡ true
group_in_fits null e = absurd (cc)
group_in_fits (boolean b) e = absurd (cc)
group_in_fits (number n) e = absurd (cc)
group_in_fits (string s) e = absurd (cc)
group_in_fits (array ds) e = absurd (cc)
group_in_fits (object ms) e =
    let d = object ms in
    let r = row_in_node d in
    let keys = keys_of form.a_group r in
    let h = has_keys_if (is_known form.a_group r d) keys ms e in
    all_five (is_id (text_at (codes "name") d)) (list_all socket_fits (sockets_at (codes "inputs") d)) (list_all socket_fits (sockets_at (codes "outputs") d))
    (nodes_fit (nodes_of (nodes_among ms))) (output_fits (inputs_at (codes "output") d)) (id_at keys ms (codes "name") h refl)
    (sockets_at_fit (codes "inputs") d (clean_under keys ms (codes "inputs") (needs (codes "inputs") form.sockets) h refl))
    (sockets_at_fit (codes "outputs") d (clean_under keys ms (codes "outputs") (needs (codes "outputs") form.sockets) h refl))
    (nodes_at_fit keys ms h refl)
    (output_at_fits (codes "output") d (clean_under keys ms (codes "output") (may_have (codes "output") form.outputs) h refl))

groups_in_fit : (i : ℕ) (ds : Items) → first_item form.a_group i ds ≡ None → list_all group_fits (groups_in ds) ≡ true
groups_in_fit i no_items e = refl
groups_in_fit i (item d ds) e =
    let none = none_joined (index i) (first_in form.a_group d) (first_item form.a_group (suc i) ds) e in
    and_from (group_fits (group_in d)) (list_all group_fits (groups_in ds)) (group_in_fits d none.0) (groups_in_fit (suc i) ds none.1)

groups_found_fit : (found : Option Data) → ((d : Data) → found ≡ Some d → IsClean form.groups d) → list_all group_fits (option_map_or groups_in (option_and_then as_array found) []) ≡ true
groups_found_fit None f = refl
groups_found_fit (Some null) f = refl
groups_found_fit (Some (boolean b)) f = refl
groups_found_fit (Some (number n)) f = refl
groups_found_fit (Some (string s)) f = refl
groups_found_fit (Some (array ds)) f = groups_in_fit 0 ds (items_clean form.groups ds (f (array ds) refl))
groups_found_fit (Some (object ms)) f = refl

one_fits : (o : Option ℕ) → option_map_or (λ n. n == 1) o false ≡ true → (option_map_or in_32_bits o 0 == 1) ≡ true
one_fits None e = absurd (true≢false (sym e))
one_fits (Some n) e = subst (λ m. (in_32_bits m == 1) ≡ true) (sym (eqb-true n 1 e)) refl

format_found_fits : (found : Option Data) → is_some found ≡ true → ((d : Data) → found ≡ Some d → IsClean (form.an_atom atom.the_format) d)
    → (option_map_or in_32_bits (option_and_then as_u64 (option_and_then as_number found)) 0 == 1) ≡ true
format_found_fits None t f = absurd (true≢false (sym t))
format_found_fits (Some d) t f = one_fits (option_and_then as_u64 (as_number d)) (fit (form.an_atom atom.the_format) d (f d refl))

output_found_fits : (found : Option Data) → ((d : Data) → found ≡ Some d → IsClean form.an_input d) → option_map_or input_fits (option_map input_in found) true ≡ true
output_found_fits None f = refl
output_found_fits (Some d) f = input_in_fits d (f d refl)

tree_in_fits : (d : Data) → IsClean form.a_tree d → tree_fits (tree_in d) ≡ true
tree_in_fits null e = absurd (cc)
tree_in_fits (boolean b) e = absurd (cc)
tree_in_fits (number n) e = absurd (cc)
tree_in_fits (string s) e = absurd (cc)
tree_in_fits (array ds) e = absurd (cc)
tree_in_fits (object ms) e =
    let d = object ms in
    let r = row_in_node d in
    let keys = keys_of form.a_tree r in
    let h = has_keys_if (is_known form.a_tree r d) keys ms e in
    let format = needs (codes "format") (form.an_atom atom.the_format) in
    all_four (format_in d == 1) (list_all group_fits (tree_in d).groups) (nodes_fit (nodes_of (nodes_among ms))) (option_map_or input_fits (tree_in d).output true)
    (format_found_fits (get (codes "format") d) (there_in keys ms (codes "format") format h refl refl) (clean_under keys ms (codes "format") format h refl))
    (groups_found_fit (get (codes "groups") d) (clean_under keys ms (codes "groups") (may_have (codes "groups") form.groups) h refl))
    (nodes_at_fit keys ms h refl)
    (output_found_fits (get (codes "output") d) (clean_under keys ms (codes "output") (may_have (codes "output") form.an_input) h refl))

-- ---- what is read of bytes

-- the tree that the bytes are, where no pointer breaks the form
pub is_of_form : (bytes : List ℕ) (d : Data) (t : Tree) → FirstMisfit bytes d None → tree_from d ≡ Some t → IsOfForm t
is_of_form bytes d t h e =
    let clean = none_first (BreaksForm d) (first_in form.a_tree d) (tree_is_first d (json_in_order bytes d h.0)) h.1 in
    (subst (λ x. tree_fits x ≡ true) (made_of bytes d t h e) (tree_in_fits d clean), names_rise_in bytes d t h e)

pub read_is_formed : (bytes : List ℕ) (r : Result rust.Tree JsonFault) → Answers bytes r → IfOk r (λ t. IsOfForm (tree_of t))
read_is_formed bytes (Ok t) h = is_of_form bytes h.0 (tree_of t) h.1 h.2
read_is_formed bytes (Err x) h = tt
