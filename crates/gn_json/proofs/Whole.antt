-- A value with no misfit is a whole tree: the one that is made of it, with nothing made up.
use Rattle.std.proofs.Common.{◌≡◌, ℕ, suc, ◌==◌, Bool, true, false, ◌||◌, List, [], ◌∷◌, Option, Some, None, codes, map, option_map, option_and_then, is_some, bytes_eq, refl, sym, ap, ◌∙◌, subst, true≢false, eqb-true, if◌then◌else◌}
use Rattle.std.specs.Option.{option_map_or, unwrap_or}
use Rattle.std.specs.List.{list_any}
use Rattle.serde_json.specs.Data.{Data, null, boolean, number, string, array, object, Items, no_items, item, Members, no_members, member}
use Rattle.serde_json.specs.Find.{get, as_bool, as_str, as_array, as_object, as_number, as_u64}
use Rattle.gn_value.specs.declared.value.Value.{Value}
use Rattle.gn_value.specs.declared.value.Value.TheVariants.{Truth as truth}
use Rattle.gn_value.specs.declared.value.Place.{Place}
use Rattle.gn_value.specs.declared.value.Place.TheVariants.{Point}
use Rattle.gn_kinds.specs.declared.row.SocketKind.{SocketKind}
use Rattle.gn_kinds.specs.declared.row.SocketKind.TheVariants.{Truth}
use Rattle.gn_kinds.specs.Names.{kind_named, place_named}
use Rattle.gn_kinds.specs.Row as row
use Rattle.gn_kinds.specs.Row.{Text, KindRow}
use Rattle.gn_kinds.specs.Table.{any_kind, row_of_kind}
use Rattle.gn_pointers.specs.Pointers.{index, key, IsFirst}
use Rattle.gn_atom.specs.Constant.{constant_as, constant_in, three_numbers}
use Rattle.gn_kinds.specs.Text.{is_id, is_column_name, is_file_name, is_word}
use Rattle.gn_atom.specs.Atom as atom
use Rattle.gn_atom.specs.Atom.{is_text}
use Rattle.gn_form.specs.Form as form
use Rattle.gn_form.specs.Form.{Form, Key, needs, may_have, named, fits, is_known, are_there, are_links, keys_of, node_keys, member_form, setting_key, row_in_node, BreaksForm}
use Rattle.gn_form.specs.Order.{InOrder}
use Rattle.gn_form.proofs.Exact.{tree_is_first}
use Rattle.gn_form.specs.Walk.{if_asked, first_in, first_item, first_member}
use Rattle.gn_tree.specs.Trees.{Input, constant, link, links, Named, Socket, Node, node, Settings, no_settings, and_setting, of_kind, op, place, clamp, a_name, file, value, of_group, Group}
use Rattle.gn_json.specs.Typed.{text_at, link_in, links_in, constant_or_false, input_in, inputs_in, inputs_at, kind_at, socket_in, sockets_in, sockets_at, place_at, setting_in, then_setting, settings_before, zone_if, settings_in, settings_of_kind, node_in, settings_among, settings_under, nodes_among, nodes_under, nodes_in, group_in, groups_in, in_32_bits, format_in, tree_in}
use Rattle.gn_json.specs.Exact as exact
use Rattle.gn_json.specs.Exact.{both, text_under, link_from, links_from, input_from, inputs_from, inputs_under, kind_under, socket_from, sockets_from, sockets_under, place_under, with_setting, with_settings, zone_from, settings_from, is_zone, is_needed, node_from, settings_found, settings_of_value, nodes_found, nodes_of_value, nodes_from, group_from, groups_from, groups_under, output_under, format_under, tree_from}
use Rattle.gn_json.proofs.Clean.{some_or, same_bytes, IsClean, none_joined, fit, items_clean, members_clean, none_first, asked_clean, IsCleanUnder, IsThere, there_later, HasKeys, has_keys_if, clean_under, there_in}
use Rattle.gn_json.proofs.Rows.{NamesEach, AreWhole, row_whole}

-- ---- options that have what is taken of them

both_are : {A B C : Type 0} (f : A → B → C) (o : Option A) (p : Option B) (a : A) (b : B) → o ≡ Some a → p ≡ Some b → both f o p ≡ Some (f a b)
both_are f o p a b e g = rw (e, g)

then_is : {A B : Type 0} (f : A → Option B) (o : Option A) (a : A) (p : Option B) → o ≡ Some a → f a ≡ p → option_and_then f o ≡ p
then_is f o a p e g = rw e g

choice : {A : Type 0} (b : Bool) (o p : Option A) (x y : A) → (b ≡ true → o ≡ Some x) → (b ≡ false → p ≡ Some y) → (if b then o else p) ≡ Some (if b then x else y)
choice true o p x y f g = f refl
choice false o p x y f g = g refl

-- ---- what stands under a key that is there

good_text : (good : Text → Bool) (o : Option Text) → option_map_or good o false ≡ true → (o ≡ Some (unwrap_or o [])) × (good (unwrap_or o []) ≡ true)
good_text good None e = absurd (true≢false (sym e))
good_text good (Some t) e = (refl, e)

good_text_of : (good : Text → Bool) (found : Option Data) → is_some found ≡ true → ((d : Data) → found ≡ Some d → is_text good d ≡ true)
    → (option_and_then as_str found ≡ Some (unwrap_or (option_and_then as_str found) [])) × (good (unwrap_or (option_and_then as_str found) []) ≡ true)
good_text_of good None t f = absurd (true≢false (sym t))
good_text_of good (Some d) t f = good_text good (as_str d) (f d refl)

pub good_under : (good : Text → Bool) (k : Text) (d : Data) → IsThere k d → ((e : Data) → get k d ≡ Some e → is_text good e ≡ true) → (text_under k d ≡ Some (text_at k d)) × (good (text_at k d) ≡ true)
good_under good k d t f = good_text_of good (get k d) t f

id_is : (k : Text) (d : Data) → IsThere k d → IsCleanUnder (form.an_atom atom.an_id) k d → text_under k d ≡ Some (text_at k d)
id_is k d t c = (good_under is_id k d t (λ e m. fit (form.an_atom atom.an_id) e (c e m))).0

kind_is : (kinds : List SocketKind) (k : Text) (d : Data) → IsThere k d → IsCleanUnder (form.an_atom (atom.a_kind_in kinds)) k d → kind_under kinds k d ≡ Some (kind_at kinds k d)
kind_is kinds k d t c =
    let good = good_under (λ n. is_some (kind_named kinds n)) k d t (λ e m. fit (form.an_atom (atom.a_kind_in kinds)) e (c e m)) in
    then_is (kind_named kinds) (text_under k d) (text_at k d) (Some (kind_at kinds k d)) good.0 (some_or (kind_named kinds (text_at k d)) Truth good.1)

place_is : (places : List Place) (k : Text) (d : Data) → IsThere k d → IsCleanUnder (form.an_atom (atom.a_place_in places)) k d → place_under places k d ≡ Some (place_at places k d)
place_is places k d t c =
    let good = good_under (λ n. is_some (place_named places n)) k d t (λ e m. fit (form.an_atom (atom.a_place_in places)) e (c e m)) in
    then_is (place_named places) (text_under k d) (text_at k d) (Some (place_at places k d)) good.0 (some_or (place_named places (text_at k d)) Point good.1)

-- what a test says that something can be taken of, under a key
taken_of : {A : Type 0} (take : Data → Option A) (other : A) (found : Option Data) → is_some found ≡ true → ((d : Data) → found ≡ Some d → is_some (take d) ≡ true) → option_and_then take found ≡ Some (unwrap_or (option_and_then take found) other)
taken_of take other None t f = absurd (true≢false (sym t))
taken_of take other (Some d) t f = some_or (take d) other (f d refl)

-- ---- links and inputs

link_of : (keys : List Key) (ms : Members) → HasKeys keys ms → named keys (codes "from") ≡ Some (needs (codes "from") (form.an_atom atom.an_id)) → named keys (codes "socket") ≡ Some (needs (codes "socket") (form.an_atom atom.an_id))
    → link_from (object ms) ≡ Some (link_in (object ms))
link_of keys ms h from socket =
    let d = object ms in
    both_are exact.a_link (text_under (codes "from") d) (text_under (codes "socket") d) (text_at (codes "from") d) (text_at (codes "socket") d)
    (id_is (codes "from") d (there_in keys ms (codes "from") (needs (codes "from") (form.an_atom atom.an_id)) h from refl) (clean_under keys ms (codes "from") (needs (codes "from") (form.an_atom atom.an_id)) h from))
    (id_is (codes "socket") d (there_in keys ms (codes "socket") (needs (codes "socket") (form.an_atom atom.an_id)) h socket refl) (clean_under keys ms (codes "socket") (needs (codes "socket") (form.an_atom atom.an_id)) h socket))

link_is : (d : Data) → IsClean form.a_link d → link_from d ≡ Some (link_in d)
link_is null e = absurd (cc)
link_is (boolean b) e = absurd (cc)
link_is (number n) e = absurd (cc)
link_is (string s) e = absurd (cc)
link_is (array ds) e = absurd (cc)
link_is (object ms) e =
    let row = row_in_node (object ms) in
    let keys = keys_of form.a_link row in
    link_of keys ms (has_keys_if (is_known form.a_link row (object ms)) keys ms e) refl refl

links_are : (i : ℕ) (ds : Items) → first_item form.a_link i ds ≡ None → links_from ds ≡ Some (links_in ds)
links_are i no_items e = refl
links_are i (item d ds) e =
    let none = none_joined (index i) (first_in form.a_link d) (first_item form.a_link (suc i) ds) e in
    both_are (λ x xs. x ∷ xs) (link_from d) (links_from ds) (link_in d) (links_in ds) (link_is d none.0) (links_are (suc i) ds none.1)

constant_is : (found : Option Value) → is_some found ≡ true → option_map constant found ≡ Some (constant (constant_or_false found))
constant_is found e = ap (option_map constant) (some_or found (truth false) e)

array_is : (b : Bool) (ds : Items) → (b || is_some (three_numbers ds)) ≡ true → if_asked (if b then Some form.a_link else None) (λ g. first_item g 0 ds) ≡ None
    → (if b then option_map links (links_from ds) else option_map constant (three_numbers ds)) ≡ Some (if b then links (links_in ds) else constant (constant_or_false (three_numbers ds)))
array_is true ds f e = ap (option_map links) (links_are 0 ds e)
array_is false ds f e = constant_is (three_numbers ds) f

input_is : (d : Data) → IsClean form.an_input d → input_from d ≡ Some (input_in d)
input_is null e = absurd (cc)
input_is (boolean b) e = constant_is (constant_in (boolean b)) (fit form.an_input (boolean b) e)
input_is (number n) e = constant_is (constant_in (number n)) (fit form.an_input (number n) e)
input_is (string s) e = constant_is (constant_in (string s)) (fit form.an_input (string s) e)
input_is (array ds) e = array_is (are_links ds) ds (fit form.an_input (array ds) e) (items_clean form.an_input ds e)
input_is (object ms) e =
    let keys = keys_of form.an_input None in
    ap (option_map link) (link_of keys ms (has_keys_if (is_known form.a_link None (object ms)) keys ms e) refl refl)

inputs_are : (ms : Members) → first_member (λ k. Some form.an_input) ms ≡ None → inputs_from ms ≡ Some (inputs_in ms)
inputs_are no_members e = refl
inputs_are (member k d ms) e =
    let none = none_joined (key k) (first_in form.an_input d) (first_member (λ k. Some form.an_input) ms) e in
    both_are (λ x xs. exact.named k x ∷ xs) (input_from d) (inputs_from ms) (input_in d) (inputs_in ms) (input_is d none.0) (inputs_are ms none.1)

outputs_are : (d : Data) → IsClean form.outputs d → option_and_then inputs_from (as_object d) ≡ Some (option_map_or inputs_in (as_object d) [])
outputs_are null e = absurd (cc)
outputs_are (boolean b) e = absurd (cc)
outputs_are (number n) e = absurd (cc)
outputs_are (string s) e = absurd (cc)
outputs_are (array ds) e = absurd (cc)
outputs_are (object ms) e = inputs_are ms (members_clean form.outputs ms e)

inputs_of_are : (row : KindRow) (d : Data) → IsClean (form.inputs_of row) d → option_and_then inputs_from (as_object d) ≡ Some (option_map_or inputs_in (as_object d) [])
inputs_of_are row null e = absurd (cc)
inputs_of_are row (boolean b) e = absurd (cc)
inputs_of_are row (number n) e = absurd (cc)
inputs_of_are row (string s) e = absurd (cc)
inputs_of_are row (array ds) e = absurd (cc)
inputs_of_are row (object ms) e = inputs_are ms (members_clean (form.inputs_of row) ms e)

inputs_found : (found : Option Data) → ((d : Data) → found ≡ Some d → option_and_then inputs_from (as_object d) ≡ Some (option_map_or inputs_in (as_object d) []))
    → option_map_or (λ e. option_and_then inputs_from (as_object e)) found (Some []) ≡ Some (option_map_or inputs_in (option_and_then as_object found) [])
inputs_found None f = refl
inputs_found (Some d) f = f d refl

outputs_under : (k : Text) (d : Data) → IsCleanUnder form.outputs k d → inputs_under k d ≡ Some (inputs_at k d)
outputs_under k d c = inputs_found (get k d) (λ e m. outputs_are e (c e m))

inputs_of_under : (row : KindRow) (k : Text) (d : Data) → IsCleanUnder (form.inputs_of row) k d → inputs_under k d ≡ Some (inputs_at k d)
inputs_of_under row k d c = inputs_found (get k d) (λ e m. inputs_of_are row e (c e m))

-- ---- sockets

socket_of : (keys : List Key) (ms : Members) → HasKeys keys ms → named keys (codes "name") ≡ Some (needs (codes "name") (form.an_atom atom.an_id))
    → named keys (codes "kind") ≡ Some (needs (codes "kind") (form.an_atom (atom.a_kind_in any_kind))) → socket_from (object ms) ≡ Some (socket_in (object ms))
socket_of keys ms h name kind =
    let d = object ms in
    both_are exact.a_socket (text_under (codes "name") d) (kind_under any_kind (codes "kind") d) (text_at (codes "name") d) (kind_at any_kind (codes "kind") d)
    (id_is (codes "name") d (there_in keys ms (codes "name") (needs (codes "name") (form.an_atom atom.an_id)) h name refl) (clean_under keys ms (codes "name") (needs (codes "name") (form.an_atom atom.an_id)) h name))
    (kind_is any_kind (codes "kind") d (there_in keys ms (codes "kind") (needs (codes "kind") (form.an_atom (atom.a_kind_in any_kind))) h kind refl) (clean_under keys ms (codes "kind") (needs (codes "kind") (form.an_atom (atom.a_kind_in any_kind))) h kind))

socket_is : (d : Data) → IsClean form.a_socket d → socket_from d ≡ Some (socket_in d)
socket_is null e = absurd (cc)
socket_is (boolean b) e = absurd (cc)
socket_is (number n) e = absurd (cc)
socket_is (string s) e = absurd (cc)
socket_is (array ds) e = absurd (cc)
socket_is (object ms) e =
    let row = row_in_node (object ms) in
    let keys = keys_of form.a_socket row in
    socket_of keys ms (has_keys_if (is_known form.a_socket row (object ms)) keys ms e) refl refl

sockets_are : (i : ℕ) (ds : Items) → first_item form.a_socket i ds ≡ None → sockets_from ds ≡ Some (sockets_in ds)
sockets_are i no_items e = refl
sockets_are i (item d ds) e =
    let none = none_joined (index i) (first_in form.a_socket d) (first_item form.a_socket (suc i) ds) e in
    both_are (λ x xs. x ∷ xs) (socket_from d) (sockets_from ds) (socket_in d) (sockets_in ds) (socket_is d none.0) (sockets_are (suc i) ds none.1)

sockets_of_value : (d : Data) → IsClean form.sockets d → option_and_then sockets_from (as_array d) ≡ Some (option_map_or sockets_in (as_array d) [])
sockets_of_value null e = absurd (cc)
sockets_of_value (boolean b) e = absurd (cc)
sockets_of_value (number n) e = absurd (cc)
sockets_of_value (string s) e = absurd (cc)
sockets_of_value (array ds) e = sockets_are 0 ds (items_clean form.sockets ds e)
sockets_of_value (object ms) e = absurd (cc)

sockets_found : (found : Option Data) → is_some found ≡ true → ((d : Data) → found ≡ Some d → IsClean form.sockets d)
    → option_and_then sockets_from (option_and_then as_array found) ≡ Some (option_map_or sockets_in (option_and_then as_array found) [])
sockets_found None t f = absurd (true≢false (sym t))
sockets_found (Some d) t f = sockets_of_value d (f d refl)

sockets_is : (k : Text) (d : Data) → IsThere k d → IsCleanUnder form.sockets k d → sockets_under k d ≡ Some (sockets_at k d)
sockets_is k d t c = sockets_found (get k d) t c

-- ---- settings

setting_is : (s : row.Setting) (d : Data) (rest : Settings) → (is_needed s ≡ true → IsThere (setting_key s).name d) → IsCleanUnder (setting_key s).form (setting_key s).name d
    → with_setting s d rest ≡ Some (then_setting (setting_in s d) rest)
setting_is (row.type_in kinds) d rest t c = ap (option_map (λ k. and_setting (of_kind k) rest)) (kind_is kinds (codes "type") d (t refl) c)
setting_is (row.op_in names) d rest t c =
    ap (option_map (λ n. and_setting (op n) rest)) (good_under (is_word names) (codes "op") d (t refl) (λ e m. fit (form.an_atom (atom.a_word_of names)) e (c e m))).0
setting_is (row.place_in places) d rest t c = ap (option_map (λ p. and_setting (place p) rest)) (place_is places (codes "place") d (t refl) c)
setting_is row.a_clamp d rest t c =
    ap (option_map (λ on. and_setting (clamp on) rest)) (taken_of as_bool false (get (codes "clamp") d) (t refl) (λ e m. fit (form.an_atom atom.a_truth) e (c e m)))
setting_is row.a_name d rest t c =
    ap (option_map (λ n. and_setting (a_name n) rest)) (good_under is_column_name (codes "name") d (t refl) (λ e m. fit (form.an_atom atom.a_column_name) e (c e m))).0
setting_is row.a_file d rest t c =
    ap (option_map (λ n. and_setting (file n) rest)) (good_under is_file_name (codes "file") d (t refl) (λ e m. fit (form.an_atom atom.a_file_name) e (c e m))).0
setting_is (row.value_of kind) d rest t c =
    ap (option_map (λ v. and_setting (value v) rest)) (taken_of (constant_as kind) (truth false) (get (codes "value") d) (t refl) (λ e m. fit (form.an_atom (atom.a_constant_as kind)) e (c e m)))
setting_is row.group_name d rest t c = ap (option_map (λ n. and_setting (of_group n) rest)) (id_is (codes "group") d (t refl) c)
setting_is row.zone_items d rest t c = refl
setting_is row.zone_nodes d rest t c = refl
setting_is row.zone_output d rest t c = refl

settings_are : (keys : List Key) (ms : Members) (rest : Settings) (ss : List row.Setting) → HasKeys keys ms → NamesEach keys ss → with_settings rest ss (object ms) ≡ Some (settings_before rest ss (object ms))
settings_are keys ms rest [] h n = refl
settings_are keys ms rest (s ∷ ss) h n =
    let d = object ms in
    let before = settings_before rest ss d in
    then_is (with_setting s d) (with_settings rest ss d) before (Some (then_setting (setting_in s d) before)) (settings_are keys ms rest ss h n.1)
    (setting_is s d before (λ needed. there_in keys ms (setting_key s).name (setting_key s) h n.0 needed) (clean_under keys ms (setting_key s).name (setting_key s) h n.0))

-- the key is found as that of the setting
abbrev pub Names : List Key → row.Setting → Type 0
Names keys s = named keys (setting_key s).name ≡ Some (setting_key s)

pub there_as : (keys : List Key) (ms : Members) (s : row.Setting) → HasKeys keys ms → Names keys s → is_needed s ≡ true → IsThere (setting_key s).name (object ms)
there_as keys ms s h n needed = there_in keys ms (setting_key s).name (setting_key s) h n needed

pub clean_as : (keys : List Key) (ms : Members) (s : row.Setting) → HasKeys keys ms → Names keys s → IsCleanUnder (setting_key s).form (setting_key s).name (object ms)
clean_as keys ms s h n = clean_under keys ms (setting_key s).name (setting_key s) h n

zone_is : (keys : List Key) (ms : Members) (b : Bool) → HasKeys keys ms → (b ≡ true → Names keys row.zone_items × Names keys row.zone_nodes × Names keys row.zone_output)
    → (Names keys row.zone_nodes → nodes_found ms ≡ Some (nodes_among ms)) → zone_from b (object ms) (nodes_found ms) ≡ Some (zone_if b (object ms) (nodes_among ms))
zone_is keys ms false h n f = refl
zone_is keys ms true h n f =
    let d = object ms in
    let items = sockets_at (codes "items") d in
    let output = inputs_at (codes "output") d in
    then_is (λ xs. both (exact.a_zone xs) (nodes_found ms) (inputs_under (codes "output") d)) (sockets_under (codes "items") d) items (Some (exact.a_zone items (nodes_among ms) output))
    (sockets_is (codes "items") d (there_as keys ms row.zone_items h (n refl).0 refl) (clean_as keys ms row.zone_items h (n refl).0))
    (both_are (exact.a_zone items) (nodes_found ms) (inputs_under (codes "output") d) (nodes_among ms) output (f (n refl).1) (outputs_under (codes "output") d (clean_as keys ms row.zone_output h (n refl).2)))

set_is : (ss : List row.Setting) (ms : Members) → AreWhole ss → HasKeys (map setting_key ss) ms → (Names (map setting_key ss) row.zone_nodes → nodes_found ms ≡ Some (nodes_among ms))
    → settings_from ss (object ms) (nodes_found ms) ≡ Some (settings_in ss (object ms) (nodes_among ms))
set_is ss ms w h f =
    let d = object ms in
    let zone = zone_if (list_any is_zone ss) d (nodes_among ms) in
    then_is (λ z. with_settings z ss d) (zone_from (list_any is_zone ss) d (nodes_found ms)) zone (Some (settings_before zone ss d))
    (zone_is (map setting_key ss) ms (list_any is_zone ss) h w.1 f) (settings_are (map setting_key ss) ms zone ss h w.0)

none_needed : (b : Bool) → (b ≡ true → false ≡ true) → (if b then None else Some no_settings) ≡ Some no_settings
none_needed true t = absurd (true≢false (sym (t refl)))
none_needed false t = refl

-- ---- nodes

pub no_row : (r : Option KindRow) → is_some r ≡ true → r ≡ None → ⊥
no_row None s e = true≢false (sym s)
no_row (Some row) s e = absurd (cc)

node_are : (id kind : Option Text) (settings : Option Settings) (inputs : Option (List Named)) (i k : Text) (s : Settings) (xs : List Named) → id ≡ Some i → kind ≡ Some k → settings ≡ Some s → inputs ≡ Some xs
    → exact.a_node id kind settings inputs ≡ Some (node i k s xs)
node_are id kind settings inputs i k s xs a b c d = rw (a, b, c, d)

pub kind_in_node : (keys : List Key) (ms : Members) → HasKeys keys ms → named keys (codes "kind") ≡ Some (needs (codes "kind") (form.an_atom atom.a_node_kind))
    → (text_under (codes "kind") (object ms) ≡ Some (text_at (codes "kind") (object ms))) × (is_some (row_of_kind (text_at (codes "kind") (object ms))) ≡ true)
kind_in_node keys ms h n =
    let it = needs (codes "kind") (form.an_atom atom.a_node_kind) in
    good_under (λ k. is_some (row_of_kind k)) (codes "kind") (object ms) (there_in keys ms (codes "kind") it h n refl) (λ e m. fit (form.an_atom atom.a_node_kind) e (clean_under keys ms (codes "kind") it h n e m))

node_with : (ms : Members) (r : Option KindRow) → row_in_node (object ms) ≡ r → HasKeys (node_keys r) ms
    → ((row : KindRow) → AreWhole row.settings → HasKeys (node_keys (Some row)) ms → settings_found row.settings ms ≡ Some (settings_among row.settings ms)) → node_from (object ms) ≡ Some (node_in (object ms))
node_with ms None e h f =
    let kind = kind_in_node (node_keys None) ms h refl in
    absurd (no_row (row_of_kind (text_at (codes "kind") (object ms))) kind.1 (ap (option_and_then row_of_kind) (sym kind.0) ∙ e))
node_with ms (Some row) e h f =
    let d = object ms in
    let keys = node_keys (Some row) in
    let kind = kind_in_node keys ms h refl in
    let id = needs (codes "id") (form.an_atom atom.an_id) in
    let inputs = may_have (codes "in") (form.inputs_of row) in
    let is_row : row_of_kind (text_at (codes "kind") d) ≡ Some row = ap (option_and_then row_of_kind) (sym kind.0) ∙ e in
    let settings : option_and_then (λ r. settings_found r.settings ms) (row_in_node d) ≡ Some (settings_among (settings_of_kind d) ms) =
    then_is (λ r. settings_found r.settings ms) (row_in_node d) row (Some (settings_among row.settings ms)) e (f row (row_whole (text_at (codes "kind") d) row is_row) h)
    ∙ ap (λ r. Some (settings_among (option_map_or (λ x. x.settings) r []) ms)) (sym e) in
    node_are (text_under (codes "id") d) (text_under (codes "kind") d) (option_and_then (λ r. settings_found r.settings ms) (row_in_node d)) (inputs_under (codes "in") d)
    (text_at (codes "id") d) (text_at (codes "kind") d) (settings_among (settings_of_kind d) ms) (inputs_at (codes "in") d)
    (id_is (codes "id") d (there_in keys ms (codes "id") id h refl refl) (clean_under keys ms (codes "id") id h refl)) kind.0 settings
    (inputs_of_under row (codes "in") d (clean_under keys ms (codes "in") inputs h refl))

pub set_needed : (row : KindRow) (ms : Members) → HasKeys (node_keys (Some row)) ms → list_any is_needed row.settings ≡ true → IsThere (codes "set") (object ms)
set_needed row ms h n =
    there_in (node_keys (Some row)) ms (codes "set") (record { name = codes "set"; needed = list_any is_needed row.settings; form = form.settings_of row }) h refl n

abbrev pub forms_of : List Key → Text → Option Form
forms_of keys k = option_map (λ key. key.form) (named keys k)

mutual
  node_is : (d : Data) → IsClean form.a_node d → node_from d ≡ Some (node_in d)
  node_is (object ms) e =
      let r = row_in_node (object ms) in
      node_with ms r refl (has_keys_if (is_known form.a_node r (object ms)) (node_keys r) ms e)
      (λ row w h. settings_are_found (forms_of (node_keys (Some row))) row ms w refl h.1 (set_needed row ms h))
  node_is null e = absurd (cc)
  node_is (boolean b) e = absurd (cc)
  node_is (number n) e = absurd (cc)
  node_is (string s) e = absurd (cc)
  node_is (array ds) e = absurd (cc)

  settings_are_found : (forms : Text → Option Form) (row : KindRow) (ms : Members) → AreWhole row.settings → forms (codes "set") ≡ Some (form.settings_of row) → first_member forms ms ≡ None
      → (list_any is_needed row.settings ≡ true → IsThere (codes "set") (object ms)) → settings_found row.settings ms ≡ Some (settings_among row.settings ms)
  settings_are_found forms row no_members w a e t = none_needed (list_any is_needed row.settings) t
  settings_are_found forms row (member k d ms) w a e t =
      let none = none_joined (key k) (if_asked (forms k) (λ g. first_in g d)) (first_member forms ms) e in
      choice (bytes_eq (codes "set") k) (settings_of_value row.settings d) (settings_found row.settings ms) (settings_under row.settings d) (settings_among row.settings ms)
      (λ same. settings_is row d w (asked_clean (forms k) (form.settings_of row) d (ap forms (sym (same_bytes (codes "set") k same)) ∙ a) none.0))
      (λ other. settings_are_found forms row ms w a none.1 (λ needed. there_later (codes "set") k d ms other (t needed)))

  settings_is : (kind : KindRow) (d : Data) → AreWhole kind.settings → IsClean (form.settings_of kind) d → settings_of_value kind.settings d ≡ Some (settings_under kind.settings d)
  settings_is kind (object ms) w e =
      let keys = map setting_key kind.settings in
      let h = has_keys_if (is_known (form.settings_of kind) (row_in_node (object ms)) (object ms)) keys ms e in
      set_is kind.settings ms w h (λ n. nodes_are_found (forms_of keys) ms (ap (option_map (λ key. key.form)) n) h.1 (there_as keys ms row.zone_nodes h n refl))
  settings_is kind null w e = absurd (cc)
  settings_is kind (boolean b) w e = absurd (cc)
  settings_is kind (number n) w e = absurd (cc)
  settings_is kind (string s) w e = absurd (cc)
  settings_is kind (array ds) w e = absurd (cc)

  nodes_are_found : (forms : Text → Option Form) (ms : Members) → forms (codes "nodes") ≡ Some form.nodes → first_member forms ms ≡ None → IsThere (codes "nodes") (object ms)
      → nodes_found ms ≡ Some (nodes_among ms)
  nodes_are_found forms no_members a e t = absurd (true≢false (sym t))
  nodes_are_found forms (member k d ms) a e t =
      let none = none_joined (key k) (if_asked (forms k) (λ g. first_in g d)) (first_member forms ms) e in
      choice (bytes_eq (codes "nodes") k) (nodes_of_value d) (nodes_found ms) (nodes_under d) (nodes_among ms)
      (λ same. nodes_is d (asked_clean (forms k) form.nodes d (ap forms (sym (same_bytes (codes "nodes") k same)) ∙ a) none.0))
      (λ other. nodes_are_found forms ms a none.1 (there_later (codes "nodes") k d ms other t))

  nodes_is : (d : Data) → IsClean form.nodes d → nodes_of_value d ≡ Some (nodes_under d)
  nodes_is (array ds) e = nodes_are 0 ds (items_clean form.nodes ds e)
  nodes_is null e = absurd (cc)
  nodes_is (boolean b) e = absurd (cc)
  nodes_is (number n) e = absurd (cc)
  nodes_is (string s) e = absurd (cc)
  nodes_is (object ms) e = absurd (cc)

  nodes_are : (i : ℕ) (ds : Items) → first_item form.a_node i ds ≡ None → nodes_from ds ≡ Some (nodes_in ds)
  nodes_are i no_items e = refl
  nodes_are i (item d ds) e =
      let none = none_joined (index i) (first_in form.a_node d) (first_item form.a_node (suc i) ds) e in
      both_are (λ x xs. x ∷ xs) (node_from d) (nodes_from ds) (node_in d) (nodes_in ds) (node_is d none.0) (nodes_are (suc i) ds none.1)

nodes_of_keys : (keys : List Key) (ms : Members) → HasKeys keys ms → named keys (codes "nodes") ≡ Some (needs (codes "nodes") form.nodes) → nodes_found ms ≡ Some (nodes_among ms)
nodes_of_keys keys ms h n = nodes_are_found (forms_of keys) ms (ap (option_map (λ key. key.form)) n) h.1 (there_in keys ms (codes "nodes") (needs (codes "nodes") form.nodes) h n refl)

-- ---- groups

sockets_of_keys : (keys : List Key) (ms : Members) (k : Text) → HasKeys keys ms → named keys k ≡ Some (needs k form.sockets) → sockets_under k (object ms) ≡ Some (sockets_at k (object ms))
sockets_of_keys keys ms k h n = sockets_is k (object ms) (there_in keys ms k (needs k form.sockets) h n refl) (clean_under keys ms k (needs k form.sockets) h n)

group_are : (name : Option Text) (inputs outputs : Option (List Socket)) (nodes : Option (List Node)) (output : Option (List Named)) (n : Text) (xs ys : List Socket) (ns : List Node) (zs : List Named)
    → name ≡ Some n → inputs ≡ Some xs → outputs ≡ Some ys → nodes ≡ Some ns → output ≡ Some zs
    → option_and_then (λ n. option_and_then (λ xs. option_and_then (λ ys. both (exact.a_group n xs ys) nodes output) outputs) inputs) name ≡ Some (exact.a_group n xs ys ns zs)
group_are name inputs outputs nodes output n xs ys ns zs a b c d e = rw (a, b, c, d, e)

group_is : (d : Data) → IsClean form.a_group d → group_from d ≡ Some (group_in d)
group_is null e = absurd (cc)
group_is (boolean b) e = absurd (cc)
group_is (number n) e = absurd (cc)
group_is (string s) e = absurd (cc)
group_is (array ds) e = absurd (cc)
group_is (object ms) e =
    let d = object ms in
    let r = row_in_node d in
    let keys = keys_of form.a_group r in
    let h = has_keys_if (is_known form.a_group r d) keys ms e in
    let name = needs (codes "name") (form.an_atom atom.an_id) in
    let output = may_have (codes "output") form.outputs in
    group_are (text_under (codes "name") d) (sockets_under (codes "inputs") d) (sockets_under (codes "outputs") d) (nodes_found ms) (inputs_under (codes "output") d)
    (text_at (codes "name") d) (sockets_at (codes "inputs") d) (sockets_at (codes "outputs") d) (nodes_among ms) (inputs_at (codes "output") d)
    (id_is (codes "name") d (there_in keys ms (codes "name") name h refl refl) (clean_under keys ms (codes "name") name h refl))
    (sockets_of_keys keys ms (codes "inputs") h refl) (sockets_of_keys keys ms (codes "outputs") h refl) (nodes_of_keys keys ms h refl)
    (outputs_under (codes "output") d (clean_under keys ms (codes "output") output h refl))

groups_are : (i : ℕ) (ds : Items) → first_item form.a_group i ds ≡ None → groups_from ds ≡ Some (groups_in ds)
groups_are i no_items e = refl
groups_are i (item d ds) e =
    let none = none_joined (index i) (first_in form.a_group d) (first_item form.a_group (suc i) ds) e in
    both_are (λ x xs. x ∷ xs) (group_from d) (groups_from ds) (group_in d) (groups_in ds) (group_is d none.0) (groups_are (suc i) ds none.1)

groups_of_value : (d : Data) → IsClean form.groups d → option_and_then groups_from (as_array d) ≡ Some (option_map_or groups_in (as_array d) [])
groups_of_value null e = absurd (cc)
groups_of_value (boolean b) e = absurd (cc)
groups_of_value (number n) e = absurd (cc)
groups_of_value (string s) e = absurd (cc)
groups_of_value (array ds) e = groups_are 0 ds (items_clean form.groups ds e)
groups_of_value (object ms) e = absurd (cc)

groups_found : (found : Option Data) → ((d : Data) → found ≡ Some d → IsClean form.groups d)
    → option_map_or (λ e. option_and_then groups_from (as_array e)) found (Some []) ≡ Some (option_map_or groups_in (option_and_then as_array found) [])
groups_found None f = refl
groups_found (Some d) f = groups_of_value d (f d refl)

-- ---- trees

one_is : (o : Option ℕ) → option_map_or (λ n. n == 1) o false ≡ true → o ≡ Some (option_map_or in_32_bits o 0)
one_is None e = absurd (true≢false (sym e))
one_is (Some n) e = subst (λ m. ◌≡◌ {A = Option ℕ} (Some m) (Some (in_32_bits m))) (sym (eqb-true n 1 e)) refl

format_found : (found : Option Data) → is_some found ≡ true → ((d : Data) → found ≡ Some d → IsClean (form.an_atom atom.the_format) d)
    → option_and_then as_u64 (option_and_then as_number found) ≡ Some (option_map_or in_32_bits (option_and_then as_u64 (option_and_then as_number found)) 0)
format_found None t f = absurd (true≢false (sym t))
format_found (Some d) t f = one_is (option_and_then as_u64 (as_number d)) (fit (form.an_atom atom.the_format) d (f d refl))

output_found : (found : Option Data) → ((d : Data) → found ≡ Some d → IsClean form.an_input d) → option_map_or (λ e. option_map (λ x. Some x) (input_from e)) found (Some None) ≡ Some (option_map input_in found)
output_found None f = refl
output_found (Some d) f = ap (option_map (λ x. Some x)) (input_is d (f d refl))

tree_are : (format : Option ℕ) (groups : Option (List Group)) (nodes : Option (List Node)) (output : Option (Option Input)) (n : ℕ) (gs : List Group) (ns : List Node) (x : Option Input)
    → format ≡ Some n → groups ≡ Some gs → nodes ≡ Some ns → output ≡ Some x
    → option_and_then (λ n. option_and_then (λ gs. both (exact.a_tree n gs) nodes output) groups) format ≡ Some (exact.a_tree n gs ns x)
tree_are format groups nodes output n gs ns x a b c d = rw (a, b, c, d)

tree_is : (d : Data) → IsClean form.a_tree d → tree_from d ≡ Some (tree_in d)
tree_is null e = absurd (cc)
tree_is (boolean b) e = absurd (cc)
tree_is (number n) e = absurd (cc)
tree_is (string s) e = absurd (cc)
tree_is (array ds) e = absurd (cc)
tree_is (object ms) e =
    let d = object ms in
    let r = row_in_node d in
    let keys = keys_of form.a_tree r in
    let h = has_keys_if (is_known form.a_tree r d) keys ms e in
    let format = needs (codes "format") (form.an_atom atom.the_format) in
    tree_are (format_under d) (groups_under d) (nodes_found ms) (output_under d) (format_in d) (tree_in d).groups (nodes_among ms) (tree_in d).output
    (format_found (get (codes "format") d) (there_in keys ms (codes "format") format h refl refl) (clean_under keys ms (codes "format") format h refl))
    (groups_found (get (codes "groups") d) (clean_under keys ms (codes "groups") (may_have (codes "groups") form.groups) h refl))
    (nodes_of_keys keys ms h refl)
    (output_found (get (codes "output") d) (clean_under keys ms (codes "output") (may_have (codes "output") form.an_input) h refl))

-- where no pointer breaks the form, the tree that is made of the value is the one that the value is
pub tree_is_whole : (d : Data) → InOrder d → IsFirst (BreaksForm d) None → tree_from d ≡ Some (tree_in d)
tree_is_whole d h none = tree_is d (none_first (BreaksForm d) (first_in form.a_tree d) (tree_is_first d h) none)
