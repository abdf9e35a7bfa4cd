-- In the settings of each kind's row no key stands twice, and those of a zone stand together, behind the others.
use Rattle.std.proofs.Common.{◌≡◌, Bool, true, false, not, ◌&&◌, ◌||◌, List, [], ◌∷◌, Some, map, bytes_eq, cond, refl, sym, ap, subst, true≢false}
use Rattle.std.specs.List.{list_all, list_any}
use Rattle.std.proofs.lemmas.Slice.Eq.{bytes_eq-Decides}
use Rattle.gn_kinds.specs.Row.{Text, Setting, zone_items, zone_nodes, zone_output, KindRow}
use Rattle.gn_kinds.specs.Table.{table, values, functions, elsewhere, attributes, geometry_kinds, instance_kinds, groups, row_of_kind}
use Rattle.gn_kinds.proofs.Rows.{row_passes}
use Rattle.gn_form.specs.Form.{Key, named, setting_key}
use Rattle.gn_tree.specs.Form.{stands_with_items}
use Rattle.gn_json.specs.Exact.{is_zone}
use Rattle.gn_json.proofs.Clean.{both_left, both_right}

-- ---- the test

abbrev has_name : Text → Setting → Bool
has_name k s = bytes_eq (setting_key s).name k

abbrev are_apart : List Setting → Bool
are_apart [] = true
are_apart (s ∷ ss) = list_all (λ t. not (has_name (setting_key t).name s)) ss && are_apart ss

abbrev is_nodes : Setting → Bool
is_nodes zone_nodes = true
is_nodes _ = false

abbrev is_output : Setting → Bool
is_output zone_output = true
is_output _ = false

-- no setting stands behind the items of a zone but its nodes and what it gives out
abbrev pub zone_is_last : List Setting → Bool
zone_is_last [] = true
zone_is_last (zone_items ∷ ss) = list_all stands_with_items ss
zone_is_last (s ∷ ss) = zone_is_last ss

abbrev has_whole_zone : List Setting → Bool
has_whole_zone ss = not (list_any is_zone ss) || list_any is_nodes ss && list_any is_output ss

abbrev are_whole : List Setting → Bool
are_whole ss = are_apart ss && has_whole_zone ss && zone_is_last ss

-- ---- what follows of it

abbrev Names : List Key → Setting → Type 0
Names keys s = named keys (setting_key s).name ≡ Some (setting_key s)

-- each of these settings is the one of its name among the keys
abbrev pub NamesEach : List Key → List Setting → Type 0
NamesEach keys [] = Unit {0}
NamesEach keys (s ∷ ss) = Names keys s × NamesEach keys ss

-- each setting is found by its key, a zone has its nodes and what it gives out, and it stands last
abbrev pub AreWhole : List Setting → Type 0
AreWhole ss = NamesEach (map setting_key ss) ss
    × (list_any is_zone ss ≡ true → Names (map setting_key ss) zone_items × Names (map setting_key ss) zone_nodes × Names (map setting_key ss) zone_output)
    × (zone_is_last ss ≡ true)

named_later : (s t : Setting) (keys : List Key) (b : Bool) → has_name (setting_key t).name s ≡ b → not b ≡ true → Names keys t → cond b (Some (setting_key s)) (named keys (setting_key t).name) ≡ Some (setting_key t)
named_later s t keys true e n h = absurd (true≢false (sym n))
named_later s t keys false e n h = h

each_later : (s : Setting) (keys : List Key) (ss : List Setting) → list_all (λ t. not (has_name (setting_key t).name s)) ss ≡ true → NamesEach keys ss → NamesEach (setting_key s ∷ keys) ss
each_later s keys [] e h = tt
each_later s keys (t ∷ ss) e h =
    let rest = list_all (λ t. not (has_name (setting_key t).name s)) ss in
    let apart = both_left (not (has_name (setting_key t).name s)) rest e in
    (named_later s t keys (has_name (setting_key t).name s) refl apart h.0, each_later s keys ss (both_right (not (has_name (setting_key t).name s)) rest e) h.1)

named_first : (s : Setting) (keys : List Key) → Names (setting_key s ∷ keys) s
named_first s keys =
    let name = (setting_key s).name in
    ap (λ b. cond b (Some (setting_key s)) (named keys name)) ((bytes_eq-Decides name name).1 refl)

names_each : (ss : List Setting) → are_apart ss ≡ true → NamesEach (map setting_key ss) ss
names_each [] e = tt
names_each (s ∷ ss) e =
    let first = list_all (λ t. not (has_name (setting_key t).name s)) ss in
    (named_first s (map setting_key ss), each_later s (map setting_key ss) ss (both_left first (are_apart ss) e) (names_each ss (both_right first (are_apart ss) e)))

named_if : (keys : List Key) (it s : Setting) (ss : List Setting) (is : Setting → Bool) (b : Bool) → is s ≡ b → (is s ≡ true → s ≡ it) → NamesEach keys (s ∷ ss) → (b || list_any is ss) ≡ true → (list_any is ss ≡ true → Names keys it) → Names keys it
named_if keys it s ss is true e same h any more = subst (λ x. Names keys x) (same e) h.0
named_if keys it s ss is false e same h any more = more any

named_where : (keys : List Key) (it : Setting) (is : Setting → Bool) → ((s : Setting) → is s ≡ true → s ≡ it) → (ss : List Setting) → NamesEach keys ss → list_any is ss ≡ true → Names keys it
named_where keys it is same [] h any = absurd (true≢false (sym any))
named_where keys it is same (s ∷ ss) h any = named_if keys it s ss is (is s) refl (same s) h any (λ more. named_where keys it is same ss h.1 more)

only_items : (s : Setting) → is_zone s ≡ true → s ≡ zone_items
only_items zone_items e = refl
only_items _ e = absurd (cc)

only_nodes : (s : Setting) → is_nodes s ≡ true → s ≡ zone_nodes
only_nodes zone_nodes e = refl
only_nodes _ e = absurd (cc)

only_output : (s : Setting) → is_output s ≡ true → s ≡ zone_output
only_output zone_output e = refl
only_output _ e = absurd (cc)

implied : (a b : Bool) → (not a || b) ≡ true → a ≡ true → b ≡ true
implied true b e h = e
implied false b e h = absurd (true≢false (sym h))

whole : (ss : List Setting) → are_whole ss ≡ true → AreWhole ss
whole ss e =
    let first = both_left (are_apart ss && has_whole_zone ss) (zone_is_last ss) e in
    let each = names_each ss (both_left (are_apart ss) (has_whole_zone ss) first) in
    let keys = map setting_key ss in
    let parts : list_any is_zone ss ≡ true → (list_any is_nodes ss && list_any is_output ss) ≡ true =
    implied (list_any is_zone ss) (list_any is_nodes ss && list_any is_output ss) (both_right (are_apart ss) (has_whole_zone ss) first) in (
      each,
      λ h. (
        named_where keys zone_items is_zone only_items ss each h,
        named_where keys zone_nodes is_nodes only_nodes ss each (both_left (list_any is_nodes ss) (list_any is_output ss) (parts h)),
        named_where keys zone_output is_output only_output ss each (both_right (list_any is_nodes ss) (list_any is_output ss) (parts h)),
      ),
      both_right (are_apart ss && has_whole_zone ss) (zone_is_last ss) e,
    )

-- ---- the table

table_whole : list_all (list_all (λ row. are_whole row.settings)) table ≡ true
unfolding table values functions elsewhere attributes geometry_kinds instance_kinds groups
table_whole = refl

pub row_whole : (kind : Text) (row : KindRow) → row_of_kind kind ≡ Some row → AreWhole row.settings
row_whole kind row e = whole row.settings (row_passes (λ row. are_whole row.settings) table_whole kind row e).1
