-- Each node of its form has a kind, but for those that name a group.
use Rattle.std.proofs.Common.{◌≡◌, ◌≢◌, Bool, true, false, ◌&&◌, ◌||◌, List, [], ◌∷◌, Option, Some, None, is_some, map, bytes_eq, refl, sym, ap, subst, ◌∙◌, cond}
use Rattle.std.specs.Prelude.{option_map, codes, if◌then◌else◌}
use Rattle.std.specs.Option.{option_or, option_map_or}
use Rattle.std.specs.List.{list_all}
use Rattle.std.proofs.lemmas.Slice.Eq.{bytes_eq-Decides}
use Rattle.gn_value.specs.declared.value.Value.{Value}
use Rattle.gn_value.specs.declared.value.Value.TheVariants as value
use Rattle.gn_value.specs.declared.value.ValueKind.{ValueKind}
use Rattle.gn_value.specs.declared.value.ValueKind.TheVariants as value_kind
use Rattle.gn_value.specs.declared.value.Place.{Place}
use Rattle.gn_value.specs.declared.op.CompareKind.TheVariants as compare_kind
use Rattle.gn_kinds.specs.declared.row.SocketKind.{SocketKind}
use Rattle.gn_kinds.specs.declared.row.SocketKind.TheVariants as socket
use Rattle.gn_kinds.specs.Names.{kind_name, kind_named}
use Rattle.gn_kinds.specs.Text.{is_id, is_word}
use Rattle.gn_kinds.specs.Row as row
use Rattle.gn_kinds.specs.Row.{Text, KindRow}
use Rattle.gn_kinds.specs.Table as the
use Rattle.gn_kinds.specs.Table.{values, functions, elsewhere, attributes, geometry_kinds, instance_kinds, groups, table, row_in, row_in_sections, row_of_kind}
use Rattle.gn_tree.specs.Trees as trees
use Rattle.gn_tree.specs.Trees.{Group, Setting, Settings, no_settings, and_setting, and_zone, Node, node}
use Rattle.gn_tree.specs.Nodes.{kind_in, settings_in}
use Rattle.gn_tree.specs.Form.{setting_fits, settings_fit, kept, node_fits, nodes_fit, inputs_fit, output_fits, socket_fits, is_of_kind}
use Rattle.gn_node_kind.specs.Named.{named_in, math_ops, integer_math_ops, vector_math_ops, boolean_math_ops, compare_ops, round_modes}
use Rattle.gn_node_kind.specs.Kinds as k
use Rattle.gn_node_kind.specs.Kinds.{NodeKind, kind_with}

both : (a b : Bool) → (a && b) ≡ true → (a ≡ true) × (b ≡ true)
both true b e = (refl, e)
both false b e = absurd (cc)

-- ---- what settings fit a row

-- a row's setting that is no zone
abbrev is_plain : row.Setting → Bool
is_plain row.zone_items = false
is_plain s = true

ended : (rest : Settings) → settings_fit [] rest ≡ true → rest ≡ no_settings
ended no_settings e = refl
ended (and_setting x rest) e = absurd (cc)
ended (and_zone items nodes output rest) e = absurd (cc)

-- settings that begin with one that fits
abbrev Begins : row.Setting → List row.Setting → Settings → Type 0
Begins s ss set = (x : Setting) × (rest : Settings) × (set ≡ and_setting x rest) × (setting_fits s x ≡ true) × (settings_fit ss rest ≡ true)

no_zone : (s : row.Setting) (ss : List row.Setting) (items : List trees.Socket) (nodes : trees.Nodes) (output : List trees.Named) (rest : Settings) → is_plain s ≡ true → settings_fit (s ∷ ss) (and_zone items nodes output rest) ≡ true → ⊥
no_zone (row.type_in q) ss items nodes output rest plain e = absurd (cc)
no_zone (row.op_in q) ss items nodes output rest plain e = absurd (cc)
no_zone (row.place_in q) ss items nodes output rest plain e = absurd (cc)
no_zone row.a_clamp ss items nodes output rest plain e = absurd (cc)
no_zone row.a_name ss items nodes output rest plain e = absurd (cc)
no_zone row.a_file ss items nodes output rest plain e = absurd (cc)
no_zone (row.value_of q) ss items nodes output rest plain e = absurd (cc)
no_zone row.group_name ss items nodes output rest plain e = absurd (cc)
no_zone row.zone_items ss items nodes output rest plain e = absurd (cc)
no_zone row.zone_nodes ss items nodes output rest plain e = absurd (cc)
no_zone row.zone_output ss items nodes output rest plain e = absurd (cc)

begins : (s : row.Setting) (ss : List row.Setting) (set : Settings) → is_plain s ≡ true → settings_fit (s ∷ ss) set ≡ true → Begins s ss set
begins s ss no_settings plain e = absurd (cc)
begins s ss (and_setting x rest) plain e = let p = both (setting_fits s x) (settings_fit ss rest) e in (x, rest, refl, p.0, p.1)
begins s ss (and_zone items nodes output rest) plain e = absurd (no_zone s ss items nodes output rest plain e)

-- a kind of that name has each of the settings that fit
abbrev Covers : Text → List row.Setting → Type 0
Covers name ss = (known : List Group) (set : Settings) → settings_fit ss set ≡ true → is_some (kind_with known name set) ≡ true

none_covered : (name : Text) → is_some (k.named_in_bare name) ≡ true → Covers name []
none_covered name is known set e = subst (λ set. is_some (kind_with known name set) ≡ true) (sym (ended set e)) is

one_covered : (name : Text) (s : row.Setting) → is_plain s ≡ true → ((x : Setting) → setting_fits s x ≡ true → is_some (k.kind_by_one name x) ≡ true) → Covers name (s ∷ [])
one_covered name s plain each known set e =
    let b = begins s [] set plain e in
    subst (λ set. is_some (kind_with known name set) ≡ true) (sym (b.2 ∙ ap (and_setting b.0) (ended b.1 b.4))) (each b.0 b.3)

two_covered : (name : Text) (s t : row.Setting) → is_plain s ≡ true → is_plain t ≡ true → ((x y : Setting) → setting_fits s x ≡ true → setting_fits t y ≡ true → is_some (k.kind_by_two name x y) ≡ true) → Covers name (s ∷ t ∷ [])
two_covered name s t plain plain' each known set e =
    let b = begins s (t ∷ []) set plain e in
    let c = begins t [] b.1 plain' b.4 in
    subst (λ set. is_some (kind_with known name set) ≡ true) (sym (b.2 ∙ ap (and_setting b.0) (c.2 ∙ ap (and_setting c.0) (ended c.1 c.4)))) (each b.0 c.0 b.3 c.3)

three_covered : (name : Text) (s t u : row.Setting) → is_plain s ≡ true → is_plain t ≡ true → is_plain u ≡ true
    → ((x y z : Setting) → setting_fits s x ≡ true → setting_fits t y ≡ true → setting_fits u z ≡ true → is_some (k.kind_by_three name x y z) ≡ true) → Covers name (s ∷ t ∷ u ∷ [])
three_covered name s t u plain plain' plain'' each known set e =
    let b = begins s (t ∷ u ∷ []) set plain e in
    let c = begins t (u ∷ []) b.1 plain' b.4 in
    let d = begins u [] c.1 plain'' c.4 in
    subst (λ set. is_some (kind_with known name set) ≡ true) (sym (b.2 ∙ ap (and_setting b.0) (c.2 ∙ ap (and_setting c.0) (d.2 ∙ ap (and_setting d.0) (ended d.1 d.4))))) (each b.0 c.0 d.0 b.3 c.3 d.3)

no_rest : (a b c : Bool) → (a && b && c && false) ≡ true → ⊥
no_rest false b c e = cc
no_rest true false c e = cc
no_rest true true false e = cc
no_rest true true true e = cc

zone_covered : Covers (codes "repeat") (row.zone_items ∷ [])
zone_covered known no_settings e = absurd (cc)
zone_covered known (and_setting x rest) e = absurd (cc)
zone_covered known (and_zone items nodes output no_settings) e = refl
zone_covered known (and_zone items nodes output (and_setting x rest)) e = absurd (no_rest (list_all socket_fits items) (nodes_fit nodes) (output_fits output) e)
zone_covered known (and_zone items nodes output (and_zone items' nodes' output' rest)) e = absurd (no_rest (list_all socket_fits items) (nodes_fit nodes) (output_fits output) e)

-- ---- what fits a row's setting

is_op : (ws : List Text) (x : Setting) → setting_fits (row.op_in ws) x ≡ true → (o : Text) × (x ≡ trees.op o) × (is_word ws o ≡ true)
is_op ws (trees.value v) e = absurd (cc)
is_op ws (trees.op o) e = (o, refl, e)
is_op ws (trees.of_kind of) e = absurd (cc)
is_op ws (trees.place p) e = absurd (cc)
is_op ws (trees.clamp on) e = absurd (cc)
is_op ws (trees.a_name t) e = absurd (cc)
is_op ws (trees.file t) e = absurd (cc)
is_op ws (trees.of_group t) e = absurd (cc)

is_type : (ks : List SocketKind) (x : Setting) → setting_fits (row.type_in ks) x ≡ true → (of : SocketKind) × (x ≡ trees.of_kind of) × (is_some (kind_named ks (kind_name of)) ≡ true)
is_type ks (trees.value v) e = absurd (cc)
is_type ks (trees.op o) e = absurd (cc)
is_type ks (trees.of_kind of) e = (of, refl, e)
is_type ks (trees.place p) e = absurd (cc)
is_type ks (trees.clamp on) e = absurd (cc)
is_type ks (trees.a_name t) e = absurd (cc)
is_type ks (trees.file t) e = absurd (cc)
is_type ks (trees.of_group t) e = absurd (cc)

is_place : (ps : List Place) (x : Setting) → setting_fits (row.place_in ps) x ≡ true → (p : Place) × (x ≡ trees.place p)
is_place ps (trees.value v) e = absurd (cc)
is_place ps (trees.op o) e = absurd (cc)
is_place ps (trees.of_kind of) e = absurd (cc)
is_place ps (trees.place p) e = (p, refl)
is_place ps (trees.clamp on) e = absurd (cc)
is_place ps (trees.a_name t) e = absurd (cc)
is_place ps (trees.file t) e = absurd (cc)
is_place ps (trees.of_group t) e = absurd (cc)

is_clamp : (x : Setting) → setting_fits row.a_clamp x ≡ true → (on : Bool) × (x ≡ trees.clamp on)
is_clamp (trees.value v) e = absurd (cc)
is_clamp (trees.op o) e = absurd (cc)
is_clamp (trees.of_kind of) e = absurd (cc)
is_clamp (trees.place p) e = absurd (cc)
is_clamp (trees.clamp on) e = (on, refl)
is_clamp (trees.a_name t) e = absurd (cc)
is_clamp (trees.file t) e = absurd (cc)
is_clamp (trees.of_group t) e = absurd (cc)

is_name : (x : Setting) → setting_fits row.a_name x ≡ true → (t : Text) × (x ≡ trees.a_name t)
is_name (trees.value v) e = absurd (cc)
is_name (trees.op o) e = absurd (cc)
is_name (trees.of_kind of) e = absurd (cc)
is_name (trees.place p) e = absurd (cc)
is_name (trees.clamp on) e = absurd (cc)
is_name (trees.a_name t) e = (t, refl)
is_name (trees.file t) e = absurd (cc)
is_name (trees.of_group t) e = absurd (cc)

is_file : (x : Setting) → setting_fits row.a_file x ≡ true → (t : Text) × (x ≡ trees.file t)
is_file (trees.value v) e = absurd (cc)
is_file (trees.op o) e = absurd (cc)
is_file (trees.of_kind of) e = absurd (cc)
is_file (trees.place p) e = absurd (cc)
is_file (trees.clamp on) e = absurd (cc)
is_file (trees.a_name t) e = absurd (cc)
is_file (trees.file t) e = (t, refl)
is_file (trees.of_group t) e = absurd (cc)

is_value : (kind : ValueKind) (x : Setting) → setting_fits (row.value_of kind) x ≡ true → (v : Value) × (x ≡ trees.value v) × (is_of_kind kind v ≡ true)
is_value kind (trees.value v) e = (v, refl, e)
is_value kind (trees.op o) e = absurd (cc)
is_value kind (trees.of_kind of) e = absurd (cc)
is_value kind (trees.place p) e = absurd (cc)
is_value kind (trees.clamp on) e = absurd (cc)
is_value kind (trees.a_name t) e = absurd (cc)
is_value kind (trees.file t) e = absurd (cc)
is_value kind (trees.of_group t) e = absurd (cc)

-- ---- the kinds with one setting

op_or : {A : Type 0} (same : Bool) (make : A → NodeKind) (a : A) (ops : List (Text × A)) (o : Text) → (is_word (map (λ x. x.0) ops) o ≡ true → is_some (option_map make (named_in ops o)) ≡ true)
    → (same || is_word (map (λ x. x.0) ops) o) ≡ true → is_some (option_map make (if same then Some a else named_in ops o)) ≡ true
op_or true make a ops o more e = refl
op_or false make a ops o more e = more e

op_named : {A : Type 0} (make : A → NodeKind) (ops : List (Text × A)) (o : Text) → is_word (map (λ x. x.0) ops) o ≡ true → is_some (option_map make (named_in ops o)) ≡ true
op_named make [] o e = absurd (cc)
op_named make ((word, a) ∷ ops) o e = op_or (bytes_eq word o) make a ops o (op_named make ops o) e

by_op : {A : Type 0} (name : Text) (make : A → NodeKind) (ops : List (Text × A)) → ((o : Text) → k.kind_by_op name o ≡ option_map make (named_in ops o)) → Covers name (row.op_in (map (λ x. x.0) ops) ∷ [])
by_op name make ops is = one_covered name (row.op_in (map (λ x. x.0) ops)) refl
    (λ x e. (let f = is_op (map (λ x. x.0) ops) x e in
    subst (λ x. is_some (k.kind_by_one name x) ≡ true) (sym f.1) (subst (λ found. is_some found ≡ true) (sym (is f.0)) (op_named make ops f.0 f.2))))

by_place : (name : Text) (ps : List Place) → ((p : Place) → is_some (k.kind_by_place name p) ≡ true) → Covers name (row.place_in ps ∷ [])
by_place name ps is = one_covered name (row.place_in ps) refl (λ x e. (let f = is_place ps x e in subst (λ x. is_some (k.kind_by_one name x) ≡ true) (sym f.1) (is f.0)))

by_type : (name : Text) (ks : List SocketKind) → ((of : SocketKind) → is_some (kind_named ks (kind_name of)) ≡ true → is_some (k.kind_by_type name of) ≡ true) → Covers name (row.type_in ks ∷ [])
by_type name ks is = one_covered name (row.type_in ks) refl (λ x e. (let f = is_type ks x e in subst (λ x. is_some (k.kind_by_one name x) ≡ true) (sym f.1) (is f.0 f.2)))

by_value : (name : Text) (kind : ValueKind) → ((v : Value) → is_of_kind kind v ≡ true → is_some (k.kind_by_value name v) ≡ true) → Covers name (row.value_of kind ∷ [])
by_value name kind is = one_covered name (row.value_of kind) refl (λ x e. (let f = is_value kind x e in subst (λ x. is_some (k.kind_by_one name x) ≡ true) (sym f.1) (is f.0 f.2)))

float_is : (v : Value) → is_of_kind value_kind.Fixed v ≡ true → is_some (k.kind_by_value (codes "float") v) ≡ true
float_is (value.Truth v) e = absurd (cc)
float_is (value.Int v) e = absurd (cc)
float_is (value.Fixed v) e = refl
float_is (value.Vector v) e = absurd (cc)

integer_is : (v : Value) → is_of_kind value_kind.Int v ≡ true → is_some (k.kind_by_value (codes "integer") v) ≡ true
integer_is (value.Truth v) e = absurd (cc)
integer_is (value.Int v) e = refl
integer_is (value.Fixed v) e = absurd (cc)
integer_is (value.Vector v) e = absurd (cc)

boolean_is : (v : Value) → is_of_kind value_kind.Truth v ≡ true → is_some (k.kind_by_value (codes "boolean") v) ≡ true
boolean_is (value.Truth v) e = refl
boolean_is (value.Int v) e = absurd (cc)
boolean_is (value.Fixed v) e = absurd (cc)
boolean_is (value.Vector v) e = absurd (cc)

vector_is : (v : Value) → is_of_kind value_kind.Vector v ≡ true → is_some (k.kind_by_value (codes "vector") v) ≡ true
vector_is (value.Truth v) e = absurd (cc)
vector_is (value.Int v) e = absurd (cc)
vector_is (value.Fixed v) e = absurd (cc)
vector_is (value.Vector v) e = refl

mix_is : (of : SocketKind) → is_some (kind_named (socket.Fixed ∷ socket.Vector ∷ []) (kind_name of)) ≡ true → is_some (k.kind_by_type (codes "mix") of) ≡ true
mix_is socket.Truth e = absurd (cc)
mix_is socket.Int e = absurd (cc)
mix_is socket.Fixed e = refl
mix_is socket.Vector e = refl
mix_is socket.Geometry e = absurd (cc)

random_is : (of : SocketKind) → is_some (kind_named the.value_kinds (kind_name of)) ≡ true → is_some (k.kind_by_type (codes "random_value") of) ≡ true
random_is socket.Truth e = refl
random_is socket.Int e = refl
random_is socket.Fixed e = refl
random_is socket.Vector e = refl
random_is socket.Geometry e = absurd (cc)

-- ---- the kinds with several settings

by_both : (name : Text) (ks : List SocketKind) (ps : List Place) → ((p : Place) (of : SocketKind) → is_some (kind_named ks (kind_name of)) ≡ true → is_some (k.kind_by_type_and_place name of p) ≡ true)
    → Covers name (row.type_in ks ∷ row.place_in ps ∷ [])
by_both name ks ps is = two_covered name (row.type_in ks) (row.place_in ps) refl refl
    (λ x y e e'. (let f = is_type ks x e in
    let g = is_place ps y e' in
    subst (λ x. is_some (k.kind_by_two name x y) ≡ true) (sym f.1) (subst (λ y. is_some (k.kind_by_two name (trees.of_kind f.0) y) ≡ true) (sym g.1) (is g.0 f.0 f.2))))

evaluate_at_index_is : (p : Place) (of : SocketKind) → is_some (kind_named the.value_kinds (kind_name of)) ≡ true → is_some (k.kind_by_type_and_place (codes "evaluate_at_index") of p) ≡ true
evaluate_at_index_is p socket.Truth e = refl
evaluate_at_index_is p socket.Int e = refl
evaluate_at_index_is p socket.Fixed e = refl
evaluate_at_index_is p socket.Vector e = refl
evaluate_at_index_is p socket.Geometry e = absurd (cc)

evaluate_on_domain_is : (p : Place) (of : SocketKind) → is_some (kind_named the.value_kinds (kind_name of)) ≡ true → is_some (k.kind_by_type_and_place (codes "evaluate_on_domain") of p) ≡ true
evaluate_on_domain_is p socket.Truth e = refl
evaluate_on_domain_is p socket.Int e = refl
evaluate_on_domain_is p socket.Fixed e = refl
evaluate_on_domain_is p socket.Vector e = refl
evaluate_on_domain_is p socket.Geometry e = absurd (cc)

capture_attribute_is : (p : Place) (of : SocketKind) → is_some (kind_named the.value_kinds (kind_name of)) ≡ true → is_some (k.kind_by_type_and_place (codes "capture_attribute") of p) ≡ true
capture_attribute_is p socket.Truth e = refl
capture_attribute_is p socket.Int e = refl
capture_attribute_is p socket.Fixed e = refl
capture_attribute_is p socket.Vector e = refl
capture_attribute_is p socket.Geometry e = absurd (cc)

accumulate_is : (p : Place) (of : SocketKind) → is_some (kind_named (socket.Int ∷ socket.Fixed ∷ socket.Vector ∷ []) (kind_name of)) ≡ true → is_some (k.kind_by_type_and_place (codes "accumulate_field") of p) ≡ true
accumulate_is p socket.Truth e = absurd (cc)
accumulate_is p socket.Int e = refl
accumulate_is p socket.Fixed e = refl
accumulate_is p socket.Vector e = refl
accumulate_is p socket.Geometry e = absurd (cc)

compare_is : (o : Text) → is_word (map (λ x. x.0) compare_ops) o ≡ true → (of : SocketKind) → is_some (kind_named (socket.Int ∷ socket.Fixed ∷ []) (kind_name of)) ≡ true → is_some (k.comparison (codes "compare") of o) ≡ true
compare_is o w socket.Truth e = absurd (cc)
compare_is o w socket.Int e = op_named (k.compare compare_kind.Int) compare_ops o w
compare_is o w socket.Fixed e = op_named (k.compare compare_kind.Fixed) compare_ops o w
compare_is o w socket.Vector e = absurd (cc)
compare_is o w socket.Geometry e = absurd (cc)

named_is : (t : Text) (of : SocketKind) → is_some (kind_named the.value_kinds (kind_name of)) ≡ true → is_some (k.kind_by_name_and_type (codes "named_attribute") t of) ≡ true
named_is t socket.Truth e = refl
named_is t socket.Int e = refl
named_is t socket.Fixed e = refl
named_is t socket.Vector e = refl
named_is t socket.Geometry e = absurd (cc)

sample_is : (p : Place) (on : Bool) (of : SocketKind) → is_some (kind_named the.value_kinds (kind_name of)) ≡ true → is_some (k.sample_by (codes "sample_index") of p on) ≡ true
sample_is p on socket.Truth e = refl
sample_is p on socket.Int e = refl
sample_is p on socket.Fixed e = refl
sample_is p on socket.Vector e = refl
sample_is p on socket.Geometry e = absurd (cc)

stored_is : (t : Text) (p : Place) (of : SocketKind) → is_some (kind_named the.value_kinds (kind_name of)) ≡ true → is_some (k.kind_by_name_type_and_place (codes "store_named_attribute") t of p) ≡ true
stored_is t p socket.Truth e = refl
stored_is t p socket.Int e = refl
stored_is t p socket.Fixed e = refl
stored_is t p socket.Vector e = refl
stored_is t p socket.Geometry e = absurd (cc)

compare_covered : Covers (codes "compare") (row.type_in (socket.Int ∷ socket.Fixed ∷ []) ∷ row.op_in (map (λ x. x.0) compare_ops) ∷ [])
compare_covered = two_covered (codes "compare") (row.type_in (socket.Int ∷ socket.Fixed ∷ [])) (row.op_in (map (λ x. x.0) compare_ops)) refl refl
    (λ x y e e'. (let f = is_type (socket.Int ∷ socket.Fixed ∷ []) x e in
    let g = is_op (map (λ x. x.0) compare_ops) y e' in
    subst (λ x. is_some (k.kind_by_two (codes "compare") x y) ≡ true) (sym f.1) (subst (λ y. is_some (k.kind_by_two (codes "compare") (trees.of_kind f.0) y) ≡ true) (sym g.1) (compare_is g.0 g.2 f.0 f.2))))

named_covered : Covers (codes "named_attribute") (row.a_name ∷ row.type_in the.value_kinds ∷ [])
named_covered = two_covered (codes "named_attribute") row.a_name (row.type_in the.value_kinds) refl refl
    (λ x y e e'. (let f = is_name x e in
    let g = is_type the.value_kinds y e' in
    subst (λ x. is_some (k.kind_by_two (codes "named_attribute") x y) ≡ true) (sym f.1) (subst (λ y. is_some (k.kind_by_two (codes "named_attribute") (trees.a_name f.0) y) ≡ true) (sym g.1) (named_is f.0 g.0 g.2))))

sample_covered : Covers (codes "sample_index") (row.type_in the.value_kinds ∷ row.place_in the.any_place ∷ row.a_clamp ∷ [])
sample_covered = three_covered (codes "sample_index") (row.type_in the.value_kinds) (row.place_in the.any_place) row.a_clamp refl refl refl
    (λ x y z e e' e''. (let f = is_type the.value_kinds x e in
    let g = is_place the.any_place y e' in
    let h = is_clamp z e'' in
    subst (λ x. is_some (k.kind_by_three (codes "sample_index") x y z) ≡ true) (sym f.1)
    (subst (λ y. is_some (k.kind_by_three (codes "sample_index") (trees.of_kind f.0) y z) ≡ true) (sym g.1)
    (subst (λ z. is_some (k.kind_by_three (codes "sample_index") (trees.of_kind f.0) (trees.place g.0) z) ≡ true) (sym h.1) (sample_is g.0 h.0 f.0 f.2)))))

stored_covered : Covers (codes "store_named_attribute") (row.a_name ∷ row.type_in the.value_kinds ∷ row.place_in the.any_place ∷ [])
stored_covered = three_covered (codes "store_named_attribute") row.a_name (row.type_in the.value_kinds) (row.place_in the.any_place) refl refl refl
    (λ x y z e e' e''. (let f = is_name x e in
    let g = is_type the.value_kinds y e' in
    let h = is_place the.any_place z e'' in
    subst (λ x. is_some (k.kind_by_three (codes "store_named_attribute") x y z) ≡ true) (sym f.1)
    (subst (λ y. is_some (k.kind_by_three (codes "store_named_attribute") (trees.a_name f.0) y z) ≡ true) (sym g.1)
    (subst (λ z. is_some (k.kind_by_three (codes "store_named_attribute") (trees.a_name f.0) (trees.of_kind g.0) z) ≡ true) (sym h.1) (stored_is f.0 h.0 g.0 g.2)))))

clamp_covered : Covers (codes "map_range") (row.a_clamp ∷ [])
clamp_covered = one_covered (codes "map_range") row.a_clamp refl (λ x e. (let f = is_clamp x e in subst (λ x. is_some (k.kind_by_one (codes "map_range") x) ≡ true) (sym f.1) refl))

removed_covered : Covers (codes "remove_named_attribute") (row.a_name ∷ [])
removed_covered = one_covered (codes "remove_named_attribute") row.a_name refl (λ x e. (let f = is_name x e in subst (λ x. is_some (k.kind_by_one (codes "remove_named_attribute") x) ≡ true) (sym f.1) refl))

file_covered : Covers (codes "import_obj") (row.a_file ∷ [])
file_covered = one_covered (codes "import_obj") row.a_file refl (λ x e. (let f = is_file x e in subst (λ x. is_some (k.kind_by_one (codes "import_obj") x) ≡ true) (sym f.1) refl))

-- ---- the table

-- the row's kind has each of the settings that fit it, unless it is that of groups
abbrev IsCovered : KindRow → Type 0
IsCovered r = r.kind ≢ codes "group" → Covers r.kind (kept r.settings)

abbrev AreCovered : List KindRow → Type 0
AreCovered [] = Unit {0}
AreCovered (r ∷ rs) = IsCovered r × AreCovered rs

values_covered : AreCovered the.values
unfolding values
values_covered = (
  λ h. by_value (codes "float") value_kind.Fixed float_is,
  (
    λ h. by_value (codes "integer") value_kind.Int integer_is,
    (
      λ h. by_value (codes "boolean") value_kind.Truth boolean_is,
      (
        λ h. by_value (codes "vector") value_kind.Vector vector_is,
        (
          λ h. none_covered (codes "position") refl,
          (
            λ h. none_covered (codes "index") refl,
            (
              λ h. none_covered (codes "id") refl,
              (
                λ h. none_covered (codes "normal") refl,
                (
                  λ h. named_covered,
                  (
                    λ h. none_covered (codes "edge_vertices") refl,
                    (λ h. none_covered (codes "vertex_neighbors") refl, tt),
                  ),
                ),
              ),
            ),
          ),
        ),
      ),
    ),
  ),
)

functions_covered : AreCovered the.functions
unfolding functions
functions_covered = (
  λ h. by_op (codes "math") k.math math_ops (λ o. refl),
  (
    λ h. by_op (codes "integer_math") k.integer_math integer_math_ops (λ o. refl),
    (
      λ h. by_op (codes "vector_math") k.vector_math vector_math_ops (λ o. refl),
      (
        λ h. by_op (codes "boolean_math") k.boolean_math boolean_math_ops (λ o. refl),
        (
          λ h. compare_covered,
          (
            λ h. none_covered (codes "clamp") refl,
            (
              λ h. clamp_covered,
              (
                λ h. by_type (codes "mix") (socket.Fixed ∷ socket.Vector ∷ []) mix_is,
                (
                  λ h. by_op (codes "float_to_integer") k.float_to_integer round_modes (λ o. refl),
                  (
                    λ h. none_covered (codes "combine_xyz") refl,
                    (
                      λ h. none_covered (codes "separate_xyz") refl,
                      (
                        λ h. by_type (codes "random_value") the.value_kinds random_is,
                        (λ h. by_type (codes "switch") the.any_kind (λ of e. refl), tt),
                      ),
                    ),
                  ),
                ),
              ),
            ),
          ),
        ),
      ),
    ),
  ),
)

elsewhere_covered : AreCovered the.elsewhere
unfolding elsewhere
elsewhere_covered = (
  λ h. by_both (codes "accumulate_field") (socket.Int ∷ socket.Fixed ∷ socket.Vector ∷ []) the.any_place accumulate_is,
  (
    λ h. by_both (codes "evaluate_at_index") the.value_kinds the.any_place evaluate_at_index_is,
    (
      λ h. by_both (codes "evaluate_on_domain") the.value_kinds the.any_place evaluate_on_domain_is,
      (
        λ h. sample_covered,
        (λ h. by_place (codes "sample_nearest") the.any_place (λ p. refl), tt),
      ),
    ),
  ),
)

attributes_covered : AreCovered the.attributes
unfolding attributes
attributes_covered = (
  λ h. by_both (codes "capture_attribute") the.value_kinds the.any_place capture_attribute_is,
  (
    λ h. stored_covered,
    (
      λ h. removed_covered,
      (
        λ h. by_place (codes "attribute_statistic") the.any_place (λ p. refl),
        (
          λ h. none_covered (codes "domain_size") refl,
          (
            λ h. none_covered (codes "set_position") refl,
            (λ h. none_covered (codes "set_id") refl, tt),
          ),
        ),
      ),
    ),
  ),
)

geometry_kinds_covered : AreCovered the.geometry_kinds
unfolding geometry_kinds
geometry_kinds_covered = (
  λ h. none_covered (codes "join_geometry") refl,
  (
    λ h. none_covered (codes "transform_geometry") refl,
    (
      λ h. by_place (codes "delete_geometry") the.any_but_corner (λ p. refl),
      (
        λ h. by_place (codes "separate_geometry") the.any_but_corner (λ p. refl),
        (
          λ h. none_covered (codes "separate_components") refl,
          (
            λ h. none_covered (codes "bounding_box") refl,
            (
              λ h. none_covered (codes "flip_faces") refl,
              (
                λ h. by_place (codes "mesh_to_points") the.mesh_places (λ p. refl),
                (
                  λ h. none_covered (codes "points_to_vertices") refl,
                  (
                    λ h. none_covered (codes "duplicate_elements") refl,
                    (
                      λ h. none_covered (codes "mesh_line") refl,
                      (
                        λ h. none_covered (codes "grid") refl,
                        (
                          λ h. none_covered (codes "cube") refl,
                          (
                            λ h. none_covered (codes "points") refl,
                            (
                              λ h. file_covered,
                              (λ h. zone_covered, tt),
                            ),
                          ),
                        ),
                      ),
                    ),
                  ),
                ),
              ),
            ),
          ),
        ),
      ),
    ),
  ),
)

instance_kinds_covered : AreCovered the.instance_kinds
unfolding instance_kinds
instance_kinds_covered = (
  λ h. none_covered (codes "geometry_to_instance") refl,
  (
    λ h. none_covered (codes "instance_on_points") refl,
    (
      λ h. none_covered (codes "realize_instances") refl,
      (
        λ h. none_covered (codes "translate_instances") refl,
        (
          λ h. none_covered (codes "scale_instances") refl,
          (λ h. none_covered (codes "instances_to_points") refl, tt),
        ),
      ),
    ),
  ),
)

groups_covered : AreCovered the.groups
unfolding groups
groups_covered = (λ h. absurd (h refl), tt)

-- the row of a kind among covered rows is covered, and it is the row of that kind
abbrev IsRowOf : Text → KindRow → Type 0
IsRowOf kind r = (r.kind ≡ kind) × IsCovered r

some_same : (x y : KindRow) → ◌≡◌ {A = Option KindRow} (Some x) (Some y) → x ≡ y
some_same x y e = cc

found_in : (rows : List KindRow) (kind : Text) (r : KindRow) → AreCovered rows → row_in rows kind ≡ Some r → IsRowOf kind r
found_in [] kind r all e = absurd (cc)
found_in (x ∷ rows) kind r all e = found_if (bytes_eq x.kind kind) kind x r (row_in rows kind) refl all.0 (found_in rows kind r all.1) e
  where
    found_if : (b : Bool) (kind : Text) (x r : KindRow) (rest : Option KindRow) → bytes_eq x.kind kind ≡ b → IsCovered x → (rest ≡ Some r → IsRowOf kind r) → cond b (Some x) rest ≡ Some r → IsRowOf kind r
    found_if true kind x r rest same covered more e = subst (IsRowOf kind) (some_same x r e) ((bytes_eq-Decides x.kind kind).0 same, covered)
    found_if false kind x r rest same covered more e = more e

found_or : (kind : Text) (a b : Option KindRow) (r : KindRow) → (a ≡ Some r → IsRowOf kind r) → (b ≡ Some r → IsRowOf kind r) → option_or a b ≡ Some r → IsRowOf kind r
found_or kind None b r f g e = g e
found_or kind (Some x) b r f g e = f e

none_found : (kind : Text) (r : KindRow) → ◌≡◌ {A = Option KindRow} None (Some r) → IsRowOf kind r
none_found kind r e = absurd (cc)

row_covered : (kind : Text) (r : KindRow) → row_of_kind kind ≡ Some r → IsRowOf kind r
unfolding row_of_kind table
row_covered kind r e =
    found_or kind _ _ r (found_in the.values kind r values_covered) (found_or kind _ _ r (found_in the.functions kind r functions_covered) (found_or kind _ _ r (found_in the.elsewhere kind r elsewhere_covered)
    (found_or kind _ _ r (found_in the.attributes kind r attributes_covered) (found_or kind _ _ r (found_in the.geometry_kinds kind r geometry_kinds_covered) (found_or kind _ _ r (found_in the.instance_kinds kind r instance_kinds_covered)
    (found_or kind _ _ r (found_in the.groups kind r groups_covered) (none_found kind r))))))) e

-- a node of its form has a kind, unless it names a group
pub node_covered : (known : List Group) (x : Node) → node_fits x ≡ true → kind_in x ≢ codes "group" → is_some (kind_with known (kind_in x) (settings_in x)) ≡ true
node_covered known (node id kind set inputs) fits other = by_row (row_of_kind kind) refl (both (is_id id) _ fits).1
  where
    by_row : (found : Option KindRow) → row_of_kind kind ≡ found → option_map_or (λ r. settings_fit (kept r.settings) set && inputs_fit r inputs) found false ≡ true → is_some (kind_with known kind set) ≡ true
    by_row None is e = absurd (cc)
    by_row (Some r) is e =
        let c = row_covered kind r is in
        subst (λ name. is_some (kind_with known name set) ≡ true) c.0 (c.1 (λ e. other (sym c.0 ∙ e)) known set (both (settings_fit (kept r.settings) set) (inputs_fit r inputs) e).0)
