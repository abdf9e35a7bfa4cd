-- How the logic stores a node: every part has a code of its own, and a code determines its node.
use Rattle.std.specs.Prelude.{◌≡◌, ◌==◌, ℕ, ℤ, Bool, List, refl, if◌then◌else◌}
use Rattle.std.proofs.Common.{ap, ◌⊎◌, inl, inr}
use Rattle.std.specs.Coded.{Coded, code_by, coded×, coded⊎, coded_ℕ, coded_ℤ, coded_bool, coded_list}
use base.Stored.{Gv, gnil, gnum, gcons}
use Rattle.gn_value.specs.declared.value.Place.{Place}
use Rattle.gn_value.specs.declared.value.Place.TheVariants as p
use Rattle.gn_value.specs.declared.value.Value.{Value}
use Rattle.gn_value.specs.declared.value.Value.TheVariants as v
use Rattle.gn_value.specs.Values.{v3}
use Rattle.gn_kinds.specs.declared.row.SocketKind.{SocketKind}
use Rattle.gn_kinds.specs.declared.row.SocketKind.TheVariants as k
use Rattle.gn_kinds.specs.Row.{Text}
use Rattle.gn_tree.specs.Trees.{Link, Input, constant, link, links, Named, Socket, Setting, of_kind, op, place, clamp, a_name, file, value, of_group, Node, node, Settings, no_settings, and_setting, and_zone, Nodes, no_nodes, and_node}

abbrev head : Gv → Gv
head gnil = gnil
head (gnum n) = gnil
head (gcons a b) = a

abbrev tail : Gv → Gv
tail gnil = gnil
tail (gnum n) = gnil
tail (gcons a b) = b

-- ---- kinds, places and values

abbrev kind_number : SocketKind → ℕ
kind_number k.Truth = 0
kind_number k.Int = 1
kind_number k.Fixed = 2
kind_number k.Vector = 3
kind_number k.Geometry = 4

abbrev kind_of_number : ℕ → SocketKind
kind_of_number n = if n == 0 then k.Truth else (if n == 1 then k.Int else (if n == 2 then k.Fixed else (if n == 3 then k.Vector else k.Geometry)))

pub kind_back : (x : SocketKind) → kind_of_number (kind_number x) ≡ x
kind_back k.Truth = refl
kind_back k.Int = refl
kind_back k.Fixed = refl
kind_back k.Vector = refl
kind_back k.Geometry = refl

abbrev kind_code : Coded SocketKind
kind_code = code_by ℕ coded_ℕ kind_number kind_of_number kind_back

abbrev place_number : Place → ℕ
place_number p.Point = 0
place_number p.Edge = 1
place_number p.Face = 2
place_number p.Corner = 3
place_number p.Cloud = 4
place_number p.Instance = 5

abbrev place_of_number : ℕ → Place
place_of_number n = if n == 0 then p.Point else (if n == 1 then p.Edge else (if n == 2 then p.Face else (if n == 3 then p.Corner else (if n == 4 then p.Cloud else p.Instance))))

pub place_back : (x : Place) → place_of_number (place_number x) ≡ x
place_back p.Point = refl
place_back p.Edge = refl
place_back p.Face = refl
place_back p.Corner = refl
place_back p.Cloud = refl
place_back p.Instance = refl

abbrev place_code : Coded Place
place_code = code_by ℕ coded_ℕ place_number place_of_number place_back

abbrev Raw : Type 0
Raw = Bool ⊎ (ℤ ⊎ (ℤ ⊎ (ℤ × (ℤ × ℤ))))

abbrev raw_code : Coded Raw
raw_code = coded⊎ coded_bool (coded⊎ coded_ℤ (coded⊎ coded_ℤ (coded× coded_ℤ (coded× coded_ℤ coded_ℤ))))

abbrev raw_of : Value → Raw
raw_of (v.Truth b) = inl b
raw_of (v.Int n) = inr (inl n)
raw_of (v.Fixed x) = inr (inr (inl x.0))
raw_of (v.Vector w) = inr (inr (inr (w.x.0, (w.y.0, w.z.0))))

abbrev value_of_raw : Raw → Value
value_of_raw (inl b) = v.Truth b
value_of_raw (inr (inl n)) = v.Int n
value_of_raw (inr (inr (inl n))) = v.Fixed (record { 0 = n })
value_of_raw (inr (inr (inr w))) = v.Vector (v3 w.0 w.1.0 w.1.1)

pub value_back : (x : Value) → value_of_raw (raw_of x) ≡ x
value_back (v.Truth b) = refl
value_back (v.Int n) = refl
value_back (v.Fixed x) = refl
value_back (v.Vector w) = refl

abbrev value_code : Coded Value
value_code = code_by Raw raw_code raw_of value_of_raw value_back

-- ---- links, inputs and sockets

abbrev text_code : Coded Text
text_code = coded_list coded_ℕ

abbrev link_code : Coded Link
link_code = code_by (Text × Text) (coded× text_code text_code) (λ l. (l.from, l.socket)) (λ q. record { from = q.0; socket = q.1 }) (λ _. refl)

abbrev Parts : Type 0
Parts = Value ⊎ (Link ⊎ List Link)

abbrev parts_of : Input → Parts
parts_of (constant x) = inl x
parts_of (link l) = inr (inl l)
parts_of (links ls) = inr (inr ls)

abbrev input_of_parts : Parts → Input
input_of_parts (inl x) = constant x
input_of_parts (inr (inl l)) = link l
input_of_parts (inr (inr ls)) = links ls

pub input_back : (x : Input) → input_of_parts (parts_of x) ≡ x
input_back (constant x) = refl
input_back (link l) = refl
input_back (links ls) = refl

abbrev input_code : Coded Input
input_code = code_by Parts (coded⊎ value_code (coded⊎ link_code (coded_list link_code))) parts_of input_of_parts input_back

abbrev named_code : Coded (List Named)
named_code = coded_list (code_by (Text × Input) (coded× text_code input_code) (λ x. (x.name, x.input)) (λ q. record { name = q.0; input = q.1 }) (λ _. refl))

abbrev sockets_code : Coded (List Socket)
sockets_code = coded_list (code_by (Text × SocketKind) (coded× text_code kind_code) (λ x. (x.name, x.kind)) (λ q. record { name = q.0; kind = q.1 }) (λ _. refl))

-- ---- settings

abbrev Alone : Type 0
Alone = SocketKind ⊎ (Place ⊎ (Bool ⊎ (Value ⊎ (Text ⊎ (Text ⊎ (Text ⊎ Text))))))

abbrev alone_code : Coded Alone
alone_code = coded⊎ kind_code (coded⊎ place_code (coded⊎ coded_bool (coded⊎ value_code (coded⊎ text_code (coded⊎ text_code (coded⊎ text_code text_code))))))

abbrev alone_of : Setting → Alone
alone_of (of_kind x) = inl x
alone_of (place x) = inr (inl x)
alone_of (clamp x) = inr (inr (inl x))
alone_of (value x) = inr (inr (inr (inl x)))
alone_of (op x) = inr (inr (inr (inr (inl x))))
alone_of (a_name x) = inr (inr (inr (inr (inr (inl x)))))
alone_of (file x) = inr (inr (inr (inr (inr (inr (inl x))))))
alone_of (of_group x) = inr (inr (inr (inr (inr (inr (inr x))))))

abbrev setting_of_alone : Alone → Setting
setting_of_alone (inl x) = of_kind x
setting_of_alone (inr (inl x)) = place x
setting_of_alone (inr (inr (inl x))) = clamp x
setting_of_alone (inr (inr (inr (inl x)))) = value x
setting_of_alone (inr (inr (inr (inr (inl x))))) = op x
setting_of_alone (inr (inr (inr (inr (inr (inl x)))))) = a_name x
setting_of_alone (inr (inr (inr (inr (inr (inr (inl x))))))) = file x
setting_of_alone (inr (inr (inr (inr (inr (inr (inr x))))))) = of_group x

pub setting_back : (x : Setting) → setting_of_alone (alone_of x) ≡ x
setting_back (of_kind x) = refl
setting_back (place x) = refl
setting_back (clamp x) = refl
setting_back (value x) = refl
setting_back (op x) = refl
setting_back (a_name x) = refl
setting_back (file x) = refl
setting_back (of_group x) = refl

abbrev setting_code : Coded Setting
setting_code = code_by Alone alone_code alone_of setting_of_alone setting_back

-- ---- nodes

abbrev mutual
  pub node_gv : Node → Gv
  node_gv (node id kind settings inputs) = gcons (text_code.code id) (gcons (text_code.code kind) (gcons (settings_gv settings) (named_code.code inputs)))

  pub settings_gv : Settings → Gv
  settings_gv no_settings = gnil
  settings_gv (and_setting x rest) = gcons (gnum 0) (gcons (setting_code.code x) (settings_gv rest))
  settings_gv (and_zone items nodes output rest) = gcons (gnum 1) (gcons (sockets_code.code items) (gcons (nodes_gv nodes) (gcons (named_code.code output) (settings_gv rest))))

  pub nodes_gv : Nodes → Gv
  nodes_gv no_nodes = gnil
  nodes_gv (and_node x xs) = gcons (node_gv x) (nodes_gv xs)

mutual
  pub node_inj : (x y : Node) → node_gv x ≡ node_gv y → x ≡ y
  node_inj (node a b c d) (node a' b' c' d') e =
      λ i. node (text_code.inj a a' (ap head e) i) (text_code.inj b b' (ap (λ g. head (tail g)) e) i) (settings_inj c c' (ap (λ g. head (tail (tail g))) e) i) (named_code.inj d d' (ap (λ g. tail (tail (tail g))) e) i)

  pub settings_inj : (x y : Settings) → settings_gv x ≡ settings_gv y → x ≡ y
  settings_inj no_settings no_settings e = refl
  settings_inj (and_setting x xs) (and_setting y ys) e = λ i. and_setting (setting_code.inj x y (ap (λ g. head (tail g)) e) i) (settings_inj xs ys (ap (λ g. tail (tail g)) e) i)
  settings_inj (and_zone a b c xs) (and_zone a' b' c' ys) e =
      λ i. and_zone (sockets_code.inj a a' (ap (λ g. head (tail g)) e) i) (nodes_inj b b' (ap (λ g. head (tail (tail g))) e) i) (named_code.inj c c' (ap (λ g. head (tail (tail (tail g)))) e) i) (settings_inj xs ys (ap (λ g. tail (tail (tail (tail g)))) e) i)
  settings_inj _ _ e = cc

  pub nodes_inj : (x y : Nodes) → nodes_gv x ≡ nodes_gv y → x ≡ y
  nodes_inj no_nodes no_nodes e = refl
  nodes_inj (and_node x xs) (and_node y ys) e = λ i. and_node (node_inj x y (ap head e) i) (nodes_inj xs ys (ap tail e) i)
  nodes_inj _ _ e = cc

abbrev pub node_code : Coded Node
node_code = record { code = node_gv; inj = node_inj }
