-- Going through a tree finds the first pointer where what stands there is bad.
use Rattle.std.proofs.Common.{◌≡◌, ℕ, suc, ◌<◌, Bool, true, false, List, [], ◌∷◌, All, map, codes, Option, Some, None, IsTrue, refl, sym, ◌∙◌, arith, if◌then◌else◌, true≢false}
use Rattle.std.specs.declared.cmp.Ordering.{Ordering}
use Rattle.std.specs.declared.cmp.Ordering.TheVariants.{Less}
use Rattle.std.specs.Ordering.{nat_cmp}
use Rattle.std.specs.Cmp.Lexicographic.{slice_cmp}
use Rattle.std.specs.List.{AllByRecursion}
use Rattle.std.specs.List.Sorted.{IsStrictlySortedBy}
use Rattle.std.proofs.lemmas.Bool.Decides.{nat_tests}
use Rattle.std.proofs.lemmas.List.Elements.{All-head, All-tail}
use Rattle.gn_kinds.specs.declared.row.SocketKind.TheVariants.{Geometry}
use Rattle.gn_kinds.specs.Row.{Text}
use Rattle.gn_pointers.specs.Pointers.{Step, index, key, Pointer, IsFirst, IsBadAt, joined}
use Rattle.gn_pointers.proofs.First as first
use Rattle.gn_tree.specs.Trees.{Socket, Link, Input, constant, link, links, Named, Node, node, of_kind, op, place, clamp, a_name, file, value, of_group, Settings, no_settings, and_setting, and_zone, Nodes, no_nodes, and_node, Group, Tree}
use Rattle.gn_tree.specs.Rising.{NamesRise, NamesRiseAt, NamesRiseInSettings, NamesRiseInNodes, NamesRiseInGroup, NamesRiseInTree}
use Rattle.gn_rules.specs.declared.shape.Shape.{Shape}
use Rattle.gn_rules.specs.Sockets.{Declared, single, one_of, declared, inputs_of}
use Rattle.gn_rules.specs.Scopes.{Scope, tree_scope, group_scope, zone_scope}
use Rattle.gn_rules.specs.Things.{Thing, the_tree, the_groups, a_group, the_sockets, a_socket, all_nodes, the_nodes, a_node, the_settings, a_group_name, the_inputs, an_input, a_link, Parts, socket_names, groups_from, sockets_from, nodes_from, links_from, inputs_under, given_out, settings_under, output_under, parts}
use Rattle.gn_rules.specs.Walk.{this_or, first_link, in_input, first_input, in_inputs, in_given_out, first_socket, in_sockets, in_group_name, in_node, in_settings, first_node, in_nodes, in_group, first_group, in_groups, in_output, in_tree}

order : Text → Text → Ordering
order = slice_cmp nat_cmp

nat_less : (i j : ℕ) → i < j → nat_cmp i j ≡ Less
nat_less i j h = grind (arith, nat_tests)

module _ (bad : Thing → Bool) where
  abbrev pub IsBad : Thing → Type 0
  IsBad x = IsTrue (bad x)

  abbrev pub FirstIn : Thing → Option Pointer → Type 0
  FirstIn x found = IsFirst (IsBadAt parts IsBad x) found

  abbrev pub FirstAmong : Parts → Option Pointer → Type 0
  FirstAmong xs found = IsFirst (first.Among parts IsBad xs) found

  abbrev pub Comes : Step → Parts → Type 0
  Comes s xs = first.Before parts IsBad s xs

  none : FirstAmong [] None
  none = first.first_of_none parts IsBad

  in_turn : (s : Step) (x : Thing) (xs : Parts) (here later : Option Pointer) → Comes s xs → FirstIn x here → FirstAmong xs later → FirstAmong ((s, x) ∷ xs) (joined s here later)
  in_turn s x xs here later c f g = first.first_of_parts parts IsBad s x xs here later c f g

  this_as : (x : Thing) (b : Bool) (found : Option Pointer) → bad x ≡ b → FirstAmong (parts x) found → FirstIn x (if b then Some [] else found)
  this_as x true found e h = first.first_here parts IsBad x e
  this_as x false found e h = first.first_below parts IsBad x found (λ t. true≢false (sym t ∙ e)) h

  this : (x : Thing) (found : Option Pointer) → FirstAmong (parts x) found → FirstIn x (this_or bad x found)
  this x found h = this_as x (bad x) found refl h

  -- ---- lists, by number

  links_later : (s : Scope) (i j : ℕ) (ls : List Link) → i < j → Comes (index i) (links_from s j ls)
  links_later s i j [] h = tt
  links_later s i j (l ∷ ls) h = (nat_less i j h, links_later s i (suc j) ls (omega arith))

  links_first : (s : Scope) (i : ℕ) (ls : List Link) → FirstAmong (links_from s i ls) (first_link bad s i ls)
  links_first s i [] = none
  links_first s i (l ∷ ls) =
      in_turn (index i) (a_link s l) (links_from s (suc i) ls) (this_or bad (a_link s l) None) (first_link bad s (suc i) ls) (links_later s i (suc i) ls (omega arith)) (this (a_link s l) None none) (links_first s (suc i) ls)

  input_first : (s : Scope) (d : Option Shape) (x : Input) → FirstIn (an_input s d x) (in_input bad s d x)
  input_first s d (constant v) = this (an_input s d (constant v)) None none
  input_first s d (link l) = this (an_input s d (link l)) None none
  input_first s d (links ls) = this (an_input s d (links ls)) (first_link bad s 0 ls) (links_first s 0 ls)

  sockets_later : (names : List Text) (i j : ℕ) (xs : List Socket) → i < j → Comes (index i) (sockets_from names j xs)
  sockets_later names i j [] h = tt
  sockets_later names i j (x ∷ xs) h = (nat_less i j h, sockets_later names i (suc j) xs (omega arith))

  sockets_first : (names : List Text) (i : ℕ) (xs : List Socket) → FirstAmong (sockets_from names i xs) (first_socket bad names i xs)
  sockets_first names i [] = none
  sockets_first names i (x ∷ xs) =
      in_turn (index i) (a_socket names i x.name) (sockets_from names (suc i) xs) (this_or bad (a_socket names i x.name) None) (first_socket bad names (suc i) xs)
      (sockets_later names i (suc i) xs (omega arith)) (this (a_socket names i x.name) None none) (sockets_first names (suc i) xs)

  in_sockets_first : (xs : List Socket) → FirstIn (the_sockets xs) (in_sockets bad xs)
  in_sockets_first xs = this (the_sockets xs) (first_socket bad (socket_names xs) 0 xs) (sockets_first (socket_names xs) 0 xs)

  -- ---- inputs, by name

  inputs_later : (s : Scope) (ds : List Declared) (k : Text) (xs : List Named) → AllByRecursion (λ l. slice_cmp nat_cmp k l ≡ Less) (map (λ x. x.name) xs) → Comes (key k) (inputs_under s ds xs)
  inputs_later s ds k [] h = tt
  inputs_later s ds k (x ∷ xs) h = (h.0, inputs_later s ds k xs h.1)

  inputs_first : (s : Scope) (ds : List Declared) (xs : List Named) → NamesRise xs → FirstAmong (inputs_under s ds xs) (first_input bad s ds xs)
  unfolding IsStrictlySortedBy
  inputs_first s ds [] h = none
  inputs_first s ds (x ∷ xs) h =
      in_turn (key x.name) (an_input s (declared ds x.name) x.input) (inputs_under s ds xs) (in_input bad s (declared ds x.name) x.input) (first_input bad s ds xs)
      (inputs_later s ds x.name xs h.0) (input_first s (declared ds x.name) x.input) (inputs_first s ds xs h.1)

  in_inputs_first : (s : Scope) (ds : List Declared) (xs : List Named) → NamesRise xs → FirstIn (the_inputs s ds xs) (in_inputs bad s ds xs)
  in_inputs_first s ds xs h = this (the_inputs s ds xs) (first_input bad s ds xs) (inputs_first s ds xs h)

  given_out_first : (s : Scope) (sockets : List Socket) (output : List Named) → NamesRise output → FirstIn (given_out s sockets output) (in_given_out bad s sockets output)
  given_out_first s sockets output h = in_inputs_first s (map one_of sockets) output h

  -- ---- nodes

  nodes_later : (s : Scope) (i j : ℕ) (ns : Nodes) → i < j → Comes (index i) (nodes_from s j ns)
  nodes_later s i j no_nodes h = tt
  nodes_later s i j (and_node n ns) h = (nat_less i j h, nodes_later s i (suc j) ns (omega arith))

  group_name_first : (s : Scope) (name : Text) → FirstAmong ((key (codes "group"), a_group_name s name) ∷ []) (in_group_name bad s name)
  group_name_first s name = in_turn (key (codes "group")) (a_group_name s name) [] (this_or bad (a_group_name s name) None) None tt (this (a_group_name s name) None none) none

  node_parts_first : (s : Scope) (i : ℕ) (ds : List Declared) (settings : Settings) (inputs : List Named) → NamesRise inputs → FirstAmong (settings_under s settings) (in_settings bad s settings)
      → FirstAmong ((key (codes "in"), the_inputs s ds inputs) ∷ (key (codes "set"), the_settings s settings) ∷ [])
      (joined (key (codes "in")) (in_inputs bad s ds inputs) (joined (key (codes "set")) (this_or bad (the_settings s settings) (in_settings bad s settings)) None))
  node_parts_first s i ds settings inputs h f =
      let set : Parts = (key (codes "set"), the_settings s settings) ∷ [] in
      let in_set : Option Pointer = this_or bad (the_settings s settings) (in_settings bad s settings) in
      in_turn (key (codes "in")) (the_inputs s ds inputs) set (in_inputs bad s ds inputs) (joined (key (codes "set")) in_set None) (refl, tt) (in_inputs_first s ds inputs h)
      (in_turn (key (codes "set")) (the_settings s settings) [] in_set None tt (this (the_settings s settings) (in_settings bad s settings) f) none)

  zone_first : (inner : Scope) (items : List Socket) (output : List Named) → NamesRise output → FirstIn (the_nodes inner) (in_nodes bad inner)
      → FirstAmong ((key (codes "items"), the_sockets items) ∷ (key (codes "nodes"), the_nodes inner) ∷ (key (codes "output"), given_out inner items output) ∷ [])
      (joined (key (codes "items")) (in_sockets bad items) (joined (key (codes "nodes")) (in_nodes bad inner) (joined (key (codes "output")) (in_given_out bad inner items output) None)))
  zone_first inner items output h f =
      let last : Parts = (key (codes "output"), given_out inner items output) ∷ [] in
      let later : Parts = (key (codes "nodes"), the_nodes inner) ∷ last in
      let in_last : Option Pointer = joined (key (codes "output")) (in_given_out bad inner items output) None in
      in_turn (key (codes "items")) (the_sockets items) later (in_sockets bad items) (joined (key (codes "nodes")) (in_nodes bad inner) in_last) (refl, (refl, tt)) (in_sockets_first items)
      (in_turn (key (codes "nodes")) (the_nodes inner) last (in_nodes bad inner) in_last (refl, tt) f
      (in_turn (key (codes "output")) (given_out inner items output) [] (in_given_out bad inner items output) None tt (given_out_first inner items output h) none))

  mutual
    node_first : (s : Scope) (i : ℕ) (n : Node) → NamesRiseAt n → FirstIn (a_node s i n) (in_node bad s i n)
    node_first s i (node id kind settings inputs) h =
        let ds : List Declared = inputs_of s.groups (node id kind settings inputs) in
        this (a_node s i (node id kind settings inputs)) (joined (key (codes "in")) (in_inputs bad s ds inputs) (joined (key (codes "set")) (this_or bad (the_settings s settings) (in_settings bad s settings)) None))
        (node_parts_first s i ds settings inputs h.0 (settings_first s settings h.1))

    settings_first : (s : Scope) (settings : Settings) → NamesRiseInSettings settings → FirstAmong (settings_under s settings) (in_settings bad s settings)
    settings_first s no_settings h = none
    settings_first s (and_setting (of_group name) rest) h = group_name_first s name
    settings_first s (and_setting (of_kind x) rest) h = settings_first s rest h
    settings_first s (and_setting (op x) rest) h = settings_first s rest h
    settings_first s (and_setting (place x) rest) h = settings_first s rest h
    settings_first s (and_setting (clamp x) rest) h = settings_first s rest h
    settings_first s (and_setting (a_name x) rest) h = settings_first s rest h
    settings_first s (and_setting (file x) rest) h = settings_first s rest h
    settings_first s (and_setting (value x) rest) h = settings_first s rest h
    settings_first s (and_zone items nodes output rest) h =
        let inner : Scope = zone_scope s items nodes in
        zone_first inner items output h.1 (this (the_nodes inner) (first_node bad inner 0 nodes) (nodes_first inner 0 nodes h.0))

    nodes_first : (s : Scope) (i : ℕ) (ns : Nodes) → NamesRiseInNodes ns → FirstAmong (nodes_from s i ns) (first_node bad s i ns)
    nodes_first s i no_nodes h = none
    nodes_first s i (and_node n ns) h =
        in_turn (index i) (a_node s i n) (nodes_from s (suc i) ns) (in_node bad s i n) (first_node bad s (suc i) ns) (nodes_later s i (suc i) ns (omega arith)) (node_first s i n h.0) (nodes_first s (suc i) ns h.1)

  in_nodes_first : (s : Scope) → NamesRiseInNodes s.nodes → FirstIn (the_nodes s) (in_nodes bad s)
  in_nodes_first s h = this (the_nodes s) (first_node bad s 0 s.nodes) (nodes_first s 0 s.nodes h)

  -- ---- groups and the tree

  group_first : (gs : List Group) (i : ℕ) (g : Group) → NamesRiseInGroup g → FirstIn (a_group gs i g) (in_group bad gs i g)
  group_first gs i g h =
      let inner : Scope = group_scope gs i g in
      let outputs : Parts = (key (codes "outputs"), the_sockets g.outputs) ∷ [] in
      let output : Parts = (key (codes "output"), given_out inner g.outputs g.output) ∷ outputs in
      let nodes : Parts = (key (codes "nodes"), the_nodes inner) ∷ output in
      let in_outputs : Option Pointer = joined (key (codes "outputs")) (in_sockets bad g.outputs) None in
      let in_output : Option Pointer = joined (key (codes "output")) (in_given_out bad inner g.outputs g.output) in_outputs in
      let in_rest : Option Pointer = joined (key (codes "nodes")) (in_nodes bad inner) in_output in
      this (a_group gs i g) (joined (key (codes "inputs")) (in_sockets bad g.inputs) in_rest)
      (in_turn (key (codes "inputs")) (the_sockets g.inputs) nodes (in_sockets bad g.inputs) in_rest (refl, (refl, (refl, tt))) (in_sockets_first g.inputs)
      (in_turn (key (codes "nodes")) (the_nodes inner) output (in_nodes bad inner) in_output (refl, (refl, tt)) (in_nodes_first inner h.0)
      (in_turn (key (codes "output")) (given_out inner g.outputs g.output) outputs (in_given_out bad inner g.outputs g.output) in_outputs (refl, tt) (given_out_first inner g.outputs g.output h.1)
      (in_turn (key (codes "outputs")) (the_sockets g.outputs) [] (in_sockets bad g.outputs) None tt (in_sockets_first g.outputs) none))))

  groups_later : (all : List Group) (i j : ℕ) (gs : List Group) → i < j → Comes (index i) (groups_from all j gs)
  groups_later all i j [] h = tt
  groups_later all i j (g ∷ gs) h = (nat_less i j h, groups_later all i (suc j) gs (omega arith))

  groups_first : (all : List Group) (i : ℕ) (gs : List Group) → AllByRecursion NamesRiseInGroup gs → FirstAmong (groups_from all i gs) (first_group bad all i gs)
  groups_first all i [] h = none
  groups_first all i (g ∷ gs) h =
      in_turn (index i) (a_group all i g) (groups_from all (suc i) gs) (in_group bad all i g) (first_group bad all (suc i) gs) (groups_later all i (suc i) gs (omega arith)) (group_first all i g h.0) (groups_first all (suc i) gs h.1)

  output_first : (s : Scope) (x : Option Input) → FirstAmong (output_under s x) (in_output bad s x)
  output_first s None = none
  output_first s (Some x) =
      let d : Option Shape = Some (single Geometry) in
      in_turn (key (codes "output")) (an_input s d x) [] (in_input bad s d x) None tt (input_first s d x) none

  output_last : (k : Text) (s : Scope) (x : Option Input) → slice_cmp nat_cmp k (codes "output") ≡ Less → Comes (key k) (output_under s x)
  output_last k s None e = tt
  output_last k s (Some x) e = (e, tt)

  all_by_recursion : (gs : List Group) → All NamesRiseInGroup gs → AllByRecursion NamesRiseInGroup gs
  all_by_recursion [] h = tt
  all_by_recursion (g ∷ gs) h = (All-head NamesRiseInGroup g gs h, all_by_recursion gs (All-tail NamesRiseInGroup g gs h))

  pub tree_first : (t : Tree) → NamesRiseInTree t → FirstIn (the_tree t) (in_tree bad t)
  tree_first t h =
      let s : Scope = tree_scope t in
      let nodes : Parts = (key (codes "nodes"), all_nodes t) ∷ output_under s t.output in
      let in_all : Option Pointer = this_or bad (all_nodes t) (first_node bad s 0 t.nodes) in
      let in_rest : Option Pointer = joined (key (codes "nodes")) in_all (in_output bad s t.output) in
      this (the_tree t) (joined (key (codes "groups")) (in_groups bad t.groups) in_rest)
      (in_turn (key (codes "groups")) (the_groups t.groups) nodes (in_groups bad t.groups) in_rest (refl, output_last (codes "groups") s t.output refl)
      (this (the_groups t.groups) (first_group bad t.groups 0 t.groups) (groups_first t.groups 0 t.groups (all_by_recursion t.groups h.0)))
      (in_turn (key (codes "nodes")) (all_nodes t) (output_under s t.output) in_all (in_output bad s t.output) (output_last (codes "nodes") s t.output refl)
      (this (all_nodes t) (first_node bad s 0 t.nodes) (nodes_first s 0 t.nodes h.1)) (output_first s t.output)))
