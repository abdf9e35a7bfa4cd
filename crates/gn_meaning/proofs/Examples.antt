-- Small trees, and what stands in them, by computation.
use Rattle.std.proofs.Common.{◌≡◌, inl, inr, ℕ, zero, suc, ◌*◌, ◌^◌, List, [], ◌∷◌, length, Option, Some, None, ℤ, pos, codes, true, refl, sym, ◌∙◌, subst}
use Rattle.std.specs.Prelude.{Bool, ◌+ℤ◌, ◌*ℤ◌, ◌==◌, bytes_eq, if◌then◌else◌}
use Rattle.std.specs.Option.{option_map_or}
use Rattle.gn_value.specs.declared.value.Value.{Value}
use Rattle.gn_value.specs.declared.value.Value.TheVariants.{Truth as truth, Int as int, Fixed as fixed, Vector as vector}
use Rattle.gn_value.specs.declared.value.ValueKind.{ValueKind}
use Rattle.gn_value.specs.declared.value.ValueKind.TheVariants as to
use Rattle.gn_value.specs.Values.{fx, v3, converted}
use Rattle.gn_kinds.specs.declared.row.SocketKind.{SocketKind}
use Rattle.gn_kinds.specs.declared.row.SocketKind.TheVariants.{Int, Fixed, Geometry}
use Rattle.gn_kinds.specs.Row.{Text}
use Rattle.gn_kinds.specs.Table.{row_of_kind, table, values, functions, elsewhere, attributes, geometry_kinds, instance_kinds, groups}
use Rattle.gn_tree.specs.NodeKinds.{Kind}
use Rattle.gn_tree.specs.Trees.{Input, constant, link, links, Link, Named, Socket, Node, node, Settings, no_settings, and_setting, and_zone, Nodes, no_nodes, and_node, Group, Tree, of_group, of_kind, op, value, file}
use Rattle.gn_node_set.specs.Meanings.{Has, Role, Plain, Switch, File, Zone, Choice, one_case, no_case, first_read, then_read, Answer, Whole, Rows}
use Rattle.gn_meaning.specs.Sites.{Constant, a_value, no_geometry, Way, the_tree, into, plain_step, path_of, Site, at_output, at_input, at_item, at_constant, nowhere, Read, plain_read}
use Rattle.gn_meaning.specs.Bodies.{Body, tree_body}
use Rattle.gn_meaning.specs.Reads.{Run, Part, a_group, a_repeat, part_at, run_of}
use Rattle.gn_meaning.specs.Origins.{origin_within}
use Rattle.gn_meaning.specs.Denotation.{Given, value_within, choice_in, Chooses}
use Rattle.gn_meaning.specs.Demand.{Wanted, a_root, an_input, a_case, a_group_output, a_group_input, a_result, a_first_item, a_later_item, an_item, Demanded, output_read}
use Rattle.gn_meaning.proofs.Paths.{path_names_node, path_of_run}

-- ---- rows of a few kinds over values alone: a geometry is a number

abbrev is : Kind → Text → Bool
is kind name = bytes_eq kind.name name

abbrev role_of : Kind → Role
role_of kind = if is kind (codes "switch") then Switch else (if is kind (codes "repeat") then Zone else (if is kind (codes "import_obj") then File else Plain))

abbrev file_in : Settings → Text
file_in (and_setting (file name) rest) = name
file_in _ = []

abbrev value_in : Settings → List Value
value_in (and_setting (value v) rest) = v ∷ []
value_in _ = []

abbrev case_of : Value → Choice
case_of (truth b) = one_case (if b then 1 else 0)
case_of _ = no_case

abbrev turns_of : Value → ℕ
turns_of (int (pos n)) = n
turns_of _ = 0

abbrev sum : List Value → ℤ
sum (int a ∷ vs) = a +ℤ sum vs
sum _ = pos 0

-- ten times what came before
abbrev digits : ℤ → List Value → ℤ
digits n (int a ∷ vs) = digits (n *ℤ pos 10 +ℤ a) vs
digits n _ = n

abbrev last : List Value → List Value
last [] = []
last (x ∷ []) = x ∷ []
last (x ∷ y ∷ xs) = last (y ∷ xs)

abbrev size : Option Answer → List Value
size (Some (Whole bytes)) = int (pos (length bytes)) ∷ []
size _ = int (pos 0) ∷ []

-- other kinds give what they read
abbrev outputs : Kind → List Value → Option Answer → List Value
outputs kind vs answer =
    if is kind (codes "integer") then value_in kind.settings else
    (if is kind (codes "float") then value_in kind.settings else
    (if is kind (codes "integer_math") then int (sum vs) ∷ [] else
    (if is kind (codes "switch") then last vs else
    (if is kind (codes "join_geometry") then int (digits (pos 0) vs) ∷ [] else
    (if is kind (codes "import_obj") then size answer else vs)))))

abbrev kind_at : ℕ → ValueKind
kind_at n = if n == 0 then to.Truth else (if n == 1 then to.Int else (if n == 2 then to.Fixed else to.Vector))

toy_rows : Rows Kind Value
toy_rows = record {
  role = role_of;
  file = λ kind. file_in kind.settings;
  choice = λ kind v. case_of v;
  row = λ p kind vs answer. record { outputs = outputs kind vs answer; warnings = [] };
  turns = λ kind v. turns_of v;
  convert = λ v n. converted v (kind_at n);
}

abbrev constant_of : Constant → Value
constant_of (a_value v) = v
constant_of _ = int (pos 0)

-- the tree's input is 5, and each file has as many bytes as its name
with_input : Given Value
with_input = record { constant = constant_of; inputs = int (pos 5) ∷ []; files = λ name. Whole name }

abbrev value_of : Tree → ℕ → Site → Option Value
value_of t k site = value_within toy_rows with_input t k site

-- ---- trees

abbrev socket : Text → SocketKind → Socket
socket name kind = record { name = name; kind = kind }

abbrev a_link : Text → Text → Link
a_link id name = record { from = id; socket = name }

abbrev from : Text → Text → Input
from id name = link (a_link id name)

abbrev under : Text → Input → Named
under name x = record { name = name; input = x }

abbrev whole : ℕ → Value
whole n = int (pos n)

-- that number of halves
abbrev halves : ℕ → Value
halves n = fixed (fx (pos (n * 2 ^ 31)))

abbrev group_node : Text → Text → List Named → Node
group_node id name inputs = node id (codes "group") (and_setting (of_group name) no_settings) inputs

abbrev sum_node : Text → Input → Input → Node
sum_node id x y = node id (codes "integer_math") (and_setting (op (codes "add")) no_settings) (under (codes "a") x ∷ under (codes "b") y ∷ [])

abbrev zone : Text → ℕ → List Socket → Nodes → List Named → List Named → Node
zone id n items body output inputs = node id (codes "repeat") (and_zone items body output no_settings) (under (codes "iterations") (constant (whole n)) ∷ inputs)

abbrev tree_of : List Group → Option Input → Nodes → Tree
tree_of gs output ns = record { format = 1; groups = gs; nodes = ns; output = output }

-- ---- a group in a group: the inner one doubles an integer and leaves a second output unwritten; the outer one gives that out as a fixed number

abbrev inner : Group
inner = record {
  name = codes "inner";
  inputs = socket (codes "x") Int ∷ socket (codes "y") Int ∷ [];
  outputs = socket (codes "z") Int ∷ socket (codes "none") Int ∷ [];
  nodes = and_node (sum_node (codes "twice") (from (codes "input") (codes "x")) (from (codes "input") (codes "x"))) no_nodes;
  output = under (codes "z") (from (codes "twice") (codes "value")) ∷ [];
}

abbrev outer : Group
outer = record {
  name = codes "outer";
  inputs = socket (codes "p") Int ∷ [];
  outputs = socket (codes "q") Fixed ∷ [];
  nodes = and_node (group_node (codes "u") (codes "inner") (under (codes "x") (from (codes "input") (codes "p")) ∷ [])) no_nodes;
  output = under (codes "q") (from (codes "u") (codes "z")) ∷ [];
}

-- two and a half becomes the integer two at the outer group's input, is doubled, and ends as a vector
abbrev nested : Tree
nested = tree_of (inner ∷ outer ∷ []) None
    (and_node (node (codes "f") (codes "float") (and_setting (value (halves 5)) no_settings) [])
    (and_node (group_node (codes "g") (codes "outer") (under (codes "p") (from (codes "f") (codes "value")) ∷ []))
    (and_node (node (codes "v") (codes "vector_math") (and_setting (op (codes "add")) no_settings) (under (codes "a") (from (codes "g") (codes "q")) ∷ []))
    no_nodes)))

conversions_on_the_way : value_of nested 9 (at_output the_tree 2 0) ≡ Some (vector (v3 (pos (4 * 2 ^ 32)) (pos (4 * 2 ^ 32)) (pos (4 * 2 ^ 32))))
unfolding row_of_kind table values functions elsewhere attributes geometry_kinds instance_kinds groups converted toy_rows with_input
conversions_on_the_way = refl

-- an output of the inner group that isn't written, and an input of it that isn't linked
unwritten_in_a_group : value_of nested 9 (at_output (into the_tree (plain_step 1)) 0 1) ≡ Some (whole 0)
unfolding row_of_kind table values functions elsewhere attributes geometry_kinds instance_kinds groups converted toy_rows with_input
unwritten_in_a_group = refl

unlinked_in_a_group : value_of nested 9 (at_input (into (into the_tree (plain_step 1)) (plain_step 0)) 1) ≡ Some (whole 0)
unfolding row_of_kind table values functions elsewhere attributes geometry_kinds instance_kinds groups converted toy_rows with_input
unlinked_in_a_group = refl

-- in the inner group its first input is the first node's output, as an integer; the outer group's output is that of the inner node, as a fixed number
origin_into_groups : origin_within nested 9 (at_input (into (into the_tree (plain_step 1)) (plain_step 0)) 0) ≡ Some (record { from = at_output the_tree 0 0; through = 1 ∷ [] })
unfolding row_of_kind table values functions elsewhere attributes geometry_kinds instance_kinds groups
origin_into_groups = refl

origin_out_of_groups : origin_within nested 9 (at_output the_tree 1 0) ≡ Some (record { from = at_output (into (into the_tree (plain_step 1)) (plain_step 0)) 0 0; through = 2 ∷ [] })
unfolding row_of_kind table values functions elsewhere attributes geometry_kinds instance_kinds groups
origin_out_of_groups = refl

-- ---- two items that change places in each of two turns; the second is a fixed number

abbrev swapping : Tree
swapping = tree_of [] None
    (and_node
    (zone (codes "z") 2 (socket (codes "a") Int ∷ socket (codes "b") Fixed ∷ socket (codes "c") Int ∷ []) no_nodes
    (under (codes "a") (from (codes "input") (codes "b")) ∷ under (codes "b") (from (codes "input") (codes "a")) ∷ [])
    (under (codes "a") (constant (whole 7)) ∷ under (codes "b") (constant (halves 5)) ∷ under (codes "c") (constant (whole 9)) ∷ []))
    no_nodes)

after_one_turn : value_of swapping 9 (at_item the_tree 0 1 0) ≡ Some (whole 2)
unfolding row_of_kind table values functions elsewhere attributes geometry_kinds instance_kinds groups converted toy_rows with_input
after_one_turn = refl

after_two_turns : value_of swapping 9 (at_output the_tree 0 1) ≡ Some (halves 4)
unfolding row_of_kind table values functions elsewhere attributes geometry_kinds instance_kinds groups converted toy_rows with_input
after_two_turns = refl

-- an item that the body doesn't write
unwritten_in_a_zone : value_of swapping 9 (at_output the_tree 0 2) ≡ Some (whole 0)
unfolding row_of_kind table values functions elsewhere attributes geometry_kinds instance_kinds groups converted toy_rows with_input
unwritten_in_a_zone = refl

-- the first item after two turns has gone through both kinds
origin_through_turns : origin_within swapping 9 (at_item the_tree 0 2 0) ≡ Some (record { from = at_constant (a_value (whole 7)); through = 2 ∷ 1 ∷ [] })
unfolding row_of_kind table values functions elsewhere attributes geometry_kinds instance_kinds groups
origin_through_turns = refl

-- ---- a zone in a zone: turn k of the outer one adds k twice

abbrev counting : Tree
counting = tree_of [] None
    (and_node
    (zone (codes "z") 3 (socket (codes "a") Int ∷ [])
    (and_node
    (zone (codes "y") 2 (socket (codes "a") Int ∷ socket (codes "k") Int ∷ [])
    (and_node (sum_node (codes "s") (from (codes "input") (codes "a")) (from (codes "input") (codes "k"))) no_nodes)
    (under (codes "a") (from (codes "s") (codes "value")) ∷ under (codes "k") (from (codes "input") (codes "k")) ∷ [])
    (under (codes "a") (from (codes "input") (codes "a")) ∷ under (codes "k") (from (codes "input") (codes "iteration")) ∷ []))
    no_nodes)
    (under (codes "a") (from (codes "y") (codes "a")) ∷ []) (under (codes "a") (constant (whole 10)) ∷ []))
    no_nodes)

twice_none_and_one_and_two : value_of counting 40 (at_output the_tree 0 0) ≡ Some (whole 16)
unfolding row_of_kind table values functions elsewhere attributes geometry_kinds instance_kinds groups converted toy_rows with_input
twice_none_and_one_and_two = refl

-- ---- two imports and the tree's input in a socket for a list, in the order of the links

abbrev import_node : Text → Text → Node
import_node id name = node id (codes "import_obj") (and_setting (file name) no_settings) []

abbrev joined : Tree
joined = tree_of [] (Some (from (codes "j") (codes "geometry")))
    (and_node (import_node (codes "a") (codes "a.obj"))
    (and_node (node (codes "j") (codes "join_geometry") no_settings (under (codes "geometry") (links (a_link (codes "b") (codes "geometry") ∷ a_link (codes "input") (codes "geometry") ∷ a_link (codes "a") (codes "geometry") ∷ [])) ∷ []))
    (and_node (import_node (codes "b") (codes "b"))
    no_nodes)))

links_in_order : value_of joined 9 (output_read joined).from ≡ Some (whole 155)
unfolding row_of_kind table values functions elsewhere attributes geometry_kinds instance_kinds groups converted toy_rows with_input
links_in_order = refl

-- a tree that gives nothing out
nothing_out : output_read nested ≡ plain_read (at_constant no_geometry)
unfolding row_of_kind table values functions elsewhere attributes geometry_kinds instance_kinds groups
nothing_out = refl

-- ---- a switch on a constant chooses the second import

abbrev choosing : Tree
choosing = tree_of [] (Some (from (codes "s") (codes "output")))
    (and_node (import_node (codes "a") (codes "a.obj"))
    (and_node (import_node (codes "b") (codes "b"))
    (and_node (node (codes "s") (codes "switch") (and_setting (of_kind Geometry) no_settings) (under (codes "false") (from (codes "a") (codes "geometry")) ∷ under (codes "switch") (constant (truth true)) ∷ under (codes "true") (from (codes "b") (codes "geometry")) ∷ []))
    no_nodes)))

the_second_case : value_of choosing 3 (output_read choosing).from ≡ Some (whole 1)
unfolding row_of_kind table values functions elsewhere attributes geometry_kinds instance_kinds groups converted toy_rows with_input
the_second_case = refl

abbrev IsWanted : Tree → Site → Type 0
IsWanted t site = Wanted toy_rows with_input t (output_read t ∷ []) site

abbrev IsDemanded : Tree → ℕ → Type 0
IsDemanded t n = Demanded toy_rows with_input t (output_read t ∷ []) (path_of the_tree n)

no_run : Run
no_run = record { path = []; kind = record { name = []; settings = no_settings; groups = [] }; reads = [] }

abbrev run_at : Tree → ℕ → Run
run_at t n = option_map_or (λ run. run) (run_of t (at_output the_tree n 0)) no_run

abbrev read_of : ℕ → Read
read_of n = plain_read (at_output the_tree n 0)

the_switch_is_demanded : IsDemanded choosing 2
unfolding row_of_kind table values functions elsewhere attributes geometry_kinds instance_kinds groups converted toy_rows with_input no_run
the_switch_is_demanded = (at_output the_tree 2 0, a_root (read_of 2) (inl refl), run_at choosing 2, refl, refl)

the_second_import_is_demanded : IsDemanded choosing 1
unfolding row_of_kind table values functions elsewhere attributes geometry_kinds instance_kinds groups converted toy_rows with_input no_run
the_second_import_is_demanded = (at_output the_tree 1 0, a_case (run_at choosing 2) (one_case 1) (read_of 1) (a_root (read_of 2) (inl refl)) refl (1, refl) (inl refl), run_at choosing 1, refl, refl)

-- ---- the first import isn't demanded: what is wanted is among these

abbrev Fine : Site → Type 0
Fine (at_output the_tree zero s) = ⊥
Fine (at_output the_tree (suc n) s) = Unit {0}
Fine (at_constant c) = Unit {0}
Fine _ = ⊥

abbrev ReadsFirst : Option Run → Read → Type 0
ReadsFirst (Some run) r = Has (first_read (role_of run.kind) run.reads) r
ReadsFirst None r = ⊥

abbrev ReadsThen : Option Run → Read → Type 0
ReadsThen (Some run) r = (choice : Choice) × Chooses toy_rows with_input choosing run choice × Has (then_read (role_of run.kind) choice run.reads) r
ReadsThen None r = ⊥

abbrev HasBody : Option Part → Type 0
HasBody (Some (a_group b reads)) = Unit {0}
HasBody (Some (a_repeat run b)) = Unit {0}
HasBody _ = ⊥

fine_first : (way : Way) (n s : ℕ) (r : Read) → Fine (at_output way n s) → ReadsFirst (run_of choosing (at_output way n s)) r → Fine r.from
unfolding row_of_kind table values functions elsewhere attributes geometry_kinds instance_kinds groups
fine_first the_tree zero s r f h = absurd f
fine_first the_tree (suc zero) s r f h = absurd h
fine_first the_tree (suc (suc zero)) s r f (inl e) = subst (λ x. Fine x.from) (sym e) tt
fine_first the_tree (suc (suc zero)) s r f (inr h) = absurd h
fine_first the_tree (suc (suc (suc n))) s r f h = absurd h
fine_first (into way step) n s r f h = absurd f

chooses_second : (choice : Choice) (k : ℕ) → choice_in toy_rows with_input choosing (value_within toy_rows with_input choosing k) (run_at choosing 2) ≡ Some choice → one_case 1 ≡ choice
unfolding row_of_kind table values functions elsewhere attributes geometry_kinds instance_kinds groups toy_rows with_input no_run
chooses_second choice zero e = cc
chooses_second choice (suc k) e = cc

only_second : (r : Read) → Has (read_of 1 ∷ []) r → Fine r.from
only_second r (inl e) = subst (λ x. Fine x.from) (sym e) tt
only_second r (inr h) = absurd h

fine_then : (way : Way) (n s : ℕ) (r : Read) → Fine (at_output way n s) → ReadsThen (run_of choosing (at_output way n s)) r → Fine r.from
unfolding row_of_kind table values functions elsewhere attributes geometry_kinds instance_kinds groups no_run
fine_then the_tree zero s r f h = absurd f
fine_then the_tree (suc zero) s r f (choice, c, h) = absurd h
fine_then the_tree (suc (suc zero)) s r f (choice, (k, e), h) = only_second r (subst (λ c. Has (then_read Switch c (run_at choosing 2).reads) r) (sym (chooses_second choice k e)) h)
fine_then the_tree (suc (suc (suc n))) s r f h = absurd h
fine_then (into way step) n s r f h = absurd f

none_has_body : (way : Way) (n s : ℕ) → Fine (at_output way n s) → ¬ HasBody (part_at choosing way n)
unfolding row_of_kind table values functions elsewhere attributes geometry_kinds instance_kinds groups
none_has_body the_tree zero s f h = f
none_has_body the_tree (suc zero) s f h = h
none_has_body the_tree (suc (suc zero)) s f h = h
none_has_body the_tree (suc (suc (suc n))) s f h = h
none_has_body (into way step) n s f h = f

nothing_else : {site : Site} → IsWanted choosing site → Fine site
unfolding row_of_kind table values functions elsewhere attributes geometry_kinds instance_kinds groups toy_rows
nothing_else (a_root r (inl e)) = subst (λ x. Fine x.from) (sym e) tt
nothing_else (a_root r (inr h)) = absurd h
nothing_else (an_input {site = at_output way n s} run r w e h) = fine_first way n s r (nothing_else w) (subst (λ o. ReadsFirst o r) (sym e) h)
nothing_else (an_input {site = at_input way i} run r w e h) = cc
nothing_else (an_input {site = at_item way n k i} run r w e h) = cc
nothing_else (an_input {site = at_constant c} run r w e h) = cc
nothing_else (an_input {site = nowhere} run r w e h) = cc
nothing_else (a_case {site = at_output way n s} run choice r w e c h) = fine_then way n s r (nothing_else w) (subst (λ o. ReadsThen o r) (sym e) (choice, c, h))
nothing_else (a_case {site = at_input way i} run choice r w e c h) = cc
nothing_else (a_case {site = at_item way n k i} run choice r w e c h) = cc
nothing_else (a_case {site = at_constant d} run choice r w e c h) = cc
nothing_else (a_case {site = nowhere} run choice r w e c h) = cc
nothing_else (a_group_output {way} {n} {s} b reads w e) = absurd (none_has_body way n s (nothing_else w) (subst HasBody (sym e) tt))
nothing_else (a_group_input b reads w e) = absurd (nothing_else w)
nothing_else (a_result {way} {n} {s} run b v w e g) = absurd (none_has_body way n s (nothing_else w) (subst HasBody (sym e) tt))
nothing_else (a_first_item run b w e) = absurd (nothing_else w)
nothing_else (a_later_item w) = absurd (nothing_else w)
nothing_else (an_item run b w e) = absurd (nothing_else w)

the_first_import_is_not_demanded : ¬ IsDemanded choosing 0
the_first_import_is_not_demanded (at_output way n s, w, run, e, p) =
    let same : (way ≡ the_tree) × (n ≡ 0) = path_names_node way the_tree n 0 (sym (path_of_run choosing way n s run e) ∙ p) in
    nothing_else (subst (IsWanted choosing) (λ i. at_output (same.0 i) (same.1 i) s) w)
the_first_import_is_not_demanded (at_input way i, w, run, e, p) = cc
the_first_import_is_not_demanded (at_item way n k i, w, run, e, p) = cc
the_first_import_is_not_demanded (at_constant c, w, run, e, p) = cc
the_first_import_is_not_demanded (nowhere, w, run, e, p) = cc

-- ---- after two turns the first item is what it was before any

body_of : Option Part → Body
body_of (Some (a_group b reads)) = b
body_of (Some (a_repeat run b)) = b
body_of _ = tree_body swapping

abbrev body : Body
body = body_of (part_at swapping the_tree 0)

abbrev IsWantedForFirst : Site → Type 0
IsWantedForFirst site = Wanted toy_rows with_input swapping (read_of 0 ∷ []) site

back_to_the_constant : IsWantedForFirst (at_constant (a_value (whole 7)))
unfolding row_of_kind table values functions elsewhere attributes geometry_kinds instance_kinds groups converted toy_rows with_input no_run body_of
back_to_the_constant =
    let after_two : IsWantedForFirst (at_item the_tree 0 2 0) = a_result {s = 0} (run_at swapping 0) body (whole 2) (a_root (read_of 0) (inl refl)) refl (2, refl) in
    let after_one : IsWantedForFirst (at_item the_tree 0 1 1) = an_item (run_at swapping 0) body (a_later_item after_two) refl in
    let before : IsWantedForFirst (at_item the_tree 0 0 0) = an_item (run_at swapping 0) body (a_later_item after_one) refl in
    a_first_item (run_at swapping 0) body before refl
