-- One run from the bytes of its files to its text, by computation.
use Rattle.std.proofs.Common.{◌≡◌, ℕ, false, List, [], ◌∷◌, Some, None, Ok, codes, refl, sym, ap, subst, inr, arith, pos, true}
use Rattle.std.specs.Prelude.{bytes_eq, if◌then◌else◌}
use Rattle.std.specs.Fmt.{digits}
use Rattle.std.specs.List.Sorted.{IsStrictlySortedBy}
use Rattle.std.specs.Str.{is_utf8, chars}
use Rattle.serde_json.specs.Data.{Data, number, unsigned, string, array, object, no_items, item, no_members, member}
use Rattle.serde_json.specs.Read.{read}
use Rattle.serde_json.proofs.OnLiterals.{serde_json_on_literals}
use Rattle.gn_io.specs.Files.{whole}
use Rattle.gn_kinds.specs.Row.{Text}
use Rattle.gn_kinds.specs.Table.{row_of_kind, table, values, functions, elsewhere, attributes, geometry_kinds, instance_kinds, groups}
use Rattle.gn_value.specs.Values.{v3}
use Rattle.gn_value.specs.declared.value.Value.TheVariants.{Truth as truth, Vector as vector}
use Rattle.gn_decimal.specs.Decimal.{nearest, small_number, signed_exponent, exponent_of, parts_of, units, raw_of, magnitude_of, num, dec, fraction_digits}
use Rattle.gn_lines.specs.Lines.{lines}
use Rattle.gn_pointers.specs.Pointers.{IsFirst}
use Rattle.gn_tree.specs.Trees.{constant, link, Node, node, no_settings, no_nodes, and_node, Tree}
use Rattle.gn_tree.specs.Rising.{NamesRiseInTree}
use Rattle.gn_form.specs.Form.{a_tree, BreaksForm}
use Rattle.gn_form.specs.Walk.{first_in}
use Rattle.gn_form.proofs.Exact.{tree_is_first}
use Rattle.gn_form.proofs.Sorted.{read_in_order}
use Rattle.gn_json.specs.Answers.{json}
use Rattle.gn_json.specs.Exact.{tree_from}
use Rattle.gn_json.proofs.Formed.{is_of_form}
use Rattle.gn_rules.specs.Rules.{KeepsRules}
use Rattle.gn_rules.specs.Walk.{named, Tells}
use Rattle.gn_rules.proofs.Named.{named_tells}
use Rattle.gn_cycle.specs.Ways.{is_on_cycle}
use Rattle.gn_plain.specs.Geometry.{Shape, of_shape}
use Rattle.gn_rows.specs.Limits.{is_large}
use Rattle.gn_rules.specs.Scopes.{tree_scope}
use Rattle.gn_meaning.specs.Bodies.{kind_in}
use Rattle.gn_meaning.specs.Sites.{the_tree, path_of}
use Rattle.gn_meaning.specs.Reads.{Run, node_reads}
use Rattle.gn_meaning.specs.Forms.{HasForm}
use Rattle.gn_meaning.proofs.Formed.{has_form}
use Rattle.gn_plans.specs.Plans.{Plan, a_move, IsPlan, gives_moved}
use Rattle.gn_plan_laws.specs.Made.{made}
use Rattle.gn_plan_laws.proofs.Planned.{plan_stands, plan_demands}
use Rattle.gn_elements.specs.Read.{mesh}
use Rattle.gn_obj.specs.Written.{obj_text}
use Rattle.gn_app.specs.Command.{Command, eval}
use Rattle.gn_app.specs.Command.{files_of}
use Rattle.gn_app.specs.Ending.{done}
use Rattle.gn_app.specs.Job.{Job, Giving, Leads, IsTree, evaluation, with_mesh, mesh_or_bad}
use Rattle.gn_app.specs.Meaning.{ComesTo, TakesRuns, answers}
use Rattle.gn_app.specs.Outcome.{Outside, Ends}

-- a Set Position that moves by one upwards
abbrev tree_text : Text
tree_text =
    codes "{\"format\":1,\"nodes\":[{\"id\":\"up\",\"kind\":\"set_position\",\"in\":{\"geometry\":{\"from\":\"input\",\"socket\":\"geometry\"},\"offset\":[\"0\",\"0\",\"1\"]}}],\"output\":{\"from\":\"up\",\"socket\":\"geometry\"}}"

abbrev triangle_text : Text
triangle_text = codes "v 0 0 0\nv 1 0 0\nv 0 1 0\nf 1 2 3\n"

abbrev lifted_text : Text
lifted_text = codes "v 0 0 1\nv 1 0 1\nv 0 1 1\nf 1 2 3\n"

abbrev files : Giving
files limit name = if bytes_eq name (codes "t.json") then whole tree_text else whole triangle_text

abbrev command : Command
command = eval (codes "t.json") (codes "in.obj")

-- ---- the tree

abbrev link_data : Text → Data
link_data from = object (member (codes "from") (string from) (member (codes "socket") (string (codes "geometry")) no_members))

abbrev offset_data : Data
offset_data = array (item (string (codes "0")) (item (string (codes "0")) (item (string (codes "1")) no_items)))

abbrev inputs_data : Data
inputs_data = object (member (codes "geometry") (link_data (codes "input")) (member (codes "offset") offset_data no_members))

abbrev node_data : Data
node_data = object (member (codes "id") (string (codes "up")) (member (codes "in") inputs_data (member (codes "kind") (string (codes "set_position")) no_members)))

abbrev tree_data : Data
tree_data = object (member (codes "format") (number (unsigned 1)) (member (codes "nodes") (array (item node_data no_items)) (member (codes "output") (link_data (codes "up")) no_members)))

abbrev up : Node
up = node (codes "up") (codes "set_position") no_settings (
    record { name = codes "geometry"; input = link (record { from = codes "input"; socket = codes "geometry" }) }
    ∷ record { name = codes "offset"; input = constant (vector (v3 (pos 0) (pos 0) (pos 4294967296))) }
    ∷ []
    )

abbrev lifting : Tree
lifting = record {
  format = 1;
  groups = [];
  nodes = and_node up no_nodes;
  output = Some (link (record { from = codes "up"; socket = codes "geometry" }));
}

is_read : read tree_text ≡ Some tree_data
unfolding serde_json_on_literals
is_read = refl

is_json : json tree_text ≡ Some tree_data
unfolding serde_json_on_literals is_utf8 chars
is_json = refl

is_formed : first_in a_tree tree_data ≡ None
unfolding row_of_kind table values functions elsewhere attributes geometry_kinds instance_kinds groups nearest small_number signed_exponent exponent_of parts_of units raw_of magnitude_of num
is_formed = refl

no_misfit : IsFirst (BreaksForm tree_data) None
no_misfit =
    subst (λ p. IsFirst (BreaksForm tree_data) p) is_formed (tree_is_first tree_data (read_in_order tree_text tree_data is_read))

is_from : tree_from tree_data ≡ Some lifting
unfolding row_of_kind table values functions elsewhere attributes geometry_kinds instance_kinds groups nearest small_number signed_exponent exponent_of parts_of units raw_of magnitude_of num
is_from = refl

none_named : named lifting ≡ None
unfolding row_of_kind table values functions elsewhere attributes geometry_kinds instance_kinds groups is_on_cycle
none_named = refl

names_rise : NamesRiseInTree lifting
unfolding IsStrictlySortedBy
names_rise = (λ k d h. absurd (omega (arith, h)), ((((refl, tt), (tt, tt)), tt), tt))

keeps : KeepsRules lifting
keeps = subst (λ found. Tells lifting found) none_named (named_tells lifting names_rise)

is_tree : IsTree tree_text lifting
is_tree = (tree_data, (is_json, no_misfit), is_from, keeps)

-- ---- the input

abbrev triangle : Shape
triangle = record {
  points = v3 (pos 0) (pos 0) (pos 0) ∷ v3 (pos 4294967296) (pos 0) (pos 0) ∷ v3 (pos 0) (pos 4294967296) (pos 0) ∷ [];
  edges = record { lesser = 0; greater = 1 } ∷ record { lesser = 1; greater = 2 } ∷ record { lesser = 0; greater = 2 } ∷ [];
  faces = (record { vertex = 0; edge = 0 } ∷ record { vertex = 1; edge = 1 } ∷ record { vertex = 2; edge = 2 } ∷ []) ∷ [];
}

is_mesh : mesh triangle_text ≡ Ok triangle
unfolding lines mesh nearest small_number signed_exponent exponent_of parts_of units raw_of magnitude_of num
is_mesh = refl

-- ---- the run

abbrev move : Plan
move = a_move true None (v3 (pos 0) (pos 0) (pos 4294967296))

abbrev lift : Run
lift = record {
  path = path_of the_tree 0;
  kind = kind_in (tree_scope lifting) up;
  reads = node_reads (tree_scope lifting) the_tree up;
}

planned : IsPlan lifting move
unfolding row_of_kind table values functions elsewhere attributes geometry_kinds instance_kinds groups
planned =
    gives_moved the_tree 0 lift true None (v3 (pos 0) (pos 0) (pos 4294967296)) (1, refl) refl (
    record {
      kind = refl;
      geometry = (1, refl);
      selections = 0;
      positions = 0;
      offsets = 0;
      selection = (truth true, [], (1, refl), refl, refl);
      position = ((1, refl), refl);
      offset = (vector (v3 (pos 0) (pos 0) (pos 4294967296)), [], (1, refl), refl, refl);
      few = omega arith;
    }
    )

formed : HasForm lifting
formed = has_form lifting (is_of_form tree_text tree_data lifting (is_json, no_misfit) is_from)

small : is_large (of_shape triangle) ≡ false
small = refl

abbrev work : Job
work = evaluation lifting triangle

leads : Leads files command (Ok work)
leads = (Ok lifting, is_tree, inr ((move, planned), sym (ap (λ r. with_mesh lifting (mesh_or_bad r)) is_mesh)))

is_text : obj_text (made move triangle) ≡ lifted_text
unfolding obj_text dec fraction_digits nearest digits
is_text = refl

comes : ComesTo files work lifted_text
comes = record {
  geometry = made move triangle;
  denotes = plan_stands (answers files) lifting triangle move keeps formed small planned;
  is = sym is_text;
}

takes : TakesRuns files work 1
takes = plan_demands (answers files) lifting triangle move keeps formed small planned

-- before the run, and after it
abbrev outside : List ℕ → List Text → ℕ → Outside
outside written asked runs = record {
  shelf = record { holds = None; asked = Some asked; missed = Some []; faults = 0; misses = 0 };
  output = record { held = Some written; faults = 0 };
  runs = runs;
  copies = 0;
}

-- the triangle is lifted, by one node run
the_triangle_is_lifted : Ends files command (outside [] [] 0) (outside lifted_text (files_of command) 1) done
the_triangle_is_lifted = record {
  job = work;
  leads = leads;
  text = lifted_text;
  comes = comes;
  writes = refl;
  demanded = 1;
  takes = takes;
  runs = refl;
}
