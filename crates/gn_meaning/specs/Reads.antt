-- What the inputs of nodes read, and what lists of nodes give out.
use Rattle.std.specs.Prelude.{ℕ, ◌==◌, ◌++◌, List, [], ◌∷◌, map, find, codes, Option, Some, None, bytes_eq, slice_index_or, option_map, option_and_then, if◌then◌else◌}
use Rattle.std.specs.Option.{option_map_or}
use Rattle.gn_kinds.specs.declared.row.SocketKind.{SocketKind}
use Rattle.gn_kinds.specs.declared.row.SocketKind.TheVariants.{Truth, Int, Fixed, Vector, Geometry}
use Rattle.gn_kinds.specs.declared.row.DefaultValue.{DefaultValue}
use Rattle.gn_kinds.specs.declared.row.DefaultValue.TheVariants.{Zero}
use Rattle.gn_kinds.specs.Row as row
use Rattle.gn_kinds.specs.Row.{Text}
use Rattle.gn_names.specs.First.{first_of}
use Rattle.gn_tree.specs.NodeKinds.{Kind}
use Rattle.gn_tree.specs.Trees.{Link, Input, constant, link, links, Named, Node, node, Tree}
use Rattle.gn_rules.specs.declared.shape.Shape.{Shape}
use Rattle.gn_rules.specs.Sockets.{Declared, one_of, inputs_of, inputs_of_kind, outputs_of, ids, node_at}
use Rattle.gn_rules.specs.Scopes.{Scope, source}
use Rattle.gn_node_set.specs.Paths.{Path}
use Rattle.gn_meaning.specs.Sites.{Way, path_of, Site, at_output, at_input, at_constant, nowhere, a_value, default_at, Read, plain_read}
use Rattle.gn_meaning.specs.Bodies.{Body, body_in, body_at, kind_in}

-- ---- links

-- the number under which a conversion to a kind is named; geometry is never converted
abbrev pub kind_number : SocketKind → ℕ
kind_number Truth = 0
kind_number Int = 1
kind_number Fixed = 2
kind_number Vector = 3
kind_number Geometry = 4

-- the conversion at a socket, where its kind is another
abbrev pub passed : SocketKind → SocketKind → List ℕ
passed from to = if kind_number from == kind_number to then [] else kind_number to ∷ []

abbrev pub number_in : List Declared → Text → Option ℕ
number_in ds name = first_of (map (λ d. d.name) ds) name

-- the site that a link leads from
abbrev pub link_site : Scope → Way → Link → Option Site
link_site s way l =
    if bytes_eq l.from (codes "input") then option_map (at_input way) (number_in s.entries l.socket)
    else option_and_then (λ n. option_and_then (λ x. option_map (at_output way n) (number_in (outputs_of s.groups x) l.socket)) (node_at s.nodes n)) (first_of (ids s.nodes) l.from)

abbrev pub read_from : SocketKind → Option Shape → Option Site → Read
read_from kind (Some shape) (Some site) = record { from = site; through = passed shape.kind kind }
read_from kind _ _ = plain_read nowhere

-- what a link to a socket of that kind reads
abbrev pub link_read : Scope → Way → SocketKind → Link → Read
link_read s way kind l = read_from kind (source s l) (link_site s way l)

-- ---- inputs

abbrev pub input_reads : Scope → Way → SocketKind → Input → List Read
input_reads s way kind (constant v) = plain_read (at_constant (a_value v)) ∷ []
input_reads s way kind (link l) = link_read s way kind l ∷ []
input_reads s way kind (links ls) = map (link_read s way kind) ls

-- a socket that nothing is written for reads its default; one for a list then has no members
abbrev pub unwritten : Shape → DefaultValue → List Read
unwritten shape default = if shape.many then [] else plain_read (at_constant (default_at shape.kind default)) ∷ []

abbrev pub socket_reads : Scope → Way → List Named → Declared → DefaultValue → List Read
socket_reads s way inputs d default =
    option_map_or (λ x. input_reads s way d.shape.kind x.input) (find (λ x. bytes_eq d.name x.name) inputs) (unwritten d.shape default)

-- socket by socket; behind the defaults of a kind's row each socket has zero
abbrev pub reads_of : Scope → Way → List Named → List Declared → List DefaultValue → List Read
reads_of s way inputs [] defaults = []
reads_of s way inputs (d ∷ ds) [] = socket_reads s way inputs d Zero ++ reads_of s way inputs ds []
reads_of s way inputs (d ∷ ds) (x ∷ xs) = socket_reads s way inputs d x ++ reads_of s way inputs ds xs

abbrev pub default_of : row.Input → DefaultValue
default_of (row.field_in name kind default) = default
default_of (row.single_in name kind default) = default
default_of (row.geometry_in name) = Zero
default_of (row.geometries_in name) = Zero
default_of (row.chosen_in name default) = default

-- what the inputs of a node read, in the order of its sockets
abbrev pub node_reads : Scope → Way → Node → List Read
node_reads s way (node id kind settings inputs) =
    reads_of s way inputs (inputs_of s.groups (node id kind settings inputs)) (map default_of (inputs_of_kind kind))

-- what a list of nodes gives out
abbrev pub given_out : Body → Way → List Read
given_out b way = reads_of b.scope way b.output (map one_of b.sockets) []

abbrev pub read_at : List Read → ℕ → Read
read_at reads i = slice_index_or reads i (plain_read nowhere)

-- ---- nodes

-- a run of a node: its path and kind, and what its inputs read
pub record Run : Type 0 where
  pub path : Path
  pub kind : Kind
  pub reads : List Read

-- a node is run, or stands for the nodes of its group; a zone is run and then stands for the turns of its body
pub data Part : Type 0 where
  a_node : Run → Part
  a_group : Body → List Read → Part
  a_repeat : Run → Body → Part

abbrev pub part_by : Text → Option Body → Run → Part
part_by name None run = a_node run
part_by name (Some b) run = if bytes_eq name (codes "group") then a_group b run.reads else a_repeat run b

abbrev pub part_in : Scope → Way → ℕ → Node → Part
part_in s way n (node id kind settings inputs) =
    part_by kind (body_in s kind settings) (record { path = path_of way n; kind = kind_in s (node id kind settings inputs); reads = node_reads s way (node id kind settings inputs) })

-- the node with that number in the list that a way leads to
abbrev pub part_at : Tree → Way → ℕ → Option Part
part_at t way n = option_and_then (λ b. option_map (part_in b.scope way n) (node_at b.scope.nodes n)) (body_at t way)

-- what the list that a way leads to gives out
abbrev pub out_of : Tree → Way → ℕ → Read
out_of t way i = option_map_or (λ b. read_at (given_out b way) i) (body_at t way) (plain_read nowhere)

-- the run of a node; a group node isn't run
abbrev pub run_in : Part → Option Run
run_in (a_node run) = Some run
run_in (a_group b reads) = None
run_in (a_repeat run b) = Some run

-- the run that a value at a site comes from first
abbrev pub run_of : Tree → Site → Option Run
run_of t (at_output way n s) = option_and_then run_in (part_at t way n)
run_of t _ = None
