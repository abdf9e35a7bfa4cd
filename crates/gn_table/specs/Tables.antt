-- When a table is a list of nodes by numbers.
use Rattle.std.specs.Prelude.{◌≡◌, ℕ, List, [], ◌∷◌, length, codes, Option, Some, None, bytes_eq, slice_get, option_and_then, if◌then◌else◌}
use Rattle.gn_tree.specs.Trees.{Socket, Node, Group, Tree}
use Rattle.gn_tree.specs.Nodes.{kind_in, settings_in}
use Rattle.gn_kinds.specs.declared.row.SocketKind.TheVariants.{Geometry}
use Rattle.gn_rules.specs.Rules.{graph_of}
use Rattle.gn_rules.specs.Sockets.{group_in, group_names, node_at, outputs_of}
use Rattle.gn_names.specs.First.{first_of}
use Rattle.gn_rules.specs.Scopes.{Scope}
use Rattle.gn_meaning.specs.Sites.{Way, path_of}
use Rattle.gn_meaning.specs.Bodies as bodies
use Rattle.gn_meaning.specs.Bodies.{Body, tree_body, group_body}
use Rattle.gn_meaning.specs.Reads.{Run, a_group, part_in, run_in, node_reads, given_out}
use Rattle.gn_meaning.specs.Forms.{NodesHaveForm}
use Rattle.gn_stands.specs.Order.{by_rank}
use Rattle.gn_order.specs.Acyclic.{IsAcyclic}
use Rattle.gn_table.specs.declared.table.Part.{Part}
use Rattle.gn_table.specs.declared.table.Part.TheVariants as part
use Rattle.gn_table.specs.declared.table.Row.{Row}
use Rattle.gn_table.specs.declared.table.Table.{Table}
use Rattle.gn_table.specs.declared.table.Tables.{Tables}
use Rattle.gn_table.specs.declared.read.Read.{Read}
use Rattle.gn_table.specs.Reads.{reads_in}

-- the number of the group that the settings of a group node name
abbrev pub group_at : List Group → Node → Option ℕ
group_at gs x = if bytes_eq (kind_in x) (codes "group") then option_and_then (λ name. first_of (group_names gs) name) (group_in (settings_in x)) else None

-- the run of the node, if it has one
abbrev pub run_at : Scope → Way → ℕ → Node → Run
run_at s way n x = record { path = path_of way n; kind = bodies.kind_in s x; reads = node_reads s way x }

-- a node that is run has as many outputs as it declares; a group node is one of the group with the number
abbrev pub IsPart : Scope → Node → Part → Type 0
IsPart s x (part.Run outputs) = ((way : Way) (n : ℕ) → run_in (part_in s way n x) ≡ Some (run_at s way n x)) × (outputs ≡ length (outputs_of s.groups x))
IsPart s x (part.Group number) = (g : Group) × (slice_get s.groups number ≡ Some g) × ((way : Way) (n : ℕ) → part_in s way n x ≡ a_group (group_body s.groups number g) (node_reads s way x))

pub record IsRow (s : Scope) (x : Node) (row : Row) : Type 0 where
  pub node : row.node.now ≡ x
  pub part : IsPart s x row.part
  pub reads : (way : Way) → reads_in way row.reads.items ≡ node_reads s way x

-- row by row
abbrev pub AreRows : Scope → List Node → List Row → Type 0
AreRows s [] [] = Unit {0}
AreRows s (x ∷ xs) (row ∷ rows) = IsRow s x row × AreRows s xs rows
AreRows s _ _ = ⊥

-- each node has its row
abbrev pub HoldRows : Scope → List Row → Type 0
HoldRows s rows = (n : ℕ) (x : Node) → node_at s.nodes n ≡ Some x → (row : Row) × (slice_get rows n ≡ Some row) × IsRow s x row

-- the table of a list that gives this out
pub record IsTableOf (s : Scope) (reads : List Read) (table : Table) : Type 0 where
  pub rows : HoldRows s table.rows.items
  pub order : table.order.items ≡ by_rank (graph_of s.nodes)
  pub given : table.given.items ≡ reads

pub record IsTable (b : Body) (table : Table) : Type 0 where
  pub rows : HoldRows b.scope table.rows.items
  -- its nodes by rank
  pub order : table.order.items ≡ by_rank (graph_of b.scope.nodes)
  -- what it gives out
  pub given : (way : Way) → reads_in way table.given.items ≡ given_out b way

-- for each group its table
abbrev pub HoldTables : List Group → List Table → Type 0
HoldTables gs tables = (i : ℕ) (g : Group) → slice_get gs i ≡ Some g → (table : Table) × (slice_get tables i ≡ Some table) × IsTable (group_body gs i g) table

-- a table of the tree's own list, and one of each group's
pub record AreTables (t : Tree) (tables : Tables) : Type 0 where
  pub tree : IsTable (tree_body t) tables.tree
  pub groups : HoldTables t.groups tables.groups.items

-- the groups' lists have their form, and no node of them leads back to itself
abbrev pub AreOrdered : List Group → Type 0
AreOrdered gs = (i : ℕ) (g : Group) → slice_get gs i ≡ Some g → NodesHaveForm g.nodes × IsAcyclic (graph_of g.nodes)

-- by which a tree gives out
abbrev pub tree_sockets : List Socket
tree_sockets = record { name = codes "geometry"; kind = Geometry } ∷ []
