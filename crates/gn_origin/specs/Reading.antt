-- What is read in a list of nodes.
use Rattle.std.specs.Prelude.{◌≡◌, ℕ, List, map, find, codes, bytes_eq, Option, Some, None, option_map}
use Rattle.std.specs.Option.{option_map_or}
use Rattle.gn_kinds.specs.Row.{Text}
use Rattle.gn_kinds.specs.declared.row.SocketKind.{SocketKind}
use Rattle.gn_tree.specs.Trees.{Input, constant, link, links, Named, Node, Tree}
use Rattle.gn_tree.specs.Seen.{group_of, nodes_of, socket_of, tree_of}
use Rattle.gn_rules.specs.Sockets.{one_of, declared, outputs_of}
use Rattle.gn_rules.specs.Scopes.{Scope}
use Rattle.gn_meaning.specs.Sites as sites
use Rattle.gn_meaning.specs.Sites.{Way, Constant, a_value, at_output, at_input, at_constant, nowhere, the_tree, into, Read, plain_read}
use Rattle.gn_meaning.specs.Bodies.{Body, body_at}
use Rattle.gn_meaning.specs.Forms.{NodesHaveForm}
use Rattle.gn_meaning.specs.Reads.{Run, a_node, part_at, link_read, number_in, read_from}
use Rattle.gn_meaning.specs.Origins.{IsReadFrom}
use Rattle.gn_origin.specs.declared.list.List.{List as CodeList}
use Rattle.gn_origin.specs.declared.read.Read.{Read as CodeRead}
use Rattle.gn_origin.specs.declared.walk.Frame.{Frame}
use Rattle.gn_origin.specs.Constants.{kinds_of}
use Rattle.gn_origin.specs.Frames.{way_of, entries_of, site_of, IsThere}
use Rattle.gn_origin.specs.Nodes.{HasGroups}

-- the list as a scope with some groups above
abbrev pub scope_of : CodeList → ℕ → Scope
scope_of l above = record { nodes = nodes_of l.nodes.now; entries = map one_of (map socket_of l.entries.now.list.now); groups = map group_of l.lists.now.tree.now.groups.items; above = above }

abbrev pub tree_by : CodeList → Tree
tree_by l = tree_of l.lists.now.tree.now

-- the list is that at the end of a way
pub record IsAt (l : CodeList) (fs : List Frame) : Type 0 where
  pub body : Body
  pub leads : body_at (tree_by l) (way_of fs) ≡ Some body
  pub above : ℕ
  pub scope : body.scope ≡ scope_of l above
  pub entries : map socket_of l.entries.now.list.now ≡ entries_of fs
  pub form : NodesHaveForm (nodes_of l.nodes.now)
  pub groups : HasGroups l.lists.now

abbrev pub read_of : Way → CodeRead → Read
read_of way x = record { from = site_of way x.site; through = kinds_of x.conversion }

module _ (t : Tree) where
  -- an origin that a plan may have: a constant, the tree's input, or a Set Position that is run
  abbrev pub IsKnown : sites.Site → Type 0
  IsKnown (at_output way n s) = (run : Run) × (part_at t way n ≡ Some (a_node run)) × (run.kind.name ≡ codes "set_position")
  IsKnown (at_input the_tree i) = Unit {0}
  IsKnown (at_constant c) = Unit {0}
  IsKnown _ = ⊥

  -- what is read comes from nothing of this kind
  abbrev pub IsElsewhere : Read → Type 0
  IsElsewhere r = (o : Read) → IsReadFrom t r o → ¬ IsKnown o.from

  abbrev pub IsRead : List Frame → Option CodeRead → Read → Type 0
  IsRead fs None r = IsElsewhere r
  IsRead fs (Some x) r = (read_of (way_of fs) x ≡ r) × IsThere t fs x.site

-- ---- inputs that take one

-- what is read by a socket that takes one; there is no list of links at it
abbrev pub one_read : Scope → Way → SocketKind → Input → Read
one_read s way kind (constant v) = plain_read (at_constant (a_value v))
one_read s way kind (link l) = link_read s way kind l
one_read s way kind (links ls) = plain_read nowhere

abbrev pub named_read : Scope → Way → List Named → Text → SocketKind → Constant → Read
named_read s way inputs name kind default = option_map_or (λ x. one_read s way kind x.input) (find (λ x. bytes_eq name x.name) inputs) (plain_read (at_constant default))

-- what a link reads that leads from the output of that name of the node with that number
abbrev pub node_read : Scope → Way → SocketKind → ℕ → Node → Text → Read
node_read s way kind n x name = read_from kind (declared (outputs_of s.groups x) name) (option_map (at_output way n) (number_in (outputs_of s.groups x) name))
