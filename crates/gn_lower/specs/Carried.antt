-- What comes along links, while a tree is unfolded.
use Rattle.std.specs.Prelude.{◌≡◌, ◌++◌, ℕ, suc, List, [], map, length, Bool, true, Option, Some, None, slice_get, slice_set, option_map, option_and_then, IsTrue}
use Rattle.gn_lazy.specs.declared.graph.Origin.{Origin}
use Rattle.gn_lazy.specs.declared.graph.Link.{Link as CodeLink}
use Rattle.gn_lazy.specs.declared.graph.GraphNode.{GraphNode}
use Rattle.gn_lazy.specs.Graphs as graphs
use Rattle.gn_lazy.specs.Graphs.{has_output}
use Rattle.gn_tree.specs.Trees.{Tree}
use Rattle.gn_tree.specs.declared.kind.Kind.{Kind}
use Rattle.gn_node_set.specs.Meanings as meanings
use Rattle.gn_node_set.specs.Meanings.{a_value, an_output, Link}
use Rattle.gn_meaning.specs.Sites as sites
use Rattle.gn_stands.specs.Sources.{CarriesSite}
use Rattle.gn_found.specs.Filled.{by_name}
use Rattle.gn_table.specs.declared.constant.Constant.{Constant as CodeConstant}
use Rattle.gn_table.specs.declared.read.Site.{Site}
use Rattle.gn_table.specs.declared.read.Site.TheVariants as site
use Rattle.gn_table.specs.declared.read.Read.{Read}
use Rattle.gn_table.specs.Constants.{name_of}
use Rattle.gn_table.specs.Reads.{kinds_of}
use Rattle.gn_lower.specs.declared.carried.Source.{Source}
use Rattle.gn_lower.specs.declared.carried.Source.TheVariants.{Input, Constant, Out}
use Rattle.gn_lower.specs.declared.carried.Carried.{Carried}
use Rattle.gn_lower.specs.declared.visit.Made.{Made}
use Rattle.gn_lower.specs.declared.visit.Made.TheVariants as made
use Rattle.gn_lower.specs.declared.visit.Visit.{Visit}
use Rattle.gn_table.specs.declared.table.Table.{Table}
use Rattle.gn_lower.specs.Lowered.{Named, link_of, source_of}

-- a source, with the conversions on the way from it
pub record Came : Type 0 where
  pub source : Source
  pub through : List ℕ

abbrev pub came_of : Carried → Came
came_of c = record { source = c.source; through = c.through.items }

abbrev pub plain : Source → Came
plain source = record { source = source; through = [] }

-- at a socket with that conversion
abbrev pub converted : Read → Came → Came
converted r c = record { source = c.source; through = c.through ++ kinds_of r.conversion }

-- ---- by what stands for the nodes of a list

abbrev pub output_by : ℕ → Made → Option Came
output_by socket made.Nothing = None
output_by socket (made.Node number) = Some (plain (Out number socket))
output_by socket (made.Group outputs) = option_map came_of (slice_get outputs.items socket)

abbrev pub output_in : List Made → ℕ → ℕ → Option Came
output_in all node socket = option_and_then (output_by socket) (slice_get all node)

module _ (visit : Visit) where
  abbrev pub came_from : Site → Option Came
  came_from (site.Output node socket) = output_in visit.made.items node socket
  came_from (site.Entry number) = option_map came_of (slice_get visit.entries.items number)
  came_from (site.Constant c) = Some (plain (Constant c))
  came_from site.Nowhere = None

  abbrev pub came_in : Read → Option Came
  came_in r = option_map (converted r) (came_from r.site)

-- ---- by name, in a graph with these nodes

module _ (nodes : List (GraphNode Kind)) where
  abbrev pub named_source : Source → Option (meanings.Source Named)
  named_source Input = Some (a_value None)
  named_source (Constant c) = Some (a_value (Some (name_of c)))
  named_source (Out node socket) = option_map (λ n. an_output n.path.steps.items socket) (slice_get nodes node)

  abbrev pub named_link : Came → Option (Link Named)
  named_link c = option_map (λ x. record { from = x; through = c.through }) (named_source c.source)

  -- an output that is one of these nodes
  abbrev pub is_there : Source → Bool
  is_there Input = true
  is_there (Constant c) = true
  is_there (Out node socket) = has_output (slice_get nodes node) socket

  -- it carries what stands at the site
  pub record Carries (t : Tree) (place : sites.Site) (c : Came) : Type 0 where
    pub link : Link Named
    pub named : named_link c ≡ Some link
    pub carries : CarriesSite by_name t place link
    pub there : IsTrue (is_there c.source)

  -- the origin is that of the source, where the constants grew by its own
  pub record IsOrigin (source : Source) (before after : List CodeConstant) (found : Origin) : Type 0 where
    pub more : List CodeConstant
    pub grown : after ≡ before ++ more
    pub same : source_of nodes after found ≡ named_source source
    pub there : graphs.is_there nodes (length after) found ≡ is_there source

  -- the link carries what came, where the constants grew by its own
  pub record IsLink (c : Came) (before after : List CodeConstant) (link : CodeLink) : Type 0 where
    pub more : List CodeConstant
    pub grown : after ≡ before ++ more
    pub same : link_of nodes after link ≡ named_link c
    pub there : graphs.is_there nodes (length after) link.origin ≡ is_there c.source

  -- the list has what is read, and it leads to one of these nodes
  pub record IsRead (visit : Visit) (r : Read) : Type 0 where
    pub came : Came
    pub is : came_in visit r ≡ Some came
    pub there : IsTrue (is_there came.source)

-- ---- a list that is unfolded

-- no node of the table is unfolded yet
pub record Begins (list : Table) (given : List Came) (visit : Visit) : Type 0 where
  pub table : visit.table.now ≡ list
  pub next : visit.next ≡ 0
  pub entries : map came_of visit.entries.items ≡ given
  pub sized : length visit.made.items ≡ length list.rows.items
  pub nothing : (node socket : ℕ) → output_in visit.made.items node socket ≡ None

-- that stands for the node now, the one behind it comes next, and all else is as before
pub record Makes (old : Visit) (node : ℕ) (x : Made) (new : Visit) : Type 0 where
  pub table : new.table ≡ old.table
  pub next : new.next ≡ suc old.next
  pub entries : new.entries ≡ old.entries
  pub made : new.made.items ≡ slice_set old.made.items node x
