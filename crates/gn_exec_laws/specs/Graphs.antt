-- What the outputs of a graph's nodes are, with all its zones opened, and which of the nodes are demanded.
use Rattle.std.specs.Prelude.{◌≡◌, ◌≢◌, ◌↔◌, ℕ, List, [], ◌∷◌, map, Option, Some, None, slice_get, slice_index_or}
use Rattle.gn_node_set.specs.Paths.{Path}
use Rattle.gn_node_set.specs.Meanings.{Has, Source, a_value, an_item, an_output, Link, plain_link, along, Node, Opened, Zone, Choice, Answer, Done, Meanings, AllDiffer, tail_of, selected, converted, answer_for}

-- what an executor works on: nodes, with the given values in their links, and the links to what is asked of them
pub record Task (K V : Type 0) : Type 0 where
  pub nodes : List (Node K V)
  pub roots : List (Link V)

module _ {K V S T : Type 0} (m : Meanings K V S T) where
  -- the values of links
  abbrev pub Reading : Type 0
  Reading = Link V → V

  abbrev pub source_value : (Path → List V) → Source V → V
  source_value outputs (a_value v) = v
  source_value outputs (an_item i) = m.nothing
  source_value outputs (an_output p s) = slice_index_or (outputs p) s m.nothing

  -- the value of a link, from the outputs of the node at each path
  abbrev pub link_value : (Path → List V) → Reading
  link_value outputs link = converted m.rows (source_value outputs link.from) link.through

  -- the value of the first link, which is a switch's condition
  abbrev pub condition : Reading → List (Link V) → V
  condition read [] = m.nothing
  condition read (link ∷ links) = read link

  abbrev pub choice_of : Reading → Node K V → Choice
  choice_of read node = m.rows.choice node.kind (condition read node.links)

  -- the links that a node's run reads
  abbrev pub links_read : Reading → Node K V → List (Link V)
  links_read read node = selected (m.rows.role node.kind) (choice_of read node) node.links

  -- what a run of the node gives, by the row of its kind
  abbrev pub run_of : Reading → Option Answer → Node K V → Done V
  run_of read answer node = m.rows.row node.path node.kind (map read (links_read read node)) answer

  -- what a zone opens, by the one output of its run
  abbrev pub opened_by : Reading → Node K V → Opened K V
  opened_by read zone = m.opens zone.path zone.kind (slice_index_or (run_of read None zone).outputs 0 m.nothing)

  -- inside a zone an item is what the zone's link to it leads to
  abbrev pub outer_source : Node K V → Source V → Link V
  outer_source zone (an_item i) = slice_index_or (tail_of zone.links) i (plain_link (a_value m.nothing))
  outer_source zone source = plain_link source

  -- a link inside a zone, as one of the graph
  abbrev pub outer_link : Node K V → Link V → Link V
  outer_link zone link = along (outer_source zone link.from) link.through

  -- a node inside a zone, as one of the graph
  abbrev pub outer_node : Node K V → Node K V → Node K V
  outer_node zone node = record { path = node.path; kind = node.kind; links = map (outer_link zone) node.links }

  -- the nodes of a zone's turns
  abbrev pub turn_nodes : Reading → Node K V → List (Node K V)
  turn_nodes read zone = map (outer_node zone) (opened_by read zone).nodes

  -- the link that stands for each output of a zone
  abbrev pub result_links : Reading → Node K V → List (Link V)
  result_links read zone = map (outer_link zone) (opened_by read zone).outputs

  -- the answer to each import
  abbrev pub Answers : Type 0
  Answers = Node K V → Answer

  -- by files, the answer to an import is that of its file
  abbrev pub told_by : (List ℕ → Answer) → Answers
  told_by files node = files (m.rows.file node.kind)

  abbrev pub answer_of : Answers → Node K V → Option Answer
  answer_of tells node = answer_for (m.rows.role node.kind) (tells node)

  module _ (task : Task K V) (tells : Answers) (den : Path → List V) where
    -- a node is one of the task, or of a turn of a zone that is such a node itself
    pub data Unfolded : Node K V → Type 0 where
      of_the_graph : {node : Node K V} → Has task.nodes node → Unfolded node
      of_a_turn : {node : Node K V} (zone : Node K V) → Unfolded zone → m.rows.role zone.kind ≡ Zone → Has (turn_nodes (link_value den) zone) node → Unfolded node

    -- the equations: a node gives what its run gives, and a zone what its result links carry
    pub record Solves : Type 0 where
      pub rows : (node : Node K V) → Unfolded node → m.rows.role node.kind ≢ Zone → den node.path ≡ (run_of (link_value den) (answer_of tells node) node).outputs
      pub zones : (node : Node K V) → Unfolded node → m.rows.role node.kind ≡ Zone → den node.path ≡ map (link_value den) (result_links (link_value den) node)

    -- the least set of sources that holds the starts, with an output of a node the sources that its run reads, and with one of a zone where it comes from
    module _ (Starts : Source V → Type 0) where
      pub data Brought : Source V → Type 0 where
        a_start : {x : Source V} → Starts x → Brought x
        an_input : (node : Node K V) (s : ℕ) (link : Link V) → Unfolded node → Brought (an_output node.path s) → Has (links_read (link_value den) node) link → Brought link.from
        a_result : (node : Node K V) (s : ℕ) (link : Link V) → Unfolded node → m.rows.role node.kind ≡ Zone → Brought (an_output node.path s) → slice_get (result_links (link_value den) node) s ≡ Some link → Brought link.from

    abbrev pub IsRoot : Source V → Type 0
    IsRoot x = (link : Link V) × Has task.roots link × (x ≡ link.from)

    abbrev pub Wanted : Source V → Type 0
    Wanted = Brought IsRoot

    -- a demanded node has an output that is wanted
    abbrev pub Demanded : Node K V → Type 0
    Demanded node = Unfolded node × ((s : ℕ) × Wanted (an_output node.path s))

    -- what the outputs of a zone bring
    abbrev pub BehindZone : Node K V → Source V → Type 0
    BehindZone zone = Brought (λ x. (link : Link V) × Has (result_links (link_value den) zone) link × (x ≡ link.from))

    -- what a switch brings besides its condition
    abbrev pub BehindSwitch : Node K V → Source V → Type 0
    BehindSwitch node = Brought (λ x. (link : Link V) × Has (tail_of (links_read (link_value den) node)) link × (x ≡ link.from))

    -- the members of the list are just the demanded nodes, and none stands there twice
    pub record ListsDemand (nodes : List (Node K V)) : Type 0 where
      pub members : (node : Node K V) → Has nodes node ↔ Demanded node
      pub differ : AllDiffer nodes
