-- When a graph stands for a tree, and what its zones open for their turns.
use Rattle.std.specs.Prelude.{◌≡◌, ◌≢◌, ◌<◌, ℕ, List, [], ◌∷◌, map, length, Some}
use Rattle.std.specs.List.{range_with_len}
use Rattle.gn_tree.specs.NodeKinds.{Kind}
use Rattle.gn_tree.specs.Trees.{Tree}
use Rattle.gn_node_set.specs.Meanings.{Has, Node, Zone, Rows, Meanings}
use Rattle.gn_exec_laws.specs.Graphs.{Task, outer_node, outer_link}
use Rattle.gn_meaning.specs.Sites.{Way, the_tree, into, plain_step, turn_step, at_output, at_item, Read, plain_read}
use Rattle.gn_meaning.specs.Bodies.{Body}
use Rattle.gn_meaning.specs.Reads.{Run, a_node, a_group, a_repeat, part_at, run_of}
use Rattle.gn_meaning.specs.There.{LeadsTo}
use Rattle.gn_meaning.specs.Denotation.{Given}
use Rattle.gn_meaning.specs.Demand.{output_read}
use Rattle.gn_stands.specs.Sources.{CarryAll}

-- the list at the outer way, or in a group node of one of these lists
pub data Unfolds (t : Tree) (outer : Way) : Way → Type 0 where
  the_list : Unfolds t outer outer
  in_group : {way : Way} (n : ℕ) (b : Body) (reads : List Read) → Unfolds t outer way → part_at t way n ≡ Some (a_group b reads) → Unfolds t outer (into way (plain_step n))

-- by the rows just the zones in the lists of the tree are zones
pub record KnowsZones {V : Type 0} (rows : Rows Kind V) (t : Tree) : Type 0 where
  pub zones : (way : Way) (outer : Body) (n : ℕ) (run : Run) (b : Body) → LeadsTo t way outer → part_at t way n ≡ Some (a_repeat run b) → rows.role run.kind ≡ Zone
  pub others : (way : Way) (outer : Body) (n : ℕ) (run : Run) → LeadsTo t way outer → part_at t way n ≡ Some (a_node run) → rows.role run.kind ≢ Zone

-- the items of a zone after some turns
abbrev pub items_after : Way → ℕ → ℕ → Body → List Read
items_after way n turns b = map (λ i. plain_read (at_item way n turns i)) (range_with_len 0 (length b.sockets))

module _ {V : Type 0} (given : Given V) (t : Tree) where
  -- the node is that of the run: its links carry what the run reads
  pub record IsNodeOf (run : Run) (node : Node Kind V) : Type 0 where
    pub path : node.path ≡ run.path
    pub kind : node.kind ≡ run.kind
    pub links : CarryAll given t run.reads node.links

  -- the nodes are just those of the runs in some lists; a group node has no run, and the body of a zone is another list
  pub record AreRuns (InLists : Way → Type 0) (nodes : List (Node Kind V)) : Type 0 where
    pub each : (way : Way) (n : ℕ) (run : Run) → InLists way → run_of t (at_output way n 0) ≡ Some run → (node : Node Kind V) × Has nodes node × IsNodeOf run node
    pub only : (node : Node Kind V) → Has nodes node → (way : Way) × (n : ℕ) × (run : Run) × InLists way × (run_of t (at_output way n 0) ≡ Some run) × IsNodeOf run node

  -- a graph with its given values stands for the tree: its nodes are those of the tree's own list and of the groups in it, and what is asked of it is what the tree gives out
  pub record StandsFor (task : Task Kind V) : Type 0 where
    pub nodes : AreRuns (Unfolds t the_tree) task.nodes
    pub roots : CarryAll given t (output_read t ∷ []) task.roots

  -- the lists of some first turns of a zone, and of the groups in them
  abbrev pub InTurns : Way → ℕ → ℕ → Way → Type 0
  InTurns way n turns inner = (k : ℕ) × (k < turns) × Unfolds t (into way (turn_step n k)) inner

  module _ {S T : Type 0} (m : Meanings Kind V S T) where
    -- what the zone opens by the output of its run stands for its turns: the nodes are those of all turns, and its outputs are the items after the last one
    pub record OpensFor (way : Way) (n : ℕ) (b : Body) (zone : Node Kind V) (head : V) : Type 0 where
      pub nodes : AreRuns (InTurns way n (m.rows.turns zone.kind head)) (map (outer_node m zone) (m.opens zone.path zone.kind head).nodes)
      pub outputs : CarryAll given t (items_after way n (m.rows.turns zone.kind head) b) (map (outer_link m zone) (m.opens zone.path zone.kind head).outputs)

    -- so do all zones of the tree, whatever their run gives
    abbrev pub ZonesOpen : Type 0
    ZonesOpen = (way : Way) (outer : Body) (n : ℕ) (run : Run) (b : Body) (zone : Node Kind V) (head : V) → LeadsTo t way outer → part_at t way n ≡ Some (a_repeat run b) → IsNodeOf run zone → OpensFor way n b zone head
