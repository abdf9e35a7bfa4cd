-- What one step of unfolding changes.
use Rattle.std.specs.Prelude.{◌≡◌, ℕ, [], ◌∷◌, ◌++◌, List, map, length, reverse, Some}
use Rattle.std.specs.declared.alloc.Global.{Global}
use Rattle.std.specs.declared.vec.Vec.{Vec}
use Rattle.gn_lazy.specs.declared.graph.Link.{Link as CodeLink}
use Rattle.gn_lazy.specs.declared.graph.GraphNode.{GraphNode}
use Rattle.gn_lazy.specs.Graphs.{AreThere}
use Rattle.gn_tree.specs.declared.kind.Kind.{Kind}
use Rattle.gn_node_set.specs.Lists.{all_of}
use Rattle.gn_meaning.specs.Sites.{plain_step}
use Rattle.gn_table.specs.declared.constant.Constant.{Constant}
use Rattle.gn_table.specs.declared.read.Read.{Read}
use Rattle.gn_table.specs.declared.table.Row.{Row}
use Rattle.gn_table.specs.declared.table.Table.{Table}
use Rattle.gn_lower.specs.declared.carried.Carried.{Carried}
use Rattle.gn_lower.specs.declared.visit.Visit.{Visit}
use Rattle.gn_lower.specs.declared.visit.Made.TheVariants as made
use Rattle.gn_lower.specs.declared.unfold.Unfolding.{Unfolding}
use Rattle.gn_lower.specs.Lowered.{link_of}
use Rattle.gn_lower.specs.Carried.{Came, came_in, came_of, named_link, Begins, Makes}
use Rattle.gn_lower.specs.Unfolding.{State}

-- what stays the same at each step
pub record Keeps (old new : Unfolding) : Type 0 where
  pub tree : new.tree ≡ old.tree
  pub tables : new.tables ≡ old.tables
  pub groups : new.groups ≡ old.groups

-- the links carry what came along some reads, over these nodes and constants
pub record Carry (nodes : List (GraphNode Kind)) (visit : Visit) (reads : List Read) (constants : List Constant) (links : List CodeLink) : Type 0 where
  pub came : List Came
  pub read : all_of (map (came_in visit) reads) ≡ Some came
  pub seen : map (link_of nodes constants) links ≡ map (named_link nodes) came
  pub there : AreThere nodes (length constants) links

-- they do, and their constants stand behind those before; nothing else is changed
pub record Links (old : Unfolding) (reads : List Read) (links : List CodeLink) (new : Unfolding) : Type 0 where
  pub others : new ≡ record old { constants = new.constants }
  pub more : List Constant
  pub constants : new.constants.items ≡ old.constants.items ++ more
  pub carry : Carry old.nodes.items old.visit reads new.constants.items links

-- a node of the graph was added for the node with that number
pub record Adds (old : State) (n : ℕ) (row : Row) (outputs : ℕ) (new : State) : Type 0 where
  pub way : new.way ≡ old.way
  pub outer : new.outer ≡ old.outer
  pub node : GraphNode Kind
  pub nodes : new.nodes ≡ old.nodes ++ node ∷ []
  pub more : List Constant
  pub constants : new.constants ≡ old.constants ++ more
  pub visit : Makes old.visit n (made.Node (length old.nodes)) new.visit
  pub path : node.path.steps.items ≡ reverse old.way ++ plain_step n ∷ []
  pub outputs_are : node.outputs ≡ outputs
  pub links : Carry old.nodes old.visit row.reads.items new.constants node.inputs.items

-- the list of a group was begun for the node with that number
pub record Enters (old : State) (n : ℕ) (row : Row) (table : Table) (new : State) : Type 0 where
  pub nodes : new.nodes ≡ old.nodes
  pub constants : new.constants ≡ old.constants
  pub way : new.way ≡ plain_step n ∷ old.way
  pub outer : new.outer ≡ old.visit ∷ old.outer
  pub entries : List Came
  pub reads : all_of (map (came_in old.visit) row.reads.items) ≡ Some entries
  pub visit : Begins table entries new.visit

-- the list of a group was left, for the node with that number in the list around
pub record Leaves (old : State) (n : ℕ) (around : Visit) (new : State) : Type 0 where
  pub nodes : new.nodes ≡ old.nodes
  pub constants : new.constants ≡ old.constants
  pub way : old.way ≡ plain_step n ∷ new.way
  pub outer : old.outer ≡ around ∷ new.outer
  pub outputs : Vec Carried Global
  pub visit : Makes around n (made.Group outputs) new.visit
  pub given : all_of (map (came_in old.visit) old.visit.table.now.given.items) ≡ Some (map came_of outputs.items)
