-- Graphs whose links lead to nodes that stand before.
use Rattle.std.specs.Prelude.{◌≡◌, ℕ, ◌^◌, ◌-◌, nat_lt, List, [], ◌∷◌, ◌++◌, length, min, take, position, slice_get, Option, Some, None, Bool, true, false, not, All, IsTrue, Result, Ok, Err}
use Rattle.gn_lazy.specs.declared.graph.Origin.{Origin}
use Rattle.gn_lazy.specs.declared.graph.Origin.TheVariants.{Input, Constant, Out}
use Rattle.gn_lazy.specs.declared.graph.Link.{Link}
use Rattle.gn_lazy.specs.declared.graph.GraphNode.{GraphNode}
use Rattle.gn_lazy.specs.declared.graph.GraphFault.{GraphFault}
use Rattle.gn_lazy.specs.declared.graph.GraphFault.TheVariants.{BadLink, Memory}

-- nodes in the order in which they were added, the links to what the graph gives out, and how many constants there are
pub record Nodes (K : Type 0) : Type 0 where
  pub nodes : List (GraphNode K)
  pub roots : List Link
  pub constants : ℕ

module _ {K : Type 0} where
  abbrev pub no_nodes : ℕ → Nodes K
  no_nodes constants = record { nodes = []; roots = []; constants = constants }

  abbrev pub with_node : Nodes K → GraphNode K → Nodes K
  with_node g node = record { nodes = g.nodes ++ node ∷ []; roots = g.roots; constants = g.constants }

  abbrev pub with_root : Nodes K → Link → Nodes K
  with_root g link = record { nodes = g.nodes; roots = g.roots ++ link ∷ []; constants = g.constants }

  abbrev pub has_output : Option (GraphNode K) → ℕ → Bool
  has_output None socket = false
  has_output (Some node) socket = nat_lt socket node.outputs

  -- is there such a value, with these nodes and that number of constants?
  abbrev pub is_there : List (GraphNode K) → ℕ → Origin → Bool
  is_there nodes constants Input = true
  is_there nodes constants (Constant slot) = nat_lt slot constants
  is_there nodes constants (Out node socket) = has_output (slice_get nodes node) socket

  -- the first of the links that leads to nothing
  abbrev pub first_bad : Nodes K → List Link → Option ℕ
  first_bad g links = position (λ link. not (is_there g.nodes g.constants link.origin)) links

  abbrev pub AreThere : List (GraphNode K) → ℕ → List Link → Type 0
  AreThere nodes constants links = All (λ link. IsTrue (is_there nodes constants link.origin)) links

  -- a node's links lead to nodes that stand before it
  abbrev pub LinksLeadBack : Nodes K → Type 0
  LinksLeadBack g = (n : ℕ) (node : GraphNode K) → slice_get g.nodes n ≡ Some node → AreThere (take n g.nodes) g.constants node.inputs.items

  abbrev pub IsOrdered : Nodes K → Type 0
  IsOrdered g = LinksLeadBack g × AreThere g.nodes g.constants g.roots

  -- the answer to a node: its number, or its first link that leads to nothing
  abbrev pub Adds : Nodes K → GraphNode K → Result ℕ GraphFault → Nodes K → Type 0
  Adds g node (Ok number) g' = (first_bad g node.inputs.items ≡ None) × (number ≡ length g.nodes) × (g' ≡ with_node g node)
  Adds g node (Err (BadLink at input)) g' = ((k : ℕ) × (first_bad g node.inputs.items ≡ Some k) × (input ≡ min k (2 ^ 32 - 1))) × (at ≡ length g.nodes) × (g' ≡ g)
  Adds g node (Err Memory) g' = g' ≡ g

  -- the answer to a root
  abbrev pub Roots : Nodes K → Link → Result Rattle.std.specs.Prelude.⊤ GraphFault → Nodes K → Type 0
  Roots g link (Ok _) g' = IsTrue (is_there g.nodes g.constants link.origin) × (g' ≡ with_root g link)
  Roots g link (Err (BadLink at input)) g' = (is_there g.nodes g.constants link.origin ≡ false) × (at ≡ length g.nodes) × (input ≡ min (length g.roots) (2 ^ 32 - 1)) × (g' ≡ g)
  Roots g link (Err Memory) g' = g' ≡ g
