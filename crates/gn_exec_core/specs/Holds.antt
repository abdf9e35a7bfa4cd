-- What the numbers and the kept values say of a world: which nodes are used, and what each input carries.
use Rattle.std.specs.Prelude.{◌≡◌, ◌≢◌, ◌↔◌, ℕ, List, [], ◌∷◌, map, Option, Some, None, option_map, is_some, if◌then◌else◌, slice_get, slice_index_or}
use Rattle.gn_lazy.specs.Graphs.{Nodes}
use Rattle.gn_lazy.specs.declared.graph.Origin.{Origin}
use Rattle.gn_lazy.specs.declared.graph.Origin.TheVariants.{Input, Constant, Out}
use Rattle.gn_lazy.specs.declared.graph.Link.{Link as GraphLink}
use Rattle.gn_lazy.specs.declared.graph.GraphNode.{GraphNode}
use Rattle.gn_node_set.specs.Meanings.{Has, Link, Node, Switch, Meanings}
use Rattle.gn_node_set.specs.Paths.{Path}
use Rattle.gn_exec_laws.specs.Graphs.{choice_of}
use Rattle.gn_exec_laws.specs.Tasks.{node_of}
use Rattle.gn_exec_laws.specs.Machine.{Event, Take, World, is_set, reads, condition_set}
use Rattle.gn_uses.specs.declared.outputs.Out.{Out as Place}
use Rattle.gn_uses.specs.Nodes as numbers
use Rattle.gn_nodes.specs.Calls.{choice_as, chosen_as}

-- the output that an origin names
abbrev pub place_of : Origin → Option Place
place_of Input = None
place_of (Constant slot) = None
place_of (Out node socket) = Some (record { node = node; output = socket })

abbrev pub input_of : GraphLink → Option Place
input_of link = place_of link.origin

-- those that are there
abbrev pub present : {A : Type 0} → List (Option A) → List A
present [] = []
present (None ∷ xs) = present xs
present (Some x ∷ xs) = x ∷ present xs

-- the taken nodes are those of the events
abbrev pub AreTaken : List ℕ → List Event → Type 0
AreTaken taken es = (n : ℕ) → Has taken n ↔ ((v : ℕ) × Has es (Take v n))

module _ {K V S T : Type 0} (m : Meanings K V S T) where
  -- the value that a link carries, once it is set
  abbrev pub value_now : World K V → Link V → Option V
  value_now w link = if is_set w link.from then Some (reads m w link) else None

  -- what the numbers say of a node
  pub record IsNumbered {G : Type 0} (w : World K V) (g : numbers.Nodes) (n : ℕ) (at : GraphNode G) (node : Node K V) : Type 0 where
    pub role : numbers.role_of (numbers.role g n) ≡ m.rows.role node.kind
    pub inputs : numbers.inputs g n ≡ map input_of at.inputs.items
    pub choice : numbers.choice_of (numbers.choice g n) ≡ choice_as (m.rows.role node.kind) (condition_set m w node.links) (choice_of m (reads m w) node)
    pub chosen : is_some (numbers.choice g n) ≡ chosen_as (m.rows.role node.kind) (condition_set m w node.links)
    pub filled : numbers.filled g n ≡ map (λ link. is_set w link.from) node.links
    pub answered : numbers.answered g n ≡ is_some (w.answers node.path)

module _ {G K V S T : Type 0} (m : Meanings K V S T) (kind_of : G → K) where
  -- what the numbers say of all nodes, where no zone is opened
  pub record AreNumbered (graph : Nodes G) (given : List V) (w : World K V) (g : numbers.Nodes) : Type 0 where
    pub nodes : w.graph ≡ map (node_of kind_of m.nothing graph.nodes given) graph.nodes
    pub each : (n : ℕ) (at : GraphNode G) → slice_get graph.nodes n ≡ Some at → IsNumbered m w g n at (node_of kind_of m.nothing graph.nodes given at)
    pub roots : g.roots ≡ present (map input_of graph.roots)
    pub no_results : (n : ℕ) → numbers.results g n ≡ []
    pub shut : (p : Path) → w.opened p ≡ None

  -- each switch has a condition
  abbrev pub HaveConditions : List (GraphNode G) → Type 0
  HaveConditions nodes = (n : ℕ) (at : GraphNode G) → slice_get nodes n ≡ Some at → m.rows.role (kind_of at.kind) ≡ Switch → at.inputs.items ≢ []

  -- a node that was not taken keeps what its links carry
  abbrev pub AreKept : {H : Type 0} → (H → V) → Nodes G → List V → World K V → List ℕ → List (List (Option H)) → Type 0
  AreKept content graph given w taken rows = (n : ℕ) (at : GraphNode G) → slice_get graph.nodes n ≡ Some at → (¬ Has taken n) → map (option_map content) (slice_index_or rows n []) ≡ map (value_now m w) (node_of kind_of m.nothing graph.nodes given at).links
