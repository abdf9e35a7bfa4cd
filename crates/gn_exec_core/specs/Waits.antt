-- What is left to do: nodes that run, nodes that are not finished, and imports that wait for an answer.
use Rattle.std.specs.Prelude.{◌≡◌, ◌+◌, ◌&&◌, ℕ, Bool, false, not, List, ◌∷◌, map, length, Option, Some, None, IsTrue, slice_index_or}
use Rattle.gn_lazy.specs.declared.graph.GraphNode.{GraphNode}
use Rattle.gn_node_set.specs.Meanings.{Has, Node, Answer, Meanings}
use Rattle.gn_node_set.specs.Paths.{path_before}
use Rattle.gn_exec_laws.specs.Machine.{Event, Take, Finish, Serve, HasNumber, finished, Used, Awaits}
use Rattle.gn_exec_laws.specs.Claims.{takes, finishes}
use Rattle.gn_exec_laws.specs.Fits.{is_file}
use Rattle.gn_uses.specs.Nodes as numbers
use Rattle.gn_uses.specs.Sets.{has}
use Rattle.gn_exec_core.specs.States.{State, job, now}

-- a worker took a node and has not finished it
abbrev pub IsBusy : List Event → Type 0
IsBusy es = (n : ℕ) × ((v : ℕ) × Has es (Take v n)) × ((v : ℕ) → ¬ Has es (Finish v n))

-- one answer more
abbrev pub served_by : {K V : Type 0} → State K V → ℕ → Answer → State K V
served_by s n a = record s { events = Serve n a ∷ s.events }

-- what is known of the nodes by their numbers is known of each
pub record AreAll {G : Type 0} (nodes : List (GraphNode G)) (g : numbers.Nodes) : Type 0 where
  pub sizes : g.sizes ≡ map (λ at. at.outputs) nodes
  pub answered : length g.answered ≡ length nodes
  pub choices : length g.choices ≡ length nodes
  pub filled : length g.filled ≡ length nodes

-- is a node an import without an answer, by the numbers?
abbrev pub waits_at : numbers.Nodes → ℕ → Bool
waits_at g n = not (numbers.answered g n) && is_file (numbers.role_of (numbers.role g n))

-- which nodes are finished, which are imports without an answer, for how many nodes there are answers, and how many nodes are taken and not finished
pub record Tallies {G : Type 0} (nodes : List (GraphNode G)) (es : List Event) (g : numbers.Nodes) (done unanswered : List Bool) (slots running : ℕ) : Type 0 where
  pub all : AreAll nodes g
  pub is_done : (n : ℕ) → slice_index_or done n false ≡ has (finishes es) n
  pub is_unanswered : (n : ℕ) → slice_index_or unanswered n false ≡ waits_at g n
  pub is_running : running + length (finishes es) ≡ length (takes es)
  pub all_done : length done ≡ length nodes
  pub all_unanswered : length unanswered ≡ length nodes
  pub all_answers : slots ≡ length nodes

module _ {G H K V S T : Type 0} (m : Meanings K V S T) (kind_of : G → K) (content : H → V) where
  -- a node of the world by now, without its links
  abbrev pub NodeIs : State G H → ℕ → Option (GraphNode G) → Type 0
  NodeIs s n None = (node : Node K V) → ¬ HasNumber (now m kind_of content s) n node
  NodeIs s n (Some at) = (node : Node K V) × HasNumber (now m kind_of content s) n node × (at.path.steps.items ≡ node.path) × (kind_of at.kind ≡ node.kind)

  -- each used node is finished
  abbrev pub AreFinished : State G H → Type 0
  AreFinished s = (n : ℕ) (node : Node K V) → HasNumber (now m kind_of content s) n node → Used m (job m kind_of content s) (now m kind_of content s) node → IsTrue (finished (now m kind_of content s) node.path)

  -- the import whose path is first among those that wait; none where none waits
  abbrev pub WaitsFirst : State G H → Option ℕ → Type 0
  WaitsFirst s None = (n : ℕ) (node : Node K V) → ¬ Awaits m (job m kind_of content s) s.events n node
  WaitsFirst s (Some n) =
      (node : Node K V) × Awaits m (job m kind_of content s) s.events n node
      × ((k : ℕ) (other : Node K V) → Awaits m (job m kind_of content s) s.events k other → path_before other.path node.path ≡ false)

  -- an answer may come: the node waits, and no worker has refused
  abbrev pub MayServe : State G H → ℕ → Type 0
  MayServe s n = (node : Node K V) × Awaits m (job m kind_of content s) s.events n node
