-- What holds of every graph that stands for a tree.
use Rattle.std.specs.Prelude.{◌≡◌, ◌<◌, ◌≤◌, ◌↔◌, ℕ, List, [], ◌∷◌, ◌++◌, map, Some, false, IsTrue}
use Rattle.gn_tree.specs.NodeKinds.{Kind}
use Rattle.gn_tree.specs.Trees.{Tree}
use Rattle.gn_rules.specs.Rules.{KeepsRules}
use Rattle.gn_node_set.specs.Paths.{Path, has_turn, ends_plain}
use Rattle.gn_node_set.specs.Meanings.{Has, Link, Node, Warning, Done, Rows, Meanings}
use Rattle.gn_exec_laws.specs.Graphs.{Task, link_value, run_of as node_run, Answers, told_by, answer_of, Solves, Demanded as NodeDemanded, ListsDemand as ListsNodes}
use Rattle.gn_exec_laws.specs.Fits.{paths_of}
use Rattle.gn_meaning.specs.Sites.{Way, the_tree, into, plain_step, turn_step, Site, at_output, at_input, at_item, Read}
use Rattle.gn_meaning.specs.Bodies.{Body}
use Rattle.gn_meaning.specs.Reads.{Run, a_group, a_repeat, part_at, run_of}
use Rattle.gn_meaning.specs.Forms.{HasForm}
use Rattle.gn_meaning.specs.There.{LeadsTo, IsThere}
use Rattle.gn_meaning.specs.Denotation.{Given, StandsAt, read_value, value_within, Ends, Gives}
use Rattle.gn_meaning.specs.Demand.{Wanted, Demanded, ListsDemand, output_read}
use Rattle.gn_meaning.specs.Enough.{GivesAll}
use Rattle.gn_meaning.specs.Report.{Rises, IsReport}
use Rattle.gn_stands.specs.Sources.{CarriesSite}
use Rattle.gn_stands.specs.Tasks.{task_within}
use Rattle.gn_stands.specs.Zones.{opened_within}
use Rattle.gn_stands.specs.Stands.{KnowsZones, IsNodeOf, StandsFor, ZonesOpen}

-- where a zone is known to turn a number of times that keeps a condition, the lists in turns that are run
module _ (t : Tree) (Turns : Way → ℕ → (ℕ → Type 0) → Type 0) where
  pub data IsRun : Way → Type 0 where
    own_list : IsRun the_tree
    group_list : {way : Way} (n : ℕ) (b : Body) (reads : List Read) → IsRun way → part_at t way n ≡ Some (a_group b reads) → IsRun (into way (plain_step n))
    turn_list : {way : Way} (n k : ℕ) → IsRun way → Turns way n (λ turns. k < turns) → IsRun (into way (turn_step n k))

  -- the sites in such lists, and the items before and behind such turns
  abbrev pub IsRunSite : Site → Type 0
  IsRunSite (at_output way n s) = IsRun way
  IsRunSite (at_input way i) = IsRun way
  IsRunSite (at_item way n k i) = IsRun way × Turns way n (λ turns. k ≤ turns)
  IsRunSite _ = Unit {0}

-- by the tree a zone turns as its run says
abbrev pub TurnsBy : {V : Type 0} → Rows Kind V → Given V → Tree → Way → ℕ → (ℕ → Type 0) → Type 0
TurnsBy {V} rows given t way n Often = (run : Run) × (b : Body) × (v : V) × (part_at t way n ≡ Some (a_repeat run b)) × Gives rows given t run 0 v × Often (rows.turns run.kind v)

module _ {K V S T : Type 0} (m : Meanings K V S T) (task : Task K V) (tells : Answers m) (den : Path → List V) where
  -- what the run of a node of the graph gives
  abbrev pub node_done : Node K V → Done V
  node_done node = node_run m (link_value m den) (answer_of m tells node) node

  -- the warnings of the nodes at these paths, one after another
  pub data NodesWarn : List Path → List Warning → Type 0 where
    no_node : NodesWarn [] []
    and_node : {paths : List Path} {warnings : List Warning} (node : Node K V) → NodeDemanded m task tells den node → NodesWarn paths warnings → NodesWarn (node.path ∷ paths) ((node_done node).warnings ++ warnings)

  -- the paths of the demanded nodes in path order, and the warnings of their runs in that order
  pub record IsNodesReport (paths : List Path) (warnings : List Warning) : Type 0 where
    pub members : (p : Path) → Has paths p ↔ ((node : Node K V) × NodeDemanded m task tells den node × (node.path ≡ p))
    pub rise : Rises paths
    pub warn : NodesWarn paths warnings

module _ {V S T : Type 0} (m : Meanings Kind V S T) where
  module _ (given : Given V) (t : Tree) (task : Task Kind V) (den : Path → List V) where
    abbrev tells : Answers m
    tells = told_by m given.files

    abbrev roots : List Read
    roots = output_read t ∷ []

    abbrev IsDemanded : Node Kind V → Type 0
    IsDemanded = NodeDemanded m task tells den

    -- a solution of the graph's equations gives what the tree means
    pub record Agrees : Type 0 where
      -- what stands at a site is the value of the link that carries it
      pub values : (site : Site) (v : V) (link : Link V) → IsThere t site → IsRunSite t (TurnsBy m.rows given t) site → StandsAt m.rows given t site v → CarriesSite given t site link → link_value m den link ≡ v
      -- wanted sites are in lists that are run
      pub wanted : (site : Site) → Wanted m.rows given t roots site → IsRunSite t (TurnsBy m.rows given t) site
      -- the graph gives out what the tree does
      pub output : (k : ℕ) (v : V) → read_value m.rows given t (value_within m.rows given t k) (output_read t) ≡ Some v → map (link_value m den) task.roots ≡ v ∷ []
      -- each wanted run has a demanded node, and each demanded node a wanted run, which gives the same outputs and warnings
      pub each : (site : Site) (run : Run) → Wanted m.rows given t roots site → run_of t site ≡ Some run → (node : Node Kind V) × IsDemanded node × IsNodeOf given t run node
      pub only : (node : Node Kind V) → IsDemanded node → (site : Site) × (run : Run) × Wanted m.rows given t roots site × (run_of t site ≡ Some run) × IsNodeOf given t run node × Ends m.rows given t run (node_done m task tells den node)
      -- so the demanded paths are the same
      pub demand : (p : Path) → Demanded m.rows given t roots p ↔ ((node : Node Kind V) × IsDemanded node × (node.path ≡ p))
      pub listed : (nodes : List (Node Kind V)) → ListsNodes m task tells den nodes → ListsDemand m.rows given t roots (paths_of nodes)
      -- and so are the warnings in path order
      pub report : (paths : List Path) (warnings : List Warning) → IsReport m.rows given t roots paths warnings ↔ IsNodesReport m task tells den paths warnings

  -- where a graph stands for a tree that keeps the rules, and its zones open for their turns, each solution of its equations agrees with the tree
  abbrev pub StandingAgrees : Type 0
  StandingAgrees = (given : Given V) (t : Tree) (task : Task Kind V) (den : Path → List V)
      → HasForm t → KeepsRules t → GivesAll m.rows given t
      → KnowsZones m.rows t → StandsFor given t task → ZonesOpen given t m
      → Solves m task (told_by m given.files) den → Agrees given t task den

-- a graph that is found for a tree stands for it
abbrev pub FoundGraphsStand : (V : Type 0) → Type 0
FoundGraphsStand V = (given : Given V) (t : Tree) (k : ℕ) (task : Task Kind V) → task_within given t k ≡ Some task → StandsFor given t task

-- meanings whose zones open what is found for their kinds
abbrev pub OpenAsFound : {V S T : Type 0} → Meanings Kind V S T → Given V → Tree → Type 0
OpenAsFound {V} m given t = (way : Way) (outer : Body) (n : ℕ) (run : Run) (b : Body) (head : V) → LeadsTo t way outer → part_at t way n ≡ Some (a_repeat run b)
    → (k : ℕ) × (opened_within run.kind run.path given k (m.rows.turns run.kind head) ≡ Some (m.opens run.path run.kind head))

-- then the zones of each tree that keeps the rules open for their turns
abbrev pub FoundZonesOpen : {V S T : Type 0} → Meanings Kind V S T → Type 0
FoundZonesOpen {V} m = (given : Given V) (t : Tree) → HasForm t → KeepsRules t → OpenAsFound m given t → ZonesOpen given t m

-- the paths of the nodes of a graph that stands for a tree lead into no turn and end in a node
abbrev pub StandingPathsArePlain : (V : Type 0) → Type 0
StandingPathsArePlain V = (given : Given V) (t : Tree) (task : Task Kind V) → StandsFor given t task → (node : Node Kind V) → Has task.nodes node → (has_turn node.path ≡ false) × IsTrue (ends_plain node.path)
