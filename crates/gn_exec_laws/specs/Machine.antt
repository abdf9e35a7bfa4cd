-- The events of the executor, and the world that a list of them leaves. Lists begin with the last event.
use Rattle.std.specs.Prelude.{◌≡◌, ℕ, ◌<◌, List, [], ◌∷◌, ◌++◌, map, Option, Some, None, Bool, true, false, is_some, unwrap_or, IsTrue, if◌then◌else◌, slice_get, slice_index_or}
use Rattle.gn_node_set.specs.Paths.{Path, same_path, with_entry}
use Rattle.gn_node_set.specs.Meanings.{Has, Source, a_value, an_item, an_output, Link, plain_link, along, Node, Role, Switch, File, Zone, Choice, Answer, Warning, Done, Meanings, head_of, selected}
use Rattle.gn_exec_laws.specs.Graphs.{Task, Reading, link_value, choice_of, links_read, run_of, turn_nodes, result_links, Answers}

pub data Event : Type 0 where
  Take : (worker node : ℕ) → Event
  Finish : (worker node : ℕ) → Event
  Serve : (node : ℕ) → Answer → Event
  Refuse : (worker : ℕ) → Event

-- a world: nodes have numbers, which are their places in the graph, and everything else goes by their paths
pub record World (K V : Type 0) : Type 0 where
  pub graph : List (Node K V)
  -- the outputs of finished nodes that are no zones
  pub set : Path → Option (List V)
  -- the result links of the zones that are opened
  pub opened : Path → Option (List (Link V))
  -- each source as a link to where its value comes from by now
  pub leads : Source V → Link V
  pub answers : Path → Option Answer
  -- the warnings of each finished node
  pub warned : Path → Option (List Warning)

abbrev pub finished : {K V : Type 0} → World K V → Path → Bool
finished w p = is_some (w.warned p)

-- the link that a link stands for by now
abbrev pub link_now : {K V : Type 0} → World K V → Link V → Link V
link_now w link = along (w.leads link.from) link.through

-- is there a value at the source?
abbrev pub is_there : {K V : Type 0} → World K V → Source V → Bool
is_there w (a_value v) = true
is_there w (an_item i) = false
is_there w (an_output p s) = is_some (w.set p)

-- is there one where the source leads to by now?
abbrev pub is_set : {K V : Type 0} → World K V → Source V → Bool
is_set w x = is_there w (w.leads x).from

-- the node that has a number
abbrev pub HasNumber : {K V : Type 0} → World K V → ℕ → Node K V → Type 0
HasNumber w n node = slice_get w.graph n ≡ Some node

-- the source is no output of a zone that is opened
abbrev pub IsShut : {K V : Type 0} → World K V → Source V → Type 0
IsShut w (an_output p s) = w.opened p ≡ None
IsShut w _ = Unit {0}

module _ {K V S T : Type 0} (m : Meanings K V S T) where
  -- the outputs that are set, and nothing elsewhere
  abbrev pub set_outputs : World K V → Path → List V
  set_outputs w p = unwrap_or (w.set p) []

  abbrev pub reads : World K V → Reading m
  reads w link = link_value m (set_outputs w) (link_now w link)

  -- what a run of the node gets by now, and what it gives
  abbrev pub inputs_now : World K V → Node K V → List V
  inputs_now w node = map (reads w) (links_read m (reads w) node)

  abbrev pub run_now : World K V → Node K V → Done V
  run_now w node = run_of m (reads w) (w.answers node.path) node

  -- ---- the effect of an event

  -- a link that leads to an output of the zone leads on
  abbrev pub led_on : World K V → Path → List (Link V) → Link V → Source V → Link V
  led_on w zone outs link (an_output p s) =
      if same_path zone p then along (link_now w (slice_index_or outs s (plain_link (a_value m.nothing)))) link.through else link
  led_on w zone outs link _ = link

  abbrev pub with_outputs : World K V → Node K V → Done V → World K V
  with_outputs w node done = record w {
    set = with_entry node.path done.outputs w.set;
    warned = with_entry node.path done.warnings w.warned;
  }

  abbrev pub with_turns : World K V → Node K V → List (Node K V) → List (Link V) → List Warning → World K V
  with_turns w zone turns outs warnings = record w {
    graph = w.graph ++ turns;
    opened = with_entry zone.path outs w.opened;
    leads = λ x. led_on w zone.path outs (w.leads x) (w.leads x).from;
    warned = with_entry zone.path warnings w.warned;
  }

  abbrev pub finish_by_role : Role → World K V → Node K V → World K V
  finish_by_role Zone w node = with_turns w node (turn_nodes m (reads w) node) (result_links m (reads w) node) (run_of m (reads w) None node).warnings
  finish_by_role _ w node = with_outputs w node (run_now w node)

  abbrev pub finish_node : World K V → Option (Node K V) → World K V
  finish_node w None = w
  finish_node w (Some node) = finish_by_role (m.rows.role node.kind) w node

  abbrev pub serve_node : World K V → Answer → Option (Node K V) → World K V
  serve_node w a None = w
  serve_node w a (Some node) = record w { answers = with_entry node.path a w.answers }

  abbrev pub after_event : World K V → Event → World K V
  after_event w (Take v n) = w
  after_event w (Finish v n) = finish_node w (slice_get w.graph n)
  after_event w (Serve n a) = serve_node w a (slice_get w.graph n)
  after_event w (Refuse v) = w

  abbrev pub first_world : Task K V → World K V
  first_world task = record { graph = task.nodes; set = λ p. None; opened = λ p. None; leads = plain_link; answers = λ p. None; warned = λ p. None }

  abbrev pub world : Task K V → List Event → World K V
  world task [] = first_world task
  world task (e ∷ es) = after_event (world task es) e

  -- ---- the use of links

  abbrev pub condition_set : World K V → List (Link V) → Bool
  condition_set w [] = false
  condition_set w (link ∷ links) = is_set w link.from

  abbrev pub sure_as : Role → Bool → Choice → List (Link V) → List (Link V)
  sure_as Switch false choice links = head_of links
  sure_as role _ choice links = selected role choice links

  -- of a used node's links those that are used: of a switch whose condition isn't set the condition, of a zone the head
  abbrev pub sure : World K V → Node K V → List (Link V)
  sure w node = sure_as (m.rows.role node.kind) (condition_set w node.links) (choice_of m (reads w) node) node.links

  abbrev pub possible_as : Role → Bool → Bool → Choice → List (Link V) → List (Link V)
  possible_as Switch false _ choice links = links
  possible_as Zone _ false choice links = links
  possible_as role _ _ choice links = selected role choice links

  -- of the links of a node that may be used those that may be used: of a switch whose condition isn't set, and of a zone that isn't opened, all
  abbrev pub possible : World K V → Node K V → List (Link V)
  possible w node = possible_as (m.rows.role node.kind) (condition_set w node.links) (is_some (w.opened node.path)) (choice_of m (reads w) node) node.links

  module _ (task : Task K V) (w : World K V) (calls : Node K V → List (Link V)) where
    -- the least set of sources that holds the roots, with an output of a node what the node calls for, and with one of an opened zone where it comes from
    pub data Reached : Source V → Type 0 where
      a_root : (link : Link V) → Has task.roots link → Reached link.from
      an_input : (node : Node K V) (s : ℕ) (link : Link V) → Has w.graph node → Reached (an_output node.path s) → Has (calls node) link → Reached link.from
      a_result : (p : Path) (s : ℕ) (outs : List (Link V)) (link : Link V) → w.opened p ≡ Some outs → Reached (an_output p s) → slice_get outs s ≡ Some link → Reached link.from

  -- a node is used where a used link leads to it, and may be used where a link leads to it that may be used
  abbrev pub Used : Task K V → World K V → Node K V → Type 0
  Used task w node = (s : ℕ) × Reached task w (sure w) (an_output node.path s)

  abbrev pub MaybeUsed : Task K V → World K V → Node K V → Type 0
  MaybeUsed task w node = (s : ℕ) × Reached task w (possible w) (an_output node.path s)

  -- ---- what may happen

  module _ (task : Task K V) where
    -- a worker may take the node: it is used, nobody took it, all that its run would get is set, and an import has its answer
    pub record Ready (es : List Event) (n : ℕ) (node : Node K V) : Type 0 where
      pub there : slice_get (world task es).graph n ≡ Some node
      pub used : Used task (world task es) node
      pub fresh : (v : ℕ) → ¬ Has es (Take v n)
      pub inputs : (link : Link V) → Has (sure (world task es) node) link → IsTrue (is_set (world task es) link.from)
      pub answered : m.rows.role node.kind ≡ File → (a : Answer) × ((world task es).answers node.path ≡ Some a)

    -- a used import that has no answer yet
    pub record Awaits (es : List Event) (n : ℕ) (node : Node K V) : Type 0 where
      pub there : slice_get (world task es).graph n ≡ Some node
      pub used : Used task (world task es) node
      pub file : m.rows.role node.kind ≡ File
      pub no_answer : (world task es).answers node.path ≡ None

    abbrev pub NoRefusals : List Event → Type 0
    NoRefusals es = (v : ℕ) → ¬ Has es (Refuse v)

    -- the event may come after these
    abbrev pub Allowed : List Event → Event → Type 0
    Allowed es (Take v n) = ((node : Node K V) × Ready es n node) × NoRefusals es
    Allowed es (Finish v n) = Has es (Take v n) × ((u : ℕ) → ¬ Has es (Finish u n))
    Allowed es (Serve n a) = ((node : Node K V) × Awaits es n node) × NoRefusals es
    Allowed es (Refuse v) = (v < 64) × ¬ Has es (Refuse v)

    -- each event might come when it came
    abbrev pub IsRun : List Event → Type 0
    IsRun [] = Unit {0}
    IsRun (e ∷ es) = Allowed es e × IsRun es

    abbrev pub AnswersAs : Answers m → List Event → Event → Type 0
    AnswersAs tells es (Serve n a) = (node : Node K V) → slice_get (world task es).graph n ≡ Some node → a ≡ tells node
    AnswersAs tells es _ = Unit {0}

    -- each import was served its answer
    abbrev pub IsServed : Answers m → List Event → Type 0
    IsServed tells [] = Unit {0}
    IsServed tells (e ∷ es) = AnswersAs tells es e × IsServed tells es
