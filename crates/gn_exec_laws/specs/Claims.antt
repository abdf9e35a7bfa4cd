-- What holds after each event of each list of events that may come, and where nothing more may.
use Rattle.std.specs.Prelude.{◌≡◌, ◌≤◌, ◌↔◌, ℕ, ◌+◌, ◌*◌, List, [], ◌∷◌, ◌++◌, map, length, Option, Some, None, Bool, false, IsTrue, if◌then◌else◌, slice_get}
use Rattle.gn_node_set.specs.Paths.{Path, ends_plain}
use Rattle.gn_node_set.specs.Meanings.{Has, Source, an_output, Link, plain_link, Node, Role, Switch, File, Zone, Answer, Warning, Meanings, AllDiffer}
use Rattle.gn_exec_laws.specs.Graphs.{Task, link_value, run_of, turn_nodes, result_links, Answers, told_by, answer_of, Unfolded, Solves, BehindZone, BehindSwitch, Wanted, Demanded, ListsDemand}
use Rattle.gn_exec_laws.specs.Fits.{paths_of, is_file, SourceSort, LinkSort, NodesFit, Agree, CanStart, CanRun}
use Rattle.gn_exec_laws.specs.Machine.{Event, Take, Finish, Serve, World, finished, link_now, is_set, HasNumber, IsShut, reads, inputs_now, run_now, world, condition_set, sure, Used, MaybeUsed, Ready, Awaits, NoRefusals, Allowed, IsRun, IsServed}

-- the numbers of the nodes that were taken, finished, and served, the last first
abbrev pub takes : List Event → List ℕ
takes [] = []
takes (Take v n ∷ es) = n ∷ takes es
takes (_ ∷ es) = takes es

abbrev pub finishes : List Event → List ℕ
finishes [] = []
finishes (Finish v n ∷ es) = n ∷ finishes es
finishes (_ ∷ es) = finishes es

abbrev pub serves : List Event → List ℕ
serves [] = []
serves (Serve n a ∷ es) = n ∷ serves es
serves (_ ∷ es) = serves es

-- what the first table has the second one has too
abbrev pub Keeps : {A : Type 0} → (Path → Option A) → (Path → Option A) → Type 0
Keeps {A = A} before after = (p : Path) (a : A) → before p ≡ Some a → after p ≡ Some a

module _ {K V S T : Type 0} (m : Meanings K V S T) where
  -- a list of events that are allowed in their turn, whose imports are served what the files give
  abbrev pub IsRunOver : Task K V → (List ℕ → Answer) → List Event → Type 0
  IsRunOver task files es = IsRun m task es × IsServed m task (told_by m files) es

  abbrev pub HasRole : Role → Node K V → Type 0
  HasRole role node = m.rows.role node.kind ≡ role

  -- ---- of which runs a claim holds

  -- of each list of events that may come, whatever the answers
  abbrev pub OfEachRun : (Task K V → List Event → Type 0) → Type 0
  OfEachRun Claim =
      (task : Task K V) → CanStart m task → (es : List Event) → IsRun m task es → Claim task es

  -- of each such list, and the later events of one that goes on from it
  abbrev pub OfLaterEvents : (Task K V → List Event → List Event → Type 0) → Type 0
  OfLaterEvents Claim =
      (task : Task K V) → CanStart m task
      → (later es : List Event) → IsRun m task (later ++ es) → Claim task later es

  -- of each run on some files, with a solution of the equations
  abbrev pub OnFiles : (Task K V → Answers m → (Path → List V) → List Event → Type 0) → Type 0
  OnFiles Claim =
      (task : Task K V) (files : List ℕ → Answer) (den : Path → List V)
      → CanStart m task → Solves m task (told_by m files) den
      → (es : List Event) → IsRunOver task files es → Claim task (told_by m files) den es

  -- ---- whatever the answers

  -- the tags of the outputs that are set agree, and name nodes that are finished
  pub record TagsAgree (w : World K V) : Type 0 where
    pub agree : (p q : Path) (us vs : List V) (u v : V)
        → w.set p ≡ Some us → w.set q ≡ Some vs → Has us u → Has vs v → Agree m u v
    pub finished : (p q : Path) (vs : List V) (v : V) (t : T)
        → w.set p ≡ Some vs → Has vs v → m.tag v q ≡ Some t → IsTrue (finished w q)

  -- what is in a world fits: the nodes behind each other, what is set, and what is read
  pub record WorldFits (w : World K V) : Type 0 where
    pub nodes : NodesFit m [] [] w.graph
    pub ends : (node : Node K V) → Has w.graph node → IsTrue (ends_plain node.path)
    pub set : (p : Path) (vs : List V) → w.set p ≡ Some vs
        → (node : Node K V) × Has w.graph node
        × (node.path ≡ p) × (map m.sort vs ≡ m.gives node.kind)
    pub reads : (link : Link V) (s : S)
        → LinkSort m [] w.graph link s → IsTrue (is_set w link.from) → m.sort (reads m w link) ≡ s

  -- an output of an opened zone leads where its result link does, and any other source to itself
  pub record LeadsOn (w : World K V) : Type 0 where
    pub results : (p : Path) (s : ℕ) (outs : List (Link V)) (link : Link V)
        → w.opened p ≡ Some outs → slice_get outs s ≡ Some link
        → w.leads (an_output p s) ≡ link_now w link
    pub others : (x : Source V) → IsShut w x → w.leads x ≡ plain_link x

  module _ (task : Task K V) (es : List Event) where
    abbrev now : World K V
    now = world m task es

    -- each node has one number, is taken at most once, and is finished at most once, by its taker
    pub record TakesOnce : Type 0 where
      pub numbers : AllDiffer (paths_of now.graph)
      pub taken : AllDiffer (takes es)
      pub one_taker : (u v n : ℕ) → Has es (Take u n) → Has es (Take v n) → u ≡ v
      pub finished : AllDiffer (finishes es)
      pub by_taker : (v n : ℕ) → Has es (Finish v n) → Has es (Take v n)

    -- each node is served at most once, and is a used import
    pub record ServesOnce : Type 0 where
      pub served : AllDiffer (serves es)
      pub imports : (n : ℕ) → Has (serves es) n
          → (node : Node K V) × HasNumber now n node
          × HasRole File node × Used m task now node

    -- at most three events for each node of the graph by then, and a refusal for each of 64 workers
    abbrev pub AreBounded : Type 0
    AreBounded = length es ≤ 3 * length now.graph + 64

    -- what a worker takes keeps the conditions of a run
    abbrev pub ReadyCanRun : Type 0
    ReadyCanRun =
        (n : ℕ) (node : Node K V) → Ready m task es n node
        → CanRun m node.path node.kind (inputs_now m now node) (now.answers node.path)

    -- a link that leads to a source of a sort that can be shared converts nothing on its way
    abbrev pub SharedArePlain : (S → Bool) → Type 0
    SharedArePlain shareable =
        (link : Link V) (s t : S) → LinkSort m [] now.graph link s
        → SourceSort m [] now.graph (link_now now link).from t → IsTrue (shareable t)
        → (link_now now link).through ≡ []

    -- a worker finished the node
    abbrev pub WasFinished : Node K V → Type 0
    WasFinished node = (v : ℕ) × (n : ℕ) × Has es (Finish v n) × HasNumber now n node

    -- the node was served this answer
    abbrev pub WasServed : Node K V → Answer → Type 0
    WasServed node a = (n : ℕ) × Has es (Serve n a) × HasNumber now n node

    -- what is in a world came of events
    pub record CameOfEvents : Type 0 where
      pub set : (p : Path) (vs : List V) → now.set p ≡ Some vs
          → (node : Node K V) × (node.path ≡ p) × WasFinished node × (¬ HasRole Zone node)
      pub opened : (p : Path) (outs : List (Link V)) → now.opened p ≡ Some outs
          → (zone : Node K V) × (zone.path ≡ p) × WasFinished zone × HasRole Zone zone
      pub warned : (p : Path) (warnings : List Warning) → now.warned p ≡ Some warnings
          → (node : Node K V) × (node.path ≡ p) × WasFinished node
      pub answers : (p : Path) (a : Answer) → now.answers p ≡ Some a
          → (node : Node K V) × (node.path ≡ p) × WasServed node a

    -- of a finished node there is what its run gives by what is read now, of an import its answer
    pub record EventsLeft : Type 0 where
      pub outputs : (node : Node K V) → WasFinished node → (¬ HasRole Zone node)
          → now.set node.path ≡ Some (run_now m now node).outputs
      pub results : (zone : Node K V) → WasFinished zone → HasRole Zone zone
          → now.opened zone.path ≡ Some (result_links m (reads m now) zone)
      pub turns : (zone : Node K V) → WasFinished zone → HasRole Zone zone
          → (node : Node K V) → Has (turn_nodes m (reads m now) zone) node → Has now.graph node
      pub warnings : (node : Node K V) → WasFinished node
          → now.warned node.path ≡ Some (run_now m now node).warnings
      pub answers : (node : Node K V) (a : Answer) → WasServed node a
          → now.answers node.path ≡ Some a
      -- warnings stand under the path of their node
      pub own_path : (p : Path) (warnings : List Warning) (warning : Warning)
          → now.warned p ≡ Some warnings → Has warnings warning → warning.path ≡ p

  abbrev pub NodesAreTakenOnce : Type 0
  NodesAreTakenOnce = OfEachRun TakesOnce

  abbrev pub ImportsAreServedOnce : Type 0
  ImportsAreServedOnce = OfEachRun ServesOnce

  abbrev pub EventsAreBounded : Type 0
  EventsAreBounded = OfEachRun AreBounded

  abbrev pub TagsOfSetOutputsAgree : Type 0
  TagsOfSetOutputsAgree = OfEachRun (λ task es. TagsAgree (world m task es))

  abbrev pub WorldsFit : Type 0
  WorldsFit = OfEachRun (λ task es. WorldFits (world m task es))

  abbrev pub ReadyNodesCanRun : Type 0
  ReadyNodesCanRun = OfEachRun ReadyCanRun

  abbrev pub SharedValuesArePlain : (S → Bool) → Type 0
  SharedValuesArePlain shareable = OfEachRun (λ task es. SharedArePlain task es shareable)

  abbrev pub WorldsComeOfEvents : Type 0
  WorldsComeOfEvents = OfEachRun (λ task es. CameOfEvents task es × EventsLeft task es)

  abbrev pub ZoneOutputsLeadOn : Type 0
  ZoneOutputsLeadOn = OfEachRun (λ task es. LeadsOn (world m task es))

  -- ---- later events

  module _ (task : Task K V) (later es : List Event) where
    abbrev before : World K V
    before = world m task es

    abbrev after : World K V
    after = world m task (later ++ es)

    -- nodes keep their numbers; what is set, opened, answered or finished stays so; and a run of a
    -- taken node gives the same
    pub record Stays : Type 0 where
      pub graph : (n : ℕ) (node : Node K V) → HasNumber before n node → HasNumber after n node
      pub set : Keeps before.set after.set
      pub opened : Keeps before.opened after.opened
      pub answers : Keeps before.answers after.answers
      pub warned : Keeps before.warned after.warned
      pub finished : (p : Path) → IsTrue (finished before p) → IsTrue (finished after p)
      pub runs : (v n : ℕ) (node : Node K V) → Has es (Take v n) → HasNumber before n node
          → run_now m after node ≡ run_now m before node

    -- a used node may be used, and a node that may no longer be used never is
    pub record UsesNarrow : Type 0 where
      pub possible : (node : Node K V) → Used m task before node → MaybeUsed m task before node
      pub narrow : (node : Node K V) → Has before.graph node
          → MaybeUsed m task after node → MaybeUsed m task before node

  abbrev pub WorldsOnlyGrow : Type 0
  WorldsOnlyGrow = OfLaterEvents Stays

  abbrev pub UsesOnlyNarrow : Type 0
  UsesOnlyNarrow = OfLaterEvents UsesNarrow

  -- ---- over files

  module _ (task : Task K V) (tells : Answers m) (den : Path → List V) where
    -- what is set is what the equations give, and so are the warnings of nodes that are finished
    pub record IsRight (w : World K V) : Type 0 where
      pub set : (p : Path) (vs : List V) → w.set p ≡ Some vs → vs ≡ den p
      -- a link whose value is set has the value that the equations give, also behind zones
      pub reads : (link : Link V) → IsTrue (is_set w link.from)
          → reads m w link ≡ link_value m den link
      pub warned : (node : Node K V) (warnings : List Warning)
          → Has w.graph node → w.warned node.path ≡ Some warnings
          → warnings ≡ (run_of m (link_value m den) (answer_of m tells node) node).warnings

  abbrev pub SetOutputsAreRight : Type 0
  SetOutputsAreRight = OnFiles (λ task tells den es. IsRight task tells den (world m task es))

  module _ (task : Task K V) (tells : Answers m) (den : Path → List V) (es : List Event) where
    abbrev w : World K V
    w = world m task es

    abbrev IsDemanded : Node K V → Type 0
    IsDemanded = Demanded m task tells den

    -- a node that is used is demanded, and one that was taken is used
    pub record UsesDemanded : Type 0 where
      pub used : (node : Node K V) → Has w.graph node → Used m task w node → IsDemanded node
      pub taken : (v n : ℕ) → Has es (Take v n)
          → (node : Node K V) × HasNumber w n node × Used m task w node

    -- ---- what a demanded node waits for

    pub data WaitsFor (node : Node K V) : Type 0 where
      -- it is taken
      its_finish : (v n : ℕ) → HasNumber w n node → Has es (Take v n) → WaitsFor node
      -- it is ready
      a_worker : (n : ℕ) → Ready m task es n node → WaitsFor node
      -- it is an import without an answer
      its_answer : (n : ℕ) → Awaits m task es n node → WaitsFor node
      -- one of the inputs that its run would get is not set
      an_unset_input : (link : Link V) → Has w.graph node → Used m task w node
          → Has (sure m w node) link → is_set w link.from ≡ false → WaitsFor node
      -- it is behind a demanded zone that isn't opened
      a_zone : (zone : Node K V) (s : ℕ)
          → IsDemanded zone → HasRole Zone zone → w.opened zone.path ≡ None
          → BehindZone m task tells den zone (an_output node.path s) → WaitsFor node
      -- it is behind a demanded switch whose condition isn't set
      a_condition : (switch : Node K V) (s : ℕ)
          → IsDemanded switch → HasRole Switch switch → condition_set m w switch.links ≡ false
          → BehindSwitch m task tells den switch (an_output node.path s) → WaitsFor node

    abbrev pub UnfinishedWait : Type 0
    UnfinishedWait =
        (node : Node K V) → IsDemanded node → finished w node.path ≡ false → WaitsFor node

  abbrev pub UsedNodesAreDemanded : Type 0
  UsedNodesAreDemanded = OnFiles UsesDemanded

  abbrev pub UnfinishedNodesWait : Type 0
  UnfinishedNodesWait = OnFiles UnfinishedWait

  -- ---- the end

  -- no worker has refused, and no event but a refusal may come
  pub record IsOver (task : Task K V) (es : List Event) : Type 0 where
    pub none_refused : NoRefusals m task es
    pub no_take : (v n : ℕ) → ¬ Allowed m task es (Take v n)
    pub no_finish : (v n : ℕ) → ¬ Allowed m task es (Finish v n)
    pub no_serve : (n : ℕ) (a : Answer) → ¬ Allowed m task es (Serve n a)

  abbrev pub with_node : Option (Node K V) → List (Node K V) → List (Node K V)
  with_node None nodes = nodes
  with_node (Some node) nodes = node ∷ nodes

  -- the nodes that have these numbers
  abbrev pub numbered : List (Node K V) → List ℕ → List (Node K V)
  numbered graph [] = []
  numbered graph (n ∷ ns) = with_node (slice_get graph n) (numbered graph ns)

  abbrev pub taken_nodes : Task K V → List Event → List (Node K V)
  taken_nodes task es = numbered (world m task es).graph (takes es)

  abbrev pub imports_of : List (Node K V) → List (Node K V)
  imports_of [] = []
  imports_of (node ∷ nodes) =
      if is_file (m.rows.role node.kind) then node ∷ imports_of nodes else imports_of nodes

  module _ (task : Task K V) (tells : Answers m) (den : Path → List V) (es : List Event) where
    abbrev end : World K V
    end = world m task es

    -- the members of the list are just the demanded nodes, each once
    abbrev Lists : List (Node K V) → Type 0
    Lists = ListsDemand m task tells den

    -- each wanted source is set; the nodes that were taken are the demanded ones, and so are those
    -- that are finished; what may be used is used; each of these nodes had two events, and each
    -- import among them one more
    pub record EndsWell : Type 0 where
      pub set : (x : Source V) → Wanted m task tells den x → IsTrue (is_set end x)
      pub taken : Lists (taken_nodes task es)
      pub finished : (node : Node K V) → Has end.graph node
          → IsTrue (finished end node.path) ↔ Demanded m task tells den node
      pub used : (node : Node K V) → MaybeUsed m task end node → Used m task end node
      pub counted : (nodes : List (Node K V)) → Lists nodes
          → length es ≡ length nodes + length nodes + length (imports_of nodes)

    abbrev pub OverEndsWell : Type 0
    OverEndsWell = IsOver task es → EndsWell

    -- no more nodes are taken than are demanded; where the run is over, as many
    pub record TakesDemanded : Type 0 where
      pub at_most : (nodes : List (Node K V)) → Lists nodes → length (takes es) ≤ length nodes
      pub as_many : (nodes : List (Node K V)) → Lists nodes
          → IsOver task es → length (takes es) ≡ length nodes

    -- each node that was served is a demanded import, and where the run is over each of these was
    pub record ServesDemanded : Type 0 where
      pub imports : (n : ℕ) → Has (serves es) n
          → (node : Node K V) × HasNumber end n node
          × HasRole File node × Demanded m task tells den node
      pub all : IsOver task es
          → (node : Node K V) → Demanded m task tells den node → HasRole File node
          → (n : ℕ) × Has (serves es) n × HasNumber end n node

  abbrev pub RunsEndWell : Type 0
  RunsEndWell = OnFiles OverEndsWell

  abbrev pub TakesAreCounted : Type 0
  TakesAreCounted = OnFiles TakesDemanded

  abbrev pub DemandedImportsAreServed : Type 0
  DemandedImportsAreServed = OnFiles ServesDemanded

  -- a run without refusals can go on until nothing may happen
  abbrev pub RunsCanEnd : Type 0
  RunsCanEnd =
      (task : Task K V) (files : List ℕ → Answer) → CanStart m task
      → (es : List Event) → IsRunOver task files es → NoRefusals m task es
      → (later : List Event) × IsRunOver task files (later ++ es) × IsOver task (later ++ es)

  -- ---- what the laws speak of is there

  -- a solution, and each other one gives the same outputs
  pub record HasOneSolution (task : Task K V) (tells : Answers m) : Type 0 where
    pub solution : Path → List V
    pub solves : Solves m task tells solution
    pub only : (den : Path → List V) → Solves m task tells den
        → (node : Node K V) → Unfolded m task tells den node → den node.path ≡ solution node.path

  abbrev pub GraphsHaveOneSolution : Type 0
  GraphsHaveOneSolution =
      (task : Task K V) (files : List ℕ → Answer)
      → CanStart m task → HasOneSolution task (told_by m files)

  abbrev pub DemandsCanBeListed : Type 0
  DemandsCanBeListed =
      (task : Task K V) (files : List ℕ → Answer) (den : Path → List V)
      → CanStart m task → Solves m task (told_by m files) den
      → (nodes : List (Node K V)) × ListsDemand m task (told_by m files) den nodes

  -- no path names two nodes of a graph with its zones opened
  abbrev pub PathsNameOneNode : Type 0
  PathsNameOneNode =
      (task : Task K V) (files : List ℕ → Answer) (den : Path → List V) → CanStart m task
      → (x y : Node K V) → Unfolded m task (told_by m files) den x
      → Unfolded m task (told_by m files) den y → x.path ≡ y.path → x ≡ y
