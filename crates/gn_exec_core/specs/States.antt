-- A state of the executor: the graph and the values that it began with, and what happened since.
use Rattle.std.specs.Prelude.{◌≡◌, ◌+◌, ◌≤◌, ◌==◌, ◌||◌, ℕ, Bool, true, false, List, [], ◌∷◌, map, reverse, length, sum_by, slice_index_or, if◌then◌else◌}
use Rattle.gn_lazy.specs.Graphs.{Nodes}
use Rattle.gn_node_set.specs.Meanings.{Meanings}
use Rattle.gn_exec_laws.specs.Graphs.{Task}
use Rattle.gn_exec_laws.specs.Tasks.{task_of}
use Rattle.gn_exec_laws.specs.Fits.{CanStart}
use Rattle.gn_exec_laws.specs.Machine.{Event, Take, Finish, Serve, Refuse, World, world, IsRun}
use Rattle.gn_exec_core.specs.declared.state.Happened.{Happened}
use Rattle.gn_exec_core.specs.declared.state.Happened.TheVariants as happened
use Rattle.gn_nodes.specs.Values.{answer_of}

-- the lists begin with what came last
pub record State (K V : Type 0) : Type 0 where
  -- the graph that it began with
  pub graph : Nodes K
  -- the input and then the constants
  pub given : List V
  pub events : List Event
  -- the outputs of each finish
  pub handed : List (List V)

-- ---- the journal, which begins with what came first

abbrev pub event_of : {V : Type 0} → Happened V → Event
event_of (happened.Take worker node) = Take worker node
event_of (happened.Finish worker node outputs) = Finish worker node
event_of (happened.Serve node answer) = Serve node (answer_of answer.value)
event_of (happened.Refuse worker) = Refuse worker

abbrev pub events_of : {V : Type 0} → List (Happened V) → List Event
events_of journal = reverse (map event_of journal)

-- the outputs of the finishes, the first one first
abbrev pub outputs_in : {V : Type 0} → List (Happened V) → List (List V)
outputs_in [] = []
outputs_in (happened.Finish worker node outputs ∷ journal) = outputs.value.items ∷ outputs_in journal
outputs_in (_ ∷ journal) = outputs_in journal

abbrev pub handed_of : {V : Type 0} → List (Happened V) → List (List V)
handed_of journal = reverse (outputs_in journal)

abbrev pub seen : {K V : Type 0} → Nodes K → List V → List (Happened V) → State K V
seen graph given journal = record { graph = graph; given = given; events = events_of journal; handed = handed_of journal }

-- ---- refusals

-- has the worker refused?
abbrev pub refuses : List Event → ℕ → Bool
refuses [] worker = false
refuses (Refuse v ∷ es) worker = v == worker || refuses es worker
refuses (_ ∷ es) worker = refuses es worker

-- has any worker?
abbrev pub any_refuses : List Event → Bool
any_refuses [] = false
any_refuses (Refuse v ∷ es) = true
any_refuses (_ ∷ es) = any_refuses es

abbrev pub refused_by : {K V : Type 0} → State K V → ℕ → State K V
refused_by s worker = if refuses s.events worker then s else record s { events = Refuse worker ∷ s.events }

-- how many flags are not set
abbrev pub unset : List Bool → ℕ
unset flags = sum_by (λ flag. if flag then 0 else 1) flags

-- the flags are those of the workers that refused, and there is room for the refusals of all others
pub record HasFlags (flags : List Bool) (events : List Event) (room : ℕ) : Type 0 where
  pub flagged : (worker : ℕ) → slice_index_or flags worker false ≡ refuses events worker
  pub workers : length flags ≡ 64
  pub fits : length events + unset flags ≤ room

module _ {G H K V S T : Type 0} (m : Meanings K V S T) (kind_of : G → K) (content : H → V) where
  -- what the machine works on, where each value is what it stands for
  abbrev pub job : State G H → Task K V
  job s = task_of kind_of m.nothing s.graph (map content s.given)

  -- the world by now
  abbrev pub now : State G H → World K V
  now s = world m (job s) s.events

  -- it began with a graph that fits, and each event might come when it came
  pub record IsReached (s : State G H) : Type 0 where
    pub start : CanStart m (job s)
    pub run : IsRun m (job s) s.events
