-- Jobs, and what `take` leaves.
use Rattle.std.specs.Prelude.{◌≡◌, ◌⊎◌, ◌≤◌, ℕ, zero, suc, ◌==◌, Bool, true, false, List, [], ◌∷◌, ◌++◌, map, Option, Some, None, option_map, vec_capacity, if◌then◌else◌, slice_get, slice_index_or}
use Rattle.std.specs.declared.alloc.Global.{Global}
use Rattle.std.specs.declared.vec.Vec.{Vec}
use Rattle.gn_lazy.specs.Graphs.{IsOrdered}
use Rattle.gn_lazy.specs.declared.graph.GraphNode.{GraphNode}
use Rattle.gn_node_set.specs.Meanings.{Has, Node, Meanings}
use Rattle.gn_exec_laws.specs.Graphs.{links_read}
use Rattle.gn_exec_laws.specs.Machine.{Take, HasNumber, reads, Ready, Allowed}
use Rattle.gn_uses.specs.declared.nodes.Role.{Role}
use Rattle.gn_uses.specs.declared.nodes.Role.TheVariants.{Plain, Switch, File}
use Rattle.gn_uses.specs.declared.nodes.Choice.{Choice}
use Rattle.gn_uses.specs.declared.nodes.Choice.TheVariants as choice
use Rattle.gn_uses.specs.Uses.{Uses}
use Rattle.gn_nodes.specs.declared.values.Answer.{Answer}
use Rattle.gn_exec_core.specs.declared.jobs.Job.{Job}
use Rattle.gn_exec_core.specs.declared.jobs.Taken.{Taken}
use Rattle.gn_exec_core.specs.declared.jobs.Taken.TheVariants as taken
use Rattle.gn_nodes.specs.Values.{answer_of}
use Rattle.gn_exec_core.specs.States.{State, any_refuses, job, now}
use Rattle.gn_exec_core.specs.Holds.{present, AreNumbered, HaveConditions, AreTaken, AreKept}

abbrev pub lists_of : {A : Type 0} → List (Vec (Option A) Global) → List (List (Option A))
lists_of rows = map (λ row. row.items) rows

-- does a run get the input with the number?
abbrev pub is_read : Role → Option Choice → ℕ → Bool
is_read Plain c input = true
is_read File c input = true
is_read Switch (Some choice.All) input = true
is_read _ c zero = true
is_read Switch (Some (choice.One case)) (suc input) = input == case
is_read _ c (suc input) = false

abbrev pub read_one : {A : Type 0} → Bool → Option A → List A
read_one is_read slot = if is_read then present (slot ∷ []) else []

-- what is read of the inputs from a number on
abbrev pub read_from : {A : Type 0} → Role → Option Choice → ℕ → List (Option A) → List A
read_from role c input [] = []
read_from role c input (slot ∷ slots) = read_one (is_read role c input) slot ++ read_from role c (suc input) slots

-- a job without its inputs, with room for them
pub record IsBlank {G H K : Type 0} (kind_of : G → K) (number : ℕ) (at : GraphNode G) (inputs_at : ℕ) (job : Job G H) : Type 0 where
  pub node : job.node ≡ number
  pub path : job.path.steps.items ≡ at.path.steps.items
  pub kind : kind_of job.kind ≡ kind_of at.kind
  pub inputs : job.inputs.items ≡ []
  pub room : inputs_at ≤ vec_capacity job.inputs
  pub answer : job.answer ≡ None

module _ {G H K V S T : Type 0} (m : Meanings K V S T) (kind_of : G → K) (content : H → V) where
  -- the job is that of a node which the worker may take, with what a run of it gets
  pub record IsJob (s : State G H) (worker : ℕ) (j : Job G H) : Type 0 where
    pub allowed : Allowed m (job m kind_of content s) s.events (Take worker j.node)
    pub node : Node K V
    pub number : HasNumber (now m kind_of content s) j.node node
    pub path : j.path.steps.items ≡ node.path
    pub kind : kind_of j.kind ≡ node.kind
    pub inputs : map content j.inputs.items ≡ map (reads m (now m kind_of content s)) (links_read m (reads m (now m kind_of content s)) node)
    pub answer : option_map answer_of j.answer ≡ (now m kind_of content s).answers node.path

  -- a job is one event; without one all stays, and no node is ready or a worker has refused
  abbrev pub Takes : State G H → ℕ → Taken G H → State G H → Type 0
  Takes s worker taken.Nothing s' = (s' ≡ s) × ((any_refuses s.events ≡ true) ⊎ ((n : ℕ) (node : Node K V) → ¬ Ready m (job m kind_of content s) s.events n node))
  Takes s worker (taken.Job j) s' = IsJob s worker j × (s' ≡ record s { events = Take worker j.node ∷ s.events })
  Takes s worker taken.Memory s' = s' ≡ s

  -- a node that was not taken keeps its answer
  abbrev pub KeepAnswers : State G H → List ℕ → List (Option Answer) → Type 0
  KeepAnswers s ns answers = (n : ℕ) (at : GraphNode G) → slice_get s.graph.nodes n ≡ Some at → (¬ Has ns n) → option_map answer_of (slice_index_or answers n None) ≡ (now m kind_of content s).answers at.path.steps.items

  -- the numbers, and the values and answers that are kept, are those of the world
  pub record Holds (s : State G H) (u : Uses) (made : List (Option Choice)) (rows : List (List (Option H))) (got : List (Option Answer)) : Type 0 where
    pub numbered : AreNumbered m kind_of s.graph (map content s.given) (now m kind_of content s) u.nodes
    pub conditions : HaveConditions m kind_of s.graph.nodes
    pub ordered : IsOrdered s.graph
    pub taken : AreTaken u.taken s.events
    pub choices : made ≡ u.nodes.choices
    pub kept : AreKept m kind_of content s.graph (map content s.given) (now m kind_of content s) u.taken rows
    pub answers : KeepAnswers s u.taken got
