-- Graphs of numbers in which each node has its number as its path.
use Rattle.std.specs.Prelude.{◌≡◌, ◌≢◌, ℕ, List, [], ◌∷◌, length, Some, None, slice_get}
use Rattle.gn_lazy.specs.declared.graph.GraphNode.{GraphNode}
use Rattle.gn_node_set.specs.Paths.{Path}
use Rattle.gn_machine_tests.specs.declared.numbers.NumberKind.{NumberKind}
use Rattle.gn_machine_tests.specs.declared.numbers.NumberKind.TheVariants.{Choose, Repeat}

abbrev pub one_step : ℕ → Path
one_step n = record { node = n; turn = None } ∷ []

-- the path is the number, there is one output, a choice has a condition, and a zone a count and one item
pub record IsNamed (n : ℕ) (at : GraphNode NumberKind) : Type 0 where
  pub path : at.path.steps.items ≡ one_step n
  pub one : at.outputs ≡ 1
  pub condition : at.kind ≡ Choose → at.inputs.items ≢ []
  pub item : at.kind ≡ Repeat → length at.inputs.items ≡ 2

abbrev pub AreNamed : List (GraphNode NumberKind) → Type 0
AreNamed nodes = (n : ℕ) (at : GraphNode NumberKind) → slice_get nodes n ≡ Some at → IsNamed n at
