-- Flags of nodes by their numbers.
use Rattle.std.specs.Prelude.{◌≡◌, ℕ, Bool, true, false, List, Option, Some, None, slice_get, slice_index_or}
use Rattle.gn_lazy.specs.declared.graph.GraphNode.{GraphNode}
use Rattle.gn_node_set.specs.Meanings.{Has}
use Rattle.gn_node_set.specs.Paths.{path_before}

-- the flags of all these numbers are set
abbrev pub AreFlagged : List Bool → List ℕ → Type 0
AreFlagged flags ns = (n : ℕ) → Has ns n → slice_index_or flags n false ≡ true

module _ {G : Type 0} (nodes : List (GraphNode G)) (flags : List Bool) where
  -- a node whose flag is set, by its number
  pub record IsFlagged (n : ℕ) (at : GraphNode G) : Type 0 where
    pub there : slice_get nodes n ≡ Some at
    pub flag : slice_index_or flags n false ≡ true

  -- of these numbers the flagged node whose path is first; none where none is flagged
  abbrev pub IsFirstOf : List ℕ → Option ℕ → Type 0
  IsFirstOf ns None = (n : ℕ) (at : GraphNode G) → Has ns n → ¬ IsFlagged n at
  IsFirstOf ns (Some n) = Has ns n × ((at : GraphNode G) × IsFlagged n at × ((k : ℕ) (other : GraphNode G) → Has ns k → IsFlagged k other → path_before other.path.steps.items at.path.steps.items ≡ false))
