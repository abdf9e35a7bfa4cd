-- Heights of nodes: one more than their ranks.
use Rattle.std.specs.Prelude.{◌≡◌, ◌<◌, ℕ, suc, List, length, slice_index_or, slice_index}
use Rattle.gn_cycle.specs.Graph.{Graph}
use Rattle.gn_stands.specs.Order.{rank}

-- the height of a node, or 0 where it is not known
abbrev pub at : List ℕ → ℕ → ℕ
at heights node = slice_index_or heights node 0

-- the heights of the first nodes of a list are known
abbrev pub AreKnown : List ℕ → List ℕ → ℕ → Type 0
AreKnown heights nodes count = (i : ℕ) → i < count → i < length nodes → 0 < at heights (slice_index nodes i)

-- of each node the height is one more than the rank
pub record AreHeights (graph : Graph) (heights : List ℕ) : Type 0 where
  pub sized : length heights ≡ length graph
  pub right : (node : ℕ) → node < length graph → at heights node ≡ suc (rank graph node)
