-- Whether a node lies on a cycle, as a test: nodes are let in one by one as those on the way.
use Rattle.std.specs.Prelude.{ℕ, zero, suc, Bool, ◌&&◌, ◌||◌, length}
use Rattle.gn_cycle.specs.Graph.{Graph, has_edge}

-- by way of nodes below the number alone
abbrev pub has_way : Graph → ℕ → ℕ → ℕ → Bool
has_way graph zero i j = has_edge graph i j
has_way graph (suc k) i j = has_way graph k i j || has_way graph k i k && has_way graph k k j

-- a node past the end has no edge, so that no cycle goes by way of it
unfoldable pub is_on_cycle : Graph → ℕ → Bool
is_on_cycle graph i = has_way graph (length graph) i i
