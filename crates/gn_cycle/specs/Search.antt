-- A search through a graph: the marks of the nodes that were met, and these in the order in which they
-- were.
use Rattle.std.specs.Prelude.{◌≡◌, ◌≢◌, ◌<◌, ◌≤◌, ◌⊎◌, ℕ, Bool, true, false, not, List, [], ◌∷◌, ◌++◌, length, fold, sum_by, slice_index_or, slice_set, IsTrue, if◌then◌else◌}
use Rattle.gn_cycle.specs.Graph.{Graph, has, has_edge, Leads}

-- the node is there, and is not marked
abbrev pub is_new : List Bool → ℕ → Bool
is_new marks node = not (slice_index_or marks node true)

abbrev pub mark : List Bool → ℕ → List Bool
mark marks node = if is_new marks node then slice_set marks node true else marks

abbrev pub State : Type 0
State = List Bool × List ℕ

abbrev pub with_node : State → ℕ → State
with_node s node = (mark s.0 node, if is_new s.0 node then s.1 ++ node ∷ [] else s.1)

abbrev pub with_nodes : State → List ℕ → State
with_nodes s nodes = fold with_node s nodes

-- how far a search from `start` has come: what was met is led to, and what the first `at` nodes of the
-- queue lead to was met and is not `start`
pub record Reached (graph : Graph) (start : ℕ) (s : State) (at : ℕ) : Type 0 where
  pub led : (x : ℕ) → IsTrue (has s.1 x) → (x ≡ start) ⊎ Leads graph start x
  pub listed : (x : ℕ) → IsTrue (slice_index_or s.0 x false) → IsTrue (has s.1 x)
  pub sized : length s.0 ≡ length graph
  pub starts : IsTrue (has s.1 start)
  pub closed : (k : ℕ) → k < at → (t : ℕ) → IsTrue (has_edge graph (slice_index_or s.1 k 0) t) → (t ≢ start) × (IsTrue (has s.1 t) ⊎ (length graph ≤ t))

-- how many nodes are not met yet
abbrev pub unmet : List Bool → ℕ
unmet met = sum_by (λ b. if b then 0 else 1) met
