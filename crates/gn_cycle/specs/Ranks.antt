-- Ranks of nodes. Where no edge leads to a higher rank, a node all of whose edges lead to lower ones lies on no
-- cycle.
use Rattle.std.specs.Prelude.{ℕ, ◌≤◌, Bool, nat_lt, nat_le, List, IsTrue, slice_index_or}
use Rattle.std.specs.List.{list_all}
use Rattle.gn_cycle.specs.Graph.{Graph, targets, has_edge}

abbrev pub rank : List ℕ → ℕ → ℕ
rank ranks i = slice_index_or ranks i 0

abbrev pub are_at_most : List ℕ → ℕ → List ℕ → Bool
are_at_most ranks limit nodes = list_all (λ k. nat_le (rank ranks k) limit) nodes

abbrev pub are_below : List ℕ → ℕ → List ℕ → Bool
are_below ranks limit nodes = list_all (λ k. nat_lt (rank ranks k) limit) nodes

abbrev pub NoneRises : Graph → List ℕ → Type 0
NoneRises graph ranks = (i j : ℕ) → IsTrue (has_edge graph i j) → rank ranks j ≤ rank ranks i

abbrev pub leads_down : Graph → List ℕ → ℕ → Bool
leads_down graph ranks i = are_below ranks (rank ranks i) (targets graph i)
