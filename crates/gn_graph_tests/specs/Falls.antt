-- Edges that lead to lower numbers.
use Rattle.std.specs.Prelude.{ℕ, Bool, ◌&&◌, nat_lt, List, slice_index_or}
use Rattle.std.specs.List.{list_all}

abbrev pub number_of : List ℕ → ℕ → ℕ
number_of numbers node = slice_index_or numbers node 0

-- there are such nodes, with numbers below the limit
abbrev pub are_below : List ℕ → ℕ → ℕ → List ℕ → Bool
are_below numbers count limit nodes = list_all (λ node. nat_lt node count && nat_lt (number_of numbers node) limit) nodes
