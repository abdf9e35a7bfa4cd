-- Edges that are put behind others.
use Rattle.std.specs.Prelude.{◌≡◌, ℕ, List, map, fold}
use Rattle.std.specs.List.{position_or_len}
use Rattle.gn_plain.specs.Edges.{Edge, is_edge, with_edge}
use Rattle.gn_plain.specs.Topology.{edge_of}

-- pairs of vertices as edges
abbrev pub edges_in : List (ℕ × ℕ) → List Edge
edges_in pairs = map edge_of pairs

-- the number of an edge among others, or how many these are
abbrev pub number_among : List Edge → Edge → ℕ
number_among edges e = position_or_len (is_edge e) edges

-- edges came one by one behind the others, each unless it was one of them
abbrev pub Adds : List Edge → List (ℕ × ℕ) → List (ℕ × ℕ) → Type 0
Adds edges old new = edges_in new ≡ fold with_edge (edges_in old) edges
