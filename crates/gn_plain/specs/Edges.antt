-- Edges: unordered pairs of vertices, each kept with the lesser number first.
use Rattle.std.specs.Prelude.{ℕ, ◌==◌, ◌&&◌, nat_lt, not, Bool, List, [], ◌∷◌, ◌++◌, filter, if◌then◌else◌}
use Rattle.std.specs.List.{list_any}

-- the two vertices that an edge joins, by their numbers from 0
pub record Edge : Type 0 where
  pub lesser : ℕ
  pub greater : ℕ

abbrev pub is_edge : Edge → Edge → Bool
is_edge a b = a.lesser == b.lesser && a.greater == b.greater

-- the edge between two vertices
abbrev pub edge_between : ℕ → ℕ → Edge
edge_between a b = if nat_lt b a then record { lesser = b; greater = a } else record { lesser = a; greater = b }

-- the edges between neighbours in a row of vertices
abbrev pub edges_along : List ℕ → List Edge
edges_along (a ∷ b ∷ vs) = edge_between a b ∷ edges_along (b ∷ vs)
edges_along _ = []

-- the edges around a face: between neighbours, and from its last vertex to its first
abbrev pub edges_around : List ℕ → List Edge
edges_around [] = []
edges_around (a ∷ vs) = edges_along ((a ∷ vs) ++ a ∷ [])

-- each edge once, in the order in which they are first met
abbrev pub first_seen : List Edge → List Edge
first_seen [] = []
first_seen (e ∷ es) = e ∷ filter (λ x. not (is_edge e x)) (first_seen es)

-- one more edge behind others, unless it is one of them
abbrev pub with_edge : List Edge → Edge → List Edge
with_edge es e = if list_any (is_edge e) es then es else es ++ e ∷ []
