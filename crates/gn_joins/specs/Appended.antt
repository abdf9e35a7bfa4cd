-- The lists of a mesh behind those of another.
use Rattle.std.specs.Prelude.{ℕ, ◌+◌, ◌++◌, length, map, drop}
use Rattle.gn_plain.specs.Topology.{Topology}

-- an edge whose vertices come behind `n` others
abbrev pub ends_behind : ℕ → ℕ × ℕ → ℕ × ℕ
ends_behind n e = (e.0 + n, e.1 + n)

-- numbers are shifted by how many there are of what they name; the first offset of the second mesh is the last one of the first
abbrev pub appended : Topology → Topology → Topology
appended t u = record {
  points = t.points + u.points;
  edges = t.edges ++ map (ends_behind t.points) u.edges;
  corner_points = t.corner_points ++ map (λ v. v + t.points) u.corner_points;
  corner_edges = t.corner_edges ++ map (λ k. k + length t.edges) u.corner_edges;
  faces = t.faces ++ map (λ o. o + length t.corner_points) (drop 1 u.faces);
}
