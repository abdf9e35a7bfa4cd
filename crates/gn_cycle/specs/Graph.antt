-- Which nodes of a graph lead to which. A graph has for each node, by its number, the list of the
-- nodes that its edges lead to.
use Rattle.std.specs.Prelude.{ℕ, Bool, ◌==◌, List, [], map, IsTrue, slice_index_or}
use Rattle.std.specs.List.{list_any}
use Rattle.std.specs.declared.alloc.Global.{Global}
use Rattle.std.specs.declared.vec.Vec.{Vec}

abbrev pub Graph : Type 0
Graph = List (List ℕ)

abbrev pub lists : List (Vec ℕ Global) → Graph
lists vs = map (λ v. v.items) vs

abbrev pub has : List ℕ → ℕ → Bool
has nodes i = list_any (λ k. k == i) nodes

abbrev pub targets : Graph → ℕ → List ℕ
targets graph i = slice_index_or graph i []

abbrev pub has_edge : Graph → ℕ → ℕ → Bool
has_edge graph i j = has (targets graph i) j

-- by one edge or more
pub data Leads (graph : Graph) : ℕ → ℕ → Type 0 where
  by_edge : {i j : ℕ} → IsTrue (has_edge graph i j) → Leads graph i j
  further : {i j k : ℕ} → IsTrue (has_edge graph i j) → Leads graph j k → Leads graph i k
