-- The lists of the nodes as they are kept, and how far the inputs of each node were passed.
use Rattle.std.specs.Prelude.{◌≡◌, ◌<◌, ◌≤◌, ℕ, List, [], ◌∷◌, ◌++◌, map, length, take, Option, IsTrue, slice_index_or, vec_len, vec_capacity}
use Rattle.std.specs.declared.alloc.Global.{Global}
use Rattle.std.specs.declared.vec.Vec.{Vec}
use Rattle.gn_uses.specs.declared.outputs.Out.{Out}
use Rattle.gn_uses.specs.declared.nodes.Parts.{Parts}
use Rattle.gn_uses.specs.Sets.{rows_of}
use Rattle.gn_uses.specs.Nodes.{Nodes, filled, all_set}

abbrev pub lists_of : List (Vec (Option Out) Global) → List (List (Option Out))
lists_of vs = map (λ v. v.items) vs

-- what the lists say, with the numbers of outputs
abbrev pub nodes_of : Parts → List ℕ → Nodes
nodes_of parts sizes = record {
  roles = parts.roles.items;
  inputs = lists_of parts.inputs.items;
  sizes = sizes;
  choices = parts.choices.items;
  results = lists_of parts.results.items;
  filled = rows_of parts.filled.items;
  answered = parts.answered.items;
  roots = parts.roots.items;
}

-- the inputs before each node's cursor have values
abbrev pub ArePassed : Nodes → List ℕ → Type 0
ArePassed g cursors = (n : ℕ) → IsTrue (all_set (take (slice_index_or cursors n 0) (filled g n)))

-- there is room for one more node
pub record HasSpace (parts : Parts) : Type 0 where
  pub roles : vec_len parts.roles < vec_capacity parts.roles
  pub inputs : vec_len parts.inputs < vec_capacity parts.inputs
  pub choices : vec_len parts.choices < vec_capacity parts.choices
  pub results : vec_len parts.results < vec_capacity parts.results
  pub filled : vec_len parts.filled < vec_capacity parts.filled
  pub answered : vec_len parts.answered < vec_capacity parts.answered
