-- What a plan makes of the mesh of the input.
use Rattle.std.specs.Prelude.{◌≡◌, ℕ, List, [], ◌∷◌, length}
use Rattle.gn_value.specs.declared.value.ValueKind.TheVariants.{Truth}
use Rattle.gn_plain.specs.Geometry.{Shape, Geometry, of_shape, empty}
use Rattle.gn_plain.specs.Fields.{Sources}
use Rattle.gn_tree.specs.NodeKinds.{Kind}
use Rattle.gn_tree.specs.Trees.{Tree}
use Rattle.gn_node_set.specs.Paths.{Path}
use Rattle.gn_node_set.specs.Meanings.{Answer, Rows}
use Rattle.gn_meaning.specs.Denotation.{Given, StandsAt}
use Rattle.gn_meaning.specs.Demand.{output_read, ListsDemand}
use Rattle.gn_rows.specs.Carried.{Carried, a_geometry, of_constant}
use Rattle.gn_rows.specs.Library.{library}
use Rattle.gn_rows.specs.Moves.{moved_shape}
use Rattle.gn_plans.specs.Plans.{Plan, no_mesh, the_input, a_move}

-- ---- by the plan

abbrev pub made : Plan → Shape → Geometry
made no_mesh s = empty
made the_input s = of_shape s
made (a_move selected to by) s = of_shape (moved_shape selected to by s)

-- how many nodes run for it
abbrev pub runs_of : Plan → ℕ
runs_of (a_move selected to by) = 1
runs_of _ = 0

-- ---- by the tree

-- no node that is built samples another geometry, so that no sampled field has a source
abbrev pub no_sources : Sources ⊥
no_sources = record { kind = λ s. Truth; value = λ s v. v }

abbrev pub Value : Type 0
Value = Carried ⊥

abbrev pub rows : Rows Kind Value
rows = library no_sources

-- the tree's input has this mesh, and files have these answers
abbrev pub given_with : (List ℕ → Answer) → Shape → Given Value
given_with files s = record { constant = of_constant; inputs = a_geometry (of_shape s) ∷ []; files = files }

-- the geometry stands at what the tree gives out
abbrev pub Denotes : (List ℕ → Answer) → Tree → Shape → Geometry → Type 0
Denotes files t s g = StandsAt rows (given_with files s) t (output_read t).from (a_geometry g)

-- the number is that of the nodes that are demanded
abbrev pub CountsDemand : (List ℕ → Answer) → Tree → Shape → ℕ → Type 0
CountsDemand files t s n =
    (paths : List Path) × ListsDemand rows (given_with files s) t (output_read t ∷ []) paths × (n ≡ length paths)
