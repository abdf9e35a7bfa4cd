-- Set Position: where the selection holds, an element goes to the position and the offset together.
use Rattle.std.specs.Prelude.{ℕ, suc, List, [], ◌∷◌, map, if◌then◌else◌}
use Rattle.std.specs.List.{enumerate_from}
use Rattle.gn_value.specs.Arithmetic.{sum_of}
use Rattle.gn_value.specs.Values.{as_truth, as_vector, by_component}
use Rattle.gn_value.specs.declared.vector.V3.{V3}
use Rattle.gn_value.specs.declared.value.Place.TheVariants.{Point, Cloud, Instance}
use Rattle.gn_plain.specs.Geometry.{Geometry, Instances, with_columns, Placed, none_placed, and_placed}
use Rattle.gn_plain.specs.Contexts.{Context, context}
use Rattle.gn_plain.specs.Fields.{Expr, Sources, at}
use Rattle.gn_rows.specs.Carried.{Carried, a_geometry, a_field}

-- the sum by component
abbrev pub vector_sum : V3 → V3 → V3
vector_sum a b = by_component sum_of a b

-- where the element of a number goes from a point
abbrev pub Move : Type 0
Move = ℕ → V3 → V3

abbrev pub moved_points : Move → List V3 → List V3
moved_points move points = map (λ p. move p.0 p.1) (enumerate_from 0 points)

-- instances from one on, by their translations
abbrev pub moved_placed : Move → ℕ → Placed → Placed
moved_placed move i none_placed = none_placed
moved_placed move i (and_placed t mesh cloud instances placed) =
    and_placed (record t { translation = move i t.translation }) mesh cloud instances (moved_placed move (suc i) placed)

abbrev pub moved_instances : Move → Instances → Instances
moved_instances move (with_columns placed columns) = with_columns (moved_placed move 0 placed) columns

module _ {S : Type 0} (sources : Sources S) where
  -- the values are those on the geometry as it came in
  abbrev pub move_in : Context → Expr S → Expr S → Expr S → Move
  move_in c selection position offset i point =
      if as_truth (at sources selection c i) then vector_sum (as_vector (at sources position c i)) (as_vector (at sources offset c i)) else point

  abbrev pub with_moved_points : Geometry → Expr S → Expr S → Expr S → Geometry
  with_moved_points g selection position offset = record {
    mesh = record (g.mesh) { shape = record (g.mesh.shape) { points = moved_points (move_in (context g Point) selection position offset) g.mesh.shape.points } };
    cloud = record (g.cloud) { points = moved_points (move_in (context g Cloud) selection position offset) g.cloud.points };
    instances = moved_instances (move_in (context g Instance) selection position offset) g.instances;
  }

  abbrev pub set_position : List (Carried S) → List (Carried S)
  set_position (a_geometry g ∷ a_field selection ∷ a_field position ∷ a_field offset ∷ []) = a_geometry (with_moved_points g selection position offset) ∷ []
  set_position _ = []
