-- Geometry as instances, instances moved and scaled, and instances as points.
use Rattle.std.specs.Prelude.{ℕ, suc, pos, List, [], ◌∷◌, ◌++◌, map, if◌then◌else◌}
use Rattle.gn_value.specs.Arithmetic.{one, sum_of, product_of}
use Rattle.gn_value.specs.Values.{v3, as_truth, as_vector, by_component}
use Rattle.gn_value.specs.declared.vector.V3.{V3}
use Rattle.gn_value.specs.declared.value.Place.TheVariants as place
use Rattle.gn_plain.specs.Columns.{Column}
use Rattle.gn_plain.specs.Geometry.{Geometry, Transform, with_columns, Placed, none_placed, and_placed, placed_in, columns_of, no_cloud, no_instances}
use Rattle.gn_plain.specs.Contexts.{Context, position as its_position, context, input_at}
use Rattle.gn_plain.specs.Fields.{Expr, Sources, at}
use Rattle.gn_rows.specs.Carried.{Carried, a_geometry, a_field, geometries}
use Rattle.gn_geometry_rows.specs.Picked.{selected, picked_columns}
use Rattle.gn_geometry_rows.specs.Components.{no_mesh}

abbrev pub instances_alone : Placed → List Column → Geometry
instances_alone placed columns = record { mesh = no_mesh; cloud = no_cloud; instances = with_columns placed columns }

-- a scale along the axes, and then a translation
abbrev pub scaled_to : V3 → V3 → Transform
scaled_to scale translation = record { row_x = v3 scale.x.0 (pos 0) (pos 0); row_y = v3 (pos 0) scale.y.0 (pos 0); row_z = v3 (pos 0) (pos 0) scale.z.0; translation = translation }

abbrev pub identity : Transform
identity = scaled_to (v3 one one one) (v3 (pos 0) (pos 0) (pos 0))

abbrev pub and_instance : Transform → Geometry → Placed → Placed
and_instance t g placed = and_placed t g.mesh g.cloud g.instances placed

-- one geometry, placed by each of some transforms
abbrev pub placed_by : List Transform → Geometry → Placed
placed_by [] g = none_placed
placed_by (t ∷ ts) g = and_instance t g (placed_by ts g)

-- each of some geometries where it is
abbrev pub placed_as : List Geometry → Placed
placed_as [] = none_placed
placed_as (g ∷ gs) = and_instance identity g (placed_as gs)

-- instances from a number on, each with another transform
abbrev pub changed : (ℕ → Transform → Transform) → ℕ → Placed → Placed
changed f k none_placed = none_placed
changed f k (and_placed t mesh cloud instances placed) = and_placed (f k t) mesh cloud instances (changed f (suc k) placed)

abbrev pub with_changed : (ℕ → Transform → Transform) → Geometry → Geometry
with_changed f g = record { mesh = g.mesh; cloud = g.cloud; instances = with_columns (changed f 0 (placed_in g.instances)) (columns_of g.instances) }

abbrev pub translated : V3 → Transform → Transform
translated by t = record { row_x = t.row_x; row_y = t.row_y; row_z = t.row_z; translation = by_component sum_of t.translation by }

-- each row times the scale, by component
abbrev pub scaled : V3 → Transform → Transform
scaled scale t = record { row_x = by_component product_of t.row_x scale; row_y = by_component product_of t.row_y scale; row_z = by_component product_of t.row_z scale; translation = t.translation }

module _ {S : Type 0} where
  abbrev pub geometry_to_instance : List (Carried S) → List (Carried S)
  geometry_to_instance inputs = a_geometry (instances_alone (placed_as (geometries inputs)) []) ∷ []

module _ {S : Type 0} (sources : Sources S) where
  -- at each selected element, with the scale there
  abbrev pub transforms_on : Context → Expr S → Expr S → List Transform
  transforms_on c selection scale = map (λ i. scaled_to (as_vector (at sources scale c i)) (as_vector (input_at c its_position i))) (selected sources selection c)

  abbrev pub instance_on_points : List (Carried S) → List (Carried S)
  instance_on_points (a_geometry points ∷ a_field selection ∷ a_geometry instance ∷ a_field scale ∷ []) =
      a_geometry (instances_alone (placed_by (transforms_on (context points place.Point) selection scale ++ transforms_on (context points place.Cloud) selection scale) instance) []) ∷ []
  instance_on_points _ = []

  -- where the selection holds, a transform is changed by the vector there
  abbrev pub where_selected : (V3 → Transform → Transform) → Geometry → Expr S → Expr S → ℕ → Transform → Transform
  where_selected f g selection by k t = let c = context g place.Instance in if as_truth (at sources selection c k) then f (as_vector (at sources by c k)) t else t

  abbrev pub translate_instances : List (Carried S) → List (Carried S)
  translate_instances (a_geometry g ∷ a_field selection ∷ a_field translation ∷ []) = a_geometry (with_changed (where_selected translated g selection translation) g) ∷ []
  translate_instances _ = []

  abbrev pub scale_instances : List (Carried S) → List (Carried S)
  scale_instances (a_geometry g ∷ a_field selection ∷ a_field scale ∷ []) = a_geometry (with_changed (where_selected scaled g selection scale) g) ∷ []
  scale_instances _ = []

  -- the selected instances with their columns, each as a point where the position puts it
  abbrev pub points_of : Geometry → Expr S → Expr S → Geometry
  points_of g selection position =
      let c = context g place.Instance in
      let numbers = selected sources selection c in
      record { mesh = no_mesh; cloud = record { points = map (λ i. as_vector (at sources position c i)) numbers; columns = picked_columns place.Cloud numbers (columns_of g.instances) }; instances = no_instances }

  abbrev pub instances_to_points : List (Carried S) → List (Carried S)
  instances_to_points (a_geometry g ∷ a_field selection ∷ a_field position ∷ []) = a_geometry (points_of g selection position) ∷ []
  instances_to_points _ = []
