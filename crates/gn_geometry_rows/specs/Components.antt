-- The components of a geometry, what is around it, how much it has, and its join with others.
use Rattle.std.specs.Prelude.{pos, List, [], ◌∷◌, ◌++◌, map, fold}
use Rattle.std.specs.Int.{int_min, int_max}
use Rattle.gn_value.specs.Values.{by_component, zero_of}
use Rattle.gn_value.specs.declared.vector.V3.{V3}
use Rattle.gn_value.specs.declared.value.Value.TheVariants.{Int as int, Vector as vector}
use Rattle.gn_value.specs.declared.value.ValueKind.TheVariants.{Vector}
use Rattle.gn_plain.specs.Geometry.{Mesh, empty_shape, no_cloud, no_instances, of_shape, empty, count}
use Rattle.gn_plain.specs.Fields.{Sources, constant}
use Rattle.gn_joins.specs.Joins.{joined}
use Rattle.gn_joins.specs.Limits.{all_places}
use Rattle.gn_joins.specs.Transforms.{moved}
use Rattle.gn_joins.specs.Realized.{realized}
use Rattle.gn_shapes.specs.Cuboids.{cuboid}
use Rattle.gn_rows.specs.Carried.{Carried, a_geometry, a_field, geometries}
use Rattle.gn_geometry_rows.specs.Picked.{vector_of}

abbrev pub no_mesh : Mesh
no_mesh = record { shape = empty_shape; columns = [] }

module _ {S : Type 0} where
  -- each alone
  abbrev pub separate_components : List (Carried S) → List (Carried S)
  separate_components (a_geometry g ∷ []) =
      a_geometry (record { mesh = g.mesh; cloud = no_cloud; instances = no_instances })
      ∷ a_geometry (record { mesh = no_mesh; cloud = g.cloud; instances = no_instances })
      ∷ a_geometry (record { mesh = no_mesh; cloud = no_cloud; instances = g.instances })
      ∷ []
  separate_components _ = []

  -- by place, in the order of places
  abbrev pub domain_size : List (Carried S) → List (Carried S)
  domain_size (a_geometry g ∷ []) = map (λ p. a_field (constant (int (pos (count g p))))) all_places
  domain_size _ = []

  abbrev pub join_geometry : List (Carried S) → List (Carried S)
  join_geometry inputs = a_geometry (joined (geometries inputs)) ∷ []

  abbrev pub realize_instances : List (Carried S) → List (Carried S)
  realize_instances (a_geometry g ∷ []) = a_geometry (realized g) ∷ []
  realize_instances _ = []

  -- the cuboid around points, and its lowest and its highest corner
  abbrev pub box_around : List V3 → List (Carried S)
  box_around [] = a_geometry empty ∷ a_field (constant (zero_of Vector)) ∷ a_field (constant (zero_of Vector)) ∷ []
  box_around (p ∷ ps) =
      let low = fold (by_component int_min) p ps in
      let high = fold (by_component int_max) p ps in
      a_geometry (of_shape (cuboid low high)) ∷ a_field (constant (vector low)) ∷ a_field (constant (vector high)) ∷ []

  abbrev pub bounding_box : List (Carried S) → List (Carried S)
  bounding_box (a_geometry g ∷ []) = box_around (g.mesh.shape.points ++ g.cloud.points)
  bounding_box _ = []

module _ {S : Type 0} (sources : Sources S) where
  abbrev pub transform_geometry : List (Carried S) → List (Carried S)
  transform_geometry (a_geometry g ∷ a_field translation ∷ a_field row_x ∷ a_field row_y ∷ a_field row_z ∷ []) =
      a_geometry (moved (record { row_x = vector_of sources row_x; row_y = vector_of sources row_y; row_z = vector_of sources row_z; translation = vector_of sources translation }) g) ∷ []
  transform_geometry _ = []
