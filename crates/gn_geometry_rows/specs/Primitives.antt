-- Geometry that is made of numbers.
use Rattle.std.specs.Prelude.{ℕ, ℤ, pos, neg_ℤ, List, [], ◌∷◌, map, replicate}
use Rattle.std.specs.List.{range_with_len}
use Rattle.gn_value.specs.Arithmetic.{sat, floor_div}
use Rattle.gn_value.specs.Values.{v3, as_vector, each_component}
use Rattle.gn_value.specs.declared.vector.V3.{V3}
use Rattle.gn_value.specs.declared.value.Place.TheVariants.{Cloud as on_cloud}
use Rattle.gn_plain.specs.Geometry.{Geometry, empty_shape, no_instances, of_shape}
use Rattle.gn_plain.specs.Contexts.{context}
use Rattle.gn_plain.specs.Fields.{Expr, Sources, at}
use Rattle.gn_shapes.specs.Lines.{line}
use Rattle.gn_shapes.specs.Grids.{grid}
use Rattle.gn_shapes.specs.Cuboids.{cuboid}
use Rattle.gn_rows.specs.Carried.{Carried, a_geometry, a_field}
use Rattle.gn_geometry_rows.specs.Picked.{count_of, vector_of, number_of}

-- points alone
abbrev pub cloud_of : List V3 → Geometry
cloud_of points = record { mesh = record { shape = empty_shape; columns = [] }; cloud = record { points = points; columns = [] }; instances = no_instances }

-- half of a number, rounded down, and brought into range
abbrev pub half : ℤ → ℤ
half a = sat (floor_div a (pos 2))

module _ {S : Type 0} (sources : Sources S) where
  abbrev pub mesh_line : List (Carried S) → List (Carried S)
  mesh_line (a_field count ∷ a_field start ∷ a_field offset ∷ []) =
      a_geometry (of_shape (line (count_of sources count) (vector_of sources start) (vector_of sources offset))) ∷ []
  mesh_line _ = []

  abbrev pub grid_mesh : List (Carried S) → List (Carried S)
  grid_mesh (a_field size_x ∷ a_field size_y ∷ a_field columns ∷ a_field rows ∷ []) =
      a_geometry (of_shape (grid (count_of sources columns) (count_of sources rows) (number_of sources size_x) (number_of sources size_y))) ∷ []
  grid_mesh _ = []

  -- about the origin
  abbrev pub cube : List (Carried S) → List (Carried S)
  cube (a_field size ∷ []) =
      a_geometry (of_shape (cuboid (each_component (λ a. half (neg_ℤ a)) (vector_of sources size)) (each_component half (vector_of sources size)))) ∷ []
  cube _ = []

  -- the position is read on a cloud of as many points, all at the origin
  abbrev pub placed_points : ℕ → Expr S → List V3
  placed_points count position = map (λ i. as_vector (at sources position (context (cloud_of (replicate count (v3 (pos 0) (pos 0) (pos 0)))) on_cloud) i)) (range_with_len 0 count)

  abbrev pub points : List (Carried S) → List (Carried S)
  points (a_field count ∷ a_field position ∷ []) = a_geometry (cloud_of (placed_points (count_of sources count) position)) ∷ []
  points _ = []
