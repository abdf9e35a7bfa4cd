-- What nodes give for small geometry, worked out by hand.
use Rattle.std.proofs.Common.{◌≡◌, ℕ, ◌*◌, ◌^◌, List, [], ◌∷◌, Option, Some, None, true, false, ℤ, pos, negsuc, codes, refl}
use Rattle.gn_value.specs.Arithmetic.{one, exact_product}
use Rattle.gn_value.specs.Values.{fx, v3}
use Rattle.gn_value.specs.declared.vector.V3.{V3}
use Rattle.gn_value.specs.declared.value.Value.{Value}
use Rattle.gn_value.specs.declared.value.Value.TheVariants.{Truth as truth, Int as int, Fixed as fixed, Vector as vector}
use Rattle.gn_value.specs.declared.value.Place.TheVariants.{Corner as on_corner, Instance as on_instance, Cloud as on_cloud}
use Rattle.gn_plain.specs.Edges.{Edge}
use Rattle.gn_plain.specs.Columns.{named, ints}
use Rattle.gn_plain.specs.Geometry.{Corner, Geometry, Transform, with_columns, none_placed, and_placed, no_cloud, no_instances, empty, empty_shape, of_shape}
use Rattle.gn_plain.specs.Contexts.{position}
use Rattle.gn_plain.specs.Fields.{constant, input, no_sources}
use Rattle.gn_node_kind.specs.Kinds as kind
use Rattle.gn_node_kind.specs.Kinds.{NodeKind}
use Rattle.gn_rows.specs.Carried.{Carried, a_geometry, a_field}
use Rattle.gn_shapes.specs.Cuboids.{cuboid}
use Rattle.gn_geometry_rows.specs.Primitives.{cloud_of}
use Rattle.gn_geometry_rows.specs.Placing.{identity, scaled_to}
use Rattle.gn_geometry_rows.specs.Rows.{geometry_outputs}

abbrev Item : Type 0
Item = Carried ⊥

abbrev gives_for : NodeKind → List Item → Option (List Item)
gives_for k inputs = geometry_outputs no_sources k inputs

abbrev of_value : Value → Item
of_value v = a_field (constant v)

abbrev count : ℤ → Item
count n = of_value (int n)

abbrev at : ℤ → ℤ → ℤ → V3
at x y z = v3 x y z

abbrev direction : ℤ → ℤ → ℤ → Item
direction x y z = of_value (vector (at x y z))

abbrev all : Item
all = of_value (truth true)

abbrev joins : ℕ → ℕ → Edge
joins a b = record { lesser = a; greater = b }

abbrev corner : ℕ → ℕ → Corner
corner vertex edge = record { vertex = vertex; edge = edge }

-- a triangle whose corners have the numbers 7, 8 and 9
abbrev triangle : Geometry
triangle = record {
  mesh = record {
    shape = record { points = at (pos 0) (pos 0) (pos 0) ∷ at (pos 4) (pos 0) (pos 0) ∷ at (pos 0) (pos 6) (pos 0) ∷ []; edges = joins 0 1 ∷ joins 1 2 ∷ joins 0 2 ∷ []; faces = (corner 0 0 ∷ corner 1 1 ∷ corner 2 2 ∷ []) ∷ [] };
    columns = record { name = named (codes "n"); place = on_corner; column = ints (pos 7 ∷ pos 8 ∷ pos 9 ∷ []) } ∷ [];
  };
  cloud = no_cloud;
  instances = no_instances;
}

-- ---- made of numbers

no_line : gives_for kind.mesh_line (count (negsuc 3) ∷ direction (pos 1) (pos 1) (pos 1) ∷ direction (pos 1) (pos 0) (pos 0) ∷ []) ≡ Some (a_geometry empty ∷ [])
no_line = refl

no_grid : gives_for kind.grid (of_value (fixed (fx one)) ∷ of_value (fixed (fx one)) ∷ count (pos 3) ∷ count (pos 0) ∷ []) ≡ Some (a_geometry empty ∷ [])
no_grid = refl

-- half of 3 and of -3 are rounded down
a_cube : gives_for kind.cube (direction (pos 3) (pos 2) (pos 0) ∷ []) ≡ Some (a_geometry (of_shape (cuboid (at (negsuc 1) (negsuc 0) (pos 0)) (at (pos 1) (pos 1) (pos 0)))) ∷ [])
a_cube = refl

-- the position of each point is read where all are at the origin
two_points : gives_for kind.points (count (pos 2) ∷ a_field (input position) ∷ []) ≡ Some (a_geometry (cloud_of (at (pos 0) (pos 0) (pos 0) ∷ at (pos 0) (pos 0) (pos 0) ∷ [])) ∷ [])
two_points = refl

-- ---- components

sizes : gives_for kind.domain_size (a_geometry triangle ∷ []) ≡ Some (count (pos 3) ∷ count (pos 3) ∷ count (pos 1) ∷ count (pos 3) ∷ count (pos 0) ∷ count (pos 0) ∷ [])
sizes = refl

apart : gives_for kind.separate_components (a_geometry triangle ∷ []) ≡ Some (a_geometry triangle ∷ a_geometry empty ∷ a_geometry empty ∷ [])
apart = refl

around : gives_for kind.bounding_box (a_geometry triangle ∷ []) ≡ Some (a_geometry (of_shape (cuboid (at (pos 0) (pos 0) (pos 0)) (at (pos 4) (pos 6) (pos 0)))) ∷ direction (pos 0) (pos 0) (pos 0) ∷ direction (pos 4) (pos 6) (pos 0) ∷ [])
around = refl

around_nothing : gives_for kind.bounding_box (a_geometry empty ∷ []) ≡ Some (a_geometry empty ∷ direction (pos 0) (pos 0) (pos 0) ∷ direction (pos 0) (pos 0) (pos 0) ∷ [])
around_nothing = refl

of_nothing : gives_for kind.join_geometry [] ≡ Some (a_geometry empty ∷ [])
of_nothing = refl

-- ---- a face turned over: its first corner stays

flipped : gives_for kind.flip_faces (a_geometry triangle ∷ all ∷ [])
    ≡ Some (a_geometry (record triangle {
      mesh = record {
        shape = record { points = at (pos 0) (pos 0) (pos 0) ∷ at (pos 4) (pos 0) (pos 0) ∷ at (pos 0) (pos 6) (pos 0) ∷ []; edges = joins 0 1 ∷ joins 1 2 ∷ joins 0 2 ∷ []; faces = (corner 0 2 ∷ corner 2 1 ∷ corner 1 0 ∷ []) ∷ [] };
        columns = record { name = named (codes "n"); place = on_corner; column = ints (pos 7 ∷ pos 9 ∷ pos 8 ∷ []) } ∷ [];
      };
    }) ∷ [])
flipped = refl

not_flipped : gives_for kind.flip_faces (a_geometry triangle ∷ of_value (truth false) ∷ []) ≡ Some (a_geometry triangle ∷ [])
not_flipped = refl

-- ---- instances

abbrev dot : V3 → Geometry
dot p = cloud_of (p ∷ [])

abbrev once : Transform → Geometry → Geometry
once t g = record { mesh = record { shape = empty_shape; columns = [] }; cloud = no_cloud; instances = with_columns (and_placed t g.mesh g.cloud g.instances none_placed) [] }

as_instance : gives_for kind.geometry_to_instance (a_geometry triangle ∷ []) ≡ Some (a_geometry (once identity triangle) ∷ [])
as_instance = refl

-- at the point, with the scale there
on_a_point : gives_for kind.instance_on_points (a_geometry (dot (at (pos 1) (pos 2) (pos 3))) ∷ all ∷ a_geometry triangle ∷ direction (pos 5) (pos 6) (pos 7) ∷ []) ≡ Some (a_geometry (once (scaled_to (at (pos 5) (pos 6) (pos 7)) (at (pos 1) (pos 2) (pos 3))) triangle) ∷ [])
on_a_point = refl

-- by 2 units, and twice as large along x
moved_on : gives_for kind.translate_instances (a_geometry (once identity triangle) ∷ all ∷ direction (pos 2) (pos 0) (negsuc 0) ∷ []) ≡ Some (a_geometry (once (record identity { translation = at (pos 2) (pos 0) (negsuc 0) }) triangle) ∷ [])
moved_on = refl

left_alone : gives_for kind.translate_instances (a_geometry (once identity triangle) ∷ of_value (truth false) ∷ direction (pos 2) (pos 0) (pos 0) ∷ []) ≡ Some (a_geometry (once identity triangle) ∷ [])
left_alone = refl

twice_as_wide : gives_for kind.scale_instances (a_geometry (once identity triangle) ∷ all ∷ direction (pos (2 * 2 ^ 32)) one one ∷ []) ≡ Some (a_geometry (once (scaled_to (at (pos (2 * 2 ^ 32)) one one) (at (pos 0) (pos 0) (pos 0))) triangle) ∷ [])
unfolding exact_product
twice_as_wide = refl

-- the selected instances, with their columns
abbrev tagged : Geometry
tagged = record { mesh = record { shape = empty_shape; columns = [] }; cloud = no_cloud; instances = with_columns (and_placed (scaled_to (at one one one) (at (pos 1) (pos 2) (pos 3))) triangle.mesh no_cloud no_instances none_placed) (record { name = named (codes "tag"); place = on_instance; column = ints (pos 5 ∷ []) } ∷ []) }

as_points : gives_for kind.instances_to_points (a_geometry tagged ∷ all ∷ a_field (input position) ∷ [])
    ≡ Some (a_geometry (record { mesh = record { shape = empty_shape; columns = [] }; cloud = record { points = at (pos 1) (pos 2) (pos 3) ∷ []; columns = record { name = named (codes "tag"); place = on_cloud; column = ints (pos 5 ∷ []) } ∷ [] }; instances = no_instances }) ∷ [])
as_points = refl

realised : gives_for kind.realize_instances (a_geometry (once (record identity { translation = at (pos 1) (pos 0) (pos 0) }) (dot (at (pos 1) (pos 1) (pos 1)))) ∷ []) ≡ Some (a_geometry (dot (at (pos 2) (pos 1) (pos 1))) ∷ [])
unfolding exact_product
realised = refl

-- a kind that gives something else
another : gives_for kind.set_position [] ≡ None
another = refl
