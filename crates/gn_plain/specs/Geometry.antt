-- Plain geometry: meshes, clouds of points and instances, with columns.
use Rattle.std.specs.Prelude.{ℕ, suc, ◌==◌, max, Bool, not, List, [], ◌∷◌, length, map, sum}
use Rattle.std.specs.List.{list_any}
use Rattle.gn_value.specs.declared.vector.V3.{V3}
use Rattle.gn_value.specs.declared.value.Place.{Place}
use Rattle.gn_value.specs.declared.value.Place.TheVariants as place
use Rattle.gn_plain.specs.Edges.{Edge}
use Rattle.gn_plain.specs.Columns.{Column}

-- ---- meshes

-- a corner of a face: the vertex that it is at, and the edge to the vertex of the next corner, by their numbers from 0
pub record Corner : Type 0 where
  pub vertex : ℕ
  pub edge : ℕ

-- the shape of a mesh: where its vertices are, its edges, and for each face its corners, in order
pub record Shape : Type 0 where
  pub points : List V3
  pub edges : List Edge
  pub faces : List (List Corner)

abbrev pub empty_shape : Shape
empty_shape = record { points = []; edges = []; faces = [] }

-- no corner of a face has the edge of this number
abbrev pub is_loose : Shape → ℕ → Bool
is_loose s k = not (list_any (λ face. list_any (λ c. c.edge == k) face) s.faces)

pub record Mesh : Type 0 where
  pub shape : Shape
  pub columns : List Column

-- ---- clouds and instances

pub record Cloud : Type 0 where
  pub points : List V3
  pub columns : List Column

-- a linear map by its rows, and then a translation
pub record Transform : Type 0 where
  pub row_x : V3
  pub row_y : V3
  pub row_z : V3
  pub translation : V3

mutual
  -- instances in order, with their columns
  pub data Instances : Type 0 where
    with_columns : Placed → List Column → Instances

  -- each has a transform, and the mesh, the cloud and the instances of the geometry that it places
  pub data Placed : Type 0 where
    none_placed : Placed
    and_placed : Transform → Mesh → Cloud → Instances → Placed → Placed

-- ---- geometry

pub record Geometry : Type 0 where
  pub mesh : Mesh
  pub cloud : Cloud
  pub instances : Instances

abbrev pub no_cloud : Cloud
no_cloud = record { points = []; columns = [] }

abbrev pub no_instances : Instances
no_instances = with_columns none_placed []

-- a mesh of this shape, and nothing else
abbrev pub of_shape : Shape → Geometry
of_shape s = record { mesh = record { shape = s; columns = [] }; cloud = no_cloud; instances = no_instances }

abbrev pub empty : Geometry
empty = of_shape empty_shape

abbrev pub placed_in : Instances → Placed
placed_in (with_columns placed columns) = placed

abbrev pub columns_of : Instances → List Column
columns_of (with_columns placed columns) = columns

abbrev pub transforms : Placed → List Transform
transforms none_placed = []
transforms (and_placed t mesh cloud instances placed) = t ∷ transforms placed

-- the geometry that each instance places
abbrev pub parts : Placed → List Geometry
parts none_placed = []
parts (and_placed t mesh cloud instances placed) = record { mesh = mesh; cloud = cloud; instances = instances } ∷ parts placed

-- how many elements a mesh of a shape has on a place
abbrev pub count_in : Shape → Place → ℕ
count_in s place.Point = length s.points
count_in s place.Edge = length s.edges
count_in s place.Face = length s.faces
count_in s place.Corner = sum (map length s.faces)
count_in s _ = 0

abbrev pub count : Geometry → Place → ℕ
count g place.Cloud = length g.cloud.points
count g place.Instance = length (transforms (placed_in g.instances))
count g p = count_in g.mesh.shape p

abbrev mutual
  pub depth_in : Instances → ℕ
  depth_in (with_columns placed columns) = depth_below placed

  pub depth_below : Placed → ℕ
  depth_below none_placed = 0
  depth_below (and_placed t mesh cloud instances placed) = max (suc (depth_in instances)) (depth_below placed)

-- 0 without instances, else one more than that of the deepest geometry that is placed
abbrev pub depth : Geometry → ℕ
depth g = depth_in g.instances
