-- The mesh of the lists of a grid is the grid.
use Rattle.std.proofs.Common.{Result, Ok, Err, ℤ, ◌≡◌, ℕ, suc, ◌-◌, ◌*◌, List, [], length, map, ap, ◌∙◌}
use Rattle.std.specs.Prelude.{IfOk}
use Rattle.std.specs.List.{range_with_len, flat_map}
use Rattle.std.proofs.lemmas.List.{length-map}
use Rattle.gn_value.specs.declared.vector.V3.{V3}
use Rattle.gn_plain.specs.Topology.{Topology, shape_of}
use Rattle.gn_attr.specs.Columns.{plain_columns}
use Rattle.gn_geom.specs.Meshes.{topology, topology_of, HasTopology}
use Rattle.gn_geometry.specs.Meshes.{MeshView, plain_mesh}
use Rattle.gn_shapes.specs.Grids.{along_side, point_at, cells, grid}
use Rattle.gn_grid.specs.GridLists.{point_in, face_cells, face_vertices, face_edges, edge_pairs, offsets, grid_lists}
use Rattle.gn_grid.proofs.Cells.{length_cells}
use Rattle.gn_grid.proofs.GridLaws.{shape_is}
use Rattle.gn_grid.proofs.Growing.{points_from}

pub if_made : {X E : Type 0} (P Q S R : X → Type 0) (r : Result X E) → ((x : X) → P x → Q x → S x → R x) → IfOk r P → IfOk r Q → IfOk r S → IfOk r R
if_made P Q S R (Ok x) make p q s = make x p q s
if_made P Q S R (Err e) make p q s = tt

module _ (columns rows : ℕ) where
  pub grid_of : (points : List V3) (edges : List (ℕ × ℕ)) (faces corner_points corner_edges : List ℕ)
      → length points ≡ columns * rows → edges ≡ edge_pairs columns rows → faces ≡ offsets columns rows
      → corner_points ≡ flat_map (face_vertices columns rows) (face_cells columns rows) → corner_edges ≡ flat_map (face_edges columns rows) (face_cells columns rows)
      → topology points edges faces corner_points corner_edges ≡ grid_lists columns rows
  grid_of points edges faces corner_points corner_edges p e f v c = λ i. record { points = p i; edges = e i; corner_points = v i; corner_edges = c i; faces = f i }

  module _ (size_x size_y : ℤ) where
    pub points_are : (points : List V3) (xs ys : List ℤ) → points ≡ flat_map (λ x. map (point_in x) ys) xs
        → xs ≡ map (along_side size_x columns) (range_with_len 0 columns) → ys ≡ map (along_side size_y rows) (range_with_len 0 rows)
        → points ≡ map (point_at columns rows size_x size_y) (cells columns rows)
    points_are points xs ys at across up = at ∙ (λ i. flat_map (λ x. map (point_in x) (up i)) (across i)) ∙ points_from columns rows size_x size_y 0 columns

    pub length_points : (points : List V3) → points ≡ map (point_at columns rows size_x size_y) (cells columns rows) → length points ≡ columns * rows
    length_points points at = ap length at ∙ length-map (cells columns rows) (point_at columns rows size_x size_y) ∙ length_cells 0 columns rows

    pub lists_are : (across up : ℕ) (points : List V3) (edges : List (ℕ × ℕ)) (faces corner_points corner_edges : List ℕ)
        → across ≡ columns - 1 → up ≡ rows - 1 → points ≡ map (point_at columns rows size_x size_y) (cells columns rows)
        → edges ≡ edge_pairs columns rows → faces ≡ map (λ k. 4 * k) (range_with_len 0 (suc (across * up)))
        → corner_points ≡ flat_map (face_vertices columns rows) (face_cells columns rows) → corner_edges ≡ flat_map (face_edges columns rows) (face_cells columns rows)
        → topology points edges faces corner_points corner_edges ≡ grid_lists columns rows
    lists_are across up points edges faces corner_points corner_edges a u p e f v c =
        let many : faces ≡ offsets columns rows = f ∙ (λ i. map (λ k. 4 * k) (range_with_len 0 (suc (a i * u i)))) in
        grid_of points edges faces corner_points corner_edges (length_points points p) e many v c

    pub grid_made : (t : Topology) (points : List V3) (m : MeshView) → t ≡ grid_lists columns rows → points ≡ map (point_at columns rows size_x size_y) (cells columns rows)
        → m.shape.points.items ≡ points → HasTopology t m.shape → m.columns ≡ []
        → plain_mesh m ≡ record { shape = grid columns rows size_x size_y; columns = [] }
    grid_made t points m is at here has none =
        let shape : shape_of m.shape.points.items (topology_of m.shape) ≡ grid columns rows size_x size_y =
        (λ i. shape_of ((here ∙ at) i) ((has ∙ is) i)) ∙ shape_is columns rows size_x size_y in
        λ i. record { shape = shape i; columns = plain_columns (none i) }
