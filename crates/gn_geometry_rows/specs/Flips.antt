-- Faces turned over: the first corner stays, and the others come in the opposite order.
use Rattle.std.specs.Prelude.{ℕ, suc, ◌+◌, Bool, List, [], ◌∷◌, ◌++◌, length, map, reverse, take, drop, if◌then◌else◌}
use Rattle.std.specs.List.{range_with_len, zip}
use Rattle.gn_value.specs.Values.{as_truth}
use Rattle.gn_value.specs.declared.value.Place.TheVariants as place
use Rattle.gn_plain.specs.Equality.{same_place}
use Rattle.gn_plain.specs.Columns.{Column}
use Rattle.gn_plain.specs.Geometry.{Corner, Mesh}
use Rattle.gn_plain.specs.Contexts.{context}
use Rattle.gn_plain.specs.Fields.{Sources, at}
use Rattle.gn_rows.specs.Carried.{Carried, a_geometry, a_field}
use Rattle.gn_geometry_rows.specs.Picked.{picked}

-- the vertices in the new order; each corner's edge leads to the next of them, so the last edge comes first
abbrev pub turned_over : List Corner → List Corner
turned_over [] = []
turned_over (c ∷ cs) = map (λ q. record { vertex = q.0; edge = q.1 }) (zip (c.vertex ∷ reverse (map (λ d. d.vertex) cs)) (reverse (map (λ d. d.edge) (c ∷ cs))))

module _ (is_selected : ℕ → Bool) where
  -- faces from a number on
  abbrev pub flipped_faces : ℕ → List (List Corner) → List (List Corner)
  flipped_faces k [] = []
  flipped_faces k (face ∷ faces) = (if is_selected k then turned_over face else face) ∷ flipped_faces (suc k) faces

  -- which corner comes when
  abbrev pub face_order : Bool → List ℕ → List ℕ
  face_order flipped corners = if flipped then take 1 corners ++ reverse (drop 1 corners) else corners

  abbrev pub corner_order : ℕ → ℕ → List (List Corner) → List ℕ
  corner_order k first [] = []
  corner_order k first (face ∷ faces) = face_order (is_selected k) (range_with_len first (length face)) ++ corner_order (suc k) (first + length face) faces

  -- values on corners go with them
  abbrev pub flipped_column : List (List Corner) → Column → Column
  flipped_column faces c = if same_place c.place place.Corner then record { name = c.name; place = c.place; column = picked (corner_order 0 0 faces) c.column } else c

  abbrev pub flipped_mesh : Mesh → Mesh
  flipped_mesh m = record { shape = record { points = m.shape.points; edges = m.shape.edges; faces = flipped_faces 0 m.shape.faces }; columns = map (flipped_column m.shape.faces) m.columns }

module _ {S : Type 0} (sources : Sources S) where
  abbrev pub flip_faces : List (Carried S) → List (Carried S)
  flip_faces (a_geometry g ∷ a_field selection ∷ []) =
      a_geometry (record { mesh = flipped_mesh (λ k. as_truth (at sources selection (context g place.Face) k)) g.mesh; cloud = g.cloud; instances = g.instances }) ∷ []
  flip_faces _ = []
