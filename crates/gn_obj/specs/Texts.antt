-- The lines of a mesh by the lists that it is kept in.
use Rattle.std.specs.Prelude.{ℕ, List, ◌++◌, flat_map, codes}
use Rattle.std.specs.List.{enumerate_from}
use Rattle.gn_plain.specs.Geometry.{of_shape}
use Rattle.gn_plain.specs.Topology.{parts_between}
use Rattle.gn_geom.specs.Meshes.{MeshArrays, plain_of}
use Rattle.gn_obj.specs.Written.{vertex_word, loose_edge_line, line_feed, obj_text}

-- the line of a face by the numbers of its vertices
abbrev pub face_text : List ℕ → List ℕ
face_text vertices = codes "f" ++ flat_map vertex_word vertices ++ line_feed

-- the lines of all faces, whose corners begin at these offsets
abbrev pub faces_text : List ℕ → List ℕ → List ℕ
faces_text offsets corner_points = flat_map face_text (parts_between offsets corner_points)

-- the lines of the edges that no face has
abbrev pub loose_edges_text : MeshArrays → List ℕ
loose_edges_text m = flat_map (loose_edge_line (plain_of m)) (enumerate_from 0 (plain_of m).edges)

-- the lines of a mesh
abbrev pub mesh_text : MeshArrays → List ℕ
mesh_text m = obj_text (of_shape (plain_of m))
