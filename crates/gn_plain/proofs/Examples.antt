-- Edges, topologies, columns and geometry, by computation.
use Rattle.std.proofs.Common.{◌≡◌, ℕ, [], ◌∷◌, Some, None, true, false, pos, codes, map, refl}
use Rattle.gn_value.specs.declared.value.Value.TheVariants.{Int as int}
use Rattle.gn_value.specs.declared.value.ValueKind.TheVariants.{Fixed}
use Rattle.gn_value.specs.declared.value.Place.TheVariants.{Point, Edge, Face, Corner, Cloud, Instance}
use Rattle.gn_plain.specs.Edges.{edges_along, edges_around, first_seen}
use Rattle.gn_plain.specs.Columns.{named, anonymous, ints, truths, fixed_numbers, kind_of_values, value_of, Column, entry_named, with_entry, without_entry}
use Rattle.gn_plain.specs.Geometry.{Transform, Geometry, and_placed, none_placed, with_columns, is_loose, of_shape, empty, count, depth}
use Rattle.gn_plain.specs.Topology.{Topology, shape_of, parts_between}
use Rattle.gn_plain.proofs.Samples.{at_units, edge, corner, triangle, two_triangles}

-- ---- edges

an_edge_has_the_lesser_vertex_first : edges_along (3 ∷ 1 ∷ 2 ∷ []) ≡ edge 1 3 ∷ edge 1 2 ∷ []
an_edge_has_the_lesser_vertex_first = refl

one_vertex_has_no_neighbour : edges_along (3 ∷ []) ≡ []
one_vertex_has_no_neighbour = refl

the_last_edge_closes_the_face : edges_around (0 ∷ 1 ∷ 2 ∷ []) ≡ triangle.edges
the_last_edge_closes_the_face = refl

two_triangles_share_an_edge : first_seen (edge 0 1 ∷ edge 1 2 ∷ edge 0 2 ∷ edge 1 2 ∷ edge 2 3 ∷ edge 1 3 ∷ []) ≡ two_triangles.edges
two_triangles_share_an_edge = refl

-- ---- topologies

three_offsets_cut_a_list_in_two : parts_between {X = ℕ} (0 ∷ 3 ∷ 7 ∷ []) (1 ∷ 2 ∷ 3 ∷ 4 ∷ 5 ∷ 6 ∷ 7 ∷ []) ≡ (1 ∷ 2 ∷ 3 ∷ []) ∷ (4 ∷ 5 ∷ 6 ∷ 7 ∷ []) ∷ []
three_offsets_cut_a_list_in_two = refl

no_offset_and_one_cut_nothing : parts_between {X = ℕ} (0 ∷ []) (1 ∷ []) ≡ parts_between {X = ℕ} [] (1 ∷ [])
no_offset_and_one_cut_nothing = refl

-- the triangle, with an edge that no face has
abbrev topology : Topology
topology = record { points = 4; edges = (0, 1) ∷ (2, 3) ∷ (1, 2) ∷ (0, 2) ∷ []; corner_points = 0 ∷ 1 ∷ 2 ∷ []; corner_edges = 0 ∷ 2 ∷ 3 ∷ []; faces = 0 ∷ 3 ∷ [] }

a_topology_has_edges_and_faces : shape_of [] topology ≡ record { points = []; edges = edge 0 1 ∷ edge 2 3 ∷ edge 1 2 ∷ edge 0 2 ∷ []; faces = (corner 0 0 ∷ corner 1 2 ∷ corner 2 3 ∷ []) ∷ [] }
a_topology_has_edges_and_faces = refl

an_edge_of_no_corner_is_loose : is_loose (shape_of [] topology) 1 ≡ true
an_edge_of_no_corner_is_loose = refl

an_edge_of_a_corner_is_not : is_loose (shape_of [] topology) 3 ≡ false
an_edge_of_a_corner_is_not = refl

-- ---- columns

abbrev ages : Column
ages = record { name = named (codes "age"); place = Point; column = ints (pos 7 ∷ pos 8 ∷ []) }

abbrev marks : Column
marks = record { name = anonymous (record { node = 3; turn = Some 0 } ∷ []) 1; place = Face; column = truths (true ∷ []) }

-- other values under the name of the first
abbrev new_ages : Column
new_ages = record { name = named (codes "age"); place = Face; column = truths (false ∷ []) }

a_new_name_goes_last : with_entry marks (ages ∷ []) ≡ ages ∷ marks ∷ []
a_new_name_goes_last = refl

a_known_name_keeps_its_number : with_entry new_ages (ages ∷ marks ∷ []) ≡ new_ages ∷ marks ∷ []
a_known_name_keeps_its_number = refl

one_column_is_taken_out : without_entry (named (codes "age")) (ages ∷ marks ∷ []) ≡ marks ∷ []
one_column_is_taken_out = refl

a_path_names_its_column : entry_named marks.name (ages ∷ marks ∷ []) ≡ Some marks
a_path_names_its_column = refl

another_turn_names_none : entry_named (anonymous (record { node = 3; turn = Some 1 } ∷ []) 1) (ages ∷ marks ∷ []) ≡ None
another_turn_names_none = refl

values_past_the_end_are_zero : map (value_of ages.column) (1 ∷ 2 ∷ []) ≡ int (pos 8) ∷ int (pos 0) ∷ []
values_past_the_end_are_zero = refl

no_values_have_a_kind : kind_of_values (fixed_numbers []) ≡ Fixed
no_values_have_a_kind = refl

-- ---- geometry

abbrev moved_up : Transform
moved_up = record { row_x = at_units 1 0 0; row_y = at_units 0 1 0; row_z = at_units 0 0 1; translation = at_units 0 0 1 }

-- one instance, which places a geometry
abbrev instance_of : Geometry → Geometry
instance_of g = record empty { instances = with_columns (and_placed moved_up g.mesh g.cloud g.instances none_placed) [] }

elements_of_two_triangles : map (count (of_shape two_triangles)) (Point ∷ Edge ∷ Face ∷ Corner ∷ Cloud ∷ Instance ∷ []) ≡ 5 ∷ 5 ∷ 2 ∷ 6 ∷ 0 ∷ 0 ∷ []
elements_of_two_triangles = refl

an_instance_is_an_element : count (instance_of (of_shape triangle)) Instance ≡ 1
an_instance_is_an_element = refl

depths : map depth (of_shape triangle ∷ instance_of empty ∷ instance_of (instance_of empty) ∷ []) ≡ 0 ∷ 1 ∷ 2 ∷ []
depths = refl
