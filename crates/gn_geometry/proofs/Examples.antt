-- The definitions at small values.
use Rattle.std.proofs.Common.{◌≡◌, ℕ, true, false, [], ◌∷◌, Some, None, refl}
use Rattle.gn_value.specs.declared.value.Place.TheVariants.{Point, Face, Corner, Cloud, Instance}
use Rattle.gn_shared.specs.Count.{Count}
use Rattle.gn_plain.specs.Geometry as plain
use Rattle.gn_plain.proofs.Samples.{two_triangles}
use Rattle.gn_geometry.specs.Fits.{mesh_count, cloud_count}
use Rattle.gn_geometry.specs.Notes.{noted_each}
use Rattle.gn_geometry.specs.Meshes.{MeshView}
use Rattle.gn_geometry.specs.Clouds.{CloudView}
use Rattle.gn_geometry.specs.Geometries.{GeometryView, geometry, instances, no_parts, part, depth, plain_geometry}
use Rattle.gn_geometry.specs.declared.geometry.Transform.{Transform}

abbrev count : ℕ → Count
count copies = record { runs = 0; copies = copies }

two_of_three_are_copied : noted_each (true ∷ false ∷ true ∷ []) (count 5) ≡ count 7
two_of_three_are_copied = refl

corners_of_two_triangles : mesh_count two_triangles Corner ≡ Some 6
corners_of_two_triangles = refl

faces_of_two_triangles : mesh_count two_triangles Face ≡ Some 2
faces_of_two_triangles = refl

a_mesh_has_no_place_for_instances : mesh_count two_triangles Instance ≡ None
a_mesh_has_no_place_for_instances = refl

a_cloud_has_points_alone : cloud_count 3 Cloud ≡ Some 3
a_cloud_has_points_alone = refl

a_cloud_has_no_vertices : cloud_count 3 Point ≡ None
a_cloud_has_no_vertices = refl

-- a geometry of any mesh and cloud, and one that places it
abbrev inner : MeshView → CloudView → GeometryView
inner m c = geometry m c (instances no_parts [] [])

abbrev outer : MeshView → CloudView → Transform → GeometryView
outer m c t = geometry m c (instances (part (inner m c) no_parts) ((t, 0) ∷ []) [])

one_is_in_the_other : (m : MeshView) (c : CloudView) (t : Transform) → depth (outer m c t) ≡ 1
one_is_in_the_other m c t = refl

it_is_placed_by_its_number : (m : MeshView) (c : CloudView) (t : Transform) → plain.parts (plain.placed_in (plain_geometry (outer m c t)).instances) ≡ plain_geometry (inner m c) ∷ []
it_is_placed_by_its_number m c t = refl
