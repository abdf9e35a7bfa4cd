-- Lists that are put behind one another, as those of a join.
use Rattle.std.proofs.Common.{◌≡◌, ℕ, suc, ◌+◌, ◌-◌, ◌<◌, ◌≤◌, ◌^◌, List, [], ◌∷◌, ◌++◌, length, map, take, drop, get_or, Option, Some, None, refl, sym, ap, subst, ◌∙◌, arith}
use Rattle.std.specs.List.{All}
use Rattle.std.proofs.lemmas.List.{length-append, length-map}
use Rattle.std.proofs.lemmas.List.Elements.{All-cons, All-nil, All-weaker}
use Rattle.gn_value.specs.declared.vector.V3.{V3}
use Rattle.gn_value.specs.declared.value.Place.{Place}
use Rattle.gn_value.specs.declared.value.Place.TheVariants as place
use Rattle.gn_plain.specs.Geometry.{Geometry, Shape, count, count_in}
use Rattle.gn_plain.specs.Topology.{Topology, IsNumbered, IsValid, AreOffsets, RiseTo, edge_of, shape_of}
use Rattle.gn_plain.proofs.TopologyLemmas.{le_from_RiseTo}
use Rattle.gn_geom.specs.Meshes.{MeshArrays, plain_of}
use Rattle.gn_geom.specs.Meshes as meshes
use Rattle.gn_geometry.specs.Geometries.{GeometryView, geometry, mesh_in, plain_geometry, plain_transform}
use Rattle.gn_geometry.proofs.Counts.{face_count, corner_count}
use Rattle.gn_joins.specs.Joins.{shape_behind}
use Rattle.gn_joins.specs.Appended.{appended, ends_behind}
use Rattle.gn_joins.specs.Limits.{count_together, first_over, most_elements}
use Rattle.gn_joins.specs.Transforms.{moved_point}
use Rattle.gn_joins.proofs.Appended.{joined_more, shape_appended}
use Rattle.gn_joins.proofs.Counts.{count_joined}
use Rattle.gn_joins.proofs.Moved.{map_both}
use Rattle.gn_joins.proofs.Validity.{is_valid_appended}
use Rattle.gn_pieces.specs.declared.shapes.Lists.{Lists}
use Rattle.gn_pieces.specs.declared.view.Placing.{Placing}
use Rattle.gn_pieces.specs.declared.view.View.{View}
use Rattle.gn_pieces.specs.Lists.{AreJoined, mesh_places, no_topology, topology_of}
use Rattle.gn_pieces.specs.Views.{geometry_of, moved_points, placed}
use Rattle.gn_pieces.proofs.Placed.{mesh_part_count}
use Rattle.gn_pieces.proofs.Totals.{few_on, first_counted, map_take_more, one_more_counted}

-- ---- one more mesh behind the lists

is_valid_none : IsValid no_topology
is_valid_none = record {
  lesser_first = λ k d lt. absurd (omega (arith, lt));
  edges_within = λ k d lt. absurd (omega (arith, lt));
  edges_differ = λ i j d lt within. absurd (omega (arith, within));
  paired = refl;
  corner_points_within = λ k d lt. absurd (omega (arith, lt));
  corner_edges_within = λ k d lt. absurd (omega (arith, lt));
  offsets = (refl, refl);
  vertices_differ = λ k d lt. absurd (omega (arith, lt));
  joined = λ k d lt. absurd (omega (arith, lt));
}

-- nothing is the join of no shapes
pub none_joined : (l : Lists) → l.points.items ≡ [] → topology_of l ≡ no_topology → AreJoined l []
none_joined l points lists = record {
  valid = subst IsValid (sym lists) is_valid_none;
  shape = λ i. shape_of (points i) (lists i);
}

-- the lists of one more mesh stand behind
one_more_shape : (l l' : Lists) (ss : List Shape) (qs : List V3) (u : Topology) → AreJoined l ss → IsValid u → l'.points.items ≡ l.points.items ++ qs → topology_of l' ≡ appended (topology_of l) u
    → AreJoined l' (ss ++ shape_of qs u ∷ [])
one_more_shape l l' ss qs u on valid points lists =
    let both : shape_of l'.points.items (topology_of l') ≡ shape_of (l.points.items ++ qs) (appended (topology_of l) u) = λ i. shape_of (points i) (lists i) in
    record {
      valid = subst IsValid (sym lists) (is_valid_appended (topology_of l) u on.valid valid);
      shape = both ∙ (shape_appended l.points.items qs (topology_of l) u refl on.valid valid ∙ (ap (λ s. shape_behind s (shape_of qs u)) on.shape ∙ sym (joined_more ss (shape_of qs u))));
    }

-- the shape of a geometry as it goes into the join
placed_shape : (o : Option Placing) (g : GeometryView) → (placed o (plain_geometry g)).mesh.shape ≡ shape_of (moved_points o (mesh_in g).shape.points.items) (meshes.topology_of (mesh_in g).shape)
placed_shape None (geometry m cl is) = refl
placed_shape (Some q) (geometry m cl is) = refl

abbrev pub shapes_of : List View → List Shape
shapes_of vs = map (λ g. g.mesh.shape) (map geometry_of vs)

shapes_more : (vs : List View) (i : ℕ) (v : View) → i < length vs → v ≡ get_or vs i v → shapes_of (take (i + 1) vs) ≡ shapes_of (take i vs) ++ (geometry_of v).mesh.shape ∷ []
shapes_more vs i v below at = ap (map (λ g. g.mesh.shape)) (map_take_more geometry_of vs i v below at) ∙ map_both (λ g. g.mesh.shape) (map geometry_of (take i vs)) (geometry_of v ∷ [])

pub one_more_joined : (vs : List View) (i : ℕ) (v : View) (l l' : Lists) (s : MeshArrays) → i < length vs → v ≡ get_or vs i v → s ≡ (mesh_in v.geometry.now).shape → AreJoined l (shapes_of (take i vs)) → IsValid (meshes.topology_of s)
    → l'.points.items ≡ l.points.items ++ moved_points v.placing s.points.items → topology_of l' ≡ appended (topology_of l) (meshes.topology_of s) → AreJoined l' (shapes_of (take (i + 1) vs))
one_more_joined vs i v l l' s below at same on valid points lists =
    let behind = one_more_shape l l' (shapes_of (take i vs)) (moved_points v.placing s.points.items) (meshes.topology_of s) on valid points lists in
    let shape : shape_of (moved_points v.placing s.points.items) (meshes.topology_of s) ≡ (geometry_of v).mesh.shape =
    ap (λ (m : MeshArrays). shape_of (moved_points v.placing m.points.items) (meshes.topology_of m)) same ∙ sym (placed_shape v.placing v.geometry.now) in
    subst (AreJoined l') (sym (shapes_more vs i v below at)) (subst (λ x. AreJoined l' (shapes_of (take i vs) ++ x ∷ [])) shape behind)

-- ---- how many members the lists have

module _ (l : Lists) (gs : List Geometry) (on : AreJoined l (map (λ g. g.mesh.shape) gs)) where
  pub points_long : length l.points.items ≡ count_together gs place.Point
  points_long = ap (λ s. count_in s place.Point) on.shape ∙ count_joined gs place.Point

  pub edges_long : length l.edges.items ≡ count_together gs place.Edge
  edges_long = sym (length-map l.edges.items edge_of) ∙ (ap (λ s. count_in s place.Edge) on.shape ∙ count_joined gs place.Edge)

  pub corners_long : length l.corner_points.items ≡ count_together gs place.Corner
  corners_long = sym (corner_count l.points.items (topology_of l) on.valid) ∙ (ap (λ s. count_in s place.Corner) on.shape ∙ count_joined gs place.Corner)

  pub faces_long : length l.faces.items - 1 ≡ count_together gs place.Face
  faces_long = sym (face_count l.points.items (topology_of l) on.valid) ∙ (ap (λ s. count_in s place.Face) on.shape ∙ count_joined gs place.Face)

-- few elements in all, so that numbers of 32 bits name them
pub numbered_lists : (l : Lists) (gs : List Geometry) → AreJoined l (map (λ g. g.mesh.shape) gs) → first_over (count_together gs) mesh_places ≡ None → IsNumbered (topology_of l)
numbered_lists l gs on few = record {
  points = omega (arith, points_long l gs on, (few_on (count_together gs) few).0);
  edges = omega (arith, edges_long l gs on, (few_on (count_together gs) few).1);
  corner_points = omega (arith, corners_long l gs on, (few_on (count_together gs) few).3);
  corner_edges = omega (arith, on.valid.paired, corners_long l gs on, (few_on (count_together gs) few).3);
  faces = omega (arith, faces_long l gs on, (few_on (count_together gs) few).2);
}

module _ (vs : List View) (few : first_over (count_together (map geometry_of vs)) mesh_places ≡ None) (i : ℕ) (v : View) (below : i < length vs) (at : v ≡ get_or vs i v) where
  few_with : (p : Place) → count_together (map geometry_of vs) p ≤ most_elements → count_together (map geometry_of (take i vs)) p + count (geometry_of v) p ≤ most_elements
  few_with p all =
      let more = one_more_counted geometry_of p vs i v below at in
      let first = first_counted geometry_of p (i + 1) vs in
      omega (arith, more, first, all)

  module _ (l : Lists) (on : AreJoined l (shapes_of (take i vs))) (s : MeshArrays) (same : s ≡ (mesh_in v.geometry.now).shape) where
    counted : (p : Place) → count_in (plain_of s) p ≡ count_in (plain_of (mesh_in v.geometry.now).shape) p
    counted p = ap (λ (m : MeshArrays). count_in (plain_of m) p) same

    pub points_few : length l.points.items + length s.points.items < 2 ^ 32
    points_few =
        let here : length s.points.items ≡ count (geometry_of v) place.Point = counted place.Point ∙ sym (mesh_part_count v.geometry.now v.placing place.Point) in
        omega (arith, points_long l (map geometry_of (take i vs)) on, here, few_with place.Point (few_on (count_together (map geometry_of vs)) few).0)

    pub edges_few : length l.edges.items + length s.edges.items < 2 ^ 32
    edges_few =
        let here : length s.edges.items ≡ count (geometry_of v) place.Edge =
        sym (length-map s.edges.items edge_of) ∙ (counted place.Edge ∙ sym (mesh_part_count v.geometry.now v.placing place.Edge)) in
        omega (arith, edges_long l (map geometry_of (take i vs)) on, here, few_with place.Edge (few_on (count_together (map geometry_of vs)) few).1)

    pub corners_few : length l.corner_points.items + count_in (plain_of s) place.Corner < 2 ^ 32
    corners_few =
        let here : count_in (plain_of s) place.Corner ≡ count (geometry_of v) place.Corner = counted place.Corner ∙ sym (mesh_part_count v.geometry.now v.placing place.Corner) in
        omega (arith, corners_long l (map geometry_of (take i vs)) on, here, few_with place.Corner (few_on (count_together (map geometry_of vs)) few).3)

-- ---- offsets

rise_below : (to from : ℕ) (os : List ℕ) → RiseTo to from os → All (λ o. o ≤ to) os
rise_below to from [] rise = All-nil (λ o. o ≤ to)
rise_below to from (next ∷ os) rise = All-cons (λ o. o ≤ to) next os (le_from_RiseTo to next os rise.1) (rise_below to next os rise.1)

-- no offset is above the number of corners
pub offsets_below : (count : ℕ) (os : List ℕ) → AreOffsets count os → All (λ o. o ≤ count) (drop 1 os)
offsets_below count [] rise = absurd rise
offsets_below count (first ∷ os) rise = rise_below count first os rise.1

pub length_moved : (o : Option Placing) (ps : List V3) → length (moved_points o ps) ≡ length ps
length_moved None ps = refl
length_moved (Some q) ps = length-map ps (moved_point (plain_transform q.transform))

take_all : {X : Type 0} (xs : List X) → take (length xs) xs ≡ xs
take_all [] = refl
take_all (x ∷ xs) = ap (λ ys. x ∷ ys) (take_all xs)

-- all members but the first
rest_is : (xs : List ℕ) → take (length xs - 1) (drop 1 xs) ≡ drop 1 xs
rest_is [] = refl
rest_is (x ∷ xs) = let long : suc (length xs) - 1 ≡ length xs = omega arith in ap (λ n. take n xs) long ∙ take_all xs

pub offsets_few : (s : MeshArrays) (faces : List ℕ) (n m : ℕ) → IsValid (meshes.topology_of s) → faces ≡ s.faces.items → n ≡ m → m + count_in (plain_of s) place.Corner < 2 ^ 32
    → All (λ o. o + n < 2 ^ 32) (take (length faces - 1) (drop 1 faces))
offsets_few s faces n m valid same at few =
    let many = corner_count s.points.items (meshes.topology_of s) valid in
    let within : All (λ o. o ≤ length s.corner_points.items) (drop 1 faces) = subst (λ os. All (λ o. o ≤ length s.corner_points.items) (drop 1 os)) (sym same) (offsets_below (length s.corner_points.items) s.faces.items valid.offsets) in
    subst (λ os. All (λ o. o + n < 2 ^ 32) os) (sym (rest_is faces))
    (All-weaker (λ o. o ≤ length s.corner_points.items) (λ o. o + n < 2 ^ 32) (λ o h. omega (arith, h, many, at, few)) (drop 1 faces) within)

-- lists that are put behind others, as the topology behind another
pub appended_lists : (ps ps' qs : List V3) (es es' ds : List (ℕ × ℕ)) (fs fs' faces : List ℕ) (cps cps' vs : List ℕ) (ces ces' ks : List ℕ) (v k n : ℕ) (o : Option Placing) (s : MeshArrays)
    → qs ≡ s.points.items → ds ≡ s.edges.items → faces ≡ s.faces.items → vs ≡ s.corner_points.items → ks ≡ s.corner_edges.items
    → v ≡ length ps → k ≡ length es → n ≡ length cps
    → ps' ≡ ps ++ moved_points o qs → es' ≡ es ++ map (ends_behind v) ds → cps' ≡ cps ++ map (λ x. x + v) vs → ces' ≡ ces ++ map (λ x. x + k) ks
    → fs' ≡ fs ++ map (λ x. x + n) (take (length faces - 1) (drop 1 faces))
    → meshes.topology ps' es' fs' cps' ces' ≡ appended (meshes.topology ps es fs cps ces) (meshes.topology_of s)
appended_lists ps ps' qs es es' ds fs fs' faces cps cps' vs ces ces' ks v k n o s same_qs same_ds same_faces same_vs same_ks at_v at_k at_n is_ps is_es is_cps is_ces is_fs =
    let points : length ps' ≡ length ps + length s.points.items =
    ap length is_ps ∙ (length-append ps (moved_points o qs) ∙ ap (λ m. length ps + m) (length_moved o qs ∙ ap length same_qs)) in
    let edges : es' ≡ es ++ map (ends_behind (length ps)) s.edges.items = is_es ∙ (ap (λ m. es ++ map (ends_behind m) ds) at_v ∙ ap (λ xs. es ++ map (ends_behind (length ps)) xs) same_ds) in
    let corner_points : cps' ≡ cps ++ map (λ x. x + length ps) s.corner_points.items = is_cps ∙ (ap (λ m. cps ++ map (λ x. x + m) vs) at_v ∙ ap (λ xs. cps ++ map (λ x. x + length ps) xs) same_vs) in
    let corner_edges : ces' ≡ ces ++ map (λ x. x + length es) s.corner_edges.items = is_ces ∙ (ap (λ m. ces ++ map (λ x. x + m) ks) at_k ∙ ap (λ xs. ces ++ map (λ x. x + length es) xs) same_ks) in
    let all_faces : fs' ≡ fs ++ map (λ x. x + length cps) (drop 1 s.faces.items) =
    is_fs ∙ (ap (λ m. fs ++ map (λ x. x + m) (take (length faces - 1) (drop 1 faces))) at_n ∙ (ap (λ xs. fs ++ map (λ x. x + length cps) xs) (rest_is faces) ∙ ap (λ xs. fs ++ map (λ x. x + length cps) (drop 1 xs)) same_faces)) in
    λ i. record { points = points i; edges = edges i; corner_points = corner_points i; corner_edges = corner_edges i; faces = all_faces i }
