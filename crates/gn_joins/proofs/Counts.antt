-- How many elements a join has.
use Rattle.std.proofs.Common.{◌≡◌, ℕ, ◌+◌, ◌-◌, ◌^◌, min, cond, nat_lt, List, [], ◌∷◌, ◌++◌, length, map, sum, Some, refl, sym, ap, ◌∙◌, arith}
use Rattle.std.specs.List.{flat_map, fold, sum_by}
use Rattle.std.proofs.lemmas.List.{length-append, length-map}
use Rattle.std.proofs.lemmas.List.Sums.{sum_by-cons}
use Rattle.gn_value.specs.declared.value.Place.{Place}
use Rattle.gn_value.specs.declared.value.Place.TheVariants as place
use Rattle.gn_plain.specs.Geometry.{Corner, Shape, empty_shape, Geometry, Placed, none_placed, and_placed, count, count_in, placed_in, transforms}
use Rattle.gn_joins.specs.Joins.{edge_behind, corner_behind, shape_behind, joined_shape, placed_behind, joined_placed, joined}
use Rattle.gn_joins.specs.Limits.{most_elements, all_places, first_over, too_many, count_together}

-- ---- shapes

corners_behind : (f : Corner → Corner) (before faces : List (List Corner)) → sum (map length (before ++ map (map f) faces)) ≡ sum (map length before) + sum (map length faces)
corners_behind f [] [] = refl
corners_behind f [] (c ∷ cs) =
    let all = sum_by-cons (λ n. n) (length (map f c)) (map length (map (map f) cs)) in
    let first = sum_by-cons (λ n. n) (length c) (map length cs) in
    let rest = corners_behind f [] cs in
    omega (arith, all, first, length-map c f, rest)
corners_behind f (b ∷ bs) faces =
    let all = sum_by-cons (λ n. n) (length b) (map length (bs ++ map (map f) faces)) in
    let first = sum_by-cons (λ n. n) (length b) (map length bs) in
    let rest = corners_behind f bs faces in
    omega (arith, all, first, rest)

count_behind : (s t : Shape) (p : Place) → count_in (shape_behind s t) p ≡ count_in s p + count_in t p
count_behind s t place.Point = length-append s.points t.points
count_behind s t place.Edge =
    let f = edge_behind (length s.points) in
    omega (arith, length-append s.edges (map f t.edges), length-map t.edges f)
count_behind s t place.Face =
    let f = map (corner_behind (length s.points) (length s.edges)) in
    omega (arith, length-append s.faces (map f t.faces), length-map t.faces f)
count_behind s t place.Corner = corners_behind (corner_behind (length s.points) (length s.edges)) s.faces t.faces
count_behind s t place.Cloud = refl
count_behind s t place.Instance = refl

abbrev on_shape : Place → Shape → ℕ
on_shape p s = count_in s p

count_all : (p : Place) (s : Shape) (ss : List Shape) → count_in (fold shape_behind s ss) p ≡ count_in s p + sum_by (on_shape p) ss
count_all p s [] = omega arith
count_all p s (t ∷ ss) = omega (arith, count_all p (shape_behind s t) ss, count_behind s t p, sum_by-cons (on_shape p) t ss)

count_none : (p : Place) → count_in empty_shape p ≡ 0
count_none place.Point = refl
count_none place.Edge = refl
count_none place.Face = refl
count_none place.Corner = refl
count_none place.Cloud = refl
count_none place.Instance = refl

pub count_shapes : (p : Place) (ss : List Shape) → count_in (joined_shape ss) p ≡ sum_by (on_shape p) ss
count_shapes p ss = omega (arith, count_all p empty_shape ss, count_none p)

-- ---- geometry

module _ (number : Geometry → ℕ) where
  and_one : (g : Geometry) (gs : List Geometry) (n : ℕ) → n ≡ sum_by number gs → number g + n ≡ sum_by number (g ∷ gs)
  and_one g gs n rest = ap (λ m. number g + m) rest ∙ sym (sum_by-cons number g gs)

shapes_together : (p : Place) (gs : List Geometry) → sum_by (on_shape p) (map (λ g. g.mesh.shape) gs) ≡ sum_by (λ g. count_in g.mesh.shape p) gs
shapes_together p [] = refl
shapes_together p (g ∷ gs) = sum_by-cons (on_shape p) g.mesh.shape (map (λ g. g.mesh.shape) gs) ∙ and_one (λ g. count_in g.mesh.shape p) g gs _ (shapes_together p gs)

on_mesh : (p : Place) (gs : List Geometry) → count_in (joined gs).mesh.shape p ≡ sum_by (λ g. count_in g.mesh.shape p) gs
on_mesh p gs = count_shapes p (map (λ g. g.mesh.shape) gs) ∙ shapes_together p gs

cloud_together : (gs : List Geometry) → length (flat_map (λ g. g.cloud.points) gs) ≡ count_together gs place.Cloud
cloud_together [] = refl
cloud_together (g ∷ gs) = length-append g.cloud.points (flat_map (λ g. g.cloud.points) gs) ∙ and_one (λ g. length g.cloud.points) g gs _ (cloud_together gs)

placed_count : (p q : Placed) → length (transforms (placed_behind p q)) ≡ length (transforms p) + length (transforms q)
placed_count none_placed q = omega arith
placed_count (and_placed t mesh cloud instances p) q = omega (arith, placed_count p q)

instances_together : (gs : List Geometry) → length (transforms (joined_placed (map (λ g. placed_in g.instances) gs))) ≡ count_together gs place.Instance
instances_together [] = refl
instances_together (g ∷ gs) =
    placed_count (placed_in g.instances) (joined_placed (map (λ g. placed_in g.instances) gs)) ∙ and_one (λ g. length (transforms (placed_in g.instances))) g gs _ (instances_together gs)

-- a join has on each place the elements of all parts
pub count_joined : (gs : List Geometry) (p : Place) → count (joined gs) p ≡ count_together gs p
count_joined gs place.Point = on_mesh place.Point gs
count_joined gs place.Edge = on_mesh place.Edge gs
count_joined gs place.Face = on_mesh place.Face gs
count_joined gs place.Corner = on_mesh place.Corner gs
count_joined gs place.Cloud = cloud_together gs
count_joined gs place.Instance = instances_together gs

first_over_like : (f g : Place → ℕ) → ((p : Place) → f p ≡ g p) → (ps : List Place) → first_over f ps ≡ first_over g ps
first_over_like f g same [] = refl
first_over_like f g same (p ∷ ps) =
    ap (λ n. cond (nat_lt most_elements n) (Some (p, min n (2 ^ 64 - 1))) (first_over f ps)) (same p)
    ∙ ap (λ r. cond (nat_lt most_elements (g p)) (Some (p, min (g p) (2 ^ 64 - 1))) r) (first_over_like f g same ps)

-- whether a join has too many elements is known from the numbers of its parts
pub too_many_joined : (gs : List Geometry) → too_many (joined gs) ≡ first_over (count_together gs) all_places
too_many_joined gs = first_over_like (count (joined gs)) (count_together gs) (count_joined gs) all_places
