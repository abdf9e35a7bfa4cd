-- What the pairs of a line are.
use Rattle.std.proofs.Common.{ℤ, pos, ◌+ℤ◌, ◌*ℤ◌, ◌*◌, unsigned_abs, SFits, w64, to_z, of_z, Result, Ok, Err, ◌≡◌, ◌≢◌, ℕ, zero, suc, ◌+◌, ◌-◌, ◌<◌, ◌≤◌, ◌^◌, AllPairs, List, [], ◌∷◌, ◌++◌, length, map, get_or, cond, refl, ap, sym, subst, ◌∙◌, arith}
use Rattle.std.specs.Prelude.{IfOk}
use Rattle.std.specs.Int.{w128}
use Rattle.std.specs.List.{range_with_len}
use Rattle.std.proofs.Math.Nat.{mul-le-mul_left}
use Rattle.std.proofs.lemmas.Int.{ints, unsigned_abs-mul, to_z-of_z}
use Rattle.std.proofs.lemmas.Bool.{le-ltb}
use Rattle.std.proofs.lemmas.List.Elements.{All-nil}
use Rattle.std.proofs.lemmas.List.FromFn.{map-range_with_len_more, get_or-map-range_with_len, length-map-range_with_len}
use Rattle.gn_value.specs.declared.vector.V3.{V3}
use Rattle.gn_plain.specs.Edges.{Edge, edge_between, edges_along}
use Rattle.gn_plain.specs.Topology.{Topology, IsValid, IsNumbered, IsJoined, edge_of, vertices_of, shape_of}
use Rattle.gn_attr.specs.Columns.{plain_columns}
use Rattle.gn_geom.specs.Meshes.{topology, topology_of, HasTopology}
use Rattle.gn_geometry.specs.Meshes.{MeshView, plain_mesh}
use Rattle.gn_shapes.specs.Lines.{line, point_of_line}
use Rattle.gn_prim.specs.Links.{link, links}

-- ---- the list grows

pub links_more : (n : ℕ) → 1 ≤ n → links (n + 1) ≡ links n ++ (n - 1, n) ∷ []
links_more n h =
    let count : n + 1 - 1 ≡ n - 1 + 1 = omega (arith, h) in
    let last : n - 1 + 1 ≡ n = omega (arith, h) in
    ap (λ k. map link (range_with_len 0 k)) count ∙ map-range_with_len_more link 0 (n - 1) (n - 1) (omega arith) ∙ ap (λ k. links n ++ (n - 1, k) ∷ []) last

pub all_links : (n count : ℕ) → 1 ≤ n → n ≤ count + 1 → (1 ≤ count → n ≤ count) → count ≤ n → links n ≡ links count
all_links n zero some most upto all = let first : n ≡ 1 = omega (arith, some, most) in ap links first
all_links n (suc k) some most upto all = let most' = upto (omega arith) in let last : n ≡ suc k = omega (arith, all, most') in ap links last

-- ---- the edges of a row of vertices

between_next : (a : ℕ) → edge_between a (a + 1) ≡ edge_of (link a)
between_next a = ap (λ t. cond t (record { lesser = a + 1; greater = a }) (record { lesser = a; greater = a + 1 })) (le-ltb (a + 1) a (omega arith))

along : (a n : ℕ) → map edge_of (map link (range_with_len a n)) ≡ edges_along (range_with_len a (suc n))
along a zero = refl
along a (suc m) = ap (λ e. e ∷ map edge_of (map link (range_with_len (a + 1) m))) (sym (between_next a)) ∙ ap (λ es. edge_between a (a + 1) ∷ es) (along (a + 1) m)

pub links_along : (count : ℕ) → map edge_of (links count) ≡ edges_along (range_with_len 0 count)
links_along zero = refl
links_along (suc m) = let count : suc m - 1 ≡ m = omega arith in ap (λ k. map edge_of (map link (range_with_len 0 k))) count ∙ along 0 m

-- ---- they are those of a mesh

length_links : (count : ℕ) → length (links count) ≡ count - 1
length_links count = length-map-range_with_len link 0 (count - 1)

link_at : (count i : ℕ) (d : ℕ × ℕ) → i < length (links count) → get_or (links count) i d ≡ link i
link_at count i d within = get_or-map-range_with_len link 0 (count - 1) i i d (omega (arith, within, length_links count)) (omega arith)

abbrev pub line_topology : ℕ → Topology
line_topology count = record { points = count; edges = links count; corner_points = []; corner_edges = []; faces = 0 ∷ [] }

pub valid_line : (count : ℕ) → IsValid (line_topology count)
valid_line count = record {
  lesser_first = λ i d within. subst (λ (e : ℕ × ℕ). e.0 < e.1) (sym (link_at count i d within)) (omega arith);
  edges_within = λ i d within. subst (λ (e : ℕ × ℕ). e.1 < count) (sym (link_at count i d within)) (omega (arith, within, length_links count));
  edges_differ = λ i j d less within same.
      let earlier = link_at count i d (omega (arith, less, within)) in
      let later = link_at count j d within in
      let number : i ≡ j = ap (λ (e : ℕ × ℕ). e.0) (sym earlier ∙ same ∙ later) in
      absurd (omega (arith, less, number));
  paired = refl;
  corner_points_within = All-nil (λ v. v < count);
  corner_edges_within = All-nil (λ k. k < length (links count));
  offsets = (refl, refl);
  vertices_differ = All-nil (λ f. AllPairs (λ a b. a ≢ b) (vertices_of f));
  joined = All-nil (IsJoined (links count));
}

pub numbered_line : (count : ℕ) → count < 2 ^ 32 → IsNumbered (line_topology count)
numbered_line count few = record { points = few; edges = omega (arith, few, length_links count); corner_points = omega arith; corner_edges = omega arith; faces = omega arith }

pub shape_of_line : (count : ℕ) (points : List V3) → shape_of points (line_topology count) ≡ record { points = points; edges = edges_along (range_with_len 0 count); faces = [] }
shape_of_line count points = ap (λ (es : List Edge). record { points = points; edges = es; faces = [] }) (links_along count)

pub line_of : (count : ℕ) (points : List V3) (edges : List (ℕ × ℕ)) (faces corner_points corner_edges : List ℕ)
    → length points ≡ count → edges ≡ links count → faces ≡ 0 ∷ [] → corner_points ≡ [] → corner_edges ≡ []
    → topology points edges faces corner_points corner_edges ≡ line_topology count
line_of count points edges faces corner_points corner_edges p e f v c = λ i. record { points = p i; edges = e i; corner_points = v i; corner_edges = c i; faces = f i }

-- ---- the numbers of a vertex fit

exact : (p s : ℤ) → unsigned_abs p ≤ 2 ^ 95 → unsigned_abs s ≤ 2 ^ 63 → to_z w128 (of_z w128 (s +ℤ to_z w128 (of_z w128 p))) ≡ s +ℤ p
exact p s product start = omega (arith, ints)

product_bound : (n : ℕ) (offset : ℤ) → n < 2 ^ 32 → unsigned_abs offset ≤ 2 ^ 63 → unsigned_abs (pos n *ℤ offset) ≤ 2 ^ 95
product_bound n offset number small =
    let size : unsigned_abs (pos n *ℤ offset) ≡ n * unsigned_abs offset = unsigned_abs-mul (pos n) offset in
    let most : n * unsigned_abs offset ≤ n * 2 ^ 63 = mul-le-mul_left n small in
    omega (arith, size, most, number)

along_exact : (n : ℕ) (start offset : ℤ) → n < 2 ^ 32 → unsigned_abs start ≤ 2 ^ 63 → unsigned_abs offset ≤ 2 ^ 63
    → to_z w128 (of_z w128 (start +ℤ to_z w128 (of_z w128 (pos n *ℤ offset)))) ≡ start +ℤ (pos n *ℤ offset)
along_exact n start offset number here there = exact (pos n *ℤ offset) start (product_bound n offset number there) here

small : (s : ℤ) → unsigned_abs s ≤ 2 ^ 63 → to_z w128 (of_z w128 s) ≡ s
small s bound = omega (arith, ints)

whole : (n : ℕ) → n < 2 ^ 32 → to_z w128 n ≡ pos n
whole n bound = omega (arith, ints)

wide : (s : ℤ) → SFits w64 s → unsigned_abs s ≤ 2 ^ 63 → to_z w128 (of_z w128 (to_z w64 (of_z w64 s))) ≡ s
wide s fits bound = ap (λ (z : ℤ). to_z w128 (of_z w128 z)) (to_z-of_z w64 s fits) ∙ small s bound

-- the same of numbers that are read from 64 and from 32 bits
pub along_read : (n : ℕ) (start offset : ℤ) → n < 2 ^ 32 → SFits w64 start → SFits w64 offset → unsigned_abs start ≤ 2 ^ 63 → unsigned_abs offset ≤ 2 ^ 63
    → to_z w128 (of_z w128 (to_z w128 (of_z w128 (to_z w64 (of_z w64 start))) +ℤ to_z w128 (of_z w128 (to_z w128 n *ℤ to_z w128 (of_z w128 (to_z w64 (of_z w64 offset)))))))
    ≡ start +ℤ (pos n *ℤ offset)
along_read n start offset number start-fits offset-fits here there =
    let s = wide start start-fits here in
    let o = wide offset offset-fits there in
    let m = whole n number in
    (λ i. to_z w128 (of_z w128 (s i +ℤ to_z w128 (of_z w128 (m i *ℤ o i))))) ∙ along_exact n start offset number here there

-- ---- the mesh that is made

pub if_made : {X E : Type 0} (P Q S R : X → Type 0) (r : Result X E) → ((x : X) → P x → Q x → S x → R x) → IfOk r P → IfOk r Q → IfOk r S → IfOk r R
if_made P Q S R (Ok x) make p q s = make x p q s
if_made P Q S R (Err e) make p q s = tt

pub line_made : (count : ℕ) (start offset : V3) (t : Topology) (points : List V3) (m : MeshView)
    → t ≡ line_topology count → points ≡ map (point_of_line start offset) (range_with_len 0 count)
    → m.shape.points.items ≡ points → HasTopology t m.shape → m.columns ≡ []
    → plain_mesh m ≡ record { shape = line count start offset; columns = [] }
line_made count start offset t points m is at here has none =
    let shape : shape_of m.shape.points.items (topology_of m.shape) ≡ line count start offset =
    (λ i. shape_of ((here ∙ at) i) ((has ∙ is) i)) ∙ shape_of_line count (map (point_of_line start offset) (range_with_len 0 count)) in
    λ i. record { shape = shape i; columns = plain_columns (none i) }
