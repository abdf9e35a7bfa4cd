-- The faces of a topology by the numbers of their vertices and of their edges.
use Rattle.std.proofs.Common.{◌≡◌, ◌≢◌, ℕ, ◌+◌, ◌-◌, ◌<◌, ◌≤◌, get_or, List, [], ◌∷◌, length, map, drop, take, refl, sym, ap, ◌∙◌, subst, arith}
use Rattle.std.specs.Prelude.{slice_range}
use Rattle.std.specs.List.{All, AllPairs, zip}
use Rattle.std.proofs.lemmas.List.{take-map, drop-map, drop_more}
use Rattle.std.proofs.lemmas.List.Elements.{All-nil, All-cons, All-head, All-tail}
use Rattle.gn_plain.specs.Geometry.{Corner}
use Rattle.gn_plain.specs.Edges.{edges_around}
use Rattle.gn_plain.specs.Topology.{Topology, corner_of, edge_at, parts_between, vertices_of, AreOffsets, IsJoined, IsValid, RiseTo}
use Rattle.gn_plain.proofs.TopologyLemmas.{le_from_RiseTo}
use Rattle.gn_geom.specs.Faces.{AreFaces}

-- a part of a list, element by element
pub map-slice_range : {X Y : Type 0} (f : X → Y) (xs : List X) (a b : ℕ) → map f (slice_range xs a b) ≡ slice_range (map f xs) a b
map-slice_range f xs a b = sym (take-map f (b - a) (drop a xs)) ∙ ap (take (b - a)) (sym (drop-map f a xs))

pub vertices_of-corners : (vs ks : List ℕ) → length vs ≡ length ks → vertices_of (map corner_of (zip vs ks)) ≡ vs
vertices_of-corners [] ks e = refl
vertices_of-corners (v ∷ vs) [] e = absurd (omega arith)
vertices_of-corners (v ∷ vs) (k ∷ ks) e = ap (λ l. v ∷ l) (vertices_of-corners vs ks (omega arith))

edges_of-corners : (vs ks : List ℕ) → length vs ≡ length ks → map (λ (c : Corner). c.edge) (map corner_of (zip vs ks)) ≡ ks
edges_of-corners [] [] e = refl
edges_of-corners [] (k ∷ ks) e = absurd (omega arith)
edges_of-corners (v ∷ vs) [] e = absurd (omega arith)
edges_of-corners (v ∷ vs) (k ∷ ks) e = ap (λ l. k ∷ l) (edges_of-corners vs ks (omega arith))

map_both : (edges : List (ℕ × ℕ)) (cs : List Corner) → map (λ c. edge_at edges c.edge) cs ≡ map (edge_at edges) (map (λ (c : Corner). c.edge) cs)
map_both edges [] = refl
map_both edges (c ∷ cs) = ap (λ l. edge_at edges c.edge ∷ l) (map_both edges cs)

-- the vertices of a face
pub face_vertices : (vs ks : List ℕ) (a b : ℕ) → length vs ≡ length ks → vertices_of (slice_range (map corner_of (zip vs ks)) a b) ≡ slice_range vs a b
face_vertices vs ks a b e =
    map-slice_range (λ (c : Corner). c.vertex) (map corner_of (zip vs ks)) a b ∙ ap (λ l. slice_range l a b) (vertices_of-corners vs ks e)

face_edges : (edges : List (ℕ × ℕ)) (vs ks : List ℕ) (a b : ℕ) → length vs ≡ length ks
    → map (λ c. edge_at edges c.edge) (slice_range (map corner_of (zip vs ks)) a b) ≡ map (edge_at edges) (slice_range ks a b)
face_edges edges vs ks a b e =
    map_both edges (slice_range (map corner_of (zip vs ks)) a b)
    ∙ ap (map (edge_at edges)) (map-slice_range (λ (c : Corner). c.edge) (map corner_of (zip vs ks)) a b ∙ ap (λ l. slice_range l a b) (edges_of-corners vs ks e))

-- the facts of all faces, by corners
abbrev AreGood : List (ℕ × ℕ) → List (List Corner) → Type 0
AreGood edges faces = All (λ f. AllPairs (λ a b. a ≢ b) (vertices_of f)) faces × All (IsJoined edges) faces

pub faces_good : (edges : List (ℕ × ℕ)) (vs ks : List ℕ) → length vs ≡ length ks → (offsets : List ℕ)
    → AreFaces edges offsets vs ks → AreGood edges (parts_between offsets (map corner_of (zip vs ks)))
faces_good edges vs ks e [] faces = (All-nil (λ f. AllPairs (λ a b. a ≢ b) (vertices_of f)), All-nil (IsJoined edges))
faces_good edges vs ks e (a ∷ []) faces = (All-nil (λ f. AllPairs (λ a b. a ≢ b) (vertices_of f)), All-nil (IsJoined edges))
faces_good edges vs ks e (a ∷ b ∷ offsets) faces =
    let rest = faces_good edges vs ks e (b ∷ offsets) faces.1 in
    let face = slice_range (map corner_of (zip vs ks)) a b in (
      All-cons (λ f. AllPairs (λ a b. a ≢ b) (vertices_of f)) face _ (subst (AllPairs (λ a b. a ≢ b)) (sym (face_vertices vs ks a b e)) faces.0.0) rest.0,
      All-cons (IsJoined edges) face _ (face_edges edges vs ks a b e ∙ faces.0.1 ∙ ap edges_around (sym (face_vertices vs ks a b e))) rest.1,
    )

pub faces_from_good : (edges : List (ℕ × ℕ)) (vs ks : List ℕ) → length vs ≡ length ks → (offsets : List ℕ)
    → AreGood edges (parts_between offsets (map corner_of (zip vs ks))) → AreFaces edges offsets vs ks
faces_from_good edges vs ks e [] good = tt
faces_from_good edges vs ks e (a ∷ []) good = tt
faces_from_good edges vs ks e (a ∷ b ∷ offsets) good =
    let face = slice_range (map corner_of (zip vs ks)) a b in
    let differ = All-head (λ f. AllPairs (λ a b. a ≢ b) (vertices_of f)) face _ good.0 in
    let joined = All-head (IsJoined edges) face _ good.1 in (
      (subst (AllPairs (λ a b. a ≢ b)) (face_vertices vs ks a b e) differ, sym (face_edges edges vs ks a b e) ∙ joined ∙ ap edges_around (face_vertices vs ks a b e)),
      faces_from_good edges vs ks e (b ∷ offsets) (All-tail (λ f. AllPairs (λ a b. a ≢ b) (vertices_of f)) face _ good.0, All-tail (IsJoined edges) face _ good.1),
    )

-- the next offset
pub next_offset : (count from : ℕ) (offsets : List ℕ) (i : ℕ) → i < length offsets → RiseTo count from (drop i offsets)
    → (from + 3 ≤ get_or offsets i 0) × (get_or offsets i 0 ≤ count) × RiseTo count (get_or offsets i 0) (drop (i + 1) offsets)
next_offset count from offsets i within rise =
    let step : (from + 3 ≤ get_or offsets i 0) × RiseTo count (get_or offsets i 0) (drop (i + 1) offsets) = subst (RiseTo count from) (drop_more offsets i 0 within) rise in
    (step.0, le_from_RiseTo count (get_or offsets i 0) (drop (i + 1) offsets) step.1, step.1)

-- a topology whose parts were checked
pub valid_parts : (t : Topology) → All (λ e. e.0 < e.1) t.edges → All (λ e. e.1 < t.points) t.edges → AllPairs (λ a b. a ≢ b) t.edges → length t.corner_points ≡ length t.corner_edges
    → All (λ v. v < t.points) t.corner_points → All (λ k. k < length t.edges) t.corner_edges → AreOffsets (length t.corner_points) t.faces
    → AreFaces t.edges t.faces t.corner_points t.corner_edges → IsValid t
valid_parts t lesser within differ paired points_within edges_within offsets faces =
    let good = faces_good t.edges t.corner_points t.corner_edges paired t.faces faces in
    record {
      lesser_first = lesser;
      edges_within = within;
      edges_differ = differ;
      paired = paired;
      corner_points_within = points_within;
      corner_edges_within = edges_within;
      offsets = offsets;
      vertices_differ = good.0;
      joined = good.1;
    }

pub faces_of_valid : (t : Topology) → IsValid t → AreFaces t.edges t.faces t.corner_points t.corner_edges
faces_of_valid t valid = faces_from_good t.edges t.corner_points t.corner_edges valid.paired t.faces (valid.vertices_differ, valid.joined)
