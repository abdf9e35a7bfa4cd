-- Meshes and clouds stay so when their points are elsewhere, and when their arrays are handed on.
use Rattle.std.proofs.Common.{◌≡◌, ℕ, ◌++◌, [], List, length, drop, Some, refl, sym, ap, subst, arith, Bool, ◌<◌, ◌^◌}
use Rattle.std.proofs.lemmas.List.{length-take, length-append, length-drop}
use Rattle.std.specs.List.{AllZip}
use Rattle.gn_value.specs.declared.vector.V3.{V3}
use Rattle.gn_value.specs.declared.value.Place.{Place}
use Rattle.gn_value.specs.declared.value.Place.TheVariants.{Point, Edge, Face, Corner, Cloud, Instance}
use Rattle.gn_shared.specs.Arrays.{ArrayView}
use Rattle.gn_shared.specs.Writing.{written}
use Rattle.gn_plain.specs.Topology.{Topology, IsValid, IsNumbered, shape_of}
use Rattle.gn_attr.specs.Columns.{KeepsEntry, IsTwinEntry}
use Rattle.gn_geom.specs.Meshes.{MeshArrays, IsMesh, AreLoose, plain_of, topology, topology_of}
use Rattle.gn_geometry.specs.Fits.{AreFitting, mesh_count, cloud_count}
use Rattle.gn_geometry.specs.Meshes.{MeshView, IsColumned, KeepsShape, IsTwinShape, with_points}
use Rattle.gn_geometry.specs.Clouds.{CloudView, IsCloud, moved}
use Rattle.gn_geometry.proofs.Fitting.{fit_same, fit_kept, fit_twins}

pub length_written : {T : Type 0} (old items : List T) → length (written old items) ≡ length old
length_written old items =
    omega (arith, length-take (length old) (items ++ drop (length items) old), length-append items (drop (length items) old), length-drop (length items) old)

-- ---- points elsewhere

same_counts : (m : MeshView) (points : ArrayView V3) → length points.items ≡ length m.shape.points.items → (p : Place)
    → mesh_count (plain_of (with_points m points).shape) p ≡ mesh_count (plain_of m.shape) p
same_counts m points h Point = ap Some h
same_counts m points h Edge = refl
same_counts m points h Face = refl
same_counts m points h Corner = refl
same_counts m points h Cloud = refl
same_counts m points h Instance = refl

abbrev counting : MeshArrays → ℕ → Topology
counting m n = record { points = n; edges = m.edges.items; corner_points = m.corner_points.items; corner_edges = m.corner_edges.items; faces = m.faces.items }

pub is_mesh_moved : (m : MeshView) (points : ArrayView V3) → length points.items ≡ length m.shape.points.items → IsColumned m → IsColumned (with_points m points)
is_mesh_moved m points h is = record {
  shape = record {
    valid = subst (λ n. IsValid (counting m.shape n)) (sym h) is.shape.valid;
    numbered = subst (λ n. IsNumbered (counting m.shape n)) (sym h) is.shape.numbered;
    loose = is.shape.loose;
  };
  fit = fit_same (mesh_count (plain_of m.shape)) (mesh_count (plain_of (with_points m points).shape)) (same_counts m points h) m.columns is.fit;
}

pub is_cloud_moved : (c : CloudView) (points : ArrayView V3) → length points.items ≡ length c.points.items → IsCloud c → IsCloud (moved c points)
is_cloud_moved c points h is = record {
  few = subst (λ n. n < 2 ^ 32) (sym h) is.few;
  fit = subst (λ n. AreFitting (cloud_count n) c.columns) (sym h) is.fit;
}

-- ---- the same items, with other handles

-- the items of the arrays of a shape
pub record Items : Type 0 where
  pub points : List V3
  pub edges : List (ℕ × ℕ)
  pub faces : List ℕ
  pub corner_points : List ℕ
  pub corner_edges : List ℕ
  pub loose : List Bool

abbrev items_of : MeshArrays → Items
items_of m = record { points = m.points.items; edges = m.edges.items; faces = m.faces.items; corner_points = m.corner_points.items; corner_edges = m.corner_edges.items; loose = m.loose.items }

abbrev lists_of : Items → Topology
lists_of i = topology i.points i.edges i.faces i.corner_points i.corner_edges

-- what is true of a mesh hangs on the items alone
is_mesh_like : (m n : MeshArrays) → items_of n ≡ items_of m → IsMesh m → IsMesh n
is_mesh_like m n same is = record {
  valid = subst (λ i. IsValid (lists_of i)) (sym same) is.valid;
  numbered = subst (λ i. IsNumbered (lists_of i)) (sym same) is.numbered;
  loose = subst (λ (i : Items). AreLoose i.loose (length i.edges) i.corner_edges) (sym same) is.loose;
}

plain_like : (m n : MeshArrays) → items_of n ≡ items_of m → plain_of n ≡ plain_of m
plain_like m n same = ap (λ i. shape_of i.points (lists_of i)) same

items_kept : (m n : MeshArrays) → KeepsShape m n → items_of n ≡ items_of m
items_kept m n k =
    λ i. record { points = k.points.0 i; edges = k.edges.0 i; faces = k.faces.0 i; corner_points = k.corner_points.0 i; corner_edges = k.corner_edges.0 i; loose = k.loose.0 i }

items_twin : (m n : MeshArrays) → IsTwinShape m n → items_of n ≡ items_of m
items_twin m n k =
    λ i. record { points = k.points.0 i; edges = k.edges.0 i; faces = k.faces.0 i; corner_points = k.corner_points.0 i; corner_edges = k.corner_edges.0 i; loose = k.loose.0 i }

is_columned_like : (m n : MeshView) → items_of n.shape ≡ items_of m.shape → AreFitting (mesh_count (plain_of m.shape)) n.columns → IsColumned m → IsColumned n
is_columned_like m n same fit is = record {
  shape = is_mesh_like m.shape n.shape same is.shape;
  fit = subst (λ s. AreFitting (mesh_count s) n.columns) (sym (plain_like m.shape n.shape same)) fit;
}

-- the shape's handles are others, and the columns stay
pub is_mesh_shared : (m n : MeshView) → KeepsShape m.shape n.shape → n.columns ≡ m.columns → IsColumned m → IsColumned n
is_mesh_shared m n kept same is = is_columned_like m n (items_kept m.shape n.shape kept) (subst (AreFitting (mesh_count (plain_of m.shape))) (sym same) is.fit) is

pub is_mesh_kept : (m n : MeshView) → KeepsShape m.shape n.shape → AllZip KeepsEntry m.columns n.columns → IsColumned m → IsColumned n
is_mesh_kept m n kept columns is = is_columned_like m n (items_kept m.shape n.shape kept) (fit_kept (mesh_count (plain_of m.shape)) m.columns n.columns columns is.fit) is

pub is_mesh_twin : (m n : MeshView) → IsTwinShape m.shape n.shape → AllZip IsTwinEntry m.columns n.columns → IsColumned m → IsColumned n
is_mesh_twin m n twin columns is = is_columned_like m n (items_twin m.shape n.shape twin) (fit_twins (mesh_count (plain_of m.shape)) m.columns n.columns columns is.fit) is

pub is_cloud_kept : (c d : CloudView) → d.points.items ≡ c.points.items → AllZip KeepsEntry c.columns d.columns → IsCloud c → IsCloud d
is_cloud_kept c d points columns is = record {
  few = subst (λ ps. length ps < 2 ^ 32) (sym points) is.few;
  fit = subst (λ ps. AreFitting (cloud_count (length ps)) d.columns) (sym points) (fit_kept (cloud_count (length c.points.items)) c.columns d.columns columns is.fit);
}

pub is_cloud_twin : (c d : CloudView) → d.points.items ≡ c.points.items → AllZip IsTwinEntry c.columns d.columns → IsCloud c → IsCloud d
is_cloud_twin c d points columns is = record {
  few = subst (λ ps. length ps < 2 ^ 32) (sym points) is.few;
  fit = subst (λ ps. AreFitting (cloud_count (length ps)) d.columns) (sym points) (fit_twins (cloud_count (length c.points.items)) c.columns d.columns columns is.fit);
}

-- ---- a mesh that is made

pub is_mesh_made : (t : Topology) (m : MeshView) → topology_of m.shape ≡ t → AreLoose m.shape.loose.items (length t.edges) t.corner_edges → m.columns ≡ [] → IsValid t → IsNumbered t → IsColumned m
is_mesh_made t m same loose none valid numbered = record {
  shape = record {
    valid = subst IsValid (sym same) valid;
    numbered = subst IsNumbered (sym same) numbered;
    loose = subst (λ (u : Topology). AreLoose m.shape.loose.items (length u.edges) u.corner_edges) (sym same) loose;
  };
  fit = subst (AreFitting (mesh_count (plain_of m.shape))) (sym none) tt;
}
