-- The test `is_on_cycle` says exactly which nodes lead back to themselves.
use Rattle.std.proofs.Common.{◌≡◌, ℕ, zero, suc, ◌<◌, ◌≤◌, Bool, true, false, ◌&&◌, ◌||◌, ◌⊎◌, inl, inr, [], length, IsTrue, Decides, refl, ap, subst, arith}
use Rattle.std.specs.List.{list_any}
use lib.Dec.{eqb}
use Rattle.std.proofs.lemmas.List.{get_or_past}
use Rattle.gn_cycle.specs.Graph.{Graph, has_edge, Leads, by_edge, further}
use Rattle.gn_cycle.specs.Ways.{has_way, is_on_cycle}

decides_choice : (A B C : Type 0) (a b c : Bool) → Decides a A → Decides b B → Decides c C → Decides (a || b && c) (A ⊎ (B × C))
decides_choice A B C true b c f g h = (λ e. inl (f.0 refl), λ w. refl)
decides_choice A B C false true true f g h = (λ e. inr (g.0 refl, h.0 refl), λ w. refl)
decides_choice A B C false true false f g h = (λ e. absurd (cc), λ w. elim w as (λ _. false ≡ true) [ inl x ↦ f.1 x | inr x ↦ h.1 x.1 ])
decides_choice A B C false false c f g h = (λ e. absurd (cc), λ w. elim w as (λ _. false ≡ true) [ inl x ↦ f.1 x | inr x ↦ g.1 x.0 ])

below_or_at : (m k : ℕ) → m < suc k → (m < k) ⊎ (m ≡ k)
below_or_at m k h = grind arith

below_or_past : (m n : ℕ) → (m < n) ⊎ (n ≤ m)
below_or_past m n = grind arith

module _ (graph : Graph) where
  Way : ℕ → ℕ → ℕ → Type 0
  Way zero i j = IsTrue (has_edge graph i j)
  Way (suc k) i j = Way k i j ⊎ (Way k i k × Way k k j)

  tells_way : (k i j : ℕ) → Decides (has_way graph k i j) (Way k i j)
  unfolding Way
  tells_way zero i j = (λ e. e, λ e. e)
  tells_way (suc k) i j = decides_choice (Way k i j) (Way k i k) (Way k k j) (has_way graph k i j) (has_way graph k i k) (has_way graph k k j) (tells_way k i j) (tells_way k i k) (tells_way k k j)

  pub and_then : {i j k : ℕ} → Leads graph i j → Leads graph j k → Leads graph i k
  and_then (by_edge e) r = further e r
  and_then (further e q) r = further e (and_then q r)

  leads_by : (k i j : ℕ) → Way k i j → Leads graph i j
  unfolding Way
  leads_by zero i j w = by_edge w
  leads_by (suc k) i j (inl w) = leads_by k i j w
  leads_by (suc k) i j (inr w) = and_then (leads_by k i k w.0) (leads_by k k j w.1)

  Joins : ℕ → Type 0
  Joins k = (i m j : ℕ) → m < k → Way k i m → Way k m j → Way k i j

  join_below : (k i m j : ℕ) → Joins k → m < k → Way (suc k) i m → Way (suc k) m j → Way (suc k) i j
  unfolding Way Joins
  join_below k i m j joins h (inl p) (inl q) = inl (joins i m j h p q)
  join_below k i m j joins h (inl p) (inr q) = inr (joins i m k h p q.0, q.1)
  join_below k i m j joins h (inr p) (inl q) = inr (p.0, joins k m j h p.1 q)
  join_below k i m j joins h (inr p) (inr q) = inr (p.0, q.1)

  into : (k i : ℕ) → Way (suc k) i k → Way k i k
  unfolding Way
  into k i (inl p) = p
  into k i (inr p) = p.0

  out_of : (k j : ℕ) → Way (suc k) k j → Way k k j
  unfolding Way
  out_of k j (inl q) = q
  out_of k j (inr q) = q.1

  join_at : (k i j : ℕ) → Way (suc k) i k → Way (suc k) k j → Way (suc k) i j
  unfolding Way
  join_at k i j p q = inr (into k i p, out_of k j q)

  joins : (k : ℕ) → Joins k
  unfolding Joins
  joins zero i m j h p q = absurd (omega arith)
  joins (suc k) i m j h p q = elim (below_or_at m k h) as (λ _. Way (suc k) i j) [
    | inl lower ↦ join_below k i m j (joins k) lower p q
    | inr e ↦ join_at k i j (subst (λ x. Way (suc k) i x) e p) (subst (λ x. Way (suc k) x j) e q)
  ]

  along : (k i j : ℕ) → IsTrue (has_edge graph i j) → Way k i j
  unfolding Way
  along zero i j e = e
  along (suc k) i j e = inl (along k i j e)

  no_edge : (i j : ℕ) → length graph ≤ i → has_edge graph i j ≡ false
  no_edge i j h = ap (λ ts. list_any (λ k. eqb k j) ts) (get_or_past graph i [] h)

  has_node_at : (i j : ℕ) → IsTrue (has_edge graph i j) → (i < length graph) ⊎ (length graph ≤ i) → i < length graph
  has_node_at i j e (inl h) = h
  has_node_at i j e (inr h) = absurd (let e2 = no_edge i j h in cc)

  pub has_node : (i j : ℕ) → IsTrue (has_edge graph i j) → i < length graph
  has_node i j e = has_node_at i j e (below_or_past i (length graph))

  pub starts : {i j : ℕ} → Leads graph i j → i < length graph
  starts (by_edge {i = i} {j = j} e) = has_node i j e
  starts (further {i = i} {j = j} e r) = has_node i j e

  way_of : {i j : ℕ} → Leads graph i j → Way (length graph) i j
  unfolding Joins
  way_of (by_edge {i = i} {j = j} e) = along (length graph) i j e
  way_of (further {i = i} {j = m} {k = j} e r) = joins (length graph) i m j (starts r) (along (length graph) i m e) (way_of r)

  pub tells_cycle : (i : ℕ) → Decides (is_on_cycle graph i) (Leads graph i i)
  unfolding is_on_cycle
  tells_cycle i = (λ e. leads_by (length graph) i i ((tells_way (length graph) i i).0 e), λ r. (tells_way (length graph) i i).1 (way_of r))
