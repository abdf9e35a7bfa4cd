-- The rank of a node is one more than the greatest of those that it leads to.
use Rattle.std.proofs.Common.{◌≡◌, ◌<◌, ◌≤◌, inl, inr, ℕ, zero, suc, List, [], ◌∷◌, map, length, refl, arith}
use Rattle.gn_cycle.specs.Graph.{Graph, targets}
use Rattle.gn_node_set.specs.Meanings.{Has}
use Rattle.gn_stands.specs.Order.{greatest, rank_within, rank}
use Rattle.gn_stands.proofs.Walks.{rank_rises}
use Rattle.gn_order.specs.Acyclic.{IsAcyclic}

none_above : (f : ℕ → ℕ) (xs : List ℕ) (limit : ℕ) → ((x : ℕ) → Has xs x → f x ≤ limit) → greatest (map f xs) ≤ limit
none_above f [] limit h = omega arith
none_above f (x ∷ xs) limit h =
    let first : f x ≤ limit = h x (inl refl) in
    let rest : greatest (map f xs) ≤ limit = none_above f xs limit (λ y k. h y (inr k)) in
    omega (arith, first, rest)

rises : (f g : ℕ → ℕ) (xs : List ℕ) → ((x : ℕ) → f x ≤ g x) → greatest (map f xs) ≤ greatest (map g xs)
rises f g [] h = omega arith
rises f g (x ∷ xs) h =
    let first : f x ≤ g x = h x in
    let rest : greatest (map f xs) ≤ greatest (map g xs) = rises f g xs h in
    omega (arith, first, rest)

-- along one edge more
one_more : (graph : Graph) (k node : ℕ) → rank_within graph k node ≤ greatest (map (λ t. suc (rank_within graph k t)) (targets graph node))
one_more graph zero node = omega arith
one_more graph (suc k) node =
    rises (λ t. suc (rank_within graph k t)) (λ t. suc (rank_within graph (suc k) t)) (targets graph node) (λ t. let more : rank_within graph k t ≤ rank_within graph (suc k) t = one_more graph k t in omega (arith, more))

pub rank_is : (graph : Graph) → IsAcyclic graph → (node : ℕ) → greatest (map (λ t. suc (rank graph t)) (targets graph node)) ≡ rank graph node
rank_is graph a node =
    let up : rank graph node ≤ greatest (map (λ t. suc (rank graph t)) (targets graph node)) = one_more graph (length graph) node in
    let down : greatest (map (λ t. suc (rank graph t)) (targets graph node)) ≤ rank graph node =
    none_above (λ t. suc (rank graph t)) (targets graph node) (rank graph node) (λ t h. let less : rank graph t < rank graph node = rank_rises graph a.no_cycle a.there node t h in omega (arith, less)) in
    omega (arith, up, down)
