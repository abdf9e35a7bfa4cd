-- Where each edge leads to a lower number, no node leads back to itself.
use Rattle.std.proofs.Common.{◌<◌, inl, inr, ℕ, zero, suc, List, [], ◌∷◌, length, refl, sym, subst, arith}
use Rattle.std.specs.Prelude.{Bool, true, false, ◌&&◌, nat_lt, IsTrue, slice_index_or}
use Rattle.std.specs.List.{list_all}
use Rattle.std.proofs.lemmas.Bool.Decides.{Decides-ltb}
use Rattle.gn_cycle.specs.Graph.{Graph, targets, Leads, by_edge, further}
use Rattle.gn_node_set.specs.Meanings.{Has}
use Rattle.gn_order.specs.Acyclic.{IsAcyclic}
use Rattle.gn_found.proofs.Edges.{has_member}
use Rattle.gn_graph_tests.specs.Falls.{number_of, are_below}

both : (a b : Bool) → IsTrue (a && b) → IsTrue a × IsTrue b
both true b h = (refl, h)
both false b h = cc

pub all_below : (numbers : List ℕ) (count limit : ℕ) (nodes : List ℕ) → IsTrue (are_below numbers count limit nodes) → (node : ℕ) → Has nodes node → (node < count) × (number_of numbers node < limit)
all_below numbers count limit [] h node k = absurd k
all_below numbers count limit (x ∷ nodes) h node k =
    let t : IsTrue (nat_lt x count && nat_lt (number_of numbers x) limit) × IsTrue (list_all (λ n. nat_lt n count && nat_lt (number_of numbers n) limit) nodes)
    = both (nat_lt x count && nat_lt (number_of numbers x) limit) (list_all (λ n. nat_lt n count && nat_lt (number_of numbers n) limit) nodes) h in
    by_side t.0 (all_below numbers count limit nodes t.1 node) k
  where
    by_side : IsTrue (nat_lt x count && nat_lt (number_of numbers x) limit) → (Has nodes node → (node < count) × (number_of numbers node < limit)) → Has (x ∷ nodes) node → (node < count) × (number_of numbers node < limit)
    by_side own rest (inl e) =
        let t : IsTrue (nat_lt x count) × IsTrue (nat_lt (number_of numbers x) limit) = both (nat_lt x count) (nat_lt (number_of numbers x) limit) own in
        subst (λ n. (n < count) × (number_of numbers n < limit)) (sym e) ((Decides-ltb x count).0 t.0, (Decides-ltb (number_of numbers x) limit).0 t.1)
    by_side own rest (inr m) = rest m

module _ (graph : Graph) (numbers : List ℕ) (falls : (node : ℕ) → node < length graph → (target : ℕ) → Has (targets graph node) target → (target < length graph) × (number_of numbers target < number_of numbers node)) where
  inside : (xs : List (List ℕ)) (node target : ℕ) → Has (slice_index_or xs node []) target → node < length xs
  inside [] node target h = absurd h
  inside (x ∷ xs) zero target h = omega arith
  inside (x ∷ xs) (suc node) target h = let less : node < length xs = inside xs node target h in omega (arith, less)

  edge_falls : (node target : ℕ) → Has (targets graph node) target → (target < length graph) × (number_of numbers target < number_of numbers node)
  edge_falls node target h = falls node (inside graph node target h) target h

  leads_down : {node target : ℕ} → Leads graph node target → number_of numbers target < number_of numbers node
  leads_down {node} {target} (by_edge e) = (edge_falls node target (has_member (targets graph node) target e)).1
  leads_down {node} {target} (further {j = next} e l) =
      let first : number_of numbers next < number_of numbers node = (edge_falls node next (has_member (targets graph node) next e)).1 in
      let rest : number_of numbers target < number_of numbers next = leads_down l in
      omega (arith, first, rest)

  pub acyclic : IsAcyclic graph
  acyclic = record { no_cycle = λ node l. let less : number_of numbers node < number_of numbers node = leads_down l in absurd (omega (arith, less)); there = λ node target h. (edge_falls node target h).0 }
