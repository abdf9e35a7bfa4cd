-- Pairs that are put into a list, and the edges that they are.
use Rattle.std.proofs.Common.{◌≡◌, ℕ, ◌+◌, Bool, true, false, cond, not, ◌||◌, List, [], ◌∷◌, ◌++◌, map, length, suc, eqb, refl, ap, ◌∙◌, arith}
use Rattle.std.proofs.lemmas.Bool.Decides.{nat_tests}
use Rattle.std.specs.List.{list_any, position_or_len}
use Rattle.std.proofs.lemmas.List.{map-append}
use Rattle.gn_plain.specs.Edges.{is_edge, with_edge}
use Rattle.gn_plain.specs.Topology.{edge_of}
use Rattle.gn_edges.specs.Kept.{is_pair, with_pair}

any_mapped : {X Y : Type 0} (p : Y → Bool) (f : X → Y) (xs : List X) → list_any p (map f xs) ≡ list_any (λ x. p (f x)) xs
any_mapped p f [] = refl
any_mapped p f (x ∷ xs) = ap (λ b. p (f x) || b) (any_mapped p f xs)

position_mapped : {X Y : Type 0} (p : Y → Bool) (f : X → Y) (xs : List X) → position_or_len p (map f xs) ≡ position_or_len (λ x. p (f x)) xs
position_mapped p f [] = refl
position_mapped p f (x ∷ xs) = ap (λ n. cond (not (p (f x))) (1 + n) 0) (position_mapped p f xs)

pub edges_with : (pairs : List (ℕ × ℕ)) (e : ℕ × ℕ) → map edge_of (with_pair pairs e) ≡ with_edge (map edge_of pairs) (edge_of e)
edges_with pairs e = rw (any_mapped (is_edge (edge_of e)) edge_of pairs) (by (list_any (is_pair e) pairs))
  where
    by : (b : Bool) → map edge_of (cond b pairs (pairs ++ e ∷ [])) ≡ cond b (map edge_of pairs) (map edge_of pairs ++ edge_of e ∷ [])
    by true = refl
    by false = map-append edge_of pairs (e ∷ [])

pub edge_number : (pairs : List (ℕ × ℕ)) (e : ℕ × ℕ) → position_or_len (is_edge (edge_of e)) (map edge_of pairs) ≡ position_or_len (is_pair e) pairs
edge_number pairs e = position_mapped (is_edge (edge_of e)) edge_of pairs

behind_at : (b a : Bool) (n count : ℕ) → eqb n count ≡ not a → eqb (cond (not b) (1 + n) 0) (suc count) ≡ not (b || a)
behind_at true a n count h = grind (arith, nat_tests)
behind_at false a n count h = let e : eqb (1 + n) (suc count) ≡ eqb n count = grind (arith, nat_tests) in e ∙ h

-- an element that is none of the others is found behind them
pub found_behind : (p : ℕ × ℕ → Bool) (xs : List (ℕ × ℕ)) → eqb (position_or_len p xs) (length xs) ≡ not (list_any p xs)
found_behind p [] = refl
found_behind p (x ∷ xs) = behind_at (p x) (list_any p xs) (position_or_len p xs) (length xs) (found_behind p xs)
