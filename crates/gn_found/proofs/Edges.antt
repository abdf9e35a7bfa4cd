-- The edges of a list of nodes lead to nodes of the list.
use Rattle.std.proofs.Common.{◌≡◌, ◌<◌, ◌+◌, inl, inr, ℕ, zero, suc, List, [], ◌∷◌, length, Option, Some, None, refl, sym, ap, subst, arith}
use Rattle.std.specs.Prelude.{Bool, true, false, bytes_eq, ◌==◌, ◌||◌, IsTrue, if◌then◌else◌}
use Rattle.std.specs.Option.{option_map_or}
use Rattle.std.specs.List.{position_from}
use Rattle.std.proofs.lemmas.Bool.Decides.{Decides-eqb}
use Rattle.gn_kinds.specs.Row.{Text}
use Rattle.gn_names.specs.First.{first_of}
use Rattle.gn_tree.specs.Trees.{Link, node, Nodes, no_nodes, and_node}
use Rattle.gn_cycle.specs.Graph.{targets, has}
use Rattle.gn_rules.specs.Sockets.{ids}
use Rattle.gn_rules.specs.Rules.{links_of, numbers_of, graph_from, graph_of}
use Rattle.gn_node_set.specs.Meanings.{Has}

pub has_member : (xs : List ℕ) (x : ℕ) → IsTrue (has xs x) → Has xs x
has_member [] x h = cc
has_member (y ∷ xs) x h = by_test (y == x) refl (has_member xs x) h
  where
    by_test : (b : Bool) → (y == x) ≡ b → (IsTrue (has xs x) → Has xs x) → IsTrue (b || has xs x) → Has (y ∷ xs) x
    by_test true e rest k = inl (sym ((Decides-eqb y x).0 e))
    by_test false e rest k = inr (rest k)

named_below : (names : List Text) (name : Text) (from m : ℕ) → position_from (bytes_eq name) from names ≡ Some m → m < from + length names
named_below [] name from m e = cc
named_below (x ∷ names) name from m e = by_test (bytes_eq name x) (named_below names name (from + 1) m) e
  where
    by_test : (b : Bool) → (position_from (bytes_eq name) (from + 1) names ≡ Some m → m < (from + 1) + length names) → (if b then Some from else position_from (bytes_eq name) (from + 1) names) ≡ Some m → m < from + suc (length names)
    by_test true rest h = let same : from ≡ m = cc in omega (arith, same)
    by_test false rest h = let less : m < (from + 1) + length names = rest h in omega (arith, less)

numbers_below : (names : List Text) (ls : List Link) (m : ℕ) → Has (numbers_of names ls) m → m < length names
numbers_below names [] m h = absurd h
numbers_below names (l ∷ ls) m h = by_name (first_of names l.from) refl (numbers_below names ls m) h
  where
    by_name : (o : Option ℕ) → first_of names l.from ≡ o → (Has (numbers_of names ls) m → m < length names) → Has (option_map_or (λ i. i ∷ numbers_of names ls) o (numbers_of names ls)) m → m < length names
    by_name None e rest k = rest k
    by_name (Some i) e rest (inl same) = let less : i < 0 + length names = named_below names l.from 0 i e in omega (arith, less, same)
    by_name (Some i) e rest (inr k) = rest k

from_below : (names : List Text) (ns : Nodes) (n m : ℕ) → Has (targets (graph_from names ns) n) m → m < length names
from_below names no_nodes n m h = absurd h
from_below names (and_node (node id kind set inputs) ns) zero m h = numbers_below names (links_of inputs) m h
from_below names (and_node (node id kind set inputs) ns) (suc n) m h = from_below names ns n m h

as_many : (names : List Text) (ns : Nodes) → length (ids ns) ≡ length (graph_from names ns)
as_many names no_nodes = refl
as_many names (and_node (node id kind set inputs) ns) = ap suc (as_many names ns)

pub edges_there : (ns : Nodes) (n m : ℕ) → Has (targets (graph_of ns) n) m → m < length (graph_of ns)
edges_there ns n m h = subst (λ count. m < count) (as_many (ids ns) ns) (from_below (ids ns) ns n m h)
