-- Where no node leads to itself, each walk along links ends.
use Rattle.std.proofs.Common.{◌≡◌, ◌≢◌, ◌<◌, ◌≤◌, ◌+◌, ◌⊎◌, inl, inr, ℕ, zero, suc, List, [], ◌∷◌, length, Option, Some, None, refl, sym, ◌∙◌, ap, subst, arith}
use Rattle.std.specs.Prelude.{Bool, true, false, ◌==◌, ◌||◌, IsTrue, slice_index_or}
use Rattle.std.specs.Option.{option_map_or}
use Rattle.std.proofs.lemmas.Bool.Decides.{Decides-eqb}
use Rattle.gn_kinds.specs.Row.{Text}
use Rattle.gn_names.specs.First.{first_of}
use Rattle.gn_tree.specs.Trees.{Link, Named, Node, node, Nodes, no_nodes, and_node, Settings}
use Rattle.gn_cycle.specs.Graph.{Graph, has, has_edge, Leads, by_edge}
use Rattle.gn_cycle.proofs.Ways.{and_then, has_node, starts}
use Rattle.gn_rules.specs.Sockets.{ids, node_at}
use Rattle.gn_rules.specs.Rules.{links_of, numbers_of, graph_from, graph_of}
use Rattle.gn_node_set.specs.Meanings.{Has, AllDiffer}

-- ---- as many different numbers as are below n

not_same : (x n : ℕ) → (x == n) ≡ false → x ≢ n
not_same x n e same = let yes : (x == n) ≡ true = (Decides-eqb x n).1 same in cc

-- without one number
Without : ℕ → List ℕ → List ℕ → Type 0
Without n xs ys = AllDiffer ys × ((y : ℕ) → Has ys y → Has xs y × (y ≢ n)) × (length xs ≤ suc (length ys))

without : (n : ℕ) (xs : List ℕ) → AllDiffer xs → (ys : List ℕ) × Without n xs ys
unfolding Without
without n [] d = ([], (tt, λ y h. absurd h, omega arith))
without n (x ∷ xs) d = by_test (x == n) refl (without n xs d.1)
  where
    by_test : (b : Bool) → (x == n) ≡ b → (ys : List ℕ) × Without n xs ys → (ys : List ℕ) × Without n (x ∷ xs) ys
    by_test true e rest =
        let same : x ≡ n = (Decides-eqb x n).0 e in
        (xs, (d.1, λ y h. (inr h, λ at. d.0 (subst (Has xs) (at ∙ sym same) h)), omega arith))
    by_test false e (ys, (f, sub, count)) = (
      x ∷ ys,
      (
        (λ h. d.0 (sub x h).0, f),
        λ y h. elim h as (λ _. Has (x ∷ xs) y × (y ≢ n)) [ inl same ↦ (inl same, λ at. not_same x n e (sym same ∙ at)) | inr k ↦ (inr (sub y k).0, (sub y k).1) ],
        omega (arith, count),
      ),
    )

lower : (y n : ℕ) → y < suc n → y ≢ n → y < n
lower y n h other = elim (cases y n h) as (λ _. y < n) [ inl less ↦ less | inr same ↦ absurd (other same) ]
  where
    cases : (a b : ℕ) → a < suc b → (a < b) ⊎ (a ≡ b)
    cases a b k = grind arith

pub few : (n : ℕ) (xs : List ℕ) → AllDiffer xs → ((x : ℕ) → Has xs x → x < n) → length xs ≤ n
unfolding Without
few zero [] d below = omega arith
few zero (x ∷ xs) d below = absurd (let bad : x < 0 = below x (inl refl) in omega (arith, bad))
few (suc n) xs d below =
    let rest : (ys : List ℕ) × Without n xs ys = without n xs d in
    let count : length rest.0 ≤ n = few n rest.0 rest.1.0 (λ y h. lower y n (below y (rest.1.1 y h).0) (rest.1.1 y h).1) in
    omega (arith, count, rest.1.2)

-- ---- walks end

-- each walk from the node along edges ends
pub data Ends (graph : Graph) : ℕ → Type 0 where
  ends : {i : ℕ} → ((j : ℕ) → IsTrue (has_edge graph i j) → Ends graph j) → Ends graph i

module _ (graph : Graph) (none : (i : ℕ) → ¬ Leads graph i i) where
  -- different nodes from which a walk came here
  record Passed (seen : List ℕ) (i : ℕ) : Type 0 where
    differ : AllDiffer seen
    below : (x : ℕ) → Has seen x → x < length graph
    lead : (x : ℕ) → Has seen x → Leads graph x i

  one_more : (seen : List ℕ) (i j : ℕ) → Passed seen i → IsTrue (has_edge graph i j) → Passed (i ∷ seen) j
  one_more seen i j p e = record {
    differ = (λ h. none i (p.lead i h), p.differ);
    below = λ x h. elim h as (λ _. x < length graph) [ inl same ↦ subst (λ y. y < length graph) (sym same) (has_node graph i j e) | inr k ↦ p.below x k ];
    lead = λ x h. elim h as (λ _. Leads graph x j) [ inl same ↦ subst (λ y. Leads graph y j) (sym same) (by_edge e) | inr k ↦ and_then graph (p.lead x k) (by_edge e) ];
  }

  ends_behind : (k : ℕ) (seen : List ℕ) (i : ℕ) → Passed seen i → length graph ≤ length seen + k → Ends graph i
  ends_behind zero seen i p room =
      ends (λ j e.
      let more : Passed (i ∷ seen) j = one_more seen i j p e in
      let count : suc (length seen) ≤ length graph = few (length graph) (i ∷ seen) more.differ more.below in
      absurd (omega (arith, count, room)))
  ends_behind (suc k) seen i p room = ends (λ j e. ends_behind k (i ∷ seen) j (one_more seen i j p e) (omega (arith, room)))

  pub walks_end : (i : ℕ) → Ends graph i
  walks_end i = ends_behind (length graph) [] i (record { differ = tt; below = λ x h. absurd h; lead = λ x h. absurd h }) (omega arith)

-- ---- the graph of a list of nodes

numbers_at : (names : List Text) (ns : Nodes) (i : ℕ) (id kind : Text) (set : Settings) (inputs : List Named) → node_at ns i ≡ Some (node id kind set inputs) → slice_index_or (graph_from names ns) i [] ≡ numbers_of names (links_of inputs)
numbers_at names no_nodes i id kind set inputs e = cc
numbers_at names (and_node (node a b c d) ns) zero id kind set inputs e = ap (λ xs. numbers_of names (links_of xs)) (let same : d ≡ inputs = cc in same)
numbers_at names (and_node (node a b c d) ns) (suc i) id kind set inputs e = numbers_at names ns i id kind set inputs e

has_number : (names : List Text) (ls : List Link) (l : Link) (m : ℕ) → Has ls l → first_of names l.from ≡ Some m → IsTrue (has (numbers_of names ls) m)
has_number names [] l m h e = absurd h
has_number names (k ∷ ls) l m (inl same) e =
    let first : first_of names k.from ≡ Some m = ap (λ x. first_of names x.from) (sym same) ∙ e in
    rw (first, (Decides-eqb m m).1 refl) refl
has_number names (k ∷ ls) l m (inr h) e = by_first (first_of names k.from) (has_number names ls l m h e)
  where
    or_true : (b c : Bool) → c ≡ true → (b || c) ≡ true
    or_true true c f = refl
    or_true false c f = f

    by_first : (o : Option ℕ) → IsTrue (has (numbers_of names ls) m) → IsTrue (has (option_map_or (λ i. i ∷ numbers_of names ls) o (numbers_of names ls)) m)
    by_first None f = f
    by_first (Some i) f = or_true (i == m) (has (numbers_of names ls) m) f

-- an edge for each link
pub edge_of_link : (ns : Nodes) (i m : ℕ) (id kind : Text) (settings : Settings) (inputs : List Named) (l : Link) → node_at ns i ≡ Some (node id kind settings inputs) → Has (links_of inputs) l → first_of (ids ns) l.from ≡ Some m → IsTrue (has_edge (graph_of ns) i m)
edge_of_link ns i m id kind settings inputs l at h e = ap (λ xs. has xs m) (numbers_at (ids ns) ns i id kind settings inputs at) ∙ has_number (ids ns) (links_of inputs) l m h e

-- a number below the length is that of a node
node_below : (names : List Text) (ns : Nodes) (i : ℕ) → i < length (graph_from names ns) → (x : Node) × (node_at ns i ≡ Some x)
node_below names no_nodes i h = absurd (omega (arith, h))
node_below names (and_node (node a b c d) ns) zero h = (node a b c d, refl)
node_below names (and_node (node a b c d) ns) (suc i) h = node_below names ns i (omega (arith, h))

pub node_leading : (ns : Nodes) (i j : ℕ) → Leads (graph_of ns) i j → (x : Node) × (node_at ns i ≡ Some x)
node_leading ns i j l = node_below (ids ns) ns i (starts (graph_of ns) l)
