-- One step of the walk.
use Rattle.std.proofs.Common.{◌≡◌, ◌≢◌, ◌<◌, ◌≤◌, ◌+◌, ◌*◌, ◌⊎◌, inl, inr, ℕ, zero, suc, List, [], ◌∷◌, map, length, set, refl, sym, ◌∙◌, ap, subst, arith, get_or-set_same, get_or-set_other, length-set}
use Rattle.std.specs.Prelude.{Bool, true, false, slice_index, ◌==◌, if◌then◌else◌}
use Rattle.std.proofs.lemmas.Bool.Decides.{Decides-eqb}
use Rattle.std.proofs.lemmas.List.Sums.{sum_by-set}
use Rattle.gn_cycle.specs.Graph.{Graph, targets}
use Rattle.gn_node_set.specs.Meanings.{Has}
use Rattle.gn_node_set.proofs.Lists.{map_equal}
use Rattle.gn_stands.specs.Order.{greatest, rank}
use Rattle.gn_stands.proofs.Walks.{rank_rises}
use Rattle.gn_stands.proofs.Ranked.{rank_bounded}
use Rattle.gn_order.specs.declared.heights.Visit.{Visit}
use Rattle.gn_order.specs.Acyclic.{IsAcyclic}
use Rattle.gn_order.specs.Heights.{at, AreKnown}
use Rattle.gn_order.specs.Walk.{Knows, Keeps, Found, IsOpen, AreOpen, BeganAt, unknown, top, Goes}
use Rattle.gn_order.proofs.Ranks.{rank_is}

-- ---- members of lists of nodes

pub has_at : (nodes : List ℕ) (i : ℕ) → i < length nodes → Has nodes (slice_index nodes i)
has_at [] i h = absurd (omega (arith, h))
has_at (x ∷ nodes) zero h = inl refl
has_at (x ∷ nodes) (suc i) h = inr (has_at nodes i (omega (arith, h)))

known_all : (heights nodes : List ℕ) → AreKnown heights nodes (length nodes) → (x : ℕ) → Has nodes x → Knows heights x
known_all heights [] k x h = absurd h
known_all heights (y ∷ nodes) k x (inl e) = subst (Knows heights) (sym e) (k 0 (omega arith) (omega arith))
known_all heights (y ∷ nodes) k x (inr h) = known_all heights nodes (λ i l m. k (suc i) (omega (arith, l)) (omega (arith, m))) x h

module _ (graph : Graph) (acyclic : IsAcyclic graph) where
  -- where the heights of all targets are known, the greatest of them is the rank
  pub greatest_is : (heights : List ℕ) (node : ℕ) → Found graph heights → AreKnown heights (targets graph node) (length (targets graph node))
      → greatest (map (at heights) (targets graph node)) ≡ rank graph node
  greatest_is heights node found known =
      ap greatest (map_equal (at heights) (λ t. suc (rank graph t)) (targets graph node) (λ t h. found.right t (known_all heights (targets graph node) known t h)))
      ∙ rank_is graph acyclic node

  weaker : (heights : List ℕ) (low : ℕ) (way : List Visit) → AreOpen graph heights low way → AreOpen graph heights 0 way
  weaker heights low [] o = tt
  weaker heights low (visit ∷ way) (l, o, rest) = (omega arith, o, rest)

  began_too : (start : ℕ) (old new : List ℕ) (visit : Visit) (way : List Visit) → BeganAt graph start old (visit ∷ way) → BeganAt graph start new (visit ∷ way)
  began_too start old new visit [] b = b
  began_too start old new visit (other ∷ way) b = began_too start old new other way b

  top_bounded : (way : List Visit) → top graph way ≤ length graph
  top_bounded [] = omega arith
  top_bounded (visit ∷ way) = rank_bounded graph (length graph) visit.node

  -- ---- a height is found

  module _ (heights : List ℕ) (found : Found graph heights) (visit : Visit) (opened : IsOpen graph heights visit) where
    height : ℕ
    height = suc (rank graph visit.node)

    abbrev after : List ℕ
    after = set heights visit.node (suc (rank graph visit.node))

    inside : visit.node < length heights
    inside = let same : length heights ≡ length graph = found.sized in let there : visit.node < length graph = opened.there in omega (arith, same, there)

    same_at : at after visit.node ≡ suc (rank graph visit.node)
    same_at = get_or-set_same heights visit.node (suc (rank graph visit.node)) 0 inside

    other_at : (n : ℕ) → n ≢ visit.node → at after n ≡ at heights n
    other_at n ne = get_or-set_other heights visit.node n (suc (rank graph visit.node)) 0 ne

    either : (n i : ℕ) → (n ≡ i) ⊎ (n ≢ i)
    either n i = grind arith

    found_then : Found graph after
    found_then = record {
      sized = length-set heights visit.node (suc (rank graph visit.node)) ∙ found.sized;
      right = λ n k. elim (either n visit.node) as (λ _. at after n ≡ suc (rank graph n)) [
        | inl e ↦ subst (λ m. at after m ≡ suc (rank graph m)) (sym e) same_at
        | inr ne ↦ other_at n ne ∙ found.right n (subst (λ h. 0 < h) (other_at n ne) k)
      ];
    }

    keeps_then : Keeps heights after
    keeps_then n k = elim (either n visit.node) as (λ _. 0 < at after n) [
      | inl e ↦ subst (λ m. 0 < at after m) (sym e) (subst (λ h. 0 < h) (sym same_at) (omega arith))
      | inr ne ↦ subst (λ h. 0 < h) (sym (other_at n ne)) k
    ]

    open_then : (low : ℕ) (way : List Visit) → rank graph visit.node < low → AreOpen graph heights low way → AreOpen graph after low way
    open_then low [] less o = tt
    open_then low (v ∷ way) less (l, o, rest) = (
      l,
      record {
        there = o.there;
        unset = other_at v.node (λ e. let same : rank graph v.node ≡ rank graph visit.node = ap (rank graph) e in absurd (omega (arith, less, l, same))) ∙ o.unset;
        passed = λ i h k. keeps_then (slice_index (targets graph v.node) i) (o.passed i h k);
      },
      open_then (suc (rank graph v.node)) way (omega (arith, less, l)) rest,
    )

    began_then : (start : ℕ) (way : List Visit) → BeganAt graph start heights (visit ∷ way) → BeganAt graph start after way
    began_then start [] b = subst (λ n. 0 < at after n) b (subst (λ h. 0 < h) (sym same_at) (omega arith))
    began_then start (other ∷ way) b = began_too start heights after other way b

    known_test : (r : ℕ) → (suc r == 0) ≡ false
    known_test r = by_test (suc r == 0) refl
      where
        by_test : (t : Bool) → (suc r == 0) ≡ t → (suc r == 0) ≡ false
        by_test true e = absurd (let same : suc r ≡ 0 = (Decides-eqb (suc r) 0).0 e in omega (arith, same))
        by_test false e = e

    fewer : suc (unknown graph after) ≡ unknown graph heights
    fewer =
        let counted = sum_by-set (λ h. if h == 0 then 1 else 0) heights visit.node (suc (rank graph visit.node)) 0 inside in
        let one : ◌≡◌ {A = ℕ} (if at heights visit.node == 0 then 1 else 0) 1 = ap (λ h. if h == 0 then 1 else 0) opened.unset in
        let none : ◌≡◌ {A = ℕ} (if suc (rank graph visit.node) == 0 then 1 else 0) 0 = ap (λ b. if b then 1 else 0) (known_test (rank graph visit.node)) in
        omega (arith, counted, one, none)

    pub settles : (way : List Visit) → AreOpen graph heights (suc (rank graph visit.node)) way → Goes graph heights (visit ∷ way) after way
    settles way rest = record {
      found = found_then;
      way = weaker after (suc (rank graph visit.node)) way (open_then (suc (rank graph visit.node)) way (omega arith) rest);
      keeps = keeps_then;
      began = λ start b. began_then start way b;
      less = smaller (unknown graph after) (unknown graph heights) (suc (length graph)) (top graph way) (rank graph visit.node) fewer (let low : top graph way ≤ length graph = top_bounded way in omega (arith, low));
    }
      where
        smaller : (new old size a b : ℕ) → suc new ≡ old → a < size → new * size + a < old * size + b
        smaller new old size a b e less = subst (λ o. new * size + a < o * size + b) e (let product : suc new * size ≡ size + new * size = grind arith in omega (arith, product, less))

  -- ---- the walk goes on to a target

  pub enters : (heights : List ℕ) → Found graph heights → (visit : Visit) (way : List Visit) → AreOpen graph heights 0 (visit ∷ way) → (next : ℕ)
      → AreKnown heights (targets graph visit.node) next → next < length (targets graph visit.node) → at heights (slice_index (targets graph visit.node) next) ≡ 0
      → Goes graph heights (visit ∷ way) heights (record { node = slice_index (targets graph visit.node) next; next = 0 } ∷ record { node = visit.node; next = next } ∷ way)
  enters heights found visit way (low, o, rest) next known inside unset =
      let leads : Has (targets graph visit.node) (slice_index (targets graph visit.node) next) = has_at (targets graph visit.node) next inside in
      let less : rank graph (slice_index (targets graph visit.node) next) < rank graph visit.node = rank_rises graph acyclic.no_cycle acyclic.there visit.node (slice_index (targets graph visit.node) next) leads in record {
        found = found;
        way = (
          omega arith,
          record { there = acyclic.there visit.node (slice_index (targets graph visit.node) next) leads; unset = unset; passed = λ i h k. absurd (omega (arith, h)) },
          (omega (arith, less), record { there = o.there; unset = o.unset; passed = known }, rest),
        );
        keeps = λ n k. k;
        began = λ start b. began_on start way b;
        less = omega (arith, less);
      }
    where
      began_on : (start : ℕ) (way : List Visit) → BeganAt graph start heights (visit ∷ way) → BeganAt graph start heights (record { node = visit.node; next = next } ∷ way)
      began_on start [] b = b
      began_on start (other ∷ way) b = b
