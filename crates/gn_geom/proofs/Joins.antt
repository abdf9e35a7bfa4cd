-- Edges that are compared with those around a face, one after another.
use Rattle.std.proofs.Common.{◌≡◌, ◌≢◌, ℕ, ◌+◌, ◌<◌, true, false, List, [], ◌∷◌, ◌++◌, length, map, drop, take, get_or, refl, sym, ap, ◌∙◌, subst, arith}
use Rattle.std.specs.Cmp.{IsEquivalence}
use Rattle.std.specs.List.{AllPairs, IsDistinct, list_any}
use Rattle.std.specs.Prelude.{◌↔◌}
use Rattle.std.proofs.lemmas.Bool.Decides.{nat_tests}
use Rattle.std.proofs.lemmas.Map.Keys.{IsDistinct-push}
use Rattle.std.proofs.lemmas.List.{drop_more, take_more, get_or-take, get_or_default, length-take}
use Rattle.std.proofs.lemmas.List.Folds.{Any-from_list_any}
use Rattle.gn_plain.specs.Edges.{edge_between, edges_along}
use Rattle.gn_plain.specs.Topology.{edge_of, edge_at}
use Rattle.gn_edges.specs.Kept.{is_pair, with_pair}
use Rattle.gn_edges.proofs.Walks.{pair_decides}

pair_equiv : IsEquivalence is_pair
pair_equiv = record {
  refl = λ x. (pair_decides x x).1 refl;
  symm = λ x y. grind (arith, nat_tests);
  congr = λ x y z e. ap (λ w. is_pair w z) ((pair_decides x y).0 e);
}

pub distinct_none : IsDistinct is_pair []
unfolding IsDistinct
distinct_none = tt

-- one edge more that is none of those before it
pub distinct_more : (edges seen new : List (ℕ × ℕ)) (i : ℕ) → i < length edges → seen ≡ take i edges → IsDistinct is_pair seen
    → list_any (is_pair (get_or edges i (0, 0))) seen ≡ false → new ≡ with_pair seen (get_or edges i (0, 0)) → (new ≡ take (i + 1) edges) × IsDistinct is_pair new
distinct_more edges seen new i here same distinct apart with =
    let pushed : new ≡ seen ++ get_or edges i (0, 0) ∷ [] = with ∙ rw apart refl in (
      pushed ∙ ap (λ s. s ++ get_or edges i (0, 0) ∷ []) same ∙ sym (take_more edges i (0, 0) here),
      subst (λ (s : List (ℕ × ℕ)). IsDistinct is_pair s) (sym pushed) (IsDistinct-push pair_equiv seen (get_or edges i (0, 0)) distinct apart),
    )

pub edge_of_same : (a b : ℕ × ℕ) → edge_of a ≡ edge_of b → a ≡ b
edge_of_same a b e = λ i. (ap (λ x. x.lesser) e i, ap (λ x. x.greater) e i)

-- an edge that was there before
pub there_twice : (edges : List (ℕ × ℕ)) (i : ℕ) (d : ℕ × ℕ) → i < length edges → list_any (is_pair (get_or edges i d)) (take i edges) ≡ true → AllPairs (λ a b. a ≢ b) edges → ⊥
there_twice edges i d here there differ =
    let x = get_or edges i d in
    let found = Any-from_list_any (is_pair x) (take i edges) there in
    let earlier : found.0 < i = omega (arith, length-take i edges, found.2) in
    differ found.0 i d earlier here
    (get_or_default edges found.0 d found.1 (omega arith) ∙ sym (get_or-take i edges found.0 found.1 earlier) ∙ found.3 ∙ sym ((pair_decides x found.1).0 found.4))

conses_same : {X : Type 0} (x y : X) (xs ys : List X) → x ∷ xs ≡ y ∷ ys → (x ≡ y) × (xs ≡ ys)
conses_same x y xs ys e = ((cc), (cc))

-- the edges es join each of the vertices vs to the next
abbrev pub Join : List (ℕ × ℕ) → List ℕ → List ℕ → Type 0
Join edges es vs = map (edge_at edges) es ≡ edges_along vs

pub join_more : (edges : List (ℕ × ℕ)) (es ws : List ℕ) (from k : ℕ) → k < length es → k < length ws
    → Join edges (drop k es) (from ∷ drop k ws) ↔ ((edge_at edges (get_or es k 0) ≡ edge_between from (get_or ws k 0)) × Join edges (drop (k + 1) es) (get_or ws k 0 ∷ drop (k + 1) ws))
join_more edges es ws from k in_es in_ws =
    rw (drop_more es k 0 in_es, drop_more ws k 0 in_ws) (conses_same _ _ _ _, λ p i. p.0 i ∷ p.1 i)
