-- Where no edge leads to a higher rank, a node all of whose edges lead to lower ones lies on no cycle.
use Rattle.std.proofs.Common.{◌≡◌, ℕ, ◌+◌, ◌<◌, ◌≤◌, Bool, true, false, List, [], ◌∷◌, ◌&&◌, ◌||◌, ◌==◌, ◌⊎◌, inl, inr, nat_lt, nat_le, IsTrue, refl, sym, ap, ◌∙◌, subst, arith}
use Rattle.std.specs.List.{list_all}
use Rattle.std.proofs.lemmas.Bool.Decides.{Decides-eqb, nat_tests}
use Rattle.gn_cycle.specs.Graph.{Graph, has, targets, has_edge, Leads, by_edge, further}
use Rattle.gn_cycle.specs.Ranks.{rank, are_at_most, NoneRises, leads_down}

pass_at : (test : ℕ → Bool) (k i : ℕ) (rest has_rest b c : Bool) → test k ≡ b → (k == i) ≡ c → (rest ≡ true → has_rest ≡ true → test i ≡ true) → (b && rest) ≡ true → (c || has_rest) ≡ true → test i ≡ true
pass_at test k i rest has_rest true true p q go h e = subst (λ x. test x ≡ true) ((Decides-eqb k i).0 q) p
pass_at test k i rest has_rest true false p q go h e = go h e
pass_at test k i rest has_rest false c p q go h e = absurd (cc)

-- a test that all pass is passed by each that is there
pub all_pass : (test : ℕ → Bool) (nodes : List ℕ) (i : ℕ) → list_all test nodes ≡ true → IsTrue (has nodes i) → IsTrue (test i)
all_pass test [] i h e = absurd (cc)
all_pass test (k ∷ ks) i h e = pass_at test k i (list_all test ks) (has ks i) (test k) (k == i) refl refl (all_pass test ks i) h e

lower : (a b : ℕ) → IsTrue (nat_lt a b) → a < b
lower a b h = grind (arith, nat_tests)

no_higher : (a b : ℕ) → IsTrue (nat_le a b) → a ≤ b
no_higher a b h = grind (arith, nat_tests)

module _ (graph : Graph) (ranks : List ℕ) (h : NoneRises graph ranks) where
  falls : {i j : ℕ} → Leads graph i j → rank ranks j ≤ rank ranks i
  falls (by_edge {i = i} {j = j} e) = h i j e
  falls (further {i = i} {j = m} e r) = omega (arith, h i m e, falls r)

  steps_down : (i j : ℕ) → leads_down graph ranks i ≡ true → IsTrue (has_edge graph i j) → rank ranks j < rank ranks i
  steps_down i j d e = lower (rank ranks j) (rank ranks i) (all_pass (λ k. nat_lt (rank ranks k) (rank ranks i)) (targets graph i) j d e)

  goes_down : {i j : ℕ} → Leads graph i j → leads_down graph ranks i ≡ true → rank ranks j < rank ranks i
  goes_down (by_edge {i = i} {j = j} e) d = steps_down i j d e
  goes_down (further {i = i} {j = m} e r) d = omega (arith, steps_down i m d e, falls r)

  pub no_way_back : (i : ℕ) → leads_down graph ranks i ≡ true → ¬ Leads graph i i
  no_way_back i d l = omega (arith, goes_down l d)

below_or_at : (i n : ℕ) → i < n + 1 → (i < n) ⊎ (i ≡ n)
below_or_at i n h = grind arith

-- what holds of the nodes below the number holds of one more
pub one_more : (graph : Graph) (ranks : List ℕ) (n : ℕ) → ((i j : ℕ) → i < n → IsTrue (has_edge graph i j) → rank ranks j ≤ rank ranks i) → are_at_most ranks (rank ranks n) (targets graph n) ≡ true
    → (i j : ℕ) → i < n + 1 → IsTrue (has_edge graph i j) → rank ranks j ≤ rank ranks i
one_more graph ranks n h a i j l e = elim (below_or_at i n l) as (λ _. rank ranks j ≤ rank ranks i) [
  | inl lower ↦ h i j lower e
  | inr same ↦ subst (λ x. rank ranks j ≤ rank ranks x) (sym same) (no_higher (rank ranks j) (rank ranks n) (all_pass (λ k. nat_le (rank ranks k) (rank ranks n)) (targets graph n) j a (subst (λ x. IsTrue (has_edge graph x j)) same e)))
]

-- without ranks, each is 0
pub without_ranks : (graph : Graph) → NoneRises graph []
without_ranks graph i j e = omega arith

-- the same, of the graph as it is seen, with what the code has of it
pub not_back : (seen graph one : Graph) (ranks other : List ℕ) (i : ℕ) (down : Bool) → NoneRises graph ranks → graph ≡ seen → one ≡ graph → other ≡ ranks → down ≡ leads_down one other i → down ≡ true → ¬ Leads seen i i
not_back seen graph one ranks other i down h s e f d t l =
    no_way_back graph ranks h i (ap (λ g. leads_down g ranks i) (sym e) ∙ (ap (λ rs. leads_down one rs i) (sym f) ∙ (sym d ∙ t))) (subst (λ g. Leads g i i) (sym s) l)
