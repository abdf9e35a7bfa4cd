-- Vertices that are marked as a face names them.
use Rattle.std.proofs.Common.{◌≡◌, ◌≢◌, ℕ, ◌+◌, ◌<◌, ◌≤◌, List, length, set, get_or, sym, ap, ◌∙◌, subst, arith, ⊎_elim}
use Rattle.std.specs.List.{All, AllPairs}
use Rattle.std.proofs.lemmas.List.{get_or_default, get_or-set_same, get_or-set_other, length-set}
use Rattle.std.proofs.lemmas.List.Elements.{All-set}
use Rattle.std.proofs.lemmas.Bool.{cases_eq}

-- the first i vertices differ, and are those that have the mark
pub record AreMarked (vertices marks : List ℕ) (number i : ℕ) : Type 0 where
  pub differ : (a b : ℕ) → a < b → b < i → get_or vertices a 0 ≢ get_or vertices b 0
  pub marked : (k : ℕ) → k < i → get_or marks (get_or vertices k 0) 0 ≡ number
  pub only : (v : ℕ) → v < length marks → get_or marks v 0 ≡ number → (k : ℕ) × (k < i) × (get_or vertices k 0 ≡ v)
  pub at_most : All (λ m. m ≤ number) marks

pub marked_none : (vertices marks : List ℕ) (number : ℕ) → All (λ m. m < number) marks → AreMarked vertices marks number 0
marked_none vertices marks number fresh = record {
  differ = λ a b below none. absurd (omega arith);
  marked = λ k none. absurd (omega arith);
  only = λ v within has. absurd (omega (arith, fresh v 0 within));
  at_most = λ k d within. omega (arith, fresh k d within);
}

pub marked_more : (vertices marks : List ℕ) (number i : ℕ) → get_or vertices i 0 < length marks → get_or marks (get_or vertices i 0) 0 ≢ number
    → AreMarked vertices marks number i → AreMarked vertices (set marks (get_or vertices i 0) number) number (i + 1)
marked_more vertices marks number i within new m = record {
  differ = λ a b below here. ⊎_elim (λ e. λ same. new (subst (λ v. get_or marks v 0 ≡ number) (same ∙ ap (λ k. get_or vertices k 0) e) (m.marked a (omega (arith, e)))))
      (λ e. m.differ a b below (omega (arith, e))) (cases_eq b i);
  marked = λ k here. ⊎_elim (λ e. subst (λ v. get_or (set marks (get_or vertices i 0) number) v 0 ≡ number) (sym e) (get_or-set_same marks (get_or vertices i 0) number 0 within))
      (λ e. get_or-set_other marks (get_or vertices i 0) (get_or vertices k 0) number 0 e ∙ m.marked k (other k here e)) (cases_eq (get_or vertices k 0) (get_or vertices i 0));
  only = λ v there has. ⊎_elim (λ e. (i, omega arith, sym e))
      (λ e. let old = m.only v (omega (arith, length-set marks (get_or vertices i 0) number)) (sym (get_or-set_other marks (get_or vertices i 0) v number 0 e) ∙ has) in (old.0, omega (arith, old.1), old.2)) (cases_eq v (get_or vertices i 0));
  at_most = All-set (λ m. m ≤ number) marks (get_or vertices i 0) number (omega arith) m.at_most;
}
  where
    other : (k : ℕ) → k < i + 1 → get_or vertices k 0 ≢ get_or vertices i 0 → k < i
    other k here e = ⊎_elim (λ same. absurd (e (ap (λ n. get_or vertices n 0) same))) (λ differs. omega (arith, differs)) (cases_eq k i)

pub marked_twice : (vertices marks : List ℕ) (number i : ℕ) → i < length vertices → get_or vertices i 0 < length marks → get_or marks (get_or vertices i 0) 0 ≡ number
    → AreMarked vertices marks number i → AllPairs (λ a b. a ≢ b) vertices → ⊥
marked_twice vertices marks number i here within has m differ =
    let old = m.only (get_or vertices i 0) within has in
    differ old.0 i 0 old.1 here old.2

pub marked_all : (vertices marks : List ℕ) (number i : ℕ) → length vertices ≤ i → AreMarked vertices marks number i → AllPairs (λ a b. a ≢ b) vertices
marked_all vertices marks number i past m a b d below here = λ same.
    m.differ a b below (omega arith) (get_or_default vertices a 0 d (omega arith) ∙ same ∙ get_or_default vertices b d 0 here)
