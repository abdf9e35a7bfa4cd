-- The text of a path, step by step.
use Rattle.std.proofs.Common.{◌≡◌, ◌<◌, ◌≤◌, ℕ, zero, suc, ◌+◌, length, List, [], ◌∷◌, ◌++◌, map, drop, refl, sym, ◌∙◌, ap, arith, append_assoc, append-nil}
use Rattle.std.specs.Prelude.{slice_index_or}
use Rattle.gn_lazy.specs.declared.path.PathStep.{PathStep}
use Rattle.gn_lazy.specs.Paths.{step_text, stroke, text_from}

from_index : {A : Type 0} (xs : List A) (at : ℕ) (d : A) → at < length xs → drop at xs ≡ slice_index_or xs at d ∷ drop (suc at) xs
from_index [] at d within = absurd (omega (arith, within))
from_index (x ∷ xs) zero d within = refl
from_index (x ∷ xs) (suc at) d within = from_index xs at d (omega (arith, within))

named_from_index : {A : Type 0} (name : A → List ℕ) (xs : List A) (at : ℕ) (d : A) → at < length xs → drop at (map name xs) ≡ name (slice_index_or xs at d) ∷ drop (suc at) (map name xs)
named_from_index name [] at d within = absurd (omega (arith, within))
named_from_index name (x ∷ xs) zero d within = refl
named_from_index name (x ∷ xs) (suc at) d within = named_from_index name xs at d (omega (arith, within))

by_lists : {A : Type 0} (name : A → List ℕ) (ids : List A) (steps : List PathStep) (at : ℕ) (d : A) (e : PathStep) → at < length ids → at < length steps → text_from at (drop at (map name ids)) (drop at steps) ≡ (stroke at ++ step_text (name (slice_index_or ids at d)) (slice_index_or steps at e)) ++ text_from (suc at) (drop (suc at) (map name ids)) (drop (suc at) steps)
by_lists name ids steps at d e in_ids in_steps = λ i. text_from at (named_from_index name ids at d in_ids i) (from_index steps at e in_steps i)

-- one step of the text
pub next_step : {A : Type 0} (name : A → List ℕ) (ids : List A) (steps : List PathStep) (at : ℕ) (d : A) (e : PathStep) → at < length ids → at < length steps → text_from at (drop at (map name ids)) (drop at steps) ≡ (stroke at ++ step_text (name (slice_index_or ids at d)) (slice_index_or steps at e)) ++ text_from (at + 1) (drop (at + 1) (map name ids)) (drop (at + 1) steps)
next_step name ids steps at d e in_ids in_steps = let one : at + 1 ≡ suc at = omega arith in rw one (by_lists name ids steps at d e in_ids in_steps)

-- behind the last step there is nothing
pub past_the_end : (ids : List (List ℕ)) (steps : List PathStep) (at : ℕ) → length steps ≤ at → text_from at ids (drop at steps) ≡ []
past_the_end ids steps at past = ap (text_from at ids) (none_left steps at past) ∙ at_none ids
  where
    drop_none : (n : ℕ) → drop {A = PathStep} n [] ≡ []
    drop_none zero = refl
    drop_none (suc n) = refl

    none_left : (xs : List PathStep) (n : ℕ) → length xs ≤ n → drop n xs ≡ []
    none_left [] n past = drop_none n
    none_left (x ∷ xs) zero past = absurd (omega (arith, past))
    none_left (x ∷ xs) (suc n) past = none_left xs n (omega (arith, past))

    at_none : (ids : List (List ℕ)) → text_from at ids [] ≡ []
    at_none [] = refl
    at_none (id ∷ ids) = refl

-- what was written so far, with what the rest gives
pub joined : (text a b rest new from' whole : List ℕ) → new ≡ text ++ a ++ b → from' ≡ (a ++ b) ++ rest → text ++ from' ≡ whole → new ++ rest ≡ whole
joined text a b rest new from' whole written next before =
    ap (λ t. t ++ rest) written ∙ ap (λ t. t ++ rest) (append_assoc text a b) ∙ append_assoc text (a ++ b) rest ∙ ap (λ t. text ++ t) (sym next) ∙ before

pub ended : (text from' whole : List ℕ) → from' ≡ [] → text ++ from' ≡ whole → text ≡ whole
ended text from' whole none before = sym (append-nil text) ∙ ap (λ t. text ++ t) (sym none) ∙ before
