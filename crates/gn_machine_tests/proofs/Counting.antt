-- Conversions one after the other, and what a condition chooses.
use Rattle.std.proofs.Common.{◌≡◌, ◌≢◌, ℕ, zero, suc, ◌+◌, ◌<◌, ◌≤◌, List, [], ◌∷◌, length, drop, get_or, refl, sym, ap, ◌∙◌, arith}
use Rattle.gn_node_set.specs.Meanings.{one_case, converted}
use Rattle.gn_machine_tests.specs.Numbers.{rows, choice_by, sum}

drop_one : {A : Type 0} (xs : List A) (n : ℕ) (d : A) → n < length xs → drop n xs ≡ get_or xs n d ∷ drop (suc n) xs
drop_one [] n d h = absurd (omega arith)
drop_one (x ∷ xs) zero d h = refl
drop_one (x ∷ xs) (suc n) d h = drop_one xs n d (omega arith)

none_left : {A : Type 0} (xs : List A) (n : ℕ) → length xs ≤ n → drop n xs ≡ []
none_left [] zero h = refl
none_left [] (suc n) h = refl
none_left (x ∷ xs) zero h = absurd (omega arith)
none_left (x ∷ xs) (suc n) h = none_left xs n (omega arith)

-- one conversion more
pub one_more : (number all : ℕ) (kinds : List ℕ) (n : ℕ) → n < length kinds → converted rows number (drop n kinds) ≡ all → converted rows (sum number (get_or kinds n 0)) (drop (n + 1) kinds) ≡ all
one_more number all kinds n h before =
    let next : n + 1 ≡ suc n = omega arith in
    ap (λ k. converted rows (sum number (get_or kinds n 0)) (drop k kinds)) next ∙ sym (ap (converted rows number) (drop_one kinds n 0 h)) ∙ before

pub all_made : (number all : ℕ) (kinds : List ℕ) (n : ℕ) → length kinds ≤ n → converted rows number (drop n kinds) ≡ all → number ≡ all
all_made number all kinds n past before = sym (ap (converted rows number) (none_left kinds n past)) ∙ before

pub first_case : (n : ℕ) → n ≡ 0 → one_case 0 ≡ choice_by n
first_case zero e = refl
first_case (suc n) e = absurd (omega (arith, e))

pub second_case : (n : ℕ) → n ≢ 0 → one_case 1 ≡ choice_by n
second_case zero e = absurd (e refl)
second_case (suc n) e = refl
