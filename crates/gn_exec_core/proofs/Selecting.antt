-- What a run reads of the values that are kept.
use Rattle.std.proofs.Common.{◌≡◌, ℕ, zero, suc, ◌+◌, ◌<◌, ◌≤◌, ◌==◌, false, List, [], ◌∷◌, ◌++◌, length, drop, get_or, set, Option, Some, None, refl, sym, ap, ◌∙◌, arith}
use Rattle.std.proofs.lemmas.Bool.Decides.{Decides-eqb}
use Rattle.gn_node_set.specs.Meanings.{member, selected}
use Rattle.gn_node_set.proofs.Lists.{append_nil, append_assoc}
use Rattle.gn_uses.specs.declared.nodes.Role.{Role}
use Rattle.gn_uses.specs.declared.nodes.Role.TheVariants.{Plain, Switch, File, Zone}
use Rattle.gn_uses.specs.declared.nodes.Choice.{Choice}
use Rattle.gn_uses.specs.declared.nodes.Choice.TheVariants as choice
use Rattle.gn_uses.specs.Nodes.{role_of, choice_of}
use Rattle.gn_exec_core.specs.Holds.{present}
use Rattle.gn_exec_core.specs.Jobs.{is_read, read_one, read_from}

same_one : {A : Type 0} (x : Option A) (xs : List (Option A)) → present (x ∷ []) ++ present xs ≡ present (x ∷ xs)
same_one None xs = refl
same_one (Some x) xs = refl

plain_read : {A : Type 0} (c : Option Choice) (i : ℕ) (xs : List (Option A)) → read_from Plain c i xs ≡ present xs
plain_read c i [] = refl
plain_read c i (x ∷ xs) = ap (λ ys. present (x ∷ []) ++ ys) (plain_read c (suc i) xs) ∙ same_one x xs

file_read : {A : Type 0} (c : Option Choice) (i : ℕ) (xs : List (Option A)) → read_from File c i xs ≡ present xs
file_read c i [] = refl
file_read c i (x ∷ xs) = ap (λ ys. present (x ∷ []) ++ ys) (file_read c (suc i) xs) ∙ same_one x xs

every_case : {A : Type 0} (i : ℕ) (xs : List (Option A)) → read_from Switch (Some choice.All) i xs ≡ present xs
every_case i [] = refl
every_case i (x ∷ xs) = ap (λ ys. present (x ∷ []) ++ ys) (every_case (suc i) xs) ∙ same_one x xs

-- nothing is read behind the first input, or behind the case
zone_rest : {A : Type 0} (c : Option Choice) (i : ℕ) (xs : List (Option A)) → read_from Zone c (suc i) xs ≡ []
zone_rest c i [] = refl
zone_rest c i (x ∷ xs) = zone_rest c (suc i) xs

unchosen_rest : {A : Type 0} (i : ℕ) (xs : List (Option A)) → read_from Switch None (suc i) xs ≡ []
unchosen_rest i [] = refl
unchosen_rest i (x ∷ xs) = unchosen_rest (suc i) xs

zero_rest : {A : Type 0} (i : ℕ) (xs : List (Option A)) → read_from Switch (Some choice.Zero) (suc i) xs ≡ []
zero_rest i [] = refl
zero_rest i (x ∷ xs) = zero_rest (suc i) xs

different : (i k : ℕ) → k < i → (i == k) ≡ false
different i k h = grind arith

unequal : (i k : ℕ) → i < k → (i == k) ≡ false
unequal i k h = grind arith

past_case : {A : Type 0} (k i : ℕ) (xs : List (Option A)) → k < i → read_from Switch (Some (choice.One k)) (suc i) xs ≡ []
past_case k i [] h = refl
past_case k i (x ∷ xs) h = ap (λ b. read_one b x ++ read_from Switch (Some (choice.One k)) (suc (suc i)) xs) (different i k h) ∙ past_case k (suc i) xs (omega arith)

case_read : {A : Type 0} (k i d : ℕ) (xs : List (Option A)) → i + d ≡ k → read_from Switch (Some (choice.One k)) (suc i) xs ≡ present (member xs d)
case_read k i d [] e = refl
case_read k i zero (x ∷ xs) e =
    let same : i ≡ k = omega arith in
    ap (λ b. read_one b x ++ read_from Switch (Some (choice.One k)) (suc (suc i)) xs) ((Decides-eqb i k).1 same)
    ∙ ap (λ ys. present (x ∷ []) ++ ys) (past_case k (suc i) xs (omega arith))
    ∙ append_nil (present (x ∷ []))
case_read k i (suc d) (x ∷ xs) e =
    ap (λ b. read_one b x ++ read_from Switch (Some (choice.One k)) (suc (suc i)) xs) (unequal i k (omega arith))
    ∙ case_read k (suc i) d xs (omega arith)

first_alone : {A : Type 0} (x : Option A) (ys : List A) → ys ≡ [] → present (x ∷ []) ++ ys ≡ present (x ∷ [])
first_alone x ys e = ap (λ zs. present (x ∷ []) ++ zs) e ∙ append_nil (present (x ∷ []))

-- what is read by numbers is what is selected
pub reads_selected : {A : Type 0} (r : Role) (c : Option Choice) (xs : List (Option A)) → read_from r c 0 xs ≡ present (selected (role_of r) (choice_of c) xs)
reads_selected Plain c xs = plain_read c 0 xs
reads_selected File c xs = file_read c 0 xs
reads_selected Zone c [] = refl
reads_selected Zone c (x ∷ xs) = first_alone x (read_from Zone c 1 xs) (zone_rest c 0 xs)
reads_selected Switch c [] = refl
reads_selected Switch None (x ∷ xs) = first_alone x (read_from Switch None 1 xs) (unchosen_rest 0 xs)
reads_selected Switch (Some choice.Zero) (x ∷ xs) = first_alone x (read_from Switch (Some choice.Zero) 1 xs) (zero_rest 0 xs)
reads_selected Switch (Some choice.All) (x ∷ xs) = every_case 0 (x ∷ xs)
reads_selected Switch (Some (choice.One k)) (x ∷ xs) = ap (λ ys. present (x ∷ []) ++ ys) (case_read k 0 k xs (omega arith)) ∙ same_one x (member xs k)

-- ---- one after the other

drop_behind : {A : Type 0} (xs : List A) (i : ℕ) (v : A) → drop (suc i) (set xs i v) ≡ drop (suc i) xs
drop_behind [] i v = refl
drop_behind (x ∷ xs) zero v = refl
drop_behind (x ∷ xs) (suc i) v = drop_behind xs i v

dropped : {A : Type 0} (xs : List A) (i : ℕ) (d : A) → i < length xs → drop i xs ≡ get_or xs i d ∷ drop (suc i) xs
dropped [] i d h = absurd (omega arith)
dropped (x ∷ xs) zero d h = refl
dropped (x ∷ xs) (suc i) d h = dropped xs i d (omega arith)

pub one_more_read : {A : Type 0} (r : Role) (c : Option Choice) (at : ℕ) (xs : List (Option A)) (slot : Option A) (into into' all : List A)
    → at < length xs → slot ≡ get_or xs at slot → into' ≡ into ++ read_one (is_read r c at) slot → into ++ read_from r c at (drop at xs) ≡ all
    → into' ++ read_from r c (at + 1) (drop (at + 1) (set xs at None)) ≡ all
one_more_read r c at xs slot into into' all inside is grown before =
    let one : at + 1 ≡ suc at = omega arith in
    let cut : drop at xs ≡ slot ∷ drop (suc at) xs = dropped xs at slot inside ∙ ap (λ x. x ∷ drop (suc at) xs) (sym is) in
    ap (λ k. into' ++ read_from r c k (drop k (set xs at None))) one
    ∙ ap (λ ys. ys ++ read_from r c (suc at) (drop (suc at) (set xs at None))) grown
    ∙ append_assoc into (read_one (is_read r c at) slot) (read_from r c (suc at) (drop (suc at) (set xs at None)))
    ∙ ap (λ ys. into ++ (read_one (is_read r c at) slot ++ read_from r c (suc at) ys)) (drop_behind xs at None)
    ∙ ap (λ ys. into ++ read_from r c at ys) (sym cut)
    ∙ before

none_left : {A : Type 0} (xs : List A) (n : ℕ) → length xs ≤ n → drop n xs ≡ []
none_left [] zero h = refl
none_left [] (suc n) h = refl
none_left (x ∷ xs) zero h = absurd (omega arith)
none_left (x ∷ xs) (suc n) h = none_left xs n (omega arith)

pub all_read : {A : Type 0} (r : Role) (c : Option Choice) (at : ℕ) (xs row : List (Option A)) (into before : List A)
    → length xs ≤ at → into ++ read_from r c at (drop at xs) ≡ before ++ read_from r c 0 row → into ≡ before ++ present (selected (role_of r) (choice_of c) row)
all_read r c at xs row into before past h =
    sym (append_nil into)
    ∙ ap (λ ys. into ++ read_from r c at ys) (sym (none_left xs at past))
    ∙ h
    ∙ ap (λ ys. before ++ ys) (reads_selected r c row)
