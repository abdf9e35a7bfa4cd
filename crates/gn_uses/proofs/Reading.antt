-- What a node reads is some of its inputs: those from the first one on, and perhaps one more.
use Rattle.std.proofs.Common.{◌≡◌, ◌⊎◌, inl, inr, ℕ, zero, suc, ◌+◌, ◌-◌, ◌<◌, ◌≤◌, Bool, true, false, ◌&&◌, List, [], ◌∷◌, ◌++◌, length, get_or, take, drop, min, Option, Some, None, IsTrue, refl, sym, ap, ◌∙◌, subst, arith}
use Rattle.gn_node_set.specs.Meanings.{Has, selected, member, Role as MeantRole, Choice as MeantChoice, one_case, all_cases, no_case, chosen, head_of}
use Rattle.gn_node_set.specs.Meanings as meant
use Rattle.gn_node_set.proofs.Lists.{append_nil}
use Rattle.gn_uses.specs.declared.nodes.Role.{Role}
use Rattle.gn_uses.specs.declared.nodes.Role.TheVariants.{Plain, Switch, File, Zone}
use Rattle.gn_uses.specs.declared.nodes.Choice.{Choice}
use Rattle.gn_uses.specs.declared.nodes.Choice.TheVariants.{One, All, Zero}
use Rattle.gn_uses.specs.declared.outputs.Out.{Out}
use Rattle.gn_uses.specs.Nodes.{Nodes, role_of, choice_of, role, choice, inputs, needs, all_set}
use Rattle.gn_uses.specs.Reading.{front_of, case_of, at_case, read_of}
use Rattle.gn_uses.specs.Sets.{OutputSet}
use Rattle.gn_uses.specs.Marks.{with_input, with_inputs, with_all}
use Rattle.std.specs.Prelude.{nat_le}

has_member : {A : Type 0} (xs : List A) (n : ℕ) (x : A) → Has (member xs n) x → Has xs x
has_member [] n x h = absurd h
has_member (y ∷ xs) zero x (inl e) = inl e
has_member (y ∷ xs) zero x (inr f) = absurd f
has_member (y ∷ xs) (suc n) x h = inr (has_member xs n x h)

has_chosen : {A : Type 0} (c : MeantChoice) (xs : List A) (x : A) → Has (chosen c xs) x → Has xs x
has_chosen (one_case n) xs x h = has_member xs n x h
has_chosen all_cases xs x h = h
has_chosen no_case xs x h = absurd h

has_head : {A : Type 0} (xs : List A) (x : A) → Has (head_of xs) x → Has xs x
has_head [] x h = absurd h
has_head (y ∷ xs) x (inl e) = inl e
has_head (y ∷ xs) x (inr f) = absurd f

has_selected : {A : Type 0} (r : MeantRole) (c : MeantChoice) (xs : List A) (x : A) → Has (selected r c xs) x → Has xs x
has_selected meant.Plain c xs x h = h
has_selected meant.File c xs x h = h
has_selected meant.Zone c xs x h = has_head xs x h
has_selected meant.Switch c [] x h = absurd h
has_selected meant.Switch c (y ∷ xs) x (inl e) = inl e
has_selected meant.Switch c (y ∷ xs) x (inr h) = inr (has_chosen c xs x h)

pub is_input : (g : Nodes) (n : ℕ) (x : Option Out) → Has (needs g n) x → Has (inputs g n) x
is_input g n x h = has_selected (role_of (role g n)) (choice_of (choice g n)) (inputs g n) x h

-- ---- by numbers

take_whole : {A : Type 0} (xs : List A) → take (length xs) xs ≡ xs
take_whole [] = refl
take_whole (x ∷ xs) = ap (λ ys. x ∷ ys) (take_whole xs)

take_head : {A : Type 0} (xs : List A) → take (min (length xs) 1) xs ≡ head_of xs
take_head [] = refl
take_head (x ∷ xs) = let one : min (suc (length xs)) 1 ≡ 1 = omega arith in ap (λ n. take n (x ∷ xs)) one

all_of : {A : Type 0} (xs : List A) → take (length xs) xs ++ [] ≡ xs
all_of xs = append_nil (take (length xs) xs) ∙ take_whole xs

head_alone : {A : Type 0} (xs : List A) → take (min (length xs) 1) xs ++ [] ≡ head_of xs
head_alone xs = append_nil (take (min (length xs) 1) xs) ∙ take_head xs

-- what is read, by the front and the case
pub reads : {A : Type 0} (r : Role) (c : Option Choice) (xs : List A) → read_of r c xs ≡ selected (role_of r) (choice_of c) xs
reads Plain c xs = all_of xs
reads File c xs = all_of xs
reads Zone c xs = head_alone xs
reads Switch None [] = refl
reads Switch None (x ∷ xs) = head_alone (x ∷ xs)
reads Switch (Some Zero) [] = refl
reads Switch (Some Zero) (x ∷ xs) = head_alone (x ∷ xs)
reads Switch (Some All) [] = refl
reads Switch (Some All) (x ∷ xs) = all_of (x ∷ xs)
reads Switch (Some (One n)) [] = refl
reads Switch (Some (One n)) (x ∷ xs) = ap (λ ys. ys ++ member xs n) (take_head (x ∷ xs))

-- ---- flags

pub all_set_append : (xs ys : List Bool) → all_set (xs ++ ys) ≡ (all_set xs && all_set ys)
all_set_append [] ys = refl
all_set_append (true ∷ xs) ys = all_set_append xs ys
all_set_append (false ∷ xs) ys = refl

member_past : {A : Type 0} (xs : List A) (n : ℕ) → length xs ≤ n → member xs n ≡ []
member_past [] n h = refl
member_past (x ∷ xs) zero h = absurd (omega arith)
member_past (x ∷ xs) (suc n) h = member_past xs n (omega arith)

pub no_case_there : {A : Type 0} (xs : List A) (n : ℕ) → length xs ≤ n → [] ≡ at_case (Some n) xs
no_case_there xs n h = sym (member_past xs n h)

pub case_there : {A : Type 0} (xs : List A) (n : ℕ) (d : A) → n < length xs → member xs n ≡ get_or xs n d ∷ []
case_there [] n d h = absurd (omega arith)
case_there (x ∷ xs) zero d h = refl
case_there (x ∷ xs) (suc n) d h = case_there xs n d (omega arith)

first_behind : {A : Type 0} (xs : List A) (n : ℕ) → take 1 (drop n xs) ≡ member xs n
first_behind [] zero = refl
first_behind [] (suc n) = refl
first_behind (x ∷ xs) zero = refl
first_behind (x ∷ xs) (suc n) = first_behind xs n

pub case_sliced : {A : Type 0} (xs : List A) (n : ℕ) → take ((n + 1) - n) (drop n xs) ≡ member xs n
case_sliced xs n = let one : (n + 1) - n ≡ 1 = omega arith in ap (λ k. take k (drop n xs)) one ∙ first_behind xs n

and_true : (b : Bool) → (b && true) ≡ b
and_true true = refl
and_true false = refl

pub case_read : (xs : List Bool) (n : ℕ) → n < length xs → get_or xs n false ≡ all_set (member xs n)
case_read xs n h = sym (ap all_set (case_there xs n false h) ∙ and_true (get_or xs n false))

-- ---- passing

and_joined : (a b c : Bool) → (a && (b && c)) ≡ ((a && b) && c)
and_joined true b c = refl
and_joined false b c = refl

take_one_more : (xs : List Bool) (n : ℕ) → all_set (take (suc n) xs) ≡ (all_set (take n xs) && all_set (member xs n))
take_one_more [] zero = refl
take_one_more [] (suc n) = refl
take_one_more (x ∷ xs) zero = refl
take_one_more (x ∷ xs) (suc n) = ap (λ b. x && b) (take_one_more xs n) ∙ and_joined x (all_set (take n xs)) (all_set (member xs n))

both : (a b : Bool) → a ≡ true → b ≡ true → (a && b) ≡ true
both a b e f = ap (λ c. c && b) e ∙ f

pub passed_one : (xs : List Bool) (n : ℕ) → IsTrue (all_set (take n xs)) → all_set (member xs n) ≡ true → IsTrue (all_set (take (n + 1) xs))
passed_one xs n h e = let one : n + 1 ≡ suc n = omega arith in ap (λ k. all_set (take k xs)) one ∙ (take_one_more xs n ∙ both (all_set (take n xs)) (all_set (member xs n)) h e)

passed_fewer : (xs : List Bool) (m n : ℕ) → m ≤ n → IsTrue (all_set (take n xs)) → all_set (take m xs) ≡ true
passed_fewer xs zero n l h = refl
passed_fewer [] (suc m) n l h = refl
passed_fewer (x ∷ xs) (suc m) zero l h = absurd (omega arith)
passed_fewer (true ∷ xs) (suc m) (suc n) l h = passed_fewer xs m n (omega arith) h
passed_fewer (false ∷ xs) (suc m) (suc n) l h = absurd (cc)

at_most : (m n : ℕ) → m ≤ n → nat_le m n ≡ true
at_most m n h = grind arith

not_at_most : (m n : ℕ) → n < m → nat_le m n ≡ false
not_at_most m n h = grind arith

pub passed_all : (xs : List Bool) (at front : ℕ) → front ≤ at → IsTrue (all_set (take at xs)) → nat_le front at ≡ all_set (take front xs)
passed_all xs at front l h = at_most front at l ∙ sym (passed_fewer xs front at l h)

stopped : (xs : List Bool) (at front : ℕ) → at < front → all_set (member xs at) ≡ false → all_set (take front xs) ≡ false
stopped [] at front l e = absurd (cc)
stopped (x ∷ xs) at zero l e = absurd (omega arith)
stopped (true ∷ xs) zero (suc front) l e = absurd (cc)
stopped (false ∷ xs) at (suc front) l e = refl
stopped (true ∷ xs) (suc at) (suc front) l e = stopped xs at front (omega arith) e

pub stopped_before : (xs : List Bool) (at front : ℕ) → at < front → all_set (member xs at) ≡ false → nat_le front at ≡ all_set (take front xs)
stopped_before xs at front l e = not_at_most front at l ∙ sym (stopped xs at front l e)

pub has_case : {A : Type 0} (o : Option ℕ) (xs : List A) (x : A) → Has (at_case o xs) x → Has xs x
has_case None xs x h = absurd h
has_case (Some n) xs x h = has_member xs n x h

pub has_index : {A : Type 0} (xs : List A) (n : ℕ) (d : A) → n < length xs → Has xs (get_or xs n d)
has_index [] n d h = absurd (omega arith)
has_index (x ∷ xs) zero d h = inl refl
has_index (x ∷ xs) (suc n) d h = inr (has_index xs n d (omega arith))

twice : (inputs cases : List (Option Out)) (xs : List Out) → with_inputs (with_inputs xs inputs) cases ≡ with_inputs xs (inputs ++ cases)
twice [] cases xs = refl
twice (input ∷ inputs) cases xs = twice inputs cases (with_input xs input)

pub wants_twice : (w w1 w2 : OutputSet) (r : Role) (c : Option Choice) (xs front case : List (Option Out)) → w1 ≡ with_all w front → w2 ≡ with_all w1 case → front ≡ take (front_of r c (length xs)) xs → case ≡ at_case (case_of r c) xs → w2 ≡ with_all w (selected (role_of r) (choice_of c) xs)
wants_twice w w1 w2 r c xs front case first second is_front is_case =
    second
    ∙ (ap (λ s. with_all s case) first
    ∙ (ap (λ ys. record { sizes = w.sizes; total = w.total; items = ys }) (twice front case w.items)
    ∙ (ap (λ ys. with_all w (ys ++ case)) is_front
    ∙ (ap (λ ys. with_all w (take (front_of r c (length xs)) xs ++ ys)) is_case
    ∙ ap (λ ys. with_all w ys) (reads r c xs)))))
