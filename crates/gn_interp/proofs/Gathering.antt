-- One more value that is taken.
use Rattle.std.proofs.Common.{◌≡◌, ◌≢◌, ℕ, zero, suc, ◌+◌, ◌<◌, ◌≤◌, Bool, true, false, cond, List, [], ◌∷◌, ◌++◌, length, map, filter, set, get_or, take, take_all, Option, Some, None, Result, Ok, Err, nat_eq, unwrap_or, ◌*◌, ◌^◌, ◌&&◌, ◌||◌, ℤ, pos, ◌+ℤ◌, unsigned_abs, length-append, ap₂, refl, sym, ap, ◌∙◌, subst, eqb-true, eq-eqb, ne_eqb, append-nil, true≢false, arith}
use Rattle.std.proofs.lemmas.List.{map-append, length-map, get_or-map}
use Rattle.std.proofs.lemmas.List.Sums.{fold-append}
use Rattle.std.proofs.lemmas.List.Folds.{list_any-append, list_all-append}
use Rattle.std.specs.List.{list_any, list_all}
use Rattle.std.specs.Result.{IfOk}
use Rattle.gn_value.specs.Arithmetic.{total_by}
use Rattle.std.proofs.lemmas.List.Elements.{filter-append}
use Rattle.gn_plain.specs.Interpolation.{Taking, taken_by, truth_of}
use Rattle.gn_interp.specs.Numbers.{number_at}
use Rattle.gn_interp.specs.Gathered.{AreGathered, total_of, truth_at, some_truth, some_truth_over, joined_truth}
use Rattle.gn_interp.specs.declared.gather.Total.{Total}

-- what an element takes with one pair more
taken_of : (i : ℕ) (t : Taking) → taken_by i (t ∷ []) ≡ cond (nat_eq t.0 i) (t.1 ∷ []) []
taken_of i t = elim (nat_eq t.0 i) as (λ b. map (λ (u : Taking). u.1) (cond b (t ∷ []) []) ≡ cond b (t.1 ∷ []) []) [ true ↦ refl | false ↦ refl ]

taken_more : (i : ℕ) (ts : List Taking) (t : Taking) → taken_by i (ts ++ t ∷ []) ≡ taken_by i ts ++ cond (nat_eq t.0 i) (t.1 ∷ []) []
taken_more i ts t =
    ap (map (λ (u : Taking). u.1)) (filter-append (λ (u : Taking). nat_eq u.0 i) ts (t ∷ []))
    ∙ (map-append (λ (u : Taking). u.1) (filter (λ (u : Taking). nat_eq u.0 i) ts) (filter (λ (u : Taking). nat_eq u.0 i) (t ∷ [])) ∙ ap (λ l. taken_by i ts ++ l) (taken_of i t))

apart : (i j : ℕ) → nat_eq i j ≡ false → i ≢ j
apart i j h = λ e. true≢false (sym (eq-eqb i j e) ∙ h)

module _ {A : Type 0} where
  get_same : (xs : List A) (i : ℕ) (y d : A) → i < length xs → get_or (set xs i y) i d ≡ y
  get_same [] i y d within = absurd (omega arith)
  get_same (x ∷ xs) zero y d within = refl
  get_same (x ∷ xs) (suc i) y d within = get_same xs i y d (omega (arith, within))

  get_other : (xs : List A) (i j : ℕ) (y d : A) → i ≢ j → get_or (set xs i y) j d ≡ get_or xs j d
  get_other [] i j y d differ = refl
  get_other (x ∷ xs) zero zero y d differ = absurd (differ refl)
  get_other (x ∷ xs) zero (suc j) y d differ = refl
  get_other (x ∷ xs) (suc i) zero y d differ = refl
  get_other (x ∷ xs) (suc i) (suc j) y d differ = get_other xs i j y d (λ e. differ (ap suc e))

  pub length_set : (xs : List A) (i : ℕ) (y : A) → length (set xs i y) ≡ length xs
  length_set [] i y = refl
  length_set (x ∷ xs) zero y = refl
  length_set (x ∷ xs) (suc i) y = let n = length_set xs i y in omega (arith, n)

module _ {A : Type 0} (give : List ℕ → A) (ts : List Taking) (t : Taking) (xs : List A) where
  more_by : (y : A) (i : ℕ) (d : A) (b : Bool) → nat_eq t.0 i ≡ b → t.0 < length xs → y ≡ give (taken_by t.0 ts ++ t.1 ∷ []) → AreGathered give ts xs → i < length xs
      → get_or (set xs t.0 y) i d ≡ give (taken_by i (ts ++ t ∷ []))
  more_by y i d true h within step gathered below =
      let same : t.0 ≡ i = eqb-true t.0 i h in
      let taken : taken_by t.0 (ts ++ t ∷ []) ≡ taken_by t.0 ts ++ t.1 ∷ [] = taken_more t.0 ts t ∙ ap (λ b. taken_by t.0 ts ++ cond b (t.1 ∷ []) []) (eq-eqb t.0 t.0 refl) in
      subst (λ j. get_or (set xs t.0 y) j d ≡ give (taken_by j (ts ++ t ∷ []))) same (get_same xs t.0 y d within ∙ (step ∙ ap give (sym taken)))
  more_by y i d false h within step gathered below =
      let taken : taken_by i (ts ++ t ∷ []) ≡ taken_by i ts = taken_more i ts t ∙ (ap (λ b. taken_by i ts ++ cond b (t.1 ∷ []) []) h ∙ append-nil (taken_by i ts)) in
      get_other xs t.0 i y d (apart t.0 i h) ∙ (gathered i d below ∙ ap give (sym taken))

  -- the taker is there, and gets what it took before and this
  pub gathered_more : (x y : A) → t.0 < length xs → x ≡ get_or xs t.0 x → ((js : List ℕ) → x ≡ give js → y ≡ give (js ++ t.1 ∷ [])) → AreGathered give ts xs → AreGathered give (ts ++ t ∷ []) (set xs t.0 y)
  gathered_more x y within at step gathered i d below =
      let long = length_set xs t.0 y in
      more_by y i d (nat_eq t.0 i) refl within (step (taken_by t.0 ts) (at ∙ gathered t.0 x within)) gathered (omega (arith, below, long))

  -- the taker is not there
  pub gathered_same : length xs ≤ t.0 → AreGathered give ts xs → AreGathered give (ts ++ t ∷ []) xs
  gathered_same past gathered i d below =
      let differ : nat_eq t.0 i ≡ false = ne_eqb t.0 i (λ e. absurd (omega (arith, past, below, e))) in
      let taken : taken_by i (ts ++ t ∷ []) ≡ taken_by i ts = taken_more i ts t ∙ (ap (λ b. taken_by i ts ++ cond b (t.1 ∷ []) []) differ ∙ append-nil (taken_by i ts)) in
      gathered i d below ∙ ap give (sym taken)

-- a result that is right in one way where it is in another
pub if_ok : {A E : Type 0} (P Q : A → Type 0) (r : Result A E) → IfOk r P → ((a : A) → P a → Q a) → IfOk r Q
if_ok P Q (Ok a) p all = all a p
if_ok P Q (Err e) p all = tt

-- each of a list hangs in one way on what it takes
pub gathered_mapped : {A B : Type 0} (f : A → B) (give : List ℕ → A) (ts : List Taking) (xs : List A) → AreGathered give ts xs → AreGathered (λ js. f (give js)) ts (map f xs)
gathered_mapped {A} {B} f give ts xs gathered i d below =
    let long : length (map f xs) ≡ length xs = length-map xs f in
    let within : i < length xs = omega (arith, below, long) in
    get_or-map f xs i (give (taken_by i ts)) d within ∙ ap f (gathered i (give (taken_by i ts)) within)

-- ---- totals

pub total_more : (values : List ℤ) (js : List ℕ) (s : ℕ) (x : Total) → x ≡ total_of values js → (let y : Total = record { sum = x.sum +ℤ number_at values s; count = x.count + 1 } in y ≡ total_of values (js ++ s ∷ []))
total_more values js s x is =
    let sums : x.sum +ℤ number_at values s ≡ total_by (number_at values) (js ++ s ∷ []) = ap (λ (t : Total). t.sum +ℤ number_at values s) is ∙ sym (fold-append (λ sum j. sum +ℤ number_at values j) (pos 0) js (s ∷ [])) in
    let long : length (js ++ s ∷ []) ≡ length js + 1 = length-append js (s ∷ []) in
    let counts : x.count + 1 ≡ length (js ++ s ∷ []) = ap (λ (t : Total). t.count + 1) is ∙ sym long in
    ap₂ (λ sum count. let t : Total = record { sum = sum; count = count } in t) sums counts

-- sums of values of 64 bits each, whose number is counted beside them
abbrev pub AreBounded : ℕ → List Total → Type 0
AreBounded k xs = (i : ℕ) (d : Total) → i < length xs → (unsigned_abs (get_or xs i d).sum ≤ 2 ^ 63 * (get_or xs i d).count) × ((get_or xs i d).count ≤ k)

abbrev IsBounded : ℕ → Total → Type 0
IsBounded k t = (unsigned_abs t.sum ≤ 2 ^ 63 * t.count) × (t.count ≤ k)

bounded_by : (xs : List Total) (at : ℕ) (k : ℕ) (y : Total) (i : ℕ) (d : Total) (b : Bool) → nat_eq at i ≡ b → at < length xs → IsBounded (k + 1) y → AreBounded k xs → i < length xs → IsBounded (k + 1) (get_or (set xs at y) i d)
bounded_by xs at k y i d true h within bound all below =
    let same : at ≡ i = eqb-true at i h in
    subst (λ j. IsBounded (k + 1) (get_or (set xs at y) j d)) same (subst (IsBounded (k + 1)) (sym (get_same xs at y d within)) bound)
bounded_by xs at k y i d false h within bound all below = let old = all i d below in subst (IsBounded (k + 1)) (sym (get_other xs at i y d (apart at i h))) (old.0, omega (arith, old.1))

pub bounded_more : (xs : List Total) (at : ℕ) (k : ℕ) (y : Total) → at < length xs → unsigned_abs y.sum ≤ 2 ^ 63 * y.count → y.count ≤ k + 1 → AreBounded k xs → AreBounded (k + 1) (set xs at y)
bounded_more xs at k y within sum count all i d below =
    let long = length_set xs at y in
    bounded_by xs at k y i d (nat_eq at i) refl within (sum, count) all (omega (arith, below, long))

pub bounded_same : (xs : List Total) (k : ℕ) → AreBounded k xs → AreBounded (k + 1) xs
bounded_same xs k all i d below = let old = all i d below in (old.0, omega (arith, old.1))

-- ---- truths

single_any : (b : Bool) → b ≡ list_any (λ x. x) (b ∷ [])
single_any true = refl
single_any false = refl

single_all : (b : Bool) → b ≡ list_all (λ x. x) (b ∷ [])
single_all true = refl
single_all false = refl

truth_more : (one : Bool) (bs : List Bool) (b : Bool) → Some (joined_truth one (some_truth one bs) b) ≡ some_truth one (bs ++ b ∷ [])
truth_more true [] true = refl
truth_more true [] false = refl
truth_more false [] true = refl
truth_more false [] false = refl
truth_more true (a ∷ bs) b = ap Some (ap (λ c. list_any (λ x. x) (a ∷ bs) || c) (single_any b) ∙ sym (list_any-append (λ x. x) (a ∷ bs) (b ∷ [])))
truth_more false (a ∷ bs) b = ap Some (ap (λ c. list_all (λ x. x) (a ∷ bs) && c) (single_all b) ∙ sym (list_all-append (λ x. x) (a ∷ bs) (b ∷ [])))

pub truth_taken : (one : Bool) (values : List Bool) (js : List ℕ) (s : ℕ) (x : Option Bool) → x ≡ some_truth_over one values js → Some (joined_truth one x (truth_at values s)) ≡ some_truth_over one values (js ++ s ∷ [])
truth_taken one values js s x is =
    ap (λ o. Some (joined_truth one o (truth_at values s))) is ∙ (truth_more one (map (truth_at values) js) (truth_at values s) ∙ ap (some_truth one) (sym (map-append (truth_at values) js (s ∷ []))))

pub some_or_false : (one : Bool) (bs : List Bool) → unwrap_or (some_truth one bs) false ≡ truth_of one bs
some_or_false one [] = refl
some_or_false one (b ∷ bs) = refl

-- ---- a list that is pushed to

module _ {A : Type 0} where
  get_front : (xs ys : List A) (i : ℕ) (d : A) → i < length xs → get_or (xs ++ ys) i d ≡ get_or xs i d
  get_front [] ys i d within = absurd (omega arith)
  get_front (x ∷ xs) ys zero d within = refl
  get_front (x ∷ xs) ys (suc i) d within = get_front xs ys i d (omega (arith, within))

  get_end : (xs : List A) (y d : A) → get_or (xs ++ y ∷ []) (length xs) d ≡ y
  get_end [] y d = refl
  get_end (x ∷ xs) y d = get_end xs y d

  -- what is true of each of the first elements
  abbrev pub AreFirst : (ℕ → A) → ℕ → List A → Type 0
  AreFirst give n xs = (i : ℕ) (d : A) → i < n → get_or xs i d ≡ give i

  pushed_by : (give : ℕ → A) (xs : List A) (n : ℕ) (y : A) (i : ℕ) (d : A) (b : Bool) → nat_eq n i ≡ b → length xs ≡ n → AreFirst give n xs → y ≡ give n → i < n + 1 → get_or (xs ++ y ∷ []) i d ≡ give i
  pushed_by give xs n y i d true h long first is below =
      subst (λ j. get_or (xs ++ y ∷ []) j d ≡ give j) (eqb-true n i h) (ap (λ k. get_or (xs ++ y ∷ []) k d) (sym long) ∙ (get_end xs y d ∙ is))
  pushed_by give xs n y i d false h long first is below =
      let differ : n ≢ i = λ e. true≢false (sym (eq-eqb n i e) ∙ h) in
      let within : i < n = omega (arith, below, differ) in
      get_front xs (y ∷ []) i d (omega (arith, within, long)) ∙ first i d within

  pub pushed_more : (give : ℕ → A) (xs : List A) (n : ℕ) (y : A) → length xs ≡ n → AreFirst give n xs → y ≡ give n → AreFirst give (n + 1) (xs ++ y ∷ [])
  pushed_more give xs n y long first is i d below = pushed_by give xs n y i d (nat_eq n i) refl long first is below

-- ---- lists that loops made

pub gathered_as : {A : Type 0} (give give' : List ℕ → A) (ts : List Taking) (xs : List A) → ((js : List ℕ) → give js ≡ give' js) → AreGathered give ts xs → AreGathered give' ts xs
gathered_as give give' ts xs same gathered i d below = gathered i d below ∙ same (taken_by i ts)

-- a list that is another one mapped, up to a number past its end
pub gathered_over : {A B : Type 0} (f : A → B) (give : List ℕ → A) (ts : List Taking) (from items : List A) (xs : List B) (i : ℕ) → xs ≡ map f (take i items) → length items ≤ i → items ≡ from → AreGathered give ts from
    → AreGathered (λ js. f (give js)) ts xs
gathered_over f give ts from items xs i made past same gathered =
    let all : xs ≡ map f from = made ∙ ap (map f) (take_all i items past ∙ same) in
    subst (AreGathered (λ js. f (give js)) ts) (sym all) (gathered_mapped f give ts from gathered)
