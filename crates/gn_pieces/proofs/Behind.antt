-- Values that are put behind others.
use Rattle.std.proofs.Common.{◌≡◌, ℕ, zero, suc, ◌+◌, ◌<◌, List, [], ◌∷◌, ◌++◌, map, length, replicate, refl, sym, ap, ap₂, ◌∙◌, arith}
use Rattle.std.specs.List.{range_with_len}
use Rattle.std.proofs.lemmas.List.{append_assoc, map-append, length-replicate, length-map, replicate-append-replicate}
use Rattle.std.proofs.lemmas.List.FromFn.{map-range_with_len_more}
use Rattle.gn_value.specs.Values.{fx, as_truth, as_int, as_fixed, as_vector, converted}
use Rattle.gn_value.specs.declared.value.Value.{Value}
use Rattle.gn_value.specs.declared.value.ValueKind.{ValueKind}
use Rattle.gn_value.specs.declared.value.ValueKind.TheVariants.{Truth, Int, Fixed, Vector}
use Rattle.gn_plain.specs.Columns.{Values, truths, ints, fixed_numbers, vectors, kind_of_values, count_of_values, value_of}
use Rattle.gn_joins.specs.Joins.{values_in}
use Rattle.gn_joins.specs.Realized.{repeated}
use Rattle.gn_pieces.specs.Behind.{first_values, values_behind}

module _ {X : Type 0} (f : Value → X) where
  both : (xs : List X) (vs ws : List Value) → (xs ++ map f vs) ++ map f ws ≡ xs ++ map f (vs ++ ws)
  both xs vs ws = append_assoc xs (map f vs) (map f ws) ∙ ap (λ ys. xs ++ ys) (sym (map-append f vs ws))

pub behind_both : (xs : Values) (vs ws : List Value) → values_behind (values_behind xs vs) ws ≡ values_behind xs (vs ++ ws)
behind_both (truths xs) vs ws = ap truths (both as_truth xs vs ws)
behind_both (ints xs) vs ws = ap ints (both as_int xs vs ws)
behind_both (fixed_numbers xs) vs ws = ap fixed_numbers (both (λ v. fx (as_fixed v)) xs vs ws)
behind_both (vectors xs) vs ws = ap vectors (both as_vector xs vs ws)

-- all values of a kind stand behind none
pub behind_nothing : (kind : ValueKind) (vs : List Value) → values_behind (values_in kind []) vs ≡ values_in kind vs
behind_nothing Truth vs = refl
behind_nothing Int vs = refl
behind_nothing Fixed vs = refl
behind_nothing Vector vs = refl

pub kind_behind : (xs : Values) (vs : List Value) → kind_of_values (values_behind xs vs) ≡ kind_of_values xs
kind_behind (truths xs) vs = refl
kind_behind (ints xs) vs = refl
kind_behind (fixed_numbers xs) vs = refl
kind_behind (vectors xs) vs = refl

pub kind_in : (kind : ValueKind) (vs : List Value) → kind_of_values (values_in kind vs) ≡ kind
kind_in Truth vs = refl
kind_in Int vs = refl
kind_in Fixed vs = refl
kind_in Vector vs = refl

pub count_in_kind : (kind : ValueKind) (vs : List Value) → count_of_values (values_in kind vs) ≡ length vs
count_in_kind Truth vs = length-map vs as_truth
count_in_kind Int vs = length-map vs as_int
count_in_kind Fixed vs = length-map vs (λ v. fx (as_fixed v))
count_in_kind Vector vs = length-map vs as_vector

-- a value that is converted first goes behind others as it would have
converted_behind_one : (xs : Values) (v : Value) → values_behind xs (converted v (kind_of_values xs) ∷ []) ≡ values_behind xs (v ∷ [])
unfolding converted
converted_behind_one (truths xs) v = refl
converted_behind_one (ints xs) v = refl
converted_behind_one (fixed_numbers xs) v = refl
converted_behind_one (vectors xs) v = refl

pub converted_behind : (xs : Values) (f : ℕ → Value) (is : List ℕ) → values_behind xs (map (λ i. converted (f i) (kind_of_values xs)) is) ≡ values_behind xs (map f is)
converted_behind xs f [] = refl
converted_behind xs f (i ∷ is) =
    let g = λ (j : ℕ). converted (f j) (kind_of_values xs) in
    let ys = values_behind xs (f i ∷ []) in
    sym (behind_both xs (g i ∷ []) (map g is))
    ∙ (ap (λ zs. values_behind zs (map g is)) (converted_behind_one xs (f i))
    ∙ (ap (λ k. values_behind ys (map (λ j. converted (f j) k) is)) (sym (kind_behind xs (f i ∷ [])))
    ∙ (converted_behind ys f is ∙ behind_both xs (f i ∷ []) (map f is))))

-- ---- values that are repeated

pub kind_repeated : (count k : ℕ) (values : Values) → kind_of_values (repeated count k values) ≡ kind_of_values values
kind_repeated count k values = kind_in (kind_of_values values) (replicate count (value_of values k))

pub count_repeated : (count k : ℕ) (values : Values) → count_of_values (repeated count k values) ≡ count
count_repeated count k values = count_in_kind (kind_of_values values) (replicate count (value_of values k)) ∙ length-replicate count (value_of values k)

-- one value for each number
pub replicated : (n a : ℕ) (v : Value) → replicate n v ≡ map (λ (i : ℕ). v) (range_with_len a n)
replicated n a v = by_count n a
  where
    by_count : (n a : ℕ) → replicate n v ≡ map (λ (i : ℕ). v) (range_with_len a n)
    by_count zero a = refl
    by_count (suc n) a = ap (λ vs. v ∷ vs) (by_count n (a + 1))

-- functions that agree below a bound
pub map_range_like : (f g : ℕ → Value) (n a : ℕ) → ((i : ℕ) → i < a + n → f i ≡ g i) → map f (range_with_len a n) ≡ map g (range_with_len a n)
map_range_like f g zero a same = refl
map_range_like f g (suc n) a same =
    ap₂ (λ v vs. v ∷ vs) (same a (omega arith)) (map_range_like f g n (a + 1) (λ i below. same i (omega (arith, below))))

-- ---- one more value in a loop

pub one_more_first : (start now after column : Values) (i : ℕ) (v : Value) → now ≡ values_behind start (first_values column i) → v ≡ value_of column i → after ≡ values_behind now (v ∷ [])
    → after ≡ values_behind start (first_values column (i + 1))
one_more_first start now after column i v so_far is pushed =
    let more : first_values column (i + 1) ≡ first_values column i ++ value_of column i ∷ [] = map-range_with_len_more (value_of column) 0 i i (omega arith) in
    pushed
    ∙ (ap (λ xs. values_behind xs (v ∷ [])) so_far
    ∙ (behind_both start (first_values column i) (v ∷ [])
    ∙ (ap (λ w. values_behind start (first_values column i ++ w ∷ [])) is ∙ ap (values_behind start) (sym more))))

pub one_more_time : (start now after : Values) (i : ℕ) (v : Value) → now ≡ values_behind start (replicate i v) → after ≡ values_behind now (v ∷ []) → after ≡ values_behind start (replicate (i + 1) v)
one_more_time start now after i v so_far pushed =
    pushed
    ∙ (ap (λ xs. values_behind xs (v ∷ [])) so_far
    ∙ (behind_both start (replicate i v) (v ∷ []) ∙ ap (values_behind start) (replicate-append-replicate i 1 v)))
