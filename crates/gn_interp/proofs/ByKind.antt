-- Values that are gathered are interpolated, kind by kind.
use denote.Enum.Bare.{same_true}
use Rattle.gn_value.specs.contracts.value.Place.{the_type}
use Rattle.std.proofs.Common.{rules, ◌≡◌, ℕ, zero, suc, ◌<◌, Bool, true, false, ℤ, pos, ◌+ℤ◌, List, [], ◌∷◌, length, map, fold, get_or, refl, sym, ap, ap₂, ◌∙◌, subst}
use Rattle.std.proofs.lemmas.List.{length-map}
use Rattle.gn_value.specs.Arithmetic.{mean_of, sat, sat_int}
use Rattle.gn_value.specs.Values.{fx, v3, raw, as_truth, as_int, as_fixed}
use Rattle.gn_value.specs.declared.fixed.Fx.{Fx}
use Rattle.gn_value.specs.declared.vector.V3.{V3}
use Rattle.gn_value.specs.declared.value.Value.{Value}
use Rattle.gn_value.specs.declared.value.Value.TheVariants as v
use Rattle.gn_value.specs.declared.op.Axis.TheVariants.{X, Y, Z}
use Rattle.gn_value.specs.declared.value.Place.{Place}
use Rattle.gn_plain.specs.Equality.{same_place}
use Rattle.gn_plain.specs.Columns.{Values, truths, ints, fixed_numbers, vectors, count_of_values, kind_of_values, value_of}
use Rattle.gn_plain.specs.Interpolation.{Taking, taken_by, truth_of, mean_by, x_of, y_of, z_of, combined}
use Rattle.gn_interp.specs.Numbers.{number_at, components}
use Rattle.gn_interp.specs.Gathered.{AreGathered, ValuesAreGathered, truth_at, mean_over, truth_over, integer_over, fixed_over, vector_over}

pub total_mapped : (f : Value → ℤ) (value : ℕ → Value) (g : ℕ → ℤ) (js : List ℕ) (a : ℤ) → ((j : ℕ) → f (value j) ≡ g j) → fold (λ sum x. sum +ℤ f x) a (map value js) ≡ fold (λ sum j. sum +ℤ g j) a js
total_mapped f value g [] a same = refl
total_mapped f value g (j ∷ js) a same = ap (λ z. fold (λ sum x. sum +ℤ f x) (a +ℤ z) (map value js)) (same j) ∙ total_mapped f value g js (a +ℤ g j) same

mean_mapped : (f : Value → ℤ) (value : ℕ → Value) (xs : List ℤ) (js : List ℕ) → ((j : ℕ) → f (value j) ≡ number_at xs j) → mean_over xs js ≡ mean_by f (map value js)
mean_mapped f value xs js same = sym (ap₂ mean_of (total_mapped f value (number_at xs) js (pos 0) same) (length-map js value))

truths_mapped : (xs : List Bool) (js : List ℕ) → map (truth_at xs) js ≡ map as_truth (map (value_of (truths xs)) js)
truths_mapped xs [] = refl
truths_mapped xs (j ∷ js) = ap (λ l. truth_at xs j ∷ l) (truths_mapped xs js)

pub raw_at : (xs : List Fx) (j : ℕ) → (get_or xs j (fx (pos 0))).0 ≡ number_at (map raw xs) j
raw_at [] zero = refl
raw_at [] (suc j) = refl
raw_at (x ∷ xs) zero = refl
raw_at (x ∷ xs) (suc j) = raw_at xs j

pub x_at : (xs : List V3) (j : ℕ) → (get_or xs j (v3 (pos 0) (pos 0) (pos 0))).x.0 ≡ number_at (components X xs) j
x_at [] zero = refl
x_at [] (suc j) = refl
x_at (x ∷ xs) zero = refl
x_at (x ∷ xs) (suc j) = x_at xs j

pub y_at : (xs : List V3) (j : ℕ) → (get_or xs j (v3 (pos 0) (pos 0) (pos 0))).y.0 ≡ number_at (components Y xs) j
y_at [] zero = refl
y_at [] (suc j) = refl
y_at (x ∷ xs) zero = refl
y_at (x ∷ xs) (suc j) = y_at xs j

pub z_at : (xs : List V3) (j : ℕ) → (get_or xs j (v3 (pos 0) (pos 0) (pos 0))).z.0 ≡ number_at (components Z xs) j
z_at [] zero = refl
z_at [] (suc j) = refl
z_at (x ∷ xs) zero = refl
z_at (x ∷ xs) (suc j) = z_at xs j

module _ (one : Bool) (ts : List Taking) (i : ℕ) where
  abbrev js : List ℕ
  js = taken_by i ts

  gathered_truth : (xs ys : List Bool) → AreGathered (truth_over one xs) ts ys → i < length ys → value_of (truths ys) i ≡ combined (kind_of_values (truths xs)) one (map (value_of (truths xs)) js)
  gathered_truth xs ys gathered below = ap v.Truth (gathered i false below ∙ ap (truth_of one) (truths_mapped xs js))

  gathered_int : (xs ys : List ℤ) → AreGathered (integer_over xs) ts ys → i < length ys → value_of (ints ys) i ≡ combined (kind_of_values (ints xs)) one (map (value_of (ints xs)) js)
  gathered_int xs ys gathered below = ap v.Int (gathered i (pos 0) below ∙ ap sat_int (mean_mapped as_int (value_of (ints xs)) xs js (λ j. refl)))

  gathered_fixed : (xs ys : List Fx) → AreGathered (fixed_over (map raw xs)) ts ys → i < length ys
      → value_of (fixed_numbers ys) i ≡ combined (kind_of_values (fixed_numbers xs)) one (map (value_of (fixed_numbers xs)) js)
  gathered_fixed xs ys gathered below = ap v.Fixed (gathered i (fx (pos 0)) below ∙ ap (λ m. fx (sat m)) (mean_mapped as_fixed (value_of (fixed_numbers xs)) (map raw xs) js (raw_at xs)))

  gathered_vector : (xs ys : List V3) → AreGathered (vector_over xs) ts ys → i < length ys → value_of (vectors ys) i ≡ combined (kind_of_values (vectors xs)) one (map (value_of (vectors xs)) js)
  gathered_vector xs ys gathered below =
      let value = value_of (vectors xs) in
      let x = mean_mapped x_of value (components X xs) js (x_at xs) in
      let y = mean_mapped y_of value (components Y xs) js (y_at xs) in
      let z = mean_mapped z_of value (components Z xs) js (z_at xs) in
      ap v.Vector (gathered i (v3 (pos 0) (pos 0) (pos 0)) below ∙ (λ k. v3 (sat (x k)) (sat (y k)) (sat (z k))))

  pub gathered_value : (before after : Values) → ValuesAreGathered one ts before after → i < count_of_values after → value_of after i ≡ combined (kind_of_values before) one (map (value_of before) js)
  gathered_value (truths xs) (truths ys) g below = gathered_truth xs ys g below
  gathered_value (ints xs) (ints ys) g below = gathered_int xs ys g below
  gathered_value (fixed_numbers xs) (fixed_numbers ys) g below = gathered_fixed xs ys g below
  gathered_value (vectors xs) (vectors ys) g below = gathered_vector xs ys g below
  gathered_value (truths xs) (ints ys) g below = absurd g
  gathered_value (truths xs) (fixed_numbers ys) g below = absurd g
  gathered_value (truths xs) (vectors ys) g below = absurd g
  gathered_value (ints xs) (truths ys) g below = absurd g
  gathered_value (ints xs) (fixed_numbers ys) g below = absurd g
  gathered_value (ints xs) (vectors ys) g below = absurd g
  gathered_value (fixed_numbers xs) (truths ys) g below = absurd g
  gathered_value (fixed_numbers xs) (ints ys) g below = absurd g
  gathered_value (fixed_numbers xs) (vectors ys) g below = absurd g
  gathered_value (vectors xs) (truths ys) g below = absurd g
  gathered_value (vectors xs) (ints ys) g below = absurd g
  gathered_value (vectors xs) (fixed_numbers ys) g below = absurd g

pub gathered_kind : (one : Bool) (ts : List Taking) (before after : Values) → ValuesAreGathered one ts before after → kind_of_values after ≡ kind_of_values before
gathered_kind one ts (truths xs) (truths ys) g = refl
gathered_kind one ts (ints xs) (ints ys) g = refl
gathered_kind one ts (fixed_numbers xs) (fixed_numbers ys) g = refl
gathered_kind one ts (vectors xs) (vectors ys) g = refl
gathered_kind one ts (truths xs) (ints ys) g = absurd g
gathered_kind one ts (truths xs) (fixed_numbers ys) g = absurd g
gathered_kind one ts (truths xs) (vectors ys) g = absurd g
gathered_kind one ts (ints xs) (truths ys) g = absurd g
gathered_kind one ts (ints xs) (fixed_numbers ys) g = absurd g
gathered_kind one ts (ints xs) (vectors ys) g = absurd g
gathered_kind one ts (fixed_numbers xs) (truths ys) g = absurd g
gathered_kind one ts (fixed_numbers xs) (ints ys) g = absurd g
gathered_kind one ts (fixed_numbers xs) (vectors ys) g = absurd g
gathered_kind one ts (vectors xs) (truths ys) g = absurd g
gathered_kind one ts (vectors xs) (ints ys) g = absurd g
gathered_kind one ts (vectors xs) (fixed_numbers ys) g = absurd g

pub places_same : (a b : Place) → same_place a b ≡ true → a ≡ b
places_same a b h = same_true the_type (search rules) a b h
