-- Values that are picked from a list of one kind.
use Rattle.std.proofs.Common.{◌≡◌, ◌∙◌, ℕ, Bool, false, ℤ, pos, List, [], ◌∷◌, map, refl, ap}
use Rattle.std.specs.Prelude.{slice_index_or}
use Rattle.gn_value.specs.Values.{fx, v3, as_truth, as_int, as_fixed, as_vector}
use Rattle.gn_value.specs.declared.fixed.Fx.{Fx}
use Rattle.gn_value.specs.declared.vector.V3.{V3}
use Rattle.gn_value.specs.declared.value.Value.{Value}
use Rattle.gn_plain.specs.Columns.{truths, ints, fixed_numbers, vectors, value_of}
use Rattle.gn_geometry_rows.specs.Picked.{picked}

-- each member by way of a value
by_values : {X : Type 0} (f : ℕ → X) (g : ℕ → Value) (h : Value → X) → ((k : ℕ) → f k ≡ h (g k)) → (ns : List ℕ) → map f ns ≡ map h (map g ns)
by_values f g h same [] = refl
by_values f g h same (n ∷ ns) = λ i. same n i ∷ by_values f g h same ns i

pub truths_picked : (xs ys : List Bool) (ns : List ℕ) → ys ≡ map (λ k. slice_index_or xs k false) ns → truths ys ≡ picked ns (truths xs)
truths_picked xs ys ns are = ap truths (are ∙ by_values (λ k. slice_index_or xs k false) (value_of (truths xs)) as_truth (λ k. refl) ns)

pub ints_picked : (xs ys : List ℤ) (ns : List ℕ) → ys ≡ map (λ k. slice_index_or xs k (pos 0)) ns → ints ys ≡ picked ns (ints xs)
ints_picked xs ys ns are = ap ints (are ∙ by_values (λ k. slice_index_or xs k (pos 0)) (value_of (ints xs)) as_int (λ k. refl) ns)

pub fixed_picked : (xs ys : List Fx) (ns : List ℕ) → ys ≡ map (λ k. slice_index_or xs k (fx (pos 0))) ns → fixed_numbers ys ≡ picked ns (fixed_numbers xs)
fixed_picked xs ys ns are = ap fixed_numbers (are ∙ by_values (λ k. slice_index_or xs k (fx (pos 0))) (value_of (fixed_numbers xs)) (λ v. fx (as_fixed v)) (λ k. refl) ns)

pub vectors_picked : (xs ys : List V3) (ns : List ℕ) → ys ≡ map (λ k. slice_index_or xs k (v3 (pos 0) (pos 0) (pos 0))) ns → vectors ys ≡ picked ns (vectors xs)
vectors_picked xs ys ns are = ap vectors (are ∙ by_values (λ k. slice_index_or xs k (v3 (pos 0) (pos 0) (pos 0))) (value_of (vectors xs)) as_vector (λ k. refl) ns)
