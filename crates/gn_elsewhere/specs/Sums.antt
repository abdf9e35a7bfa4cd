-- Sums over the elements of a group.
use Rattle.std.specs.Prelude.{◌≡◌, ◌↔◌, ℕ, ◌==◌, ◌<◌, ◌&&◌, ◌*◌, ◌^◌, ◌≤◌, ℤ, List, length, filter, slice_index, unsigned_abs}
use Rattle.std.specs.List.{range_with_len}
use Rattle.gn_value.specs.Arithmetic.{total_by}
use Rattle.gn_value.specs.declared.vector.V3.{V3}
use Rattle.gn_value.specs.declared.op.Axis.TheVariants.{X, Y, Z}
use Rattle.gn_plain.specs.Fields.{Part, is_in}
use Rattle.gn_interp.specs.Numbers.{components, fixed_number, number_at}

-- elements have one number exactly where they are of one group, and each number is below a count
pub record AreNumbered (groups : List ℤ) (count : ℕ) (of : List ℕ) : Type 0 where
  pub long : length of ≡ length groups
  pub within : (i : ℕ) → i < length of → slice_index of i < count
  pub same : (i j : ℕ) → i < length groups → j < length groups → ((slice_index of i ≡ slice_index of j) ↔ (number_at groups i ≡ number_at groups j))

-- those of the elements below a count that the sum for an element is over
abbrev pub members : Part → List ℕ → ℕ → ℕ → List ℕ
members part of count k = filter (λ j. is_in part j k && (slice_index of j == slice_index of k)) (range_with_len 0 count)

abbrev pub total_at : Part → List ℤ → List ℕ → ℕ → ℤ
total_at part numbers of k = total_by (number_at numbers) (members part of (length of) k)

-- the sum of each group's numbers among the first elements
abbrev pub sum_of_group : List ℤ → List ℕ → ℕ → ℕ → ℤ
sum_of_group numbers of count g = total_by (number_at numbers) (filter (λ j. slice_index of j == g) (range_with_len 0 count))

-- sums of the groups over the first elements, none of which is too large
pub record AreSums (numbers : List ℤ) (of : List ℕ) (count : ℕ) (sums : List ℤ) : Type 0 where
  pub each : (g : ℕ) → g < length sums → number_at sums g ≡ sum_of_group numbers of count g
  pub bounded : (g : ℕ) → unsigned_abs (number_at sums g) ≤ 2 ^ 63 * count

abbrev pub AreTotals : Part → List ℤ → List ℕ → List ℤ → Type 0
AreTotals part numbers of totals = (k : ℕ) → k < length of → number_at totals k ≡ total_at part numbers of k

-- the sums by component
abbrev pub vector_total : Part → List V3 → List ℕ → ℕ → V3
vector_total part values of k =
    record { x = fixed_number (total_at part (components X values) of k); y = fixed_number (total_at part (components Y values) of k); z = fixed_number (total_at part (components Z values) of k) }
