-- Values that are gathered by the elements that take them.
use Rattle.std.specs.Prelude.{◌≡◌, ℕ, ◌-◌, ◌<◌, Bool, true, false, ◌&&◌, ◌||◌, ℤ, pos, List, [], ◌∷◌, length, map, Option, Some, None, slice_index_or}
use Rattle.gn_value.specs.Arithmetic.{mean_of, sat, sat_int, total_by}
use Rattle.gn_value.specs.Values.{fx, raw}
use Rattle.gn_value.specs.declared.fixed.Fx.{Fx}
use Rattle.gn_value.specs.declared.vector.V3.{V3}
use Rattle.gn_value.specs.declared.value.Value.{Value}
use Rattle.gn_value.specs.declared.op.Axis.{Axis}
use Rattle.gn_value.specs.declared.op.Axis.TheVariants.{X, Y, Z}
use Rattle.gn_value.specs.declared.value.Place.{Place}
use Rattle.gn_value.specs.declared.value.Place.TheVariants.{Point, Edge, Face, Corner}
use Rattle.gn_plain.specs.Topology.{Topology}
use Rattle.gn_plain.specs.Columns.{Values, truths, ints, fixed_numbers, vectors, kind_of_values, count_of_values, value_of}
use Rattle.gn_plain.specs.Geometry.{Shape}
use Rattle.gn_plain.specs.Interpolation.{Taking, taken_by, truth_of, interpolated}
use Rattle.gn_interp.specs.Numbers.{components, fixed_number, number_at}
use Rattle.gn_interp.specs.declared.gather.Total.{Total}

-- how many elements a place has
abbrev pub count_on : Topology → Place → ℕ
count_on t Point = t.points
count_on t Edge = length t.edges
count_on t Face = length t.faces - 1
count_on t Corner = length t.corner_points
count_on t _ = 0

-- the truth of an element; past the end it is false
abbrev pub truth_at : List Bool → ℕ → Bool
truth_at values i = slice_index_or values i false

-- each element of a list hangs in one way on what it takes
abbrev pub AreGathered : {A : Type 0} → (List ℕ → A) → List Taking → List A → Type 0
AreGathered {A} give takings xs = (i : ℕ) (d : A) → i < length xs → slice_index_or xs i d ≡ give (taken_by i takings)

abbrev pub total_of : List ℤ → List ℕ → Total
total_of values sources = record { sum = total_by (number_at values) sources; count = length sources }

abbrev pub mean_over : List ℤ → List ℕ → ℤ
mean_over values sources = mean_of (total_by (number_at values) sources) (length sources)

-- the truth of some values, where there are some
abbrev pub some_truth : Bool → List Bool → Option Bool
some_truth one [] = None
some_truth one (b ∷ bs) = Some (truth_of one (b ∷ bs))

abbrev pub some_truth_over : Bool → List Bool → List ℕ → Option Bool
some_truth_over one values sources = some_truth one (map (truth_at values) sources)

abbrev pub truth_over : Bool → List Bool → List ℕ → Bool
truth_over one values sources = truth_of one (map (truth_at values) sources)

-- the mean as an integer, and as a fixed number
abbrev pub integer_over : List ℤ → List ℕ → ℤ
integer_over values sources = sat_int (mean_over values sources)

abbrev pub fixed_over : List ℤ → List ℕ → Fx
fixed_over values sources = fixed_number (mean_over values sources)

-- the mean by component
abbrev pub vector_over : List V3 → List ℕ → V3
vector_over values sources = record { x = fixed_over (components X values) sources; y = fixed_over (components Y values) sources; z = fixed_over (components Z values) sources }

-- a truth behind others
abbrev pub joined_truth : Bool → Option Bool → Bool → Bool
joined_truth one None b = b
joined_truth true (Some a) b = a || b
joined_truth false (Some a) b = a && b

-- the values of a kind, gathered
abbrev pub ValuesAreGathered : Bool → List Taking → Values → Values → Type 0
ValuesAreGathered one takings (truths xs) (truths ys) = AreGathered (truth_over one xs) takings ys
ValuesAreGathered one takings (ints xs) (ints ys) = AreGathered (integer_over xs) takings ys
ValuesAreGathered one takings (fixed_numbers xs) (fixed_numbers ys) = AreGathered (fixed_over (map raw xs)) takings ys
ValuesAreGathered one takings (vectors xs) (vectors ys) = AreGathered (vector_over xs) takings ys
ValuesAreGathered one takings _ _ = ⊥

-- values by number are those of a list up to its end, and anything past it
abbrev pub Extends : Values → (ℕ → Value) → Type 0
Extends values value = (j : ℕ) → j < count_of_values values → value j ≡ value_of values j

-- values on a place are those of another place, interpolated, and nothing past the end of these is read
pub record IsAdapted (s : Shape) (from to : Place) (count : ℕ) (before after : Values) : Type 0 where
  pub kind : kind_of_values after ≡ kind_of_values before
  pub many : count_of_values after ≡ count
  pub values : (value : ℕ → Value) → Extends before value → (i : ℕ) → i < count → value_of after i ≡ interpolated s (kind_of_values before) from to value i
