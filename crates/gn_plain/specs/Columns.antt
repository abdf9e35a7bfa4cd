-- Columns: under a name, values of one kind for the elements of a place.
use Rattle.std.specs.Prelude.{ℕ, ◌==◌, Bool, false, ◌&&◌, ℤ, pos, List, [], ◌∷◌, length, map, Option, None, Some, slice_index_or, bytes_eq, if◌then◌else◌}
use Rattle.gn_value.specs.Values.{fx, v3}
use Rattle.gn_value.specs.declared.fixed.Fx.{Fx}
use Rattle.gn_value.specs.declared.vector.V3.{V3}
use Rattle.gn_value.specs.declared.value.Value.{Value}
use Rattle.gn_value.specs.declared.value.Value.TheVariants.{Truth as truth, Int as int, Fixed as fixed, Vector as vector}
use Rattle.gn_value.specs.declared.value.ValueKind.{ValueKind}
use Rattle.gn_value.specs.declared.value.ValueKind.TheVariants.{Truth, Int, Fixed, Vector}
use Rattle.gn_value.specs.declared.value.Place.{Place}
use Rattle.gn_node_set.specs.Paths.{Path, same_path}

-- a text, or without one the path of the node that made the column and the number of that node's output
pub data Name : Type 0 where
  named : List ℕ → Name
  anonymous : Path → ℕ → Name

abbrev pub same_name : Name → Name → Bool
same_name (named a) (named b) = bytes_eq a b
same_name (anonymous p s) (anonymous q t) = same_path p q && s == t
same_name _ _ = false

-- values of one kind, which is known where there are none too
pub data Values : Type 0 where
  truths : List Bool → Values
  ints : List ℤ → Values
  fixed_numbers : List Fx → Values
  vectors : List V3 → Values

abbrev pub kind_of_values : Values → ValueKind
kind_of_values (truths xs) = Truth
kind_of_values (ints xs) = Int
kind_of_values (fixed_numbers xs) = Fixed
kind_of_values (vectors xs) = Vector

abbrev pub count_of_values : Values → ℕ
count_of_values (truths xs) = length xs
count_of_values (ints xs) = length xs
count_of_values (fixed_numbers xs) = length xs
count_of_values (vectors xs) = length xs

-- the value of an element; past the end it is zero
abbrev pub value_of : Values → ℕ → Value
value_of (truths xs) i = truth (slice_index_or xs i false)
value_of (ints xs) i = int (slice_index_or xs i (pos 0))
value_of (fixed_numbers xs) i = fixed (slice_index_or xs i (fx (pos 0)))
value_of (vectors xs) i = vector (slice_index_or xs i (v3 (pos 0) (pos 0) (pos 0)))

-- a member of an ordered list of columns, over what a column is kept as
pub record Entry (C : Type 0) : Type 0 where
  pub name : Name
  pub place : Place
  pub column : C

abbrev pub Column : Type 0
Column = Entry Values

module _ {C : Type 0} where
  abbrev pub entry_named : Name → List (Entry C) → Option (Entry C)
  entry_named name [] = None
  entry_named name (e ∷ es) = if same_name e.name name then Some e else entry_named name es

  -- a new name goes last, a known one keeps its number
  abbrev pub with_entry : Entry C → List (Entry C) → List (Entry C)
  with_entry x [] = x ∷ []
  with_entry x (e ∷ es) = if same_name e.name x.name then record { name = e.name; place = x.place; column = x.column } ∷ es else e ∷ with_entry x es

  abbrev pub without_entry : Name → List (Entry C) → List (Entry C)
  without_entry name [] = []
  without_entry name (e ∷ es) = if same_name e.name name then es else e ∷ without_entry name es

-- the same names and places over other columns
abbrev pub over : {C D : Type 0} → (C → D) → List (Entry C) → List (Entry D)
over f es = map (λ e. record { name = e.name; place = e.place; column = f e.column }) es
