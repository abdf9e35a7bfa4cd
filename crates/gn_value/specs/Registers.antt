use Rattle.std.specs.Prelude.{ℕ, false, pos, length, List, slice_index_or, slice_get, option_to_list, flat_map}
use Rattle.gn_value.specs.Values.{fx, v3}
use Rattle.gn_value.specs.declared.value.Value.{Value}
use Rattle.gn_value.specs.declared.value.Value.TheVariants.{Truth as truth, Int as int, Fixed as fixed, Vector as vector}
use Rattle.gn_value.specs.declared.value.ValueKind.{ValueKind}
use Rattle.gn_value.specs.declared.value.ValueKind.TheVariants as k
use Rattle.gn_value.specs.declared.op.Register.{Register}
use Rattle.gn_value.specs.declared.op.Register.TheVariants.{Truth, Int, Fixed, Vector}

-- the kind of a register's values, how many there are, and the value at a position
abbrev pub register_kind : Register → ValueKind
register_kind (Truth _) = k.Truth
register_kind (Int _) = k.Int
register_kind (Fixed _) = k.Fixed
register_kind (Vector _) = k.Vector

abbrev pub register_len : Register → ℕ
register_len (Truth values) = length values.items
register_len (Int values) = length values.items
register_len (Fixed values) = length values.items
register_len (Vector values) = length values.items

abbrev pub register_value : ℕ → Register → Value
register_value at (Truth values) = truth (slice_index_or values.items at false)
register_value at (Int values) = int (slice_index_or values.items at (pos 0))
register_value at (Fixed values) = fixed (slice_index_or values.items at (fx (pos 0)))
register_value at (Vector values) = vector (slice_index_or values.items at (v3 (pos 0) (pos 0) (pos 0)))

-- the registers that numbers name, in order
abbrev pub registers_named : List Register → List ℕ → List Register
registers_named registers numbers = flat_map (λ number. option_to_list (slice_get registers number)) numbers
