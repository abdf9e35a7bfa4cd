-- The arguments of an operation: the values of registers at one position.
use Rattle.std.specs.Prelude.{ℕ, List, map}
use Rattle.gn_value.specs.Registers.{register_value}
use Rattle.gn_value.specs.Rows.{value_at}
use Rattle.gn_value.specs.declared.value.Value.{Value}
use Rattle.gn_value.specs.declared.op.Register.{Register}

-- the values of registers at a position, and the one with a number among them
abbrev pub arguments : ℕ → List Register → List Value
arguments k registers = map (register_value k) registers

abbrev pub argument : ℕ → List Register → ℕ → Value
argument k registers at = value_at (arguments k registers) at
