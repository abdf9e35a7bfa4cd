-- Values of registers.
use Rattle.std.proofs.Common.{◌≡◌, ℕ, refl}
use Rattle.gn_value.specs.declared.op.Register.{Register}
use Rattle.gn_value.specs.declared.op.Register.TheVariants.{Truth, Int, Fixed, Vector}
use Rattle.gn_value.specs.Values.{kind_of}
use Rattle.gn_value.specs.Registers.{register_kind, register_value}

-- the values of a register are of its kind
pub kind_of_value : (k : ℕ) (r : Register) → kind_of (register_value k r) ≡ register_kind r
kind_of_value k (Truth values) = refl
kind_of_value k (Int values) = refl
kind_of_value k (Fixed values) = refl
kind_of_value k (Vector values) = refl
