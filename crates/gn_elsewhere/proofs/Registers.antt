-- What is said of a register is said of its values.
use Rattle.std.proofs.Common.{◌≡◌, ℕ, refl}
use Rattle.gn_value.specs.declared.op.Register.{Register}
use Rattle.gn_value.specs.declared.op.Register.TheVariants.{Truth, Int, Fixed, Vector}
use Rattle.gn_value.specs.Registers.{register_kind, register_len, register_value}
use Rattle.gn_plain.specs.Columns.{kind_of_values, count_of_values, value_of}
use Rattle.gn_elsewhere.specs.Registers.{values_in}

pub kind_in : (r : Register) → kind_of_values (values_in r) ≡ register_kind r
kind_in (Truth v) = refl
kind_in (Int v) = refl
kind_in (Fixed v) = refl
kind_in (Vector v) = refl

pub count_in : (r : Register) → count_of_values (values_in r) ≡ register_len r
count_in (Truth v) = refl
count_in (Int v) = refl
count_in (Fixed v) = refl
count_in (Vector v) = refl

pub value_in : (r : Register) (i : ℕ) → value_of (values_in r) i ≡ register_value i r
value_in (Truth v) i = refl
value_in (Int v) i = refl
value_in (Fixed v) i = refl
value_in (Vector v) i = refl
