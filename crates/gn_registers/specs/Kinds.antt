-- Values of a kind, and what they hold.
use Rattle.std.specs.Prelude.{◌≡◌, refl}
use Rattle.gn_value.specs.Rows.{truth_in, int_in, fixed_in, vector_in}
use Rattle.gn_value.specs.Values.{fx, kind_of}
use Rattle.gn_value.specs.declared.value.Value.{Value}
use Rattle.gn_value.specs.declared.value.Value.TheVariants.{Truth as truth, Int as int, Fixed as fixed, Vector as vector}
use Rattle.gn_value.specs.declared.value.ValueKind.TheVariants.{Truth, Int, Fixed, Vector}

-- a value of a kind is what it holds, as a value of that kind
pub truth_same : (v : Value) → kind_of v ≡ Truth → truth (truth_in v) ≡ v
truth_same (truth b) e = refl
truth_same (int n) e = cc
truth_same (fixed x) e = cc
truth_same (vector v) e = cc

pub int_same : (v : Value) → kind_of v ≡ Int → int (int_in v) ≡ v
int_same (truth b) e = cc
int_same (int n) e = refl
int_same (fixed x) e = cc
int_same (vector v) e = cc

pub fixed_same : (v : Value) → kind_of v ≡ Fixed → fixed (fx (fixed_in v)) ≡ v
fixed_same (truth b) e = cc
fixed_same (int n) e = cc
fixed_same (fixed x) e = refl
fixed_same (vector v) e = cc

pub vector_same : (v : Value) → kind_of v ≡ Vector → vector (vector_in v) ≡ v
vector_same (truth b) e = cc
vector_same (int n) e = cc
vector_same (fixed x) e = cc
vector_same (vector v) e = refl
