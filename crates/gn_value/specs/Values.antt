use Rattle.std.specs.Prelude.{◌+◌, ℕ, Bool, false, not, ◌&&◌, ℤ, pos, ◌+ℤ◌, ◌-ℤ◌, ◌*ℤ◌, int_lt, int_div, if◌then◌else◌}
use Rattle.std.specs.Ordering.{int_eq}
use Rattle.gn_root.specs.Roots.{root}
use Rattle.gn_value.specs.Arithmetic.{one, sat, floor_div, exact_product, mean_of, raw_truth, square}
use Rattle.gn_value.specs.declared.fixed.Fx.{Fx}
use Rattle.gn_value.specs.declared.vector.V3.{V3}
use Rattle.gn_value.specs.declared.value.Value.{Value}
use Rattle.gn_value.specs.declared.value.Value.TheVariants.{Truth as truth, Int as int, Fixed as fixed, Vector as vector}
use Rattle.gn_value.specs.declared.value.ValueKind.{ValueKind}
use Rattle.gn_value.specs.declared.value.ValueKind.TheVariants.{Truth, Int, Fixed, Vector}
use Rattle.gn_value.specs.declared.value.Place.{Place}
use Rattle.gn_value.specs.declared.value.Place.TheVariants.{Point, Edge, Face, Corner, Cloud, Instance}

-- the fixed number with a raw number, and the vector with three
abbrev pub fx : ℤ → Fx
fx raw = record { 0 = raw }

abbrev pub v3 : ℤ → ℤ → ℤ → V3
v3 x y z = record { x = fx x; y = fx y; z = fx z }

abbrev pub raw : Fx → ℤ
raw x = x.0

-- ---- vectors

abbrev pub by_component : (ℤ → ℤ → ℤ) → V3 → V3 → V3
by_component f a b = v3 (f a.x.0 b.x.0) (f a.y.0 b.y.0) (f a.z.0 b.z.0)

abbrev pub each_component : (ℤ → ℤ) → V3 → V3
each_component f a = v3 (f a.x.0) (f a.y.0) (f a.z.0)

-- three products, each rounded down by itself, added exactly
abbrev pub exact_dot : V3 → V3 → ℤ
exact_dot a b = exact_product a.x.0 b.x.0 +ℤ exact_product a.y.0 b.y.0 +ℤ exact_product a.z.0 b.z.0

abbrev pub dot_of : V3 → V3 → ℤ
dot_of a b = sat (exact_dot a b)

-- the difference of two products, each rounded down
abbrev pub crossed : ℤ → ℤ → ℤ → ℤ → ℤ
crossed a b c d = sat (exact_product a b -ℤ exact_product c d)

abbrev pub cross_of : V3 → V3 → V3
cross_of a b = v3 (crossed a.y.0 b.z.0 a.z.0 b.y.0) (crossed a.z.0 b.x.0 a.x.0 b.z.0) (crossed a.x.0 b.y.0 a.y.0 b.x.0)

-- the length as a raw number without bounds
unfoldable pub exact_length : V3 → ℕ
exact_length a = root (square a.x.0 + square a.y.0 + square a.z.0)

abbrev pub length_of : V3 → ℤ
length_of a = sat (pos (exact_length a))

-- a vector divided by its length; 0 for the zero vector
abbrev pub normalized : V3 → V3
normalized a = each_component (λ c. sat (floor_div (c *ℤ one) (pos (exact_length a)))) a

-- ---- kinds and conversions

abbrev pub kind_of : Value → ValueKind
kind_of (truth _) = Truth
kind_of (int _) = Int
kind_of (fixed _) = Fixed
kind_of (vector _) = Vector

abbrev pub zero_of : ValueKind → Value
zero_of Truth = truth false
zero_of Int = int (pos 0)
zero_of Fixed = fixed (fx (pos 0))
zero_of Vector = vector (v3 (pos 0) (pos 0) (pos 0))

-- the mean of a vector's components, which is in range as they are
abbrev pub component_mean : V3 → ℤ
component_mean v = sat (mean_of (v.x.0 +ℤ v.y.0 +ℤ v.z.0) 3)

abbrev pub is_zero : V3 → Bool
is_zero v = int_eq v.x.0 (pos 0) && int_eq v.y.0 (pos 0) && int_eq v.z.0 (pos 0)

-- a value as a truth, an integer, the raw number of a fixed number, and a vector
abbrev pub as_truth : Value → Bool
as_truth (truth b) = b
as_truth (int n) = int_lt (pos 0) n
as_truth (fixed x) = int_lt (pos 0) x.0
as_truth (vector v) = not (is_zero v)

abbrev pub as_int : Value → ℤ
as_int (truth b) = if b then pos 1 else pos 0
as_int (int n) = n
as_int (fixed x) = int_div x.0 one
as_int (vector v) = int_div (component_mean v) one

abbrev pub as_fixed : Value → ℤ
as_fixed (truth b) = raw_truth b
as_fixed (int n) = n *ℤ one
as_fixed (fixed x) = x.0
as_fixed (vector v) = component_mean v

abbrev pub as_vector : Value → V3
as_vector (truth b) = v3 (raw_truth b) (raw_truth b) (raw_truth b)
as_vector (int n) = v3 (n *ℤ one) (n *ℤ one) (n *ℤ one)
as_vector (fixed x) = v3 x.0 x.0 x.0
as_vector (vector v) = v

-- a value of another kind
unfoldable pub converted : Value → ValueKind → Value
converted value Truth = truth (as_truth value)
converted value Int = int (as_int value)
converted value Fixed = fixed (fx (as_fixed value))
converted value Vector = vector (as_vector value)

-- ---- the numbers of kinds and of places

-- the number by which a conversion names the kind that it leads to
abbrev pub position_of : ValueKind → ℕ
position_of Truth = 0
position_of Int = 1
position_of Fixed = 2
position_of Vector = 3

-- the number by which places are ordered: those of the mesh, the cloud's points, and the instances
abbrev pub position_of_place : Place → ℕ
position_of_place Point = 0
position_of_place Edge = 1
position_of_place Face = 2
position_of_place Corner = 3
position_of_place Cloud = 4
position_of_place Instance = 5
