use Rattle.std.specs.Prelude.{◌≤◌, ◌<◌, ◌*◌, ◌+◌, ◌^◌, ℕ, zero, suc, Bool, ℤ, pos, ◌+ℤ◌, ◌-ℤ◌, ◌*ℤ◌, neg_ℤ, int_lt, nat_le, unsigned_abs, if◌then◌else◌, List, fold, bit_xor, ◌/◌, ◌%◌}
use Rattle.std.specs.Int.{saturate_signed, w32, w64, int_div_euclid}
use Rattle.gn_root.specs.Roots.{root}

-- Numbers here are whole and have no bounds. A fixed number goes by its raw number, which is
-- 2 ^ 32 times what it stands for.

-- the raw number of 1
abbrev pub one : ℤ
one = pos (2 ^ 32)

-- the raw number of a truth
abbrev pub raw_truth : Bool → ℤ
raw_truth b = if b then one else pos 0

-- a whole number brought into the range of a raw number
abbrev pub sat : ℤ → ℤ
sat z = saturate_signed w64 z

-- a whole number brought into the range of an integer
abbrev pub sat_int : ℤ → ℤ
sat_int z = saturate_signed w32 z

-- the quotient rounded down; 0 where the divisor is 0
abbrev pub floor_div : ℤ → ℤ → ℤ
floor_div a b = if int_lt (pos 0) b then int_div_euclid a b
    else (if int_lt b (pos 0) then int_div_euclid (neg_ℤ a) (neg_ℤ b) else pos 0)

abbrev pub sum_of : ℤ → ℤ → ℤ
sum_of a b = sat (a +ℤ b)

abbrev pub difference_of : ℤ → ℤ → ℤ
difference_of a b = sat (a -ℤ b)

-- the product of two raw numbers as a raw number, rounded down and without bounds
unfoldable pub exact_product : ℤ → ℤ → ℤ
exact_product a b = floor_div (a *ℤ b) one

abbrev pub product_of : ℤ → ℤ → ℤ
product_of a b = sat (exact_product a b)

abbrev pub quotient_of : ℤ → ℤ → ℤ
quotient_of a b = sat (floor_div (a *ℤ one) b)

-- what the quotient rounded down leaves, which has the sign of the divisor; 0 where that is 0
abbrev pub modulo_of : ℤ → ℤ → ℤ
modulo_of a (pos zero) = pos 0
modulo_of a b = a -ℤ (b *ℤ floor_div a b)

-- the multiple of 1 at or below a number, and that at or above it
abbrev pub floor_of : ℤ → ℤ
floor_of a = floor_div a one *ℤ one

abbrev pub ceil_of : ℤ → ℤ
ceil_of a = sat (neg_ℤ (floor_div (neg_ℤ a) one) *ℤ one)

-- the absolute value, brought into range
abbrev pub magnitude_of : ℤ → ℤ
magnitude_of a = sat (pos (unsigned_abs a))

abbrev pub square : ℤ → ℕ
square a = unsigned_abs a * unsigned_abs a

-- the square root, rounded down; 0 for what is below 0
abbrev pub root_of : ℤ → ℤ
root_of a = if int_lt a (pos 0) then pos 0 else pos (root (unsigned_abs a * 2 ^ 32))

-- the exact sum of what f gives of each member
abbrev pub total_by : {A : Type 0} → (A → ℤ) → List A → ℤ
total_by f xs = fold (λ sum x. sum +ℤ f x) (pos 0) xs

-- an exact sum divided by the count, rounded down; 0 for no values
abbrev pub mean_of : ℤ → ℕ → ℤ
mean_of sum count = floor_div sum (pos count)

-- the number z with its bits from `by` upward folded onto those below by exclusive or
unfoldable pub folded : ℕ → ℕ → ℕ
folded by z = bit_xor z (z / 2 ^ by)

-- a product modulo 2 ^ 64
abbrev pub product_mod : ℕ → ℕ → ℕ
product_mod a b = (a * b) % 2 ^ 64

-- a number below 2 ^ 64 whose bits are mixed
unfoldable pub mixed : ℕ → ℕ
mixed z = folded 31 (product_mod (folded 27 (product_mod (folded 30 z) 0xBF58476D1CE4E5B9)) 0x94D049BB133111EB)
