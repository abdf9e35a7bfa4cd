-- Why a field was not made.
use Rattle.std.specs.Prelude.{◌≡◌, ℕ, ◌<◌}
use Rattle.gn_field.specs.declared.field.FieldFault.{FieldFault}
use Rattle.gn_field.specs.declared.field.FieldFault.TheVariants.{TooMany, Memory}

-- more than 4,096 different subtrees, with their number; want of memory has no cause
abbrev pub IsFieldFault : ℕ → FieldFault → Type 0
IsFieldFault count (TooMany distinct) = (4096 < count) × (distinct ≡ count)
IsFieldFault count Memory = Unit {0}
