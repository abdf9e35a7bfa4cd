-- Why fields have no tape.
use Rattle.std.specs.Prelude.{◌≡◌, ℕ, ◌<◌}
use Rattle.gn_proc.specs.declared.tape.TapeFault.{TapeFault}
use Rattle.gn_proc.specs.declared.tape.TapeFault.TheVariants.{TooMany, Memory}

-- more than 4,096 different subtrees, with their number; want of memory has no cause
abbrev pub IsTapeFault : ℕ → TapeFault → Type 0
IsTapeFault count (TooMany distinct) = (4096 < count) × (distinct ≡ count)
IsTapeFault count Memory = Unit {0}
