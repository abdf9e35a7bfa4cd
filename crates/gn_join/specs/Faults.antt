-- Why no geometry is made of others.
use Rattle.std.specs.Prelude.{◌≡◌, ℕ, Option, None, Some}
use Rattle.gn_value.specs.declared.value.Place.{Place}
use Rattle.gn_join.specs.declared.fault.SizeFault.{SizeFault}
use Rattle.gn_join.specs.declared.fault.SizeFault.TheVariants.{Limit, Memory}

-- the place that would have too many elements, with their number; want of memory comes only where no place would
abbrev pub IsSizeFault : Option (Place × ℕ) → SizeFault → Type 0
IsSizeFault over (Limit place elements) = over ≡ Some (place, elements)
IsSizeFault over Memory = over ≡ None

-- the same, where memory is needed to count
abbrev pub IsLimit : Option (Place × ℕ) → SizeFault → Type 0
IsLimit over (Limit place elements) = over ≡ Some (place, elements)
IsLimit over Memory = Unit {0}
