-- Values that are put at some elements.
use Rattle.std.specs.Prelude.{◌≡◌, ℕ, ◌<◌, List, if◌then◌else◌}
use Rattle.gn_value.specs.declared.value.Value.{Value}
use Rattle.gn_mask.specs.Numbers.{is_among}

-- of the elements below a count, some have their value, and the others what they had before
abbrev pub IsPut : List ℕ → (ℕ → Value) → (ℕ → Value) → (ℕ → Value) → ℕ → Type 0
IsPut ns value before after count = (i : ℕ) → i < count → after i ≡ (if is_among ns i then value i else before i)
