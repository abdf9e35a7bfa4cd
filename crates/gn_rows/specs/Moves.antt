-- Set Position on a mesh alone, where its fields are constants.
use Rattle.std.specs.Prelude.{◌≡◌, ℕ, Bool, List, length, map, Option, None, Some, if◌then◌else◌}
use Rattle.std.specs.Option.{option_map_or}
use Rattle.gn_value.specs.declared.vector.V3.{V3}
use Rattle.gn_value.specs.declared.value.Value.{Value}
use Rattle.gn_value.specs.declared.value.Value.TheVariants.{Vector as vector}
use Rattle.gn_plain.specs.Geometry.{Shape}
use Rattle.gn_plain.specs.Contexts.{position}
use Rattle.gn_plain.specs.Fields.{Expr, constant, input}
use Rattle.gn_rows.specs.Carried.{value_through, field_through}
use Rattle.gn_rows.specs.SetPosition.{vector_sum}

-- where a selected point goes: to a position, or from its own if none is given, and by an offset
abbrev pub moved_point : Bool → Option V3 → V3 → V3 → V3
moved_point selected to by point = if selected then vector_sum (option_map_or (λ p. p) to point) by else point

abbrev pub moved_shape : Bool → Option V3 → V3 → Shape → Shape
moved_shape selected to by s = record s { points = map (moved_point selected to by) s.points }

module _ {S : Type 0} where
  -- the field is a constant, which is that value after this many conversions
  abbrev pub IsWorth : Expr S → Value → ℕ → Type 0
  IsWorth e v n = (c : Value) × (kinds : List ℕ) × (e ≡ field_through (constant c) kinds) × (v ≡ value_through c kinds) × (n ≡ length kinds)

  -- the field is a position, or each point's own if none is given
  abbrev pub IsTarget : Expr S → Option V3 → ℕ → Type 0
  IsTarget e None n = (e ≡ input position) × (n ≡ 0)
  IsTarget e (Some p) n = IsWorth e (vector p) n
