-- Vertices in a row, each joined to the next.
use Rattle.std.specs.Prelude.{ℕ, ℤ, pos, ◌+ℤ◌, ◌*ℤ◌, [], map}
use Rattle.std.specs.List.{range_with_len}
use Rattle.gn_value.specs.Arithmetic.{sat}
use Rattle.gn_value.specs.Values.{by_component}
use Rattle.gn_value.specs.declared.vector.V3.{V3}
use Rattle.gn_plain.specs.Geometry.{Shape}
use Rattle.gn_plain.specs.Edges.{edges_along}

-- the exact sum of the start and as many offsets, brought into range once
abbrev pub point_of_line : V3 → V3 → ℕ → V3
point_of_line start offset k = by_component (λ (a b : ℤ). sat (a +ℤ (pos k *ℤ b))) start offset

abbrev pub line : ℕ → V3 → V3 → Shape
line count start offset = record { points = map (point_of_line start offset) (range_with_len 0 count); edges = edges_along (range_with_len 0 count); faces = [] }
