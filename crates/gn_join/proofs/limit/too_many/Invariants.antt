use Rattle.std.proofs.Common.{◌≡◌, drop, map}
use Rattle.gn_geometry.specs.Geometries.{plain_geometry}
use Rattle.gn_joins.specs.Limits.{count_together, first_over}
use Rattle.gn_join.proofs.limit.too_many.Given as goal

-- what is found from here on is found from the start on
abbrev pub invariant-loop-place : goal.invariant-loop-place
invariant-loop-place l =
    let counts = count_together (map plain_geometry l.geometries) in
    first_over counts (drop l.place-index l.place-items) ≡ first_over counts l.place-items
