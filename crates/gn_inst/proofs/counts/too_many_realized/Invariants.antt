use Rattle.std.proofs.Common.{◌≡◌, drop}
use Rattle.gn_plain.specs.Geometry.{count}
use Rattle.gn_geometry.specs.Geometries.{plain_geometry}
use Rattle.gn_joins.specs.Limits.{first_over}
use Rattle.gn_joins.specs.Realized.{realized}
use Rattle.gn_inst.proofs.counts.too_many_realized.Given as goal

-- what is found from here on is found from the start on
abbrev pub invariant-loop-place : goal.invariant-loop-place
invariant-loop-place l =
    let counts = count (realized (plain_geometry l.geometry)) in
    first_over counts (drop l.place-index l.place-items) ≡ first_over counts l.place-items
