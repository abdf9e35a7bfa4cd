use Rattle.std.proofs.Common.{◌≡◌, ◌+◌, ◌*◌, length}
use Rattle.gn_geometry.specs.Geometries.{node_count}
use Rattle.gn_inst.proofs.RealizedSteps.{AreDone}
use Rattle.gn_inst.proofs.realizing.+realizing.Given as goal

abbrev pub decreases-realized_part : goal.decreases-realized_part
decreases-realized_part l = node_count l.part.now * 3 + 2

abbrev pub decreases-realized_parts : goal.decreases-realized_parts
decreases-realized_parts l = node_count l.geometry.now * 3

abbrev pub decreases-realized : goal.decreases-realized
decreases-realized l = node_count l.geometry.now * 3 + 1

-- the parts that were gone over are realised where they are named
abbrev pub invariant-realized_parts-loop-at : goal.invariant-realized_parts-loop-at
invariant-realized_parts-loop-at l = (length l.all.items ≡ l.at) × AreDone l.geometry l.all.items l.at
