use Rattle.std.proofs.Common.{◌≡◌, ◌+◌, ◌*◌, map, take}
use Rattle.gn_geometry.specs.Geometries.{node_count}
use Rattle.gn_inst.specs.Realizing.{capped_count}
use Rattle.gn_inst.proofs.counts.+counts.Given as goal

abbrev pub decreases-part_counts : goal.decreases-part_counts
decreases-part_counts l = node_count l.geometry.now * 2

abbrev pub decreases-realized_count : goal.decreases-realized_count
decreases-realized_count l = node_count l.geometry.now * 2 + 1

abbrev pub invariant-part_counts-loop-part : goal.invariant-part_counts-loop-part
invariant-part_counts-loop-part l = l.counts.items ≡ map (capped_count l.place) (take l.part-index l.parts)
