-- Each function calls those below it on what is in its argument.
use Rattle.std.proofs.Common.{◌+◌, ◌*◌}
use Rattle.gn_geometry.specs.Geometries.{node_count, sizes_in, sizes, parts_of}
use Rattle.gn_geometry.proofs.PartTwins.{IsOn}
use Rattle.gn_geometry.proofs.twins.+twins.Given as goal

abbrev pub decreases-second_geometry : goal.decreases-second_geometry
decreases-second_geometry g l = node_count l.geometry.now * 2

abbrev pub decreases-second_instances : goal.decreases-second_instances
decreases-second_instances g l = sizes_in l.instances.now * 2 + 1

abbrev pub decreases-second_parts : goal.decreases-second_parts
decreases-second_parts g l = sizes (parts_of l.parts.now.items) * 2 + 1

-- the parts that were gone over have twins, and are noted
abbrev pub invariant-second_parts-loop-at : goal.invariant-second_parts-loop-at
invariant-second_parts-loop-at g l = IsOn l.fn.parts.items l.parts.items l.twins.items l.at l.fn.meter l.meter
