use Rattle.std.proofs.Common.{◌≡◌, map, take}
use Rattle.std.specs.List.{flat_map}
use Rattle.gn_pieces.specs.Views.{geometry_of}
use Rattle.gn_pieces.proofs.shapes.joined_points.Given as goal

abbrev pub invariant-loop-view : goal.invariant-loop-view
invariant-loop-view l = l.points.items ≡ flat_map (λ g. g.cloud.points) (map geometry_of (take l.view-index l.views))
