use Rattle.std.proofs.Common.{◌≡◌, map, take}
use Rattle.gn_geometry.specs.Geometries.{plain_geometry}
use Rattle.gn_pieces.specs.Views.{geometry_of}
use Rattle.gn_join.proofs.joining.views_of.Given as goal

abbrev pub invariant-loop-geometry : goal.invariant-loop-geometry
invariant-loop-geometry l = map geometry_of l.views.items ≡ map plain_geometry (take l.geometry-index l.parts)
