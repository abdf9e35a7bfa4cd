use Rattle.std.proofs.Common.{◌≡◌, ◌∷◌, map, take}
use Rattle.gn_attr.specs.Columns.{plain_columns}
use Rattle.gn_geometry.specs.Geometries.{plain_geometry}
use Rattle.gn_pieces.specs.Views.{geometry_of}
use Rattle.gn_inst.specs.Realizing.{placed_parts}
use Rattle.gn_inst.proofs.realizing.placed_views.Given as goal

abbrev pub invariant-loop-item : goal.invariant-loop-item
invariant-loop-item l = map geometry_of l.views.items ≡ plain_geometry l.geometry ∷ placed_parts (plain_columns l.columns) 0 (take l.item l.items) (map plain_geometry l.parts)
