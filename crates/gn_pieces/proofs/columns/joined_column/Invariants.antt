use Rattle.std.proofs.Common.{◌≡◌, take}
use Rattle.std.specs.List.{flat_map}
use Rattle.gn_attr.specs.Names.{plain_name}
use Rattle.gn_joins.specs.Joins.{part_values, values_in}
use Rattle.gn_pieces.specs.Behind.{values_of}
use Rattle.gn_pieces.specs.Views.{parts_of}
use Rattle.gn_pieces.proofs.columns.joined_column.Given as goal

-- the values of the geometries that were gone over
abbrev pub invariant-loop-view : goal.invariant-loop-view
invariant-loop-view l =
    values_of l.values ≡ values_in l.fn.kind (flat_map (part_values (record { name = plain_name l.name; place = l.place; column = l.fn.kind })) (parts_of l.component (take l.view-index l.views)))
