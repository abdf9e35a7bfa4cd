use Rattle.std.proofs.Common.{◌≡◌, [], None, map, take}
use Rattle.std.specs.List.{flat_map, fold}
use Rattle.gn_attr.specs.Columns.{plain_columns}
use Rattle.gn_pieces.specs.Heads.{head_on, with_joined}
use Rattle.gn_pieces.specs.Views.{parts_of, AreColumnsOf}
use Rattle.gn_pieces.proofs.columns.joined_columns.Given as goal

-- the columns of the geometries that were gone over
abbrev pub invariant-loop-view : goal.invariant-loop-view
invariant-loop-view l =
    let parts = parts_of l.component l.views in
    (plain_columns l.joined ≡ fold (with_joined parts) [] (map (head_on None) (flat_map (λ p. p.columns) (parts_of l.component (take l.view-index l.views))))) × AreColumnsOf l.component l.views l.joined
