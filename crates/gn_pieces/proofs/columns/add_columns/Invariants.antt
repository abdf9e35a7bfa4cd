use Rattle.std.proofs.Common.{◌≡◌, map, take}
use Rattle.std.specs.List.{fold}
use Rattle.gn_attr.specs.Columns.{plain_columns}
use Rattle.gn_pieces.specs.Heads.{head_on, with_joined}
use Rattle.gn_pieces.specs.Views.{parts_of, AreColumnsOf}
use Rattle.gn_pieces.proofs.columns.add_columns.Given as goal

-- the names that were gone over are there
abbrev pub invariant-loop-at : goal.invariant-loop-at
invariant-loop-at l =
    (plain_columns l.joined ≡ fold (with_joined (parts_of l.component l.views)) (plain_columns l.fn.joined) (map (head_on l.on) (plain_columns (take l.at l.columns)))) × AreColumnsOf l.component l.views l.joined
