-- What clauses see of a cloud of points, and the plain cloud that it stands for.
use Rattle.std.specs.Prelude.{◌<◌, ◌^◌, Bool, List, ◌∷◌, length}
use Rattle.std.specs.List.{AllZip}
use Rattle.gn_value.specs.declared.vector.V3.{V3}
use Rattle.gn_shared.specs.Arrays.{ArrayView}
use Rattle.gn_plain.specs.Columns.{Entry}
use Rattle.gn_plain.specs.Geometry as plain
use Rattle.gn_attr.specs.declared.column.Column.{Column}
use Rattle.gn_attr.specs.Handles as handles
use Rattle.gn_attr.specs.Handles.{Keeps, IsTwin, has_one_part}
use Rattle.gn_attr.specs.Columns.{plain_columns, AreSole, KeepsEntry, IsTwinEntry}
use Rattle.gn_geometry.specs.Fits.{cloud_count, AreFitting}
use Rattle.gn_geometry.specs.Meshes.{column_copies}

-- where the points are, and the columns with their handles
pub record CloudView : Type 0 where
  pub points : ArrayView V3
  pub columns : List (Entry Column)

-- the plain cloud, without the handles
abbrev pub plain_cloud : CloudView → plain.Cloud
plain_cloud c = record { points = c.points.items; columns = plain_columns c.columns }

-- what is true of each cloud
pub record IsCloud (c : CloudView) : Type 0 where
  pub few : length c.points.items < 2 ^ 32
  pub fit : AreFitting (cloud_count (length c.points.items)) c.columns

abbrev pub moved : CloudView → ArrayView V3 → CloudView
moved c points = record { points = points; columns = c.columns }

abbrev pub with_columns : CloudView → List (Entry Column) → CloudView
with_columns c columns = record { points = c.points; columns = columns }

-- each handle has all parts
pub record IsSole (c : CloudView) : Type 0 where
  pub points : handles.IsSole c.points
  pub columns : AreSole c.columns

pub record KeepsCloud (before after : CloudView) : Type 0 where
  pub points : Keeps before.points after.points
  pub columns : AllZip KeepsEntry before.columns after.columns

pub record IsTwinCloud (cloud twin : CloudView) : Type 0 where
  pub points : IsTwin cloud.points twin.points
  pub columns : AllZip IsTwinEntry cloud.columns twin.columns

-- for each array, in order, whether its handle has one part
abbrev pub cloud_copies : CloudView → List Bool
cloud_copies c = has_one_part c.points ∷ column_copies c.columns
