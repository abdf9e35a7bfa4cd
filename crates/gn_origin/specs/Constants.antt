-- Constants and conversions of the code, as those of the meaning.
use Rattle.std.specs.Prelude.{ℕ, List, [], ◌∷◌, Option, Some, None}
use Rattle.gn_kinds.specs.declared.row.SocketKind.{SocketKind}
use Rattle.gn_meaning.specs.Sites as sites
use Rattle.gn_meaning.specs.Reads.{kind_number}
use Rattle.gn_origin.specs.declared.read.Constant.{Constant}
use Rattle.gn_origin.specs.declared.read.Constant.TheVariants.{Value, Position, NoGeometry}

abbrev pub constant_of : Constant → sites.Constant
constant_of (Value v) = sites.a_value v
constant_of Position = sites.a_leaf sites.its_position
constant_of NoGeometry = sites.no_geometry

-- the conversion to a kind by its number, if there is one
abbrev pub kinds_of : Option SocketKind → List ℕ
kinds_of None = []
kinds_of (Some kind) = kind_number kind ∷ []
