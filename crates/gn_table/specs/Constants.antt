-- Constants of the code by name.
use Rattle.gn_meaning.specs.Sites as sites
use Rattle.gn_table.specs.declared.constant.Constant.{Constant}
use Rattle.gn_table.specs.declared.constant.Constant.TheVariants.{Value, Position, Index, Id, NoGeometry}

abbrev pub name_of : Constant → sites.Constant
name_of (Value v) = sites.a_value v
name_of Position = sites.a_leaf sites.its_position
name_of Index = sites.a_leaf sites.its_index
name_of Id = sites.a_leaf sites.its_id
name_of NoGeometry = sites.no_geometry
