-- The row of a kind of node: its settings, inputs and outputs.
use Rattle.std.specs.Prelude.{ℕ, Bool, List, bytes_eq}
use Rattle.std.specs.List.{list_any}
use Rattle.gn_value.specs.declared.value.Place.{Place}
use Rattle.gn_value.specs.declared.value.ValueKind.{ValueKind}
use Rattle.gn_kinds.specs.declared.row.SocketKind.{SocketKind}
use Rattle.gn_kinds.specs.declared.row.DefaultValue.{DefaultValue}

abbrev pub Text : Type 0
Text = List ℕ

-- a setting, and what it must be
pub data Setting : Type 0 where
  type_in : List SocketKind → Setting
  op_in : List Text → Setting
  place_in : List Place → Setting
  a_clamp a_name a_file : Setting
  value_of : ValueKind → Setting
  group_name : Setting
  zone_items zone_nodes zone_output : Setting

-- an input: a field, one value, one geometry, a list of geometry, or what the setting `type` names
pub data Input : Type 0 where
  field_in : Text → ValueKind → DefaultValue → Input
  single_in : Text → ValueKind → DefaultValue → Input
  geometry_in : Text → Input
  geometries_in : Text → Input
  chosen_in : Text → DefaultValue → Input

-- an output likewise
pub data Output : Type 0 where
  field_out : Text → ValueKind → Output
  geometry_out : Text → Output
  chosen_out : Text → Output

pub record KindRow : Type 0 where
  pub kind : Text
  pub settings : List Setting
  pub inputs : List Input
  pub outputs : List Output
  -- its further sockets are those of a group, or of the items of a zone
  pub open_ended : Bool

abbrev pub input_name : Input → Text
input_name (field_in name _ _) = name
input_name (single_in name _ _) = name
input_name (geometry_in name) = name
input_name (geometries_in name) = name
input_name (chosen_in name _) = name

abbrev pub output_name : Output → Text
output_name (field_out name _) = name
output_name (geometry_out name) = name
output_name (chosen_out name) = name

-- one of these inputs has the name
abbrev pub has_input : List Input → Text → Bool
has_input inputs name = list_any (λ x. bytes_eq (input_name x) name) inputs
