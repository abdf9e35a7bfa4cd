-- A row of the code as a row of the table.
use Rattle.std.specs.Prelude.{map}
use Rattle.gn_kinds.specs.Row.{Setting, type_in, op_in, place_in, a_clamp, a_name, a_file, value_of, group_name, zone_items, zone_nodes, zone_output, Input, field_in, single_in, geometry_in, geometries_in, chosen_in, Output, field_out, geometry_out, chosen_out, KindRow}
use Rattle.gn_kinds.specs.declared.row.SettingForm.{SettingForm}
use Rattle.gn_kinds.specs.declared.row.SettingForm.TheVariants as s
use Rattle.gn_kinds.specs.declared.row.InputRow.{InputRow}
use Rattle.gn_kinds.specs.declared.row.InputRow.TheVariants as i
use Rattle.gn_kinds.specs.declared.row.OutputRow.{OutputRow}
use Rattle.gn_kinds.specs.declared.row.OutputRow.TheVariants as o
use Rattle.gn_kinds.specs.declared.row.Row.{Row}

abbrev pub setting_of : SettingForm → Setting
setting_of (s.Type kinds) = type_in kinds.now
setting_of (s.Op names) = op_in (map (λ n. n.now) names.now)
setting_of (s.Place places) = place_in places.now
setting_of s.Clamp = a_clamp
setting_of s.Name = a_name
setting_of s.File = a_file
setting_of (s.Value kind) = value_of kind
setting_of s.Group = group_name
setting_of s.Items = zone_items
setting_of s.Nodes = zone_nodes
setting_of s.Output = zone_output

abbrev pub input_of : InputRow → Input
input_of (i.Field name kind default) = field_in name.now kind default
input_of (i.Single name kind default) = single_in name.now kind default
input_of (i.Geometry name) = geometry_in name.now
input_of (i.Geometries name) = geometries_in name.now
input_of (i.Chosen name default) = chosen_in name.now default

abbrev pub output_of : OutputRow → Output
output_of (o.Field name kind) = field_out name.now kind
output_of (o.Geometry name) = geometry_out name.now
output_of (o.Chosen name) = chosen_out name.now

abbrev pub row_of : Row → KindRow
row_of x = record { kind = x.kind.now; settings = map setting_of x.settings.now; inputs = map input_of x.inputs.now; outputs = map output_of x.outputs.now; open_ended = x.open }
