-- A row's socket has the row's name, whatever the setting `type` is.
use Rattle.std.proofs.Common.{◌≡◌, refl}
use Rattle.gn_kinds.specs.declared.row.SocketKind.{SocketKind}
use Rattle.gn_kinds.specs.Row.{Input, field_in, single_in, geometry_in, geometries_in, chosen_in, input_name, Output, field_out, geometry_out, chosen_out, output_name}
use Rattle.gn_rules.specs.Sockets.{input_of_row, output_of_row}

pub input_named : (k : SocketKind) (x : Input) → (input_of_row k x).name ≡ input_name x
input_named k (field_in name kind default) = refl
input_named k (single_in name kind default) = refl
input_named k (geometry_in name) = refl
input_named k (geometries_in name) = refl
input_named k (chosen_in name default) = refl

pub output_named : (k : SocketKind) (x : Output) → (output_of_row k x).name ≡ output_name x
output_named k (field_out name kind) = refl
output_named k (geometry_out name) = refl
output_named k (chosen_out name) = refl
