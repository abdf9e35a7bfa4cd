-- What a setting of the code holds.
use Rattle.std.specs.Prelude.{Option, Some, None, string_bytes}
use Rattle.gn_kinds.specs.declared.row.SocketKind.{SocketKind}
use Rattle.gn_kinds.specs.Row.{Text}
use Rattle.gn_tree.specs.declared.tree.Setting.{Setting}
use Rattle.gn_tree.specs.declared.tree.Setting.TheVariants as s
use Rattle.gn_tree.specs.declared.tree.Zone.{Zone}

abbrev pub kind_set : Setting → Option SocketKind
kind_set (s.Of kind) = Some kind
kind_set _ = None

abbrev pub group_set : Setting → Option Text
group_set (s.Group name) = Some (string_bytes name)
group_set _ = None

abbrev pub zone_set : Setting → Option Zone
zone_set (s.Zone zone) = Some zone
zone_set _ = None
