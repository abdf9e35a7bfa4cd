-- A setting of the code, if there is one, before other settings.
use Rattle.std.specs.Prelude.{Option, Some, None}
use Rattle.gn_tree.specs.Trees.{Settings}
use Rattle.gn_tree.specs.Seen.{setting_then}
use Rattle.gn_tree.specs.declared.tree.Setting.{Setting}

abbrev pub found_then : Option Setting → Settings → Settings
found_then None rest = rest
found_then (Some x) rest = setting_then x rest
