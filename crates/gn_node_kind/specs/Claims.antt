-- What is claimed of kinds and of how nodes are written.
use Rattle.std.specs.Prelude.{◌≡◌, List, [], if◌then◌else◌}
use Rattle.gn_kinds.specs.Row.{Text}
use Rattle.gn_rules.specs.Sockets.{is_zone}
use Rattle.gn_tree.specs.Trees.{Group, Settings}
use Rattle.gn_node_kind.specs.Kinds.{NodeKind}
use Rattle.gn_node_kind.specs.Written.{name_of, settings_of, groups_of}

-- a kind is written by that name and these settings, and keeps the groups if it is a zone
abbrev pub IsWritten : List Group → Text → Settings → NodeKind → Type 0
IsWritten groups name set k = (name_of k ≡ name) × (settings_of k ≡ set) × (groups_of k ≡ (if is_zone set then groups else []))
