-- What the kinds of nodes do.
use Rattle.std.specs.Prelude.{List, [], codes, Option, bytes_eq, if◌then◌else◌}
use Rattle.gn_kinds.specs.Row.{Text}
use Rattle.gn_tree.specs.Trees.{Settings, no_settings, and_setting, and_zone, file}
use Rattle.gn_tree.specs.NodeKinds.{Kind}
use Rattle.gn_node_set.specs.Paths.{Path}
use Rattle.gn_node_set.specs.Meanings.{Role, Plain, Switch, File, Zone, Answer, Done, Rows}
use Rattle.gn_plain.specs.Fields.{Sources}
use Rattle.gn_rows.specs.Carried.{Carried, convert}
use Rattle.gn_rows.specs.Limits.{limited}
use Rattle.gn_rows.specs.SetPosition.{set_position}
use Rattle.gn_rows.specs.Imports.{imported}
use Rattle.gn_rows.specs.Choices.{choice_by, switch, turns, repeat}

abbrev pub role_of : Text → Role
role_of name = if bytes_eq name (codes "switch") then Switch
    else (if bytes_eq name (codes "import_obj") then File
    else (if bytes_eq name (codes "repeat") then Zone else Plain))

abbrev pub file_in : Settings → Text
file_in no_settings = []
file_in (and_setting (file name) rest) = name
file_in (and_setting x rest) = file_in rest
file_in (and_zone items nodes output rest) = file_in rest

module _ {S : Type 0} (sources : Sources S) where
  -- what a node gives, but for its limits
  abbrev pub given_by : Path → Text → List (Carried S) → Option Answer → Done (Carried S)
  given_by path name inputs answer = if bytes_eq name (codes "set_position") then record { outputs = set_position sources inputs; warnings = [] }
      else (if bytes_eq name (codes "switch") then record { outputs = switch sources inputs; warnings = [] }
      else (if bytes_eq name (codes "import_obj") then imported path answer
      else record { outputs = []; warnings = [] }))

  -- a repeat has no limit on its fields
  abbrev pub row : Path → Kind → List (Carried S) → Option Answer → Done (Carried S)
  row path kind inputs answer = if bytes_eq kind.name (codes "repeat") then repeat sources path inputs
      else limited sources path inputs (given_by path kind.name inputs answer)

  abbrev pub library : Rows Kind (Carried S)
  library = record {
    role = λ kind. role_of kind.name;
    file = λ kind. file_in kind.settings;
    choice = λ kind condition. choice_by sources kind.settings condition;
    row = row;
    turns = λ kind count. turns sources count;
    convert = convert;
  }
