use Rattle.std.proofs.Common.{◌≡◌, drop}
use Rattle.gn_tree.specs.Seen.{settings_of}
use Rattle.gn_rules.specs.Sockets as sockets
use Rattle.gn_scopes.proofs.setting.group_in.Given as goal

abbrev pub invariant-loop-setting : goal.invariant-loop-setting
invariant-loop-setting l = sockets.group_in (settings_of (drop l.setting-index l.settings)) ≡ sockets.group_in (settings_of l.settings)
