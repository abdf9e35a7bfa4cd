use Rattle.std.proofs.Common.{◌≡◌, drop}
use Rattle.gn_tree.specs.Seen.{settings_of}
use Rattle.gn_rules.specs.Sockets as sockets
use Rattle.gn_scopes.proofs.setting.is_zone.Given as goal

abbrev pub invariant-loop-setting : goal.invariant-loop-setting
invariant-loop-setting l = sockets.is_zone (settings_of (drop l.setting-index l.settings)) ≡ sockets.is_zone (settings_of l.settings)
