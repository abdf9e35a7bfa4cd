use Rattle.std.proofs.Common.{◌≡◌, drop}
use Rattle.gn_tree.specs.Seen.{settings_of}
use Rattle.gn_rules.specs.Sockets as sockets
use Rattle.gn_scopes.proofs.setting.chosen.Given as goal

abbrev pub invariant-loop-setting : goal.invariant-loop-setting
invariant-loop-setting l = sockets.chosen (settings_of (drop l.setting-index l.settings)) ≡ sockets.chosen (settings_of l.settings)
