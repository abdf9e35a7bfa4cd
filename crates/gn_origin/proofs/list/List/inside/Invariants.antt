use Rattle.std.proofs.Common.{ℕ, List, drop}
use Rattle.gn_tree.specs.Seen.{settings_of}
use Rattle.gn_origin.specs.declared.list.Inside.{Inside}
use Rattle.gn_origin.specs.Nodes.{HasGroups, Holds}
use Rattle.gn_origin.specs.Reading.{scope_of}
use Rattle.gn_origin.proofs.list.List.inside.Given as goal

abbrev pub invariant-loop-setting : goal.invariant-loop-setting
invariant-loop-setting l =
    HasGroups l.self.lists.now → (above : ℕ) (kind : List ℕ) (found : Inside) → Holds (scope_of l.self above) kind (settings_of (drop l.setting-index l.settings)) found → Holds (scope_of l.self above) kind (settings_of l.settings) found
