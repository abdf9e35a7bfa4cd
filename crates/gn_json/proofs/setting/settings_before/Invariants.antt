use Rattle.std.proofs.Common.{◌≡◌, drop, map}
use Rattle.serde_json.specs.View.{view}
use Rattle.gn_kinds.specs.Seen.{setting_of}
use Rattle.gn_tree.specs.Trees.{Settings}
use Rattle.gn_tree.specs.Seen.{settings_then}
use Rattle.gn_json.specs.Typed.{settings_before}
use Rattle.gn_json.proofs.setting.settings_before.Given as goal

abbrev pub invariant-loop-form : goal.invariant-loop-form
invariant-loop-form l =
    (rest : Settings) →
    settings_then l.settings.items (settings_before rest (map setting_of (drop l.form-index l.forms)) (view l.set)) ≡ settings_before rest (map setting_of l.forms) (view l.set)
