use Rattle.std.proofs.Common.{◌≡◌, drop, map}
use Rattle.gn_kinds.specs.Seen.{setting_of}
use Rattle.serde_json.specs.View.{view}
use Rattle.gn_form.specs.Form as is
use Rattle.gn_form.proofs.key.has_settings.Given as goal

abbrev pub invariant-loop-setting : goal.invariant-loop-setting
invariant-loop-setting l =
    is.are_there (map is.setting_key (map setting_of (drop l.setting-index l.settings))) (view l.value) ≡ is.are_there (map is.setting_key (map setting_of l.settings)) (view l.value)
