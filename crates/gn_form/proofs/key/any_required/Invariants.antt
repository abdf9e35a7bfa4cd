use Rattle.std.proofs.Common.{◌≡◌, drop, map}
use Rattle.std.specs.List.{list_any}
use Rattle.gn_kinds.specs.Seen.{setting_of}
use Rattle.gn_form.specs.Form as is
use Rattle.gn_form.proofs.key.any_required.Given as goal

abbrev pub invariant-loop-setting : goal.invariant-loop-setting
invariant-loop-setting l =
    list_any (λ s. (is.setting_key s).needed) (map setting_of (drop l.setting-index l.settings)) ≡ list_any (λ s. (is.setting_key s).needed) (map setting_of l.settings)
