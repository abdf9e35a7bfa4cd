use Rattle.std.proofs.Common.{◌≡◌, drop, map, option_map}
use Rattle.gn_kinds.specs.Seen.{setting_of}
use Rattle.gn_form.specs.Form as is
use Rattle.gn_form.proofs.key.form_under.Given as goal

abbrev pub invariant-loop-setting : goal.invariant-loop-setting
invariant-loop-setting l =
    option_map (λ key. key.form) (is.named (map is.setting_key (map setting_of (drop l.setting-index l.settings))) l.fn.key)
    ≡ option_map (λ key. key.form) (is.named (map is.setting_key (map setting_of l.settings)) l.fn.key)
