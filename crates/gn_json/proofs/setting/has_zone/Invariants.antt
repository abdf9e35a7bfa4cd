use Rattle.std.proofs.Common.{◌≡◌, drop, map}
use Rattle.std.specs.List.{list_any}
use Rattle.gn_kinds.specs.Seen.{setting_of}
use Rattle.gn_json.specs.Exact.{is_zone}
use Rattle.gn_json.proofs.setting.has_zone.Given as goal

abbrev pub invariant-loop-form : goal.invariant-loop-form
invariant-loop-form l = list_any is_zone (map setting_of (drop l.form-index l.forms)) ≡ list_any is_zone (map setting_of l.forms)
