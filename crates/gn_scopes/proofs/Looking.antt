-- Looking through settings one by one.
use Rattle.std.proofs.Common.{◌≡◌, true, map, refl, if◌then◌else◌}
use Rattle.std.specs.Prelude.{is_some}
use Rattle.std.specs.Option.{option_map_or, option_or}
use Rattle.gn_tree.specs.Trees.{Settings}
use Rattle.gn_tree.specs.Seen.{socket_of, setting_then}
use Rattle.gn_tree.specs.declared.tree.Setting.{Setting}
use Rattle.gn_tree.specs.declared.tree.Setting.TheVariants as s
use Rattle.gn_rules.specs.Sockets.{chosen, group_in, items_in, is_zone}
use Rattle.gn_scopes.specs.Settings.{kind_set, group_set, zone_set}

pub chosen_then : (x : Setting) (rest : Settings) → chosen (setting_then x rest) ≡ option_map_or (λ k. k) (kind_set x) (chosen rest)
chosen_then (s.Of kind) rest = refl
chosen_then _ rest = refl

pub group_then : (x : Setting) (rest : Settings) → group_in (setting_then x rest) ≡ option_or (group_set x) (group_in rest)
group_then (s.Group name) rest = refl
group_then _ rest = refl

pub items_then : (x : Setting) (rest : Settings) → items_in (setting_then x rest) ≡ option_map_or (λ z. map socket_of z.items.items) (zone_set x) (items_in rest)
items_then (s.Zone zone) rest = refl
items_then _ rest = refl

pub zone_then : (x : Setting) (rest : Settings) → is_zone (setting_then x rest) ≡ (if is_some (zone_set x) then true else is_zone rest)
zone_then (s.Zone zone) rest = refl
zone_then _ rest = refl
