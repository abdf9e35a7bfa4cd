-- No kind has more than three settings.
use Rattle.std.proofs.Common.{◌≡◌, ℕ, suc, ◌≤◌, List, [], ◌∷◌, None, length, refl, sym, ap, subst, ◌∙◌, arith}
use Rattle.gn_kinds.specs.Row.{Text}
use Rattle.gn_tree.specs.Trees.{Group, Settings, no_settings, and_setting, and_zone}
use Rattle.gn_tree.specs.Seen.{setting_then, settings_of}
use Rattle.gn_tree.specs.declared.tree.Setting.{Setting}
use Rattle.gn_tree.specs.declared.tree.Setting.TheVariants as s
use Rattle.gn_node_kind.specs.Kinds.{kind_with}

abbrev number : Settings → ℕ
number no_settings = 0
number (and_setting x rest) = suc (number rest)
number (and_zone items nodes output rest) = suc (number rest)

one_more : (x : Setting) (rest : Settings) → number (setting_then x rest) ≡ suc (number rest)
one_more (s.Of x) rest = refl
one_more (s.Op x) rest = refl
one_more (s.Place x) rest = refl
one_more (s.Clamp x) rest = refl
one_more (s.Name x) rest = refl
one_more (s.File x) rest = refl
one_more (s.Value x) rest = refl
one_more (s.Group x) rest = refl
one_more (s.Zone x) rest = refl

same_number : (xs : List Setting) → number (settings_of xs) ≡ length xs
same_number [] = refl
same_number (x ∷ xs) = one_more x (settings_of xs) ∙ ap suc (same_number xs)

too_many : (groups : List Group) (name : Text) (set : Settings) → 4 ≤ number set → None ≡ kind_with groups name set
too_many groups name no_settings h = absurd (omega arith)
too_many groups name (and_setting a no_settings) h = absurd (omega arith)
too_many groups name (and_setting a (and_setting b no_settings)) h = absurd (omega arith)
too_many groups name (and_setting a (and_setting b (and_setting c no_settings))) h = absurd (omega arith)
too_many groups name (and_setting a (and_setting b (and_setting c (and_setting d rest)))) h = refl
too_many groups name (and_setting a (and_setting b (and_setting c (and_zone items nodes output rest)))) h = refl
too_many groups name (and_setting a (and_setting b (and_zone items nodes output rest))) h = refl
too_many groups name (and_setting a (and_zone items nodes output rest)) h = refl
too_many groups name (and_zone items nodes output no_settings) h = absurd (omega arith)
too_many groups name (and_zone items nodes output (and_setting a rest)) h = refl
too_many groups name (and_zone items nodes output (and_zone items' nodes' output' rest)) h = refl

pub many_settings : (groups : List Group) (name : Text) (xs : List Setting) → 4 ≤ length xs → None ≡ kind_with groups name (settings_of xs)
many_settings groups name xs h = too_many groups name (settings_of xs) (subst (λ n. 4 ≤ n) (sym (same_number xs)) h)
