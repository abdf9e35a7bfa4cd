-- Measures that are capped step by step.
use Rattle.std.proofs.Common.{◌≡◌, ℕ, ◌+◌, max, refl}
use Rattle.gn_kinds.specs.Row.{Text}
use Rattle.gn_tree.specs.Trees.{Settings}
use Rattle.gn_tree.specs.Seen.{setting_then}
use Rattle.gn_tree.specs.declared.tree.Setting.{Setting}
use Rattle.gn_tree.specs.declared.tree.Setting.TheVariants as s
use Rattle.gn_rules.specs.Measures.{height_in, count_in}
use Rattle.gn_measure.specs.Measures.{height_of, count_of}

pub height_then : (f : Text → ℕ) (x : Setting) (rest : Settings) → height_in f (setting_then x rest) ≡ max (height_of f x) (height_in f rest)
height_then f (s.Group name) rest = refl
height_then f (s.Zone zone) rest = refl
height_then f _ rest = refl

pub count_then : (f : Text → ℕ) (x : Setting) (rest : Settings) → count_in f (setting_then x rest) ≡ count_of f x + count_in f rest
count_then f (s.Group name) rest = refl
count_then f (s.Zone zone) rest = refl
count_then f _ rest = refl
