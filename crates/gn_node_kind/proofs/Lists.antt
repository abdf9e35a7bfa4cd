-- Lists of settings and nodes that grow at their ends.
use Rattle.std.proofs.Common.{◌≡◌, List, [], ◌∷◌, ◌++◌, refl, ap}
use Rattle.gn_tree.specs.Trees.{Settings}
use Rattle.gn_tree.specs.Seen.{setting_then, settings_then}
use Rattle.gn_tree.specs.declared.tree.Setting.{Setting}

pub settings_push : (xs : List Setting) (x : Setting) (rest : Settings) → settings_then (xs ++ x ∷ []) rest ≡ settings_then xs (setting_then x rest)
settings_push [] x rest = refl
settings_push (y ∷ xs) x rest = ap (setting_then y) (settings_push xs x rest)
