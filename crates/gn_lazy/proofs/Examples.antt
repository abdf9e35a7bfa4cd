-- The text of a path, computed.
use Rattle.std.proofs.Common.{◌≡◌, [], ◌∷◌, ◌++◌, Some, None, refl}
use Rattle.std.specs.Prelude.{codes, decimal}
use Rattle.gn_lazy.specs.Paths.{path_text}

a_turn : path_text (codes "r" ∷ codes "add" ∷ []) (record { node = 2; turn = Some 3 } ∷ record { node = 0; turn = None } ∷ []) ≡ codes "r#" ++ decimal 3 ++ codes "/add"
a_turn = refl

one_step : path_text (codes "up" ∷ []) (record { node = 9; turn = None } ∷ []) ≡ codes "up"
one_step = refl
