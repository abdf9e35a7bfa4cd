-- The order of paths, computed.
use Rattle.std.proofs.Common.{◌≡◌, ℕ, [], ◌∷◌, Some, None, true, false, refl}
use Rattle.gn_lazy.specs.declared.path.PathStep.{PathStep}
use Rattle.gn_node_set.specs.Paths.{path_before}

abbrev step : ℕ → PathStep
step n = record { node = n; turn = None }

abbrev turn : ℕ → ℕ → PathStep
turn n k = record { node = n; turn = Some k }

-- a zone stands before its first turn, turn 3 before turn 10, and a group before its nodes
zone_first : path_before (step 1 ∷ []) (turn 1 0 ∷ step 0 ∷ []) ≡ true
zone_first = refl

by_number : path_before (turn 1 3 ∷ step 7 ∷ []) (turn 1 10 ∷ step 0 ∷ []) ≡ true
by_number = refl

group_first : path_before (step 4 ∷ []) (step 4 ∷ step 0 ∷ []) ≡ true
group_first = refl

node_first : path_before (turn 2 0 ∷ step 0 ∷ []) (step 1 ∷ []) ≡ false
node_first = refl
