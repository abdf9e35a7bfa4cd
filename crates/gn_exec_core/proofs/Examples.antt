-- Rows of the definitions, worked by hand.
use Rattle.std.proofs.Common.{◌≡◌, [], ◌∷◌, true, false, refl}
use Rattle.gn_exec_laws.specs.Machine.{Take, Refuse}
use Rattle.gn_exec_core.specs.States.{refuses}

a_worker_refuses_for_itself : (refuses (Take 1 7 ∷ Refuse 2 ∷ []) 2 ≡ true) × (refuses (Take 1 7 ∷ Refuse 2 ∷ []) 1 ≡ false)
a_worker_refuses_for_itself = (refl, refl)
