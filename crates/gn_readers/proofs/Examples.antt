-- Rows of the definitions, worked by hand.
use Rattle.std.proofs.Common.{◌≡◌, true, false, refl}
use Rattle.gn_readers.specs.declared.place.Place.TheVariants.{Input, Root}
use Rattle.gn_readers.specs.Readers.{before_input, before_root}

inputs_come_by_node : (before_input 2 1 (Input 1 7) ≡ true) × (before_input 2 1 (Input 2 1) ≡ false) × (before_input 2 1 (Input 2 0) ≡ true)
inputs_come_by_node = (refl, refl, refl)

roots_come_behind_inputs : (before_root 0 (Input 5 5) ≡ true) × (before_root 1 (Root 0) ≡ true) × (before_root 1 (Root 1) ≡ false)
roots_come_behind_inputs = (refl, refl, refl)
