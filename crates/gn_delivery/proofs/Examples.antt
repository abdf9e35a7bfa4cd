-- Rows of the definitions, worked by hand.
use Rattle.std.proofs.Common.{◌≡◌, ℕ, [], ◌∷◌, refl}
use Rattle.std.specs.Prelude.{Some, None}
use Rattle.gn_readers.specs.declared.place.Place.TheVariants.{Input}
use Rattle.gn_delivery.specs.Slots.{Slots, slot_at, with_value, or_as_before}

abbrev two_nodes : Slots ℕ
two_nodes = record { rows = (None ∷ []) ∷ [] ∷ []; roots = None ∷ [] }

a_value_goes_to_its_slot : slot_at (with_value two_nodes (Input 0 0) 7) (Input 0 0) ≡ Some (Some 7)
a_value_goes_to_its_slot = refl

a_node_that_was_taken_has_no_slot : with_value two_nodes (Input 1 0) 7 ≡ two_nodes
a_node_that_was_taken_has_no_slot = refl

what_is_due_replaces_what_was_there : or_as_before {W = ℕ} (Some 7) None ≡ Some 7
what_is_due_replaces_what_was_there = refl
