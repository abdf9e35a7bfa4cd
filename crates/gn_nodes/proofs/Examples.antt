-- Rows of the definitions, worked by hand.
use Rattle.std.proofs.Common.{◌≡◌, false, true, refl}
use Rattle.std.specs.Prelude.{codes}
use Rattle.gn_node_set.specs.Meanings.{Switch, Plain, one_case, no_case}
use Rattle.gn_nodes.specs.declared.values.WarningText.TheVariants as text
use Rattle.gn_nodes.specs.Values.{text_of}
use Rattle.gn_nodes.specs.Calls.{choice_as, chosen_as}

a_long_file_is_named : text_of text.TooLong ≡ codes "too long"
a_long_file_is_named = refl

a_switch_chooses_by_its_condition : (choice_as Switch true (one_case 1) ≡ one_case 1) × (choice_as Switch false (one_case 1) ≡ no_case)
a_switch_chooses_by_its_condition = (refl, refl)

no_other_node_chooses : chosen_as Plain true ≡ false
no_other_node_chooses = refl
