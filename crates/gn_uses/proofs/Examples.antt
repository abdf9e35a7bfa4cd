-- Rows of the definitions, worked by hand.
use Rattle.std.proofs.Common.{◌≡◌, ℕ, Bool, true, false, List, [], ◌∷◌, Option, Some, None, refl}
use Rattle.gn_uses.specs.declared.outputs.Out.{Out}
use Rattle.gn_uses.specs.declared.nodes.Role.TheVariants.{Plain, Switch, File, Zone}
use Rattle.gn_uses.specs.declared.nodes.Choice.{Choice}
use Rattle.gn_uses.specs.declared.nodes.Choice.TheVariants.{One, All, Zero}
use Rattle.gn_uses.specs.Sets.{with_number, with_out}
use Rattle.gn_uses.specs.Nodes.{Nodes, no_nodes, needs, is_full, result_at, with_node, with_choice, with_results, with_value, with_answer}
use Rattle.gn_uses.specs.Reading.{read_of}

from : ℕ → Option Out
from n = Some (record { node = n; output = 0 })

out : ℕ → ℕ → Out
out n s = record { node = n; output = s }

a_number_comes_once : with_number (with_number (with_number [] 3) 5) 3 ≡ 3 ∷ 5 ∷ []
a_number_comes_once = refl

an_output_comes_once : with_out (with_out (with_out [] (out 1 0)) (out 1 2)) (out 1 0) ≡ out 1 0 ∷ out 1 2 ∷ []
unfolding out
an_output_comes_once = refl

-- a node without inputs, a switch with two cases, a zone with an item, and an import
rows : Nodes
rows =
    with_node
    (with_node
    (with_node (with_node no_nodes Plain [] 2) Switch (from 0 ∷ None ∷ from 0 ∷ []) 1)
    Zone (from 1 ∷ from 0 ∷ []) 1)
    File (None ∷ []) 1

a_switch_needs_its_condition : needs rows 1 ≡ from 0 ∷ []
unfolding from rows
a_switch_needs_its_condition = refl

a_choice_adds_its_case : needs (with_choice rows 1 (One 1)) 1 ≡ from 0 ∷ from 0 ∷ []
unfolding from rows
a_choice_adds_its_case = refl

a_choice_past_the_last_adds_nothing : needs (with_choice rows 1 (One 2)) 1 ≡ from 0 ∷ []
unfolding from rows
a_choice_past_the_last_adds_nothing = refl

all_cases_are_needed : needs (with_choice rows 1 All) 1 ≡ from 0 ∷ None ∷ from 0 ∷ []
unfolding from rows
all_cases_are_needed = refl

a_zone_needs_its_head : needs rows 2 ≡ from 1 ∷ []
unfolding from rows
a_zone_needs_its_head = refl

a_node_without_inputs_is_full : is_full rows 0 ≡ true
unfolding rows
a_node_without_inputs_is_full = refl

a_switch_is_full_once_it_has_chosen : (is_full (with_value rows 1 0) 1 ≡ false) × (is_full (with_choice (with_value rows 1 0) 1 (One 0)) 1 ≡ true)
unfolding from rows
a_switch_is_full_once_it_has_chosen = (refl, refl)

an_import_waits_for_its_answer : (is_full rows 3 ≡ false) × (is_full (with_answer rows 3) 3 ≡ true)
unfolding rows
an_import_waits_for_its_answer = (refl, refl)

a_result_is_that_of_its_output : (result_at rows (out 2 0) ≡ None) × (result_at (with_results rows 2 (from 1 ∷ [])) (out 2 0) ≡ from 1)
unfolding from rows out
a_result_is_that_of_its_output = (refl, refl)

what_is_read_by_numbers : read_of {A = ℕ} Switch (Some (One 1)) (10 ∷ 11 ∷ 12 ∷ []) ≡ 10 ∷ 12 ∷ []
what_is_read_by_numbers = refl
