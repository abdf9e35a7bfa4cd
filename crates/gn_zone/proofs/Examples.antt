-- Where links inside what a zone opened come from, by name and by value.
use Rattle.std.proofs.Common.{◌≡◌, ℕ, List, [], ◌∷◌, map, Some, None, pos, refl}
use Rattle.gn_value.specs.declared.value.Value.TheVariants.{Int as int}
use Rattle.gn_lazy.specs.declared.graph.Origin.TheVariants.{Input, Constant as Slot, Out}
use Rattle.gn_node_kind.specs.Seen.{written_as}
use Rattle.gn_node_set.specs.Meanings.{a_value, an_item, an_output, plain_link, Absent}
use Rattle.gn_exec_laws.specs.Tasks.{inner_source}
use Rattle.gn_meaning.specs.Sites as sites
use Rattle.gn_meaning.specs.Sites.{plain_step}
use Rattle.gn_meaning.specs.Denotation.{Given}
use Rattle.gn_table.specs.declared.constant.Constant.{Constant}
use Rattle.gn_table.specs.declared.constant.Constant.TheVariants.{Value, Position}
use Rattle.gn_table.specs.Constants.{name_of}
use Rattle.gn_lower.specs.Lowered.{Named}
use Rattle.gn_zone.specs.Filled.{fill_opened}

abbrev constants : List Constant
constants = Value (int (pos 3)) ∷ Position ∷ []

abbrev names : List Named
names = map (λ c. Some (name_of c)) constants

-- of two items and two constants behind them, in a zone whose nodes are numbered from 5
an_item_of_two : inner_source written_as None 2 5 [] names (Slot 1) ≡ an_item 1
an_item_of_two = refl

a_constant_behind : inner_source written_as None 2 5 [] names (Slot 2) ≡ a_value (Some (sites.a_value (int (pos 3))))
a_constant_behind = refl

the_last_constant : inner_source written_as None 2 5 [] names (Slot 3) ≡ a_value (Some (sites.a_leaf sites.its_position))
the_last_constant = refl

past_the_constants : inner_source written_as None 2 5 [] names (Slot 4) ≡ a_value None
past_the_constants = refl

-- a zone reads no input of the tree, and no node that it did not open
no_input : inner_source written_as None 2 5 [] names Input ≡ a_value None
no_input = refl

no_node : inner_source written_as None 2 5 [] names (Out 5 0) ≡ a_value None
no_node = refl

-- numbers for constants: 7 for each position and 9 for others
abbrev number_of : sites.Constant → ℕ
number_of (sites.a_leaf leaf) = 7
number_of _ = 9

abbrev numbers : Given ℕ
numbers = record { constant = number_of; inputs = []; files = λ name. Absent }

filled : fill_opened numbers 0 (record { nodes = []; outputs = plain_link (an_item 1) ∷ plain_link (a_value (Some (sites.a_leaf sites.its_position))) ∷ plain_link (a_value None) ∷ plain_link (an_output (plain_step 4 ∷ []) 1) ∷ [] })
    ≡ record { nodes = []; outputs = plain_link (an_item 1) ∷ plain_link (a_value 7) ∷ plain_link (a_value 0) ∷ plain_link (an_output (plain_step 4 ∷ []) 1) ∷ [] }
filled = refl
