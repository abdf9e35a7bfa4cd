-- Paths of nodes in turns of zones, and the sources of links, worked out.
use Rattle.std.proofs.Common.{◌≡◌, ℕ, [], ◌∷◌, Some, None, false, refl}
use Rattle.gn_lazy.specs.declared.path.PathStep.{PathStep}
use Rattle.gn_lazy.specs.declared.graph.Origin.TheVariants.{Input, Constant, Out}
use Rattle.gn_lazy.specs.declared.graph.GraphNode.{GraphNode}
use Rattle.gn_node_set.specs.Meanings.{a_value, an_item, an_output}
use Rattle.gn_exec_laws.specs.Tasks.{source_of, node_of, inner_source}
use Rattle.gn_node_set.specs.Paths.{ends_plain, same_path, zone_of}

abbrev step : ℕ → PathStep
step n = record { node = n; turn = None }

abbrev turn : ℕ → ℕ → PathStep
turn n k = record { node = n; turn = Some k }

a_node_of_the_graph : zone_of (step 3 ∷ step 1 ∷ []) ≡ None
a_node_of_the_graph = refl

a_node_of_a_turn : zone_of (step 3 ∷ turn 1 4 ∷ step 2 ∷ step 0 ∷ []) ≡ Some (step 3 ∷ step 1 ∷ [])
a_node_of_a_turn = refl

a_node_of_an_inner_turn : zone_of (turn 3 0 ∷ turn 1 4 ∷ step 2 ∷ []) ≡ Some (turn 3 0 ∷ step 1 ∷ [])
a_node_of_an_inner_turn = refl

a_turn_is_no_node : ends_plain (step 3 ∷ turn 1 4 ∷ []) ≡ false
a_turn_is_no_node = refl

other_turns_make_other_paths : same_path (turn 1 4 ∷ step 2 ∷ []) (turn 1 5 ∷ step 2 ∷ []) ≡ false
other_turns_make_other_paths = refl

-- ---- the sources of links

module _ {G K : Type 0} (kind_of : G → K) (a b : GraphNode G) where
  the_input : source_of {V = ℕ} kind_of 0 (a ∷ b ∷ []) (5 ∷ 6 ∷ 7 ∷ []) Input ≡ a_value 5
  the_input = refl

  a_constant : source_of {V = ℕ} kind_of 0 (a ∷ b ∷ []) (5 ∷ 6 ∷ 7 ∷ []) (Constant 1) ≡ a_value 7
  a_constant = refl

  an_output_of_a_node : source_of {V = ℕ} kind_of 0 (a ∷ b ∷ []) (5 ∷ []) (Out 1 3) ≡ an_output b.path.steps.items 3
  an_output_of_a_node = refl

  -- a zone with two items, whose nodes are numbered from 40
  the_second_item : inner_source {V = ℕ} kind_of 0 2 40 (a ∷ b ∷ []) (8 ∷ 9 ∷ []) (Constant 1) ≡ an_item 1
  the_second_item = refl

  a_constant_behind_the_items : inner_source {V = ℕ} kind_of 0 2 40 (a ∷ b ∷ []) (8 ∷ 9 ∷ []) (Constant 3) ≡ a_value 9
  a_constant_behind_the_items = refl

  an_inner_output : inner_source {V = ℕ} kind_of 0 2 40 (a ∷ b ∷ []) (8 ∷ 9 ∷ []) (Out 41 0) ≡ an_output b.path.steps.items 0
  an_inner_output = refl

  the_kind_of_a_handle : (node_of {V = ℕ} kind_of 0 (a ∷ b ∷ []) (5 ∷ []) b).kind ≡ kind_of b.kind
  the_kind_of_a_handle = refl
