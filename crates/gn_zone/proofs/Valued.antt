-- What was opened is over values what it is over names, filled in.
use Rattle.std.proofs.Common.{◌≡◌, ℕ, List, map, Option, Some, None, refl, sym, ◌∙◌, ap}
use Rattle.std.specs.Prelude.{◌-◌, Bool, true, false, nat_lt, if◌then◌else◌, slice_get, slice_index_or}
use Rattle.gn_lazy.specs.declared.graph.Origin.{Origin}
use Rattle.gn_lazy.specs.declared.graph.Origin.TheVariants.{Input, Constant as Slot, Out}
use Rattle.gn_lazy.specs.declared.graph.Link.{Link as CodeLink}
use Rattle.gn_lazy.specs.declared.graph.GraphNode.{GraphNode}
use Rattle.gn_tree.specs.declared.kind.Kind.{Kind}
use Rattle.gn_node_kind.specs.Seen.{written_as}
use Rattle.gn_node_set.specs.Meanings.{a_value, an_item}
use Rattle.gn_node_set.proofs.Lists.{map_map, map_equal, index_image}
use Rattle.gn_exec_laws.specs.Tasks.{output_of, inner_source, inner_link, inner_node, opened_of}
use Rattle.gn_meaning.specs.Denotation.{Given}
use Rattle.gn_found.specs.Filled.{value_of, fill_source, fill_link, fill_node}
use Rattle.gn_table.specs.declared.constant.Constant.{Constant}
use Rattle.gn_table.specs.Constants.{name_of}
use Rattle.gn_lower.specs.Lowered.{Named}
use Rattle.gn_zone.specs.Filled.{fill_opened}

module _ {V : Type 0} (given : Given V) (nothing : V) (items base : ℕ) (nodes : List (GraphNode Kind)) (constants : List Constant) where
  abbrev names : List Named
  names = map (λ c. Some (name_of c)) constants

  abbrev values : List V
  values = map (λ c. given.constant (name_of c)) constants

  constant_valued : (n : ℕ) → value_of given nothing (slice_index_or names n None) ≡ slice_index_or values n nothing
  constant_valued n =
      sym (index_image (value_of given nothing) names n None) ∙ ap (λ vs. slice_index_or vs n nothing) (map_map (value_of given nothing) (λ c. Some (name_of c)) constants)

  slot_valued : (is_item : Bool) (slot : ℕ)
      → fill_source given nothing (if is_item then an_item slot else a_value (slice_index_or names (slot - items) None)) ≡ (if is_item then an_item slot else a_value (slice_index_or values (slot - items) nothing))
  slot_valued true slot = refl
  slot_valued false slot = ap (λ v. a_value v) (constant_valued (slot - items))

  output_valued : (node : Option (GraphNode Kind)) (socket : ℕ) → fill_source given nothing (output_of written_as None node socket) ≡ output_of written_as nothing node socket
  output_valued None socket = refl
  output_valued (Some node) socket = refl

  source_valued : (origin : Origin) → fill_source given nothing (inner_source written_as None items base nodes names origin) ≡ inner_source written_as nothing items base nodes values origin
  source_valued Input = refl
  source_valued (Slot slot) = slot_valued (nat_lt slot items) slot
  source_valued (Out node socket) = output_valued (slice_get nodes (node - base)) socket

  link_valued : (link : CodeLink) → fill_link given nothing (inner_link written_as None items base nodes names link) ≡ inner_link written_as nothing items base nodes values link
  link_valued link = ap (λ x. record { from = x; through = link.through.items }) (source_valued link.origin)

  links_valued : (links : List CodeLink) → map (fill_link given nothing) (map (inner_link written_as None items base nodes names) links) ≡ map (inner_link written_as nothing items base nodes values) links
  links_valued links =
      map_map (fill_link given nothing) (inner_link written_as None items base nodes names) links
      ∙ map_equal (λ l. fill_link given nothing (inner_link written_as None items base nodes names l)) (inner_link written_as nothing items base nodes values) links (λ l l_in. link_valued l)

  node_valued : (node : GraphNode Kind) → fill_node given nothing (inner_node written_as None items base nodes names node) ≡ inner_node written_as nothing items base nodes values node
  node_valued node = ap (λ links. record { path = node.path.steps.items; kind = written_as node.kind; links = links }) (links_valued node.inputs.items)

  nodes_valued : (added : List (GraphNode Kind)) → map (fill_node given nothing) (map (inner_node written_as None items base nodes names) added) ≡ map (inner_node written_as nothing items base nodes values) added
  nodes_valued added =
      map_map (fill_node given nothing) (inner_node written_as None items base nodes names) added
      ∙ map_equal (λ n. fill_node given nothing (inner_node written_as None items base nodes names n)) (inner_node written_as nothing items base nodes values) added (λ n n_in. node_valued n)

  pub opened_valued : (outputs : List CodeLink) → fill_opened given nothing (opened_of written_as None items base nodes names outputs) ≡ opened_of written_as nothing items base nodes values outputs
  opened_valued outputs =
      ap (λ ns. record { nodes = ns; outputs = map (fill_link given nothing) (map (inner_link written_as None items base nodes names) outputs) }) (nodes_valued nodes)
      ∙ ap (λ links. record { nodes = map (inner_node written_as nothing items base nodes values) nodes; outputs = links }) (links_valued outputs)
