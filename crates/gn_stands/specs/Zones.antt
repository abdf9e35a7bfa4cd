-- What a zone opens: the nodes of its turns one after another, and its items after the last one.
use Rattle.std.specs.Prelude.{ℕ, zero, suc, pos, List, [], ◌∷◌, ◌++◌, map, Bool, is_some, is_none, ◌&&◌, Option, Some, None, option_map, option_and_then, if◌then◌else◌}
use Rattle.std.specs.Option.{option_map_or}
use Rattle.std.specs.List.{flat_map, range_with_len}
use Rattle.gn_value.specs.declared.value.Value.TheVariants.{Int as int}
use Rattle.gn_lazy.specs.declared.path.PathStep.{PathStep}
use Rattle.gn_tree.specs.NodeKinds.{Kind}
use Rattle.gn_tree.specs.Trees.{no_nodes, Group}
use Rattle.gn_rules.specs.Sockets.{node_at}
use Rattle.gn_rules.specs.Scopes.{Scope}
use Rattle.gn_node_set.specs.Lists.{all_of}
use Rattle.gn_node_set.specs.Paths.{Path, same_path}
use Rattle.gn_node_set.specs.Meanings.{Source, a_value as a_given, an_item, an_output, Link, Node, Opened}
use Rattle.gn_meaning.specs.Sites.{a_value, Way, the_tree, into, plain_step, turn_step, path_of, Site, at_output, at_input, at_item, at_constant, nowhere, Read, plain_read}
use Rattle.gn_meaning.specs.Bodies.{Body, body_in, body_of}
use Rattle.gn_meaning.specs.Reads.{given_out, read_at, Run, Part, a_node, a_group, a_repeat}
use Rattle.gn_meaning.specs.Denotation.{Given}
use Rattle.gn_stands.specs.Stands.{items_after}
use Rattle.gn_stands.specs.Tasks.{part_by, runs_within}

-- the list and the number of the node with a path
abbrev pub place_by : Way → Path → Option (Way × ℕ)
place_by way [] = None
place_by way (step ∷ []) = if is_none step.turn then Some (way, step.node) else None
place_by way (step ∷ other ∷ more) = place_by (into way step) (other ∷ more)

-- how the value of a site comes about: it is that of a read, or goes no further back
pub data Back : Type 0 where
  goes_to : Read → Back
  stays : Back

abbrev pub bare : List Group → Scope
bare groups = record { nodes = no_nodes; entries = []; groups = groups; above = 0 }

-- of the zone of a kind at a path
module _ (kind : Kind) (path : Path) where
  -- its body, by the groups that its kind has
  abbrev pub zone_inside : Option Body
  zone_inside = body_in (bare kind.groups) kind.name kind.settings

  abbrev pub is_zone_at : Way → ℕ → Bool
  is_zone_at way n = same_path (path_of way n) path

  -- the lists in its turns, with those of groups and zones in them
  abbrev pub list_in : Way → Option Body
  list_in the_tree = None
  list_in (into way step) =
      if is_some step.turn && is_zone_at way step.node then zone_inside
      else option_and_then (λ b. option_and_then (body_of b.scope) (node_at b.scope.nodes step.node)) (list_in way)

  abbrev pub out_in : Way → ℕ → Read
  out_in way i = option_map_or (λ b. read_at (given_out b way) i) (list_in way) (plain_read nowhere)

  abbrev pub output_back : Way → ℕ → ℕ → Option Part → Option Back
  output_back way n s None = None
  output_back way n s (Some (a_node run)) = Some stays
  output_back way n s (Some (a_group b reads)) = Some (goes_to (out_in (into way (plain_step n)) s))
  output_back way n s (Some (a_repeat run b)) = Some stays

  abbrev pub turn_back : Way → ℕ → Option ℕ → ℕ → Option Back
  turn_back way n None i = None
  turn_back way n (Some k) zero = Some (goes_to (plain_read (at_constant (a_value (int (pos k))))))
  turn_back way n (Some k) (suc i) = Some (goes_to (plain_read (at_item way n k i)))

  abbrev pub input_back : Way → PathStep → ℕ → Option Part → Option Back
  input_back way step i None = None
  input_back way step i (Some (a_node run)) = None
  input_back way step i (Some (a_group b reads)) = Some (goes_to (read_at reads i))
  input_back way step i (Some (a_repeat run b)) = turn_back way step.node step.turn i

  abbrev pub item_back : ℕ → Option Part → Option Back
  item_back i (Some (a_repeat run b)) = Some (goes_to (read_at run.reads (suc i)))
  item_back i _ = None

  -- before the first turn the items of the zone itself go no further back
  abbrev pub back : Site → Option Back
  back (at_output way n s) = output_back way n s (part_by list_in way n)
  back (at_input the_tree i) = None
  back (at_input (into way step) i) = if is_zone_at way step.node then turn_back way step.node step.turn i else input_back way step i (part_by list_in way step.node)
  back (at_item way n zero i) = if is_zone_at way n then Some stays else item_back i (part_by list_in way n)
  back (at_item way n (suc k) i) = Some (goes_to (out_in (into way (turn_step n k)) i))
  back (at_constant c) = Some stays
  back nowhere = None

  abbrev pub origin_by : (Site → Option Read) → Site → Option Back → Option Read
  origin_by origin site None = None
  origin_by origin site (Some stays) = Some (plain_read site)
  origin_by origin site (Some (goes_to r)) = option_map (λ o. record { from = o.from; through = o.through ++ r.through }) (origin r.from)

  -- an origin in the zone that is found in at most k steps
  abbrev pub inner_within : ℕ → Site → Option Read
  inner_within zero site = None
  inner_within (suc k) site = origin_by (inner_within k) site (back site)

  module _ {V : Type 0} (given : Given V) where
    abbrev pub inner_source : Site → Option (Source V)
    inner_source (at_output way n s) = Some (an_output (path_of way n) s)
    inner_source (at_item way n k i) = Some (an_item i)
    inner_source (at_constant c) = Some (a_given (given.constant c))
    inner_source _ = None

    abbrev pub inner_link : Read → Read → Option (Link V)
    inner_link r o = option_map (λ x. record { from = x; through = o.through ++ r.through }) (inner_source o.from)

    abbrev pub inner_read : ℕ → Read → Option (Link V)
    inner_read k r = option_and_then (inner_link r) (inner_within k r.from)

    abbrev pub inner_node : ℕ → Run → Option (Node Kind V)
    inner_node k run = option_map (λ links. record { path = run.path; kind = run.kind; links = links }) (all_of (map (inner_read k) run.reads))

    abbrev pub inner_nodes : ℕ → Way → Option (List (Node Kind V))
    inner_nodes k way = option_and_then (λ runs. all_of (map (inner_node k) runs)) (runs_within list_in k way)

    -- the nodes of some first turns
    abbrev pub turns_within : ℕ → ℕ → Way → ℕ → Option (List (Node Kind V))
    turns_within k turns way n = option_map (flat_map (λ nodes. nodes)) (all_of (map (λ j. inner_nodes k (into way (turn_step n j))) (range_with_len 0 turns)))

    abbrev pub opened_at : ℕ → ℕ → Body → Way × ℕ → Option (Opened Kind V)
    opened_at k turns b (way, n) =
        option_and_then (λ nodes. option_map (λ outputs. record { nodes = nodes; outputs = outputs }) (all_of (map (inner_read k) (items_after way n turns b)))) (turns_within k turns way n)

    -- what the zone opens where it turns that often
    abbrev pub opened_within : ℕ → ℕ → Option (Opened Kind V)
    opened_within k turns = option_and_then (λ b. option_and_then (opened_at k turns b) (place_by the_tree path)) zone_inside
