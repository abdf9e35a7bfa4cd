-- What a state begins with, of each link and of each node.
use Rattle.std.specs.Prelude.{◌≡◌, ℕ, suc, ◌<◌, Bool, true, false, List, [], ◌∷◌, ◌++◌, map, length, Option, Some, None, IsSome, is_some, is_none, slice_index_or}
use Rattle.gn_lazy.specs.Graphs.{Nodes}
use Rattle.gn_lazy.specs.declared.graph.Origin.{Origin}
use Rattle.gn_lazy.specs.declared.graph.Origin.TheVariants.{Input, Constant, Out}
use Rattle.gn_lazy.specs.declared.graph.Link.{Link as GraphLink}
use Rattle.gn_lazy.specs.declared.graph.GraphNode.{GraphNode}
use Rattle.gn_node_set.specs.Meanings.{Meanings, Switch, converted}
use Rattle.gn_exec_laws.specs.Fits.{shifted}
use Rattle.gn_uses.specs.declared.nodes.Role.{Role}
use Rattle.gn_uses.specs.declared.nodes.Choice.{Choice}
use Rattle.gn_uses.specs.declared.outputs.Out.{Out as Place}
use Rattle.gn_uses.specs.Nodes as numbers
use Rattle.gn_nodes.specs.Calls.{MayBeFirst, choice_as, chosen_as}
use Rattle.gn_exec_core.specs.States.{State}
use Rattle.gn_exec_core.specs.Holds.{input_of}

-- no event yet
abbrev pub begun : {K V : Type 0} → Nodes K → List V → State K V
begun graph given = record { graph = graph; given = given; events = []; handed = [] }

-- is the first value there, and what is it?
abbrev pub first_set : {V : Type 0} → List (Option V) → Bool
first_set [] = false
first_set (value ∷ values) = is_some value

-- one more node, with what it has chosen
abbrev pub with_chosen : numbers.Nodes → Role → List (Option Place) → ℕ → Option Choice → numbers.Nodes
with_chosen g role inputs size choice = record (numbers.with_node g role inputs size) { choices = g.choices ++ choice ∷ [] }

-- more roots
abbrev pub with_roots : numbers.Nodes → List Place → numbers.Nodes
with_roots g roots = record g { roots = g.roots ++ roots }

-- there is a role and a choice for each node
pub record AreWhole (g : numbers.Nodes) : Type 0 where
  pub roles : length g.roles ≡ length g.sizes
  pub choices : length g.choices ≡ length g.sizes

module _ {K V S T : Type 0} (m : Meanings K V S T) where
  abbrev pub first_value : List (Option V) → V
  first_value (Some value ∷ values) = value
  first_value _ = m.nothing

  -- a value that is given, as a link carries it; an output has none yet
  abbrev pub start_at : List V → List ℕ → Origin → Option V
  start_at given through Input = Some (converted m.rows (slice_index_or given 0 m.nothing) through)
  start_at given through (Constant slot) = Some (converted m.rows (slice_index_or given (suc slot) m.nothing) through)
  start_at given through (Out node socket) = None

  abbrev pub start_value : List V → GraphLink → Option V
  start_value given link = start_at given link.through.items link.origin

  -- the given value that a link leads to is there, and has a sort that the link converts
  abbrev pub CanCarryAs : List V → List ℕ → Origin → Type 0
  CanCarryAs given through Input = (0 < length given) × IsSome (shifted m (m.sort (slice_index_or given 0 m.nothing)) through)
  CanCarryAs given through (Constant slot) = (suc slot < length given) × IsSome (shifted m (m.sort (slice_index_or given (suc slot) m.nothing)) through)
  CanCarryAs given through (Out node socket) = Unit {0}

  abbrev pub CanCarry : List V → GraphLink → Type 0
  CanCarry given link = CanCarryAs given link.through.items link.origin

  -- a switch whose first value is there has chosen by it
  pub record IsChosenBy (kind : K) (values : List (Option V)) (made : Option Choice) : Type 0 where
    pub choice : numbers.choice_of made ≡ choice_as (m.rows.role kind) (first_set values) (m.rows.choice kind (first_value values))
    pub chosen : is_some made ≡ chosen_as (m.rows.role kind) (first_set values)

  -- a switch whose first value is there may choose by it
  abbrev pub MayChoose : K → List (Option V) → Type 0
  MayChoose kind values = m.rows.role kind ≡ Switch → first_set values ≡ true → MayBeFirst m kind (m.sort (first_value values))

  module _ {G : Type 0} (kind_of : G → K) where
    -- the first nodes have their numbers, and nothing is wanted yet
    pub record HasNumbers (nodes : List (GraphNode G)) (made : List (Option Choice)) (g : numbers.Nodes) : Type 0 where
      pub roles : map numbers.role_of g.roles ≡ map (λ at. m.rows.role (kind_of at.kind)) nodes
      pub inputs : g.inputs ≡ map (λ at. map input_of at.inputs.items) nodes
      pub sizes : g.sizes ≡ map (λ at. at.outputs) nodes
      pub choices : g.choices ≡ made
      pub results : g.results ≡ map (λ at. []) nodes
      pub filled : g.filled ≡ map (λ at. map (λ link. is_none (input_of link)) at.inputs.items) nodes
      pub answered : g.answered ≡ map (λ at. false) nodes
