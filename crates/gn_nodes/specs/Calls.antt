-- What the calls of a set of nodes promise.
use Rattle.std.specs.Prelude.{◌≡◌, ℕ, ◌+◌, ◌-◌, ◌<◌, ◌≤◌, Bool, true, false, List, ◌∷◌, map, length, IsTrue, All, slice_get}
use Rattle.gn_lazy.specs.Graphs.{has_output}
use Rattle.gn_lazy.specs.declared.graph.Origin.{Origin}
use Rattle.gn_lazy.specs.declared.graph.Origin.TheVariants.{Input, Constant, Out}
use Rattle.gn_lazy.specs.declared.graph.GraphNode.{GraphNode}
use Rattle.gn_lazy.specs.declared.graph.Link.{Link}
use Rattle.gn_shared.specs.Count.{Count}
use Rattle.gn_node_set.specs.Paths.{Path}
use Rattle.gn_node_set.specs.Meanings.{Role, Switch, Choice, no_case, Meanings}
use Rattle.gn_exec_laws.specs.Fits.{KindFits}
use Rattle.gn_exec_laws.specs.Tasks.{opened_of}
use Rattle.gn_nodes.specs.declared.values.Opened.{Opened}

module _ {G : Type 0} (items base : ℕ) (nodes : List (GraphNode G)) (constants : ℕ) where
  -- an origin inside what a zone opened: a number of an item or of a constant, or an output of one of its nodes
  abbrev pub IsInside : Origin → Type 0
  IsInside Input = ⊥
  IsInside (Constant slot) = slot < items + constants
  IsInside (Out node socket) = (base ≤ node) × IsTrue (has_output (slice_get nodes (node - base)) socket)

  abbrev pub AreInside : List Link → Type 0
  AreInside links = All (λ link. IsInside link.origin) links

module _ {G H K V S T : Type 0} (m : Meanings K V S T) (kind_of : G → K) (content : H → V) where
  -- a zone opened what its meaning says, with its nodes numbered from the base
  pub record OpensAs (path : Path) (kind : G) (base : ℕ) (count : H) (opened : Opened G H) : Type 0 where
    pub means : opened_of kind_of m.nothing (length (m.gives (kind_of kind))) base opened.nodes.items (map content opened.constants.items) opened.outputs.items ≡ m.opens path (kind_of kind) (content count)
    pub inputs : All (λ node. AreInside (length (m.gives (kind_of kind))) base opened.nodes.items (length opened.constants.items) node.inputs.items) opened.nodes.items
    pub outputs : AreInside (length (m.gives (kind_of kind))) base opened.nodes.items (length opened.constants.items) opened.outputs.items
    pub each_output : length opened.outputs.items ≡ length (m.gives (kind_of kind))

-- a node of the kind may have a first input of the sort
abbrev pub MayBeFirst : {K V S T : Type 0} → Meanings K V S T → K → S → Type 0
MayBeFirst {S = S} m kind sort = (sorts : List S) × KindFits m kind (sort ∷ sorts)

-- what a switch chooses once its condition is known, and whether it has chosen
abbrev pub choice_as : Role → Bool → Choice → Choice
choice_as Switch true choice = choice
choice_as _ _ choice = no_case

abbrev pub chosen_as : Role → Bool → Bool
chosen_as Switch set = set
chosen_as _ set = false

-- the meter has noted no copy
abbrev pub NoCopy : Count → Count → Type 0
NoCopy before after = after.copies ≡ before.copies
