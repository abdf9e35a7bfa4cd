-- What is known of nodes, which of their inputs a run reads, and which outputs are wanted. Nodes have
-- numbers, which are their places in the lists.
use Rattle.std.specs.Prelude.{◌≡◌, ℕ, zero, suc, ◌<◌, Bool, true, false, ◌&&◌, not, List, [], ◌∷◌, ◌++◌, map, length, Option, Some, None, is_some, is_none, IsTrue, min, replicate, take, fold, slice_set, slice_index_or, if◌then◌else◌}
use Rattle.gn_node_set.specs.Meanings.{Has, Role as MeantRole, Choice as MeantChoice, one_case, all_cases, no_case, selected, member}
use Rattle.gn_node_set.specs.Meanings as meant
use Rattle.gn_uses.specs.declared.outputs.Out.{Out}
use Rattle.gn_uses.specs.declared.nodes.Role.{Role}
use Rattle.gn_uses.specs.declared.nodes.Role.TheVariants.{Plain, Switch, File, Zone}
use Rattle.gn_uses.specs.declared.nodes.Choice.{Choice}
use Rattle.gn_uses.specs.declared.nodes.Choice.TheVariants.{One, All, Zero}
use Rattle.gn_uses.specs.Sets.{IsIn, with_out, has_out, has, with_number}

pub record Nodes : Type 0 where
  pub roles : List Role
  -- where each input comes from, and nothing where it is a value
  pub inputs : List (List (Option Out))
  -- how many outputs each node has
  pub sizes : List ℕ
  -- what a switch has chosen, once its condition is known
  pub choices : List (Option Choice)
  -- of a zone that is opened, where each of its outputs comes from
  pub results : List (List (Option Out))
  -- which inputs have values by now
  pub filled : List (List Bool)
  -- which imports have their answers
  pub answered : List Bool
  -- what is wanted whatever the nodes are
  pub roots : List Out

abbrev pub no_nodes : Nodes
no_nodes = record { roles = []; inputs = []; sizes = []; choices = []; results = []; filled = []; answered = []; roots = [] }

-- ---- what a node reads

abbrev pub role_of : Role → MeantRole
role_of Plain = meant.Plain
role_of Switch = meant.Switch
role_of File = meant.File
role_of Zone = meant.Zone

-- before its condition is known a switch reads none of its cases
abbrev pub choice_of : Option Choice → MeantChoice
choice_of None = no_case
choice_of (Some (One case)) = one_case case
choice_of (Some All) = all_cases
choice_of (Some Zero) = no_case

module _ (g : Nodes) (n : ℕ) where
  abbrev pub role : Role
  role = slice_index_or g.roles n Plain

  abbrev pub choice : Option Choice
  choice = slice_index_or g.choices n None

  abbrev pub inputs : List (Option Out)
  inputs = slice_index_or g.inputs n []

  abbrev pub filled : List Bool
  filled = slice_index_or g.filled n []

  abbrev pub results : List (Option Out)
  results = slice_index_or g.results n []

  abbrev pub answered : Bool
  answered = slice_index_or g.answered n false

  -- where the inputs come from that a run of the node reads, as far as its choice is known
  abbrev pub needs : List (Option Out)
  needs = selected (role_of role) (choice_of choice) inputs

abbrev pub all_set : List Bool → Bool
all_set [] = true
all_set (flag ∷ flags) = flag && all_set flags

-- a switch has chosen, and an import has its answer
abbrev pub is_set_up : Role → Option Choice → Bool → Bool
is_set_up Switch chosen reported = is_some chosen
is_set_up File chosen reported = reported
is_set_up _ chosen reported = true

-- is all there that a run of the node gets?
abbrev pub is_full : Nodes → ℕ → Bool
is_full g n = all_set (selected (role_of (role g n)) (choice_of (choice g n)) (filled g n)) && is_set_up (role g n) (choice g n) (answered g n)

-- where an output of an opened zone comes from, unless that is a value
abbrev pub result_at : Nodes → Out → Option Out
result_at g x = slice_index_or (results g x.node) x.output None

-- ---- which outputs are wanted: the least set that holds the roots, with an output of a node what the node needs, and with an output of an opened zone where that comes from

pub data Wanted (g : Nodes) : Out → Type 0 where
  a_root : (x : Out) → Has g.roots x → Wanted g x
  an_input : (x y : Out) → Wanted g x → Has (needs g x.node) (Some y) → Wanted g y
  a_result : (x y : Out) → Wanted g x → result_at g x ≡ Some y → Wanted g y

-- a node is used where one of its outputs is wanted
abbrev pub Used : Nodes → ℕ → Type 0
Used g n = (s : ℕ) × Wanted g (record { node = n; output = s })

-- ---- changes

-- a switch that has not chosen
abbrev pub IsUndecided : Role → Option Choice → Type 0
IsUndecided Switch None = Unit {0}
IsUndecided _ _ = ⊥

abbrev pub HasRoom : List ℕ → List (Option Out) → Type 0
HasRoom sizes inputs = (x : Out) → Has inputs (Some x) → IsIn sizes x

-- one more node
abbrev pub with_node : Nodes → Role → List (Option Out) → ℕ → Nodes
with_node g role inputs size = record {
  roles = g.roles ++ role ∷ [];
  inputs = g.inputs ++ inputs ∷ [];
  sizes = g.sizes ++ size ∷ [];
  choices = g.choices ++ None ∷ [];
  results = g.results ++ [] ∷ [];
  filled = g.filled ++ map (λ input. is_none input) inputs ∷ [];
  answered = g.answered ++ false ∷ [];
  roots = g.roots;
}

abbrev pub with_root : Nodes → Out → Nodes
with_root g x = record g { roots = g.roots ++ x ∷ [] }

abbrev pub with_choice : Nodes → ℕ → Choice → Nodes
with_choice g n choice = record g { choices = slice_set g.choices n (Some choice) }

abbrev pub with_results : Nodes → ℕ → List (Option Out) → Nodes
with_results g n results = record g { results = slice_set g.results n results }

abbrev pub with_value : Nodes → ℕ → ℕ → Nodes
with_value g n i = record g { filled = slice_set g.filled n (slice_set (filled g n) i true) }

abbrev pub with_answer : Nodes → ℕ → Nodes
with_answer g n = record g { answered = slice_set g.answered n true }
