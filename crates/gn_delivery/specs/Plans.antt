-- What is due where a node is finished, and what a plan of it has.
use Rattle.std.specs.Prelude.{◌≡◌, ◌≢◌, ◌⊎◌, ◌<◌, ◌==◌, ℕ, List, [], ◌∷◌, length, Option, Some, None, IsSome, if◌then◌else◌, slice_get, slice_index_or}
use Rattle.gn_lazy.specs.Graphs.{Nodes}
use Rattle.gn_lazy.specs.declared.graph.Origin.{Origin}
use Rattle.gn_lazy.specs.declared.graph.Origin.TheVariants as origin
use Rattle.gn_lazy.specs.declared.graph.Link.{Link}
use Rattle.gn_lazy.specs.declared.graph.GraphNode.{GraphNode}
use Rattle.gn_node_set.specs.Meanings.{Has, Switch, Meanings, converted}
use Rattle.gn_exec_laws.specs.Fits.{shifted}
use Rattle.gn_uses.specs.Nodes.{choice_of}
use Rattle.gn_readers.specs.declared.place.Place.{Place}
use Rattle.gn_readers.specs.declared.place.Place.TheVariants.{Input}
use Rattle.gn_readers.specs.declared.place.Reader.{Reader}
use Rattle.gn_readers.specs.Readers.{link_at}
use Rattle.gn_nodes.specs.Calls.{MayBeFirst}
use Rattle.gn_delivery.specs.declared.plan.Second.{Second}
use Rattle.gn_delivery.specs.declared.plan.Chosen.{Chosen}
use Rattle.gn_delivery.specs.declared.plan.Plan.{Plan}

module _ {G : Type 0} (g : Nodes G) where
  -- the link at the place converts nothing
  abbrev pub IsPlain : Place → Type 0
  IsPlain p = (link : Link) → link_at g p ≡ Some link → link.through.items ≡ []

  -- the places that get outputs themselves have links that convert nothing
  abbrev pub AllPlain : List (Option Place) → Type 0
  AllPlain itself = (s : ℕ) (p : Place) → slice_get itself s ≡ Some (Some p) → IsPlain p

  -- and they are those of readers of just these outputs
  abbrev pub AreOf : List Reader → List (Option Place) → Type 0
  AreOf rs itself = (s : ℕ) (p : Place) → slice_get itself s ≡ Some (Some p) → Has rs (record { output = s; place = p })

-- what a switch has chosen, as a list
abbrev pub listed : {A : Type 0} → Option A → List A
listed None = []
listed (Some x) = x ∷ []

module _ {G K V S T : Type 0} (m : Meanings K V S T) (kind_of : G → K) (g : Nodes G) where
  -- what a node chooses by a value that goes to a place: a switch as it says where that is its condition, and else nothing
  abbrev pub ChoosesBy : Place → V → Option Chosen → Type 0
  ChoosesBy place v None = (k : ℕ) (at : GraphNode G) → place ≡ Input k 0 → slice_get g.nodes k ≡ Some at → m.rows.role (kind_of at.kind) ≢ Switch
  ChoosesBy place v (Some c) = (place ≡ Input c.node 0) × ((at : GraphNode G) × (slice_get g.nodes c.node ≡ Some at) × (m.rows.role (kind_of at.kind) ≡ Switch) × (choice_of (Some c.choice) ≡ m.rows.choice (kind_of at.kind) v))

  -- a switch may choose by a value of the sort, if that goes to its condition
  abbrev pub MayChooseBy : Place → S → Type 0
  MayChooseBy place sort = (k : ℕ) (at : GraphNode G) → place ≡ Input k 0 → slice_get g.nodes k ≡ Some at → m.rows.role (kind_of at.kind) ≡ Switch → MayBeFirst m (kind_of at.kind) sort

  module _ (outs : List V) where
    -- what a link carries of an output
    abbrev pub carried : ℕ → List ℕ → V
    carried s through = converted m.rows (slice_index_or outs s m.nothing) through

    -- the reader's output is there, its link can convert it, and a switch may choose by what comes of it
    pub record CanRead (r : Reader) : Type 0 where
      pub there : r.output < length outs
      pub converts : (link : Link) → link_at g r.place ≡ Some link → IsSome (shifted m (m.sort (slice_index_or outs r.output m.nothing)) link.through.items)
      pub chooses : (link : Link) → link_at g r.place ≡ Some link → MayChooseBy r.place (m.sort (carried r.output link.through.items))

    module _ (n : ℕ) where
      -- what a link carries that leads to an output of the node
      abbrev pub due_from : Origin → List ℕ → Option V
      due_from origin.Input through = None
      due_from (origin.Constant slot) through = None
      due_from (origin.Out k s) through = if k == n then Some (carried s through) else None

      abbrev pub due_by : Option Link → Option V
      due_by None = None
      due_by (Some link) = due_from link.origin link.through.items

      -- what is due at a place: what its link carries, if that leads to the node
      abbrev pub due : Place → Option V
      due place = due_by (link_at g place)

      -- a switch chooses by what is due at its condition
      pub record IsChoice (c : Chosen) : Type 0 where
        pub node : GraphNode G
        pub there : slice_get g.nodes c.node ≡ Some node
        pub switch : m.rows.role (kind_of node.kind) ≡ Switch
        pub condition : V
        pub is_due : due (Input c.node 0) ≡ Some condition
        pub chooses : choice_of (Some c.choice) ≡ m.rows.choice (kind_of node.kind) condition

      -- each of these readers gets what is due at its place, by a second or by the output itself, and the switches among them choose; nothing else is handed on or chosen
      pub record IsPlanFor {H : Type 0} (content : H → V) (rs : List Reader) (plan : Plan H) : Type 0 where
        pub seconds : (x : Second H) → Has plan.seconds.items x → due x.place ≡ Some (content x.value)
        pub itself : (s : ℕ) (p : Place) → slice_get plan.itself.items s ≡ Some (Some p) → due p ≡ Some (slice_index_or outs s m.nothing)
        pub all : (r : Reader) → Has rs r → ((x : Second H) × Has plan.seconds.items x × (x.place ≡ r.place)) ⊎ (slice_get plan.itself.items r.output ≡ Some (Some r.place))
        pub choices : (c : Chosen) → Has plan.choices.items c → IsChoice c
        pub all_choices : (r : Reader) → Has rs r → (k : ℕ) (at : GraphNode G) → r.place ≡ Input k 0 → slice_get g.nodes k ≡ Some at → m.rows.role (kind_of at.kind) ≡ Switch → (c : Chosen) × Has plan.choices.items c × (c.node ≡ k)
