-- Which graphs fit, and what meanings have to keep.
use Rattle.std.specs.Prelude.{◌≡◌, ◌≢◌, ◌⊎◌, ℕ, ◌<◌, List, [], ◌∷◌, ◌++◌, map, Option, Some, None, Bool, true, false, IsTrue, is_some, slice_get, option_and_then}
use Rattle.gn_node_set.specs.Paths.{Path, ends_plain, has_turn, zone_of}
use Rattle.gn_node_set.specs.Meanings.{Has, Source, a_value, an_item, an_output, Link, Node, Opened, Role, File, Zone, Answer, Warning, Done, Meanings, AllDiffer, selected}
use Rattle.gn_exec_laws.specs.Graphs.{Task}

abbrev pub paths_of : {K V : Type 0} → List (Node K V) → List Path
paths_of nodes = map (λ node. node.path) nodes

abbrev pub is_file : Role → Bool
is_file File = true
is_file _ = false

module _ {K V S T : Type 0} (m : Meanings K V S T) where
  -- ---- sorts

  abbrev pub shifted : S → List ℕ → Option S
  shifted s [] = Some s
  shifted s (kind ∷ kinds) = option_and_then (λ t. shifted t kinds) (m.shift s kind)

  abbrev pub HasNoTags : V → Type 0
  HasNoTags v = (p : Path) → m.tag v p ≡ None

  -- the sort of a source, where these are the sorts of the items and these the nodes
  abbrev pub SourceSort : List S → List (Node K V) → Source V → S → Type 0
  SourceSort items nodes (a_value v) s = (m.sort v ≡ s) × HasNoTags v
  SourceSort items nodes (an_item i) s = slice_get items i ≡ Some s
  SourceSort items nodes (an_output p k) s = (node : Node K V) × Has nodes node × (node.path ≡ p) × (slice_get (m.gives node.kind) k ≡ Some s)

  abbrev pub LinkSort : List S → List (Node K V) → Link V → S → Type 0
  LinkSort items nodes link s = (t : S) × SourceSort items nodes link.from t × (shifted t link.through ≡ Some s)

  abbrev pub LinkSorts : List S → List (Node K V) → List (Link V) → List S → Type 0
  LinkSorts items nodes [] [] = Unit {0}
  LinkSorts items nodes (link ∷ links) (s ∷ sorts) = LinkSort items nodes link s × LinkSorts items nodes links sorts
  LinkSorts items nodes _ _ = ⊥

  -- a zone has its head, and then items of the sorts of its outputs
  abbrev pub HasItems : Role → K → List S → Type 0
  HasItems Zone kind sorts = (head : S) × (sorts ≡ head ∷ m.gives kind)
  HasItems _ kind sorts = Unit {0}

  pub record KindFits (kind : K) (sorts : List S) : Type 0 where
    pub fits : IsTrue (m.fits kind sorts)
    pub items : HasItems (m.rows.role kind) kind sorts

  -- a node fits behind these nodes
  pub record NodeFits (items : List S) (nodes : List (Node K V)) (node : Node K V) : Type 0 where
    pub sorts : List S
    pub links : LinkSorts items nodes node.links sorts
    pub kind : KindFits node.kind sorts

  -- each node fits behind those that stand before it
  abbrev pub NodesFit : List S → List (Node K V) → List (Node K V) → Type 0
  NodesFit items before [] = Unit {0}
  NodesFit items before (node ∷ nodes) = NodeFits items before node × NodesFit items (before ++ node ∷ []) nodes

  -- what an executor may begin with
  pub record CanStart (task : Task K V) : Type 0 where
    pub fit : NodesFit [] [] task.nodes
    pub roots : (link : Link V) → Has task.roots link → (s : S) × LinkSort [] task.nodes link s
    pub differ : AllDiffer (paths_of task.nodes)
    pub no_turns : (node : Node K V) → Has task.nodes node → has_turn node.path ≡ false
    pub ends : (node : Node K V) → Has task.nodes node → IsTrue (ends_plain node.path)

  -- ---- what meanings keep

  -- no path has two sources
  abbrev pub Agree : V → V → Type 0
  Agree u v = (p : Path) (s t : T) → m.tag u p ≡ Some s → m.tag v p ≡ Some t → s ≡ t

  abbrev pub first_of : List V → V
  first_of [] = m.nothing
  first_of (v ∷ vs) = v

  -- what a run of a node may be given
  pub record CanRun (path : Path) (kind : K) (inputs : List V) (answer : Option Answer) : Type 0 where
    pub sorts : List S
    pub fits : KindFits kind sorts
    pub are : map m.sort inputs ≡ selected (m.rows.role kind) (m.rows.choice kind (first_of inputs)) sorts
    pub agree : (u v : V) → Has inputs u → Has inputs v → Agree u v
    pub not_own : (v : V) → Has inputs v → m.tag v path ≡ None
    pub answered : is_some answer ≡ is_file (m.rows.role kind)

  -- what it gives: outputs of their sorts, whose tags are the node's own or are those of inputs, and warnings under its own path; a zone's run gives one value
  pub record RunsWell (path : Path) (kind : K) (inputs : List V) (done : Done V) : Type 0 where
    pub sorts : m.rows.role kind ≢ Zone → map m.sort done.outputs ≡ m.gives kind
    pub count : m.rows.role kind ≡ Zone → (v : V) × (done.outputs ≡ v ∷ [])
    pub tags : (v : V) → Has done.outputs v → (p : Path) (t : T) → m.tag v p ≡ Some t → (p ≡ path) ⊎ ((u : V) × Has inputs u × (m.tag u p ≡ Some t))
    pub agree : (u v : V) → Has done.outputs u → Has done.outputs v → Agree u v
    pub warns : (warning : Warning) → Has done.warnings warning → warning.path ≡ path

  -- what a zone opens: nodes in its turns that are less high than it, each fitting behind those before it, and a link for each of its outputs
  pub record OpensWell (path : Path) (kind : K) (opened : Opened K V) : Type 0 where
    pub lower : (node : Node K V) → Has opened.nodes node → m.height node.kind < m.height kind
    pub in_turns : (node : Node K V) → Has opened.nodes node → zone_of node.path ≡ Some path
    pub differ : AllDiffer (paths_of opened.nodes)
    pub fit : NodesFit (m.gives kind) [] opened.nodes
    pub outputs : LinkSorts (m.gives kind) opened.nodes opened.outputs (m.gives kind)

  pub record IsLawful : Type 0 where
    pub rows : (path : Path) (kind : K) (inputs : List V) (answer : Option Answer) → CanRun path kind inputs answer → RunsWell path kind inputs (m.rows.row path kind inputs answer)
    pub opens : (path : Path) (kind : K) (count : V) (sorts : List S) → IsTrue (ends_plain path) → m.rows.role kind ≡ Zone → KindFits kind sorts → OpensWell path kind (m.opens path kind count)
    pub conversion_sorts : (v : V) (kind : ℕ) (s : S) → m.shift (m.sort v) kind ≡ Some s → m.sort (m.rows.convert v kind) ≡ s
    pub conversion_tags : (v : V) (kind : ℕ) (s : S) → m.shift (m.sort v) kind ≡ Some s → (p : Path) → m.tag (m.rows.convert v kind) p ≡ m.tag v p

  -- ---- sharing

  -- where values of some sorts can be shared, these sorts are not converted
  abbrev pub SharedStay : (S → Bool) → Type 0
  SharedStay shareable = (s : S) (kind : ℕ) → IsTrue (shareable s) → m.shift s kind ≡ None
