-- In a tree that keeps the rules, the parts of a list: what they read, and the lists that they open.
use Rattle.std.proofs.Common.{◌≡◌, ◌<◌, ◌≤◌, ◌⊎◌, inl, inr, ℕ, zero, suc, List, [], ◌∷◌, length, map, Option, Some, None, codes, refl, sym, ◌∙◌, ap, subst, arith}
use Rattle.std.specs.Prelude.{Bool, true, false, bytes_eq, IsTrue, option_map, option_and_then, if◌then◌else◌}
use Rattle.std.proofs.lemmas.List.{length-map}
use Rattle.std.proofs.lemmas.Slice.Eq.{bytes_eq-Decides}
use Rattle.gn_lazy.specs.declared.path.PathStep.{PathStep}
use Rattle.gn_kinds.specs.declared.row.SocketKind.TheVariants.{Int}
use Rattle.gn_kinds.specs.Row.{Text}
use Rattle.gn_pointers.specs.Pointers.{key}
use Rattle.gn_tree.specs.NodeKinds.{Kind}
use Rattle.gn_tree.specs.Trees.{Named, Node, node, Settings, Nodes, no_nodes, and_node, Tree, node_size, settings_size, nodes_size}
use Rattle.gn_cycle.specs.Graph.{has_edge}
use Rattle.gn_rules.specs.Sockets.{Declared, one, one_of, group_in, items_in, inputs_of, outputs_of, inputs_of_kind, is_zone, node_at}
use Rattle.gn_rules.specs.Scopes.{Scope}
use Rattle.gn_rules.specs.Things.{the_settings, the_inputs}
use Rattle.gn_rules.specs.Rules.{KeepsRules, graph_of}
use Rattle.gn_node_set.specs.Meanings.{Has}
use Rattle.gn_meaning.specs.Sites.{Way, into, plain_step, turn_step, path_of, Read}
use Rattle.gn_meaning.specs.Bodies.{Body, body_in, body_of, body_at, kind_in}
use Rattle.gn_meaning.specs.Reads.{default_of, node_reads, read_at, Run, Part, a_node, a_group, a_repeat, part_by, part_in, part_at}
use Rattle.gn_meaning.specs.Forms.{SettingsHaveForm, HasForm}
use Rattle.gn_meaning.specs.There.{LeadsTo, to_the_tree, into_group, into_turn}
use Rattle.gn_meaning.proofs.Options.{some_same, map_some}
use Rattle.gn_meaning.proofs.Reached.{part}
use Rattle.gn_meaning.proofs.Inputs.{AllSingle, InputsReached, inputs_reached, AllNear, reads_near, has_read}
use Rattle.gn_meaning.proofs.Order.{edge_of_link}
use Rattle.gn_meaning.proofs.Parts.{further_group, further_zone, group_inputs, group_outputs, zone_inputs, zone_outputs, singles, Inner, group_inner, zone_inner, inner_of, Holds, node_form, holds_tree, holds_inner}

-- ---- parts by their nodes

abbrev pub reads_in : Part → List Read
reads_in (a_node run) = run.reads
reads_in (a_group b reads) = reads
reads_in (a_repeat run b) = run.reads

reads_by : (kind : Text) (o : Option Body) (run : Run) → reads_in (part_by kind o run) ≡ run.reads
reads_by kind None run = refl
reads_by kind (Some b) run = by_name (bytes_eq kind (codes "group"))
  where
    by_name : (group : Bool) → reads_in (if group then a_group b run.reads else a_repeat run b) ≡ run.reads
    by_name true = refl
    by_name false = refl

group_by : (kind : Text) (o : Option Body) (run : Run) (inner : Body) (reads : List Read) → part_by kind o run ≡ a_group inner reads → o ≡ Some inner
group_by kind None run inner reads e = cc
group_by kind (Some b) run inner reads e = by_name (bytes_eq kind (codes "group")) e
  where
    by_name : (group : Bool) → (if group then a_group b run.reads else a_repeat run b) ≡ a_group inner reads → Some b ≡ Some inner
    by_name true h = cc
    by_name false h = cc

pub repeat_by : (kind : Text) (o : Option Body) (run other : Run) (inner : Body) → part_by kind o run ≡ a_repeat other inner → (o ≡ Some inner) × (bytes_eq kind (codes "group") ≡ false) × (run ≡ other)
repeat_by kind None run other inner e = cc
repeat_by kind (Some b) run other inner e = by_name (bytes_eq kind (codes "group")) refl e
  where
    by_name : (group : Bool) → bytes_eq kind (codes "group") ≡ group → (if group then a_group b run.reads else a_repeat run b) ≡ a_repeat other inner → (Some b ≡ Some inner) × (bytes_eq kind (codes "group") ≡ false) × (run ≡ other)
    by_name true at h = cc
    by_name false at h = (cc, at, cc)

-- the kind of a node has its name
one_name : (zone : Bool) (name : Text) (x y : Kind) → x.name ≡ name → y.name ≡ name → (let z : Kind = if zone then x else y in z.name) ≡ name
one_name true name x y e f = e
one_name false name x y e f = f

pub kind_name : (s : Scope) (id kind : Text) (set : Settings) (inputs : List Named) → (kind_in s (node id kind set inputs)).name ≡ kind
kind_name s id kind set inputs = one_name (is_zone set) kind (record { name = kind; settings = set; groups = s.groups }) (record { name = kind; settings = set; groups = [] }) refl refl

-- above, or as many groups above and smaller
abbrev pub Smaller : Body → Body → Type 0
Smaller inner b = (inner.scope.above < b.scope.above) ⊎ ((inner.scope.above ≡ b.scope.above) × (nodes_size inner.scope.nodes < nodes_size b.scope.nodes))

-- what a node opens: each of its outputs is one of the inner list, which has an input for each that it reads
pub record Opens (t : Tree) (b : Body) (x : Node) (inner : Body) (reads : List Read) : Type 0 where
  pub body : body_of b.scope x ≡ Some inner
  pub holds : Holds t inner
  pub smaller : Smaller inner b
  pub outs : length (outputs_of b.scope.groups x) ≡ length inner.sockets
  pub has : (i : ℕ) → i < length inner.scope.entries → Has reads (read_at reads i)

node_smaller : (ns : Nodes) (n : ℕ) (x : Node) → node_at ns n ≡ Some x → node_size x ≤ nodes_size ns
node_smaller no_nodes n x e = cc
node_smaller (and_node y ns) zero x e =
    let same : node_size y ≡ node_size x = ap node_size (some_same e) in
    omega (arith, same)
node_smaller (and_node y ns) (suc n) x e =
    let rest : node_size x ≤ nodes_size ns = node_smaller ns n x e in
    omega (arith, rest)

module _ (t : Tree) (keeps : KeepsRules t) (form : HasForm t) where
  module _ (way : Way) (b : Body) (holds : Holds t b) (n : ℕ) (id kind : Text) (set : Settings) (inputs : List Named) (there : node_at b.scope.nodes n ≡ Some (node id kind set inputs)) where
    abbrev x : Node
    x = node id kind set inputs

    abbrev pub all : List Declared
    all = inputs_of b.scope.groups x

    set_form : SettingsHaveForm kind set
    set_form = node_form t b.scope.nodes n x holds.form there

    pub inputs_there : InputsReached t b.scope all inputs
    inputs_there = inputs_reached t b.scope all inputs (part (key (codes "in")) (the_inputs b.scope all inputs) (holds.nodes n x there) refl)

    near : AllNear t keeps b.scope way (λ m. IsTrue (has_edge (graph_of b.scope.nodes) n m)) (node_reads b.scope way x)
    near = reads_near t keeps b.scope way all inputs inputs_there (λ m. IsTrue (has_edge (graph_of b.scope.nodes) n m)) (λ l h m e. edge_of_link b.scope.nodes n m id kind set inputs l there h e) all (map default_of (inputs_of_kind kind))

    has_input : (ds : List Declared) → all ≡ ds → AllSingle ds → (i : ℕ) → i < length ds → Has (node_reads b.scope way x) (read_at (node_reads b.scope way x) i)
    has_input ds e single i h =
        let one : AllSingle all = subst AllSingle (sym e) single in
        has_read t keeps b.scope way all inputs inputs_there one all (map default_of (inputs_of_kind kind)) i one (subst (λ xs. i < length xs) (sym e) h)

    inner_there : (inner : Body) → body_in b.scope kind set ≡ Some inner → Inner t b.scope kind (group_in set) (items_in set) (settings_size set) inner
    inner_there inner e = inner_of t keeps b.scope kind set inner set_form (λ step y h. part step y (part (key (codes "set")) (the_settings b.scope set) (holds.nodes n x there) refl) h) e

    opened : (inner : Body) → body_in b.scope kind set ≡ Some inner → Holds t inner → Inner t b.scope kind (group_in set) (items_in set) (settings_size set) inner
        → Opens t b x inner (node_reads b.scope way x) × ((bytes_eq kind (codes "group") ≡ false) → (kind ≡ codes "repeat") × (length inner.scope.entries ≡ suc (length inner.sockets)))
    opened inner e holds_it (group_inner name i g named at group above is) = (
      record {
        body = e;
        holds = holds_it;
        smaller = inl above;
        outs = ap length (group_outputs b.scope.groups id kind set inputs g.outputs is (further_group (λ h. h.outputs) b.scope.groups set name i g named at group)) ∙ length-map g.outputs one_of;
        has = has_input (map one_of g.inputs) (group_inputs b.scope.groups id kind set inputs g.inputs is (further_group (λ h. h.inputs) b.scope.groups set name i g named at group)) (singles g.inputs);
      },
      λ other. absurd (let yes : bytes_eq kind (codes "group") ≡ true = (bytes_eq-Decides kind (codes "group")).1 is in cc),
    )
    opened inner e holds_it (zone_inner xs nodes output named items smaller is has_form nodes_there output_there) =
        let size : node_size x ≤ nodes_size b.scope.nodes = node_smaller b.scope.nodes n x there in (
          record {
            body = e;
            holds = holds_it;
            smaller = inr (refl, omega (arith, size, smaller));
            outs = ap length (zone_outputs b.scope.groups id kind set inputs xs is (further_zone (λ h. h.outputs) b.scope.groups set named ∙ items)) ∙ length-map xs one_of;
            has = has_input (one (codes "iterations") Int ∷ map one_of xs) (zone_inputs b.scope.groups id kind set inputs xs is (further_zone (λ h. h.inputs) b.scope.groups set named ∙ items)) (refl, singles xs);
          },
          λ _. (is, ap suc (length-map xs one_of)),
        )

    pub opens : (inner : Body) → body_in b.scope kind set ≡ Some inner → Opens t b x inner (node_reads b.scope way x) × ((bytes_eq kind (codes "group") ≡ false) → (kind ≡ codes "repeat") × (length inner.scope.entries ≡ suc (length inner.sockets)))
    opens inner e =
        let i : Inner t b.scope kind (group_in set) (items_in set) (settings_size set) inner = inner_there inner e in
        opened inner e (holds_inner t keeps form b holds i) i

  -- ---- the parts of a list

  module _ (way : Way) (b : Body) (at : body_at t way ≡ Some b) (n : ℕ) where
    pub part_of : (x : Node) → node_at b.scope.nodes n ≡ Some x → part_at t way n ≡ Some (part_in b.scope way n x)
    part_of x e = ap (option_and_then (λ c. option_map (part_in c.scope way n) (node_at c.scope.nodes n))) at ∙ ap (option_map (part_in b.scope way n)) e

    pub node_of : (p : Part) → part_at t way n ≡ Some p → (x : Node) × (node_at b.scope.nodes n ≡ Some x) × (part_in b.scope way n x ≡ p)
    node_of p e =
        map_some (part_in b.scope way n) (node_at b.scope.nodes n) p
        (sym (ap (option_and_then (λ c. option_map (part_in c.scope way n) (node_at c.scope.nodes n))) at) ∙ e)

    module _ (holds : Holds t b) where
      abbrev Edge : ℕ → Type 0
      Edge m = IsTrue (has_edge (graph_of b.scope.nodes) n m)

      pub part_near : (p : Part) → part_at t way n ≡ Some p → AllNear t keeps b.scope way Edge (reads_in p)
      part_near p e = by_node (node_of p e)
        where
          by_node : (x : Node) × (node_at b.scope.nodes n ≡ Some x) × (part_in b.scope way n x ≡ p) → AllNear t keeps b.scope way Edge (reads_in p)
          by_node (node id kind set inputs, there, same) =
              let run : Run = record { path = path_of way n; kind = kind_in b.scope (node id kind set inputs); reads = node_reads b.scope way (node id kind set inputs) } in
              subst (AllNear t keeps b.scope way Edge) (sym (reads_by kind (body_in b.scope kind set) run) ∙ ap reads_in same) (near way b holds n id kind set inputs there)

      pub group_opens : (inner : Body) (reads : List Read) → part_at t way n ≡ Some (a_group inner reads) → (x : Node) × (node_at b.scope.nodes n ≡ Some x) × Opens t b x inner reads
      group_opens inner reads e = by_node (node_of (a_group inner reads) e)
        where
          by_node : (x : Node) × (node_at b.scope.nodes n ≡ Some x) × (part_in b.scope way n x ≡ a_group inner reads) → (x : Node) × (node_at b.scope.nodes n ≡ Some x) × Opens t b x inner reads
          by_node (node id kind set inputs, there, same) =
              let run : Run = record { path = path_of way n; kind = kind_in b.scope (node id kind set inputs); reads = node_reads b.scope way (node id kind set inputs) } in
              let read : run.reads ≡ reads = sym (reads_by kind (body_in b.scope kind set) run) ∙ ap reads_in same in
              let body : body_in b.scope kind set ≡ Some inner = group_by kind (body_in b.scope kind set) run inner reads same in
              (node id kind set inputs, there, subst (Opens t b (node id kind set inputs) inner) read (opens way b holds n id kind set inputs there inner body).0)

      pub repeat_opens : (run : Run) (inner : Body) → part_at t way n ≡ Some (a_repeat run inner) → (x : Node) × (node_at b.scope.nodes n ≡ Some x) × Opens t b x inner run.reads × (length inner.scope.entries ≡ suc (length inner.sockets))
      repeat_opens run inner e = by_node (node_of (a_repeat run inner) e)
        where
          by_node : (x : Node) × (node_at b.scope.nodes n ≡ Some x) × (part_in b.scope way n x ≡ a_repeat run inner) → (x : Node) × (node_at b.scope.nodes n ≡ Some x) × Opens t b x inner run.reads × (length inner.scope.entries ≡ suc (length inner.sockets))
          by_node (node id kind set inputs, there, same) =
              let own : Run = record { path = path_of way n; kind = kind_in b.scope (node id kind set inputs); reads = node_reads b.scope way (node id kind set inputs) } in
              let read : own.reads ≡ run.reads = sym (reads_by kind (body_in b.scope kind set) own) ∙ ap reads_in same in
              let body : (body_in b.scope kind set ≡ Some inner) × (bytes_eq kind (codes "group") ≡ false) × (own ≡ run) = repeat_by kind (body_in b.scope kind set) own run inner same in
              let both : Opens t b (node id kind set inputs) inner own.reads × ((bytes_eq kind (codes "group") ≡ false) → (kind ≡ codes "repeat") × (length inner.scope.entries ≡ suc (length inner.sockets))) = opens way b holds n id kind set inputs there inner body.0 in
              (node id kind set inputs, there, subst (Opens t b (node id kind set inputs) inner) read both.0, (both.1 body.1).1)

      -- a part that turns is a repeat
      pub repeat_kind : (run : Run) (inner : Body) → part_at t way n ≡ Some (a_repeat run inner) → run.kind.name ≡ codes "repeat"
      repeat_kind run inner e = by_node (node_of (a_repeat run inner) e)
        where
          by_node : (x : Node) × (node_at b.scope.nodes n ≡ Some x) × (part_in b.scope way n x ≡ a_repeat run inner) → run.kind.name ≡ codes "repeat"
          by_node (node id kind set inputs, there, same) =
              let own : Run = record { path = path_of way n; kind = kind_in b.scope (node id kind set inputs); reads = node_reads b.scope way (node id kind set inputs) } in
              let body : (body_in b.scope kind set ≡ Some inner) × (bytes_eq kind (codes "group") ≡ false) × (own ≡ run) = repeat_by kind (body_in b.scope kind set) own run inner same in
              ap (λ r. r.kind.name) (sym body.2) ∙ kind_name b.scope id kind set inputs ∙ ((opens way b holds n id kind set inputs there inner body.0).1 body.1).0

  -- ---- ways

  body_inside : (way : Way) (step : PathStep) (b : Body) (x : Node) (inner : Body) → body_at t way ≡ Some b → node_at b.scope.nodes step.node ≡ Some x → body_of b.scope x ≡ Some inner → body_at t (into way step) ≡ Some inner
  body_inside way step b x inner at there e =
      ap (option_and_then (λ c. option_and_then (body_of c.scope) (node_at c.scope.nodes step.node))) at ∙ ap (option_and_then (body_of b.scope)) there ∙ e

  -- the list that a way leads to is that at the way, and is of the tree
  pub at_way : {way : Way} {b : Body} → LeadsTo t way b → (body_at t way ≡ Some b) × Holds t b
  at_way to_the_tree = (refl, holds_tree t form)
  at_way (into_group {way} {b} {inner} n reads outer e) =
      let list : (body_at t way ≡ Some b) × Holds t b = at_way outer in
      let there : (x : Node) × (node_at b.scope.nodes n ≡ Some x) × Opens t b x inner reads = group_opens way b list.0 n list.1 inner reads e in
      (body_inside way (plain_step n) b there.0 inner list.0 there.1 there.2.body, there.2.holds)
  at_way (into_turn {way} {b} {inner} n k run outer e) =
      let list : (body_at t way ≡ Some b) × Holds t b = at_way outer in
      let there : (x : Node) × (node_at b.scope.nodes n ≡ Some x) × Opens t b x inner run.reads × (length inner.scope.entries ≡ suc (length inner.sockets)) = repeat_opens way b list.0 n list.1 run inner e in
      (body_inside way (turn_step n k) b there.0 inner list.0 there.1 there.2.body, there.2.holds)
