-- Which nodes of a graph are there, by the ways of the tree.
use Rattle.std.proofs.Common.{◌≡◌, ◌<◌, ◌≤◌, ◌⊎◌, inl, inr, ℕ, zero, suc, List, [], ◌∷◌, Option, Some, None, refl, sym, ◌∙◌, ap, subst, arith}
use Rattle.std.specs.Prelude.{slice_index_or, option_and_then}
use Rattle.gn_lazy.specs.declared.path.PathStep.{PathStep}
use Rattle.gn_tree.specs.NodeKinds.{Kind}
use Rattle.gn_tree.specs.Trees.{Tree}
use Rattle.gn_rules.specs.Rules.{KeepsRules}
use Rattle.gn_node_set.specs.Paths.{Path}
use Rattle.gn_node_set.specs.Meanings.{Has, Node, Zone, Rows, Meanings}
use Rattle.gn_exec_laws.specs.Graphs.{Task, link_value, run_of as node_run, turn_nodes, Answers, told_by, Unfolded, of_the_graph, of_a_turn}
use Rattle.gn_meaning.specs.Sites.{Way, the_tree, into, plain_step, turn_step, Site, at_output, at_input, at_item, at_constant, nowhere, Read, plain_read}
use Rattle.gn_meaning.specs.Bodies.{Body, tree_body}
use Rattle.gn_meaning.specs.Reads.{read_at, Run, Part, a_node, a_group, a_repeat, run_in, part_at, out_of, run_of}
use Rattle.gn_meaning.specs.Forms.{HasForm}
use Rattle.gn_meaning.specs.There.{LeadsTo, to_the_tree, into_group, into_turn, IsThere}
use Rattle.gn_meaning.specs.Denotation.{Given}
use Rattle.gn_meaning.specs.Demand.{Wanted, a_root, an_input, a_case, a_group_output, a_group_input, a_result, a_first_item, a_later_item, an_item, output_read}
use Rattle.gn_meaning.proofs.Options.{some_same}
use Rattle.gn_meaning.proofs.ValuesExist.{has_first_read, has_then_read}
use Rattle.gn_meaning.proofs.WantedThere.{wanted_there}
use Rattle.gn_stands.specs.Stands.{Unfolds, the_list, in_group, KnowsZones, IsNodeOf, StandsFor, InTurns, OpensFor, ZonesOpen}
use Rattle.gn_stands.specs.Claims.{IsRun, own_list, group_list, turn_list, IsRunSite, TurnsBy}
use Rattle.gn_stands.proofs.Near.{InList, AllIn, read_in, has_in, out_in, part_reads_in}
use Rattle.gn_stands.proofs.Leads.{Leads, group_output, group_input, turn_item, first, later}

-- the run of a node is that of a plain one or that of a zone
pub part_of_run : (t : Tree) (way : Way) (n s : ℕ) (run : Run) → run_of t (at_output way n s) ≡ Some run → (part_at t way n ≡ Some (a_node run)) ⊎ ((b : Body) × (part_at t way n ≡ Some (a_repeat run b)))
part_of_run t way n s run e = by_part (part_at t way n) e
  where
    by_part : (o : Option Part) → option_and_then run_in o ≡ Some run → (o ≡ Some (a_node run)) ⊎ ((b : Body) × (o ≡ Some (a_repeat run b)))
    by_part None h = cc
    by_part (Some (a_node other)) h = inl (ap (λ r. Some (a_node r)) (some_same h))
    by_part (Some (a_group b reads)) h = cc
    by_part (Some (a_repeat other b)) h = inr (b, ap (λ r. Some (a_repeat r b)) (some_same h))

pub plain_is : (step : PathStep) → step.turn ≡ None → step ≡ plain_step step.node
plain_is step e = λ i. record { node = step.node; turn = e i }

pub turn_is : (step : PathStep) (k : ℕ) → step.turn ≡ Some k → step ≡ turn_step step.node k
turn_is step k e = λ i. record { node = step.node; turn = e i }

-- ---- lists in turns that are run, whatever says how often a zone turns

module _ (t : Tree) (Turns : Way → ℕ → (ℕ → Type 0) → Type 0) (weaker : (way : Way) (n : ℕ) (P Q : ℕ → Type 0) → ((k : ℕ) → P k → Q k) → Turns way n P → Turns way n Q) (zone_at : (way : Way) (n : ℕ) (P : ℕ → Type 0) → Turns way n P → (run : Run) × (b : Body) × (part_at t way n ≡ Some (a_repeat run b))) where
  abbrev In : Way → Type 0
  In = IsRun t Turns

  abbrev InSite : Site → Type 0
  InSite = IsRunSite t Turns

  pub near_run : (way : Way) (site : Site) → In way → InList way site → InSite site
  near_run way (at_output w n s) r e = subst In (sym e) r
  near_run way (at_input w i) r e = subst In (sym e) r
  near_run way (at_item w n k i) r e = absurd e
  near_run way (at_constant c) r e = tt
  near_run way nowhere r e = tt

  -- the list around
  abbrev Around : Way → Type 0
  Around the_tree = Unit {0}
  Around (into way step) = In way × (((step.turn ≡ None) × (b : Body) × (reads : List Read) × (part_at t way step.node ≡ Some (a_group b reads))) ⊎ ((k : ℕ) × (step.turn ≡ Some k) × Turns way step.node (λ turns. k < turns)))

  around : {way : Way} → In way → Around way
  around own_list = tt
  around (group_list n b reads r e) = (r, inl (refl, b, reads, e))
  around (turn_list n k r turns) = (r, inr (k, refl, turns))

  one_turn : (step : PathStep) (j k : ℕ) → step.turn ≡ Some j → step.turn ≡ Some k → j ≡ k
  one_turn step j k e f = some_same (sym e ∙ f)

  not_none : (step : PathStep) (k : ℕ) → step.turn ≡ None → step.turn ≡ Some k → ⊥
  not_none step k e f = let bad : None ≡ Some k = sym e ∙ f in cc

  before_it : (way : Way) (n j k : ℕ) → j ≡ k → Turns way n (λ turns. j < turns) → Turns way n (λ turns. k ≤ turns)
  before_it way n j k same x = weaker way n (λ turns. j < turns) (λ turns. k ≤ turns) (λ turns less. omega (arith, less, same)) x

  behind_it : (way : Way) (n k : ℕ) → Turns way n (λ turns. suc k ≤ turns) → Turns way n (λ turns. k < turns)
  behind_it way n k x = weaker way n (λ turns. suc k ≤ turns) (λ turns. k < turns) (λ turns less. omega (arith, less)) x

  -- with a site, what it leads to is in such a list
  pub led_run : (site : Site) (r : Read) → Leads t site r → InSite site → InSite r.from
  led_run site r (group_output {way} {n} {s} b reads e) h = near_run (into way (plain_step n)) (out_of t (into way (plain_step n)) s).from (group_list n b reads h e) (out_in t (into way (plain_step n)) s)
  led_run site r (group_input {way} {step} {i} b reads e) h = near_run way (read_at reads i).from (around h).0 (read_in way reads i (part_reads_in t way step.node (a_group b reads) e))
  led_run site r (turn_item {way} {step} {i} k run b e f) h = by_step (around h)
    where
      by_step : Around (into way step) → In way × Turns way step.node (λ turns. k ≤ turns)
      by_step (reached, inl (none, c, others, g)) = absurd (not_none step k none f)
      by_step (reached, inr (j, some, turns)) = (reached, before_it way step.node j k (one_turn step j k some f) turns)
  led_run site r (first {way} {n} {i} run b e) h = near_run way (read_at run.reads (suc i)).from h.0 (read_in way run.reads (suc i) (part_reads_in t way n (a_repeat run b) e))
  led_run site r (later {way} {n} {k} {i}) h = near_run (into way (turn_step n k)) (out_of t (into way (turn_step n k)) i).from (turn_list n k h.0 (behind_it way n k h.1)) (out_in t (into way (turn_step n k)) i)

  no_repeat : (o : Option Part) (b c : Body) (reads : List Read) (run : Run) → o ≡ Some (a_group b reads) → o ≡ Some (a_repeat run c) → ⊥
  no_repeat o b c reads run e f = let bad : Some (a_group b reads) ≡ Some (a_repeat run c) = sym e ∙ f in cc

  pub leads_in : {way : Way} → In way → (b : Body) × LeadsTo t way b
  leads_in own_list = (tree_body t, to_the_tree)
  leads_in (group_list n b reads r e) = (b, into_group n reads (leads_in r).1 e)
  leads_in (turn_list {way} n k r turns) =
      let z : (run : Run) × (b : Body) × (part_at t way n ≡ Some (a_repeat run b)) = zone_at way n (λ often. k < often) turns in
      (z.1, into_turn n k z.0 (leads_in r).1 z.2)

  module _ {V : Type 0} (rows : Rows Kind V) (given : Given V) (roots : List Read) where
    abbrev Wants : Site → Type 0
    Wants = Wanted rows given t roots

    -- and wanted with it
    pub led_wants : (site : Site) (r : Read) → Leads t site r → InSite site → Wants site → Wants r.from
    led_wants site r (group_output b reads e) h w = a_group_output b reads w e
    led_wants site r (group_input {way} {step} {i} b reads e) h w = by_step (around h)
      where
        by_step : Around (into way step) → Wants (read_at reads i).from
        by_step (reached, inl (none, c, others, g)) = a_group_input {n = step.node} b reads (subst (λ x. Wants (at_input (into way x) i)) (plain_is step none) w) e
        by_step (reached, inr (k, some, turns)) =
            let z : (run : Run) × (b : Body) × (part_at t way step.node ≡ Some (a_repeat run b)) = zone_at way step.node (λ often. k < often) turns in
            absurd (no_repeat (part_at t way step.node) b z.1 reads z.0 e z.2)
    led_wants site r (turn_item {way} {step} {i} k run b e f) h w = an_item {n = step.node} run b (subst (λ x. Wants (at_input (into way x) (suc i))) (turn_is step k f) w) e
    led_wants site r (first run b e) h w = a_first_item run b w e
    led_wants site r later h w = a_later_item w

module _ (t : Tree) where
  pub run_reads_in : (way : Way) (n s : ℕ) (run : Run) → run_of t (at_output way n s) ≡ Some run → AllIn way run.reads
  run_reads_in way n s run e = elim (part_of_run t way n s run e) [
    | inl plain ↦ part_reads_in t way n (a_node run) plain
    | inr (b, zone) ↦ part_reads_in t way n (a_repeat run b) zone
  ]

-- ---- by the tree

module _ {V : Type 0} (rows : Rows Kind V) (given : Given V) (t : Tree) where
  by_tree_weaker : (way : Way) (n : ℕ) (P Q : ℕ → Type 0) → ((k : ℕ) → P k → Q k) → TurnsBy rows given t way n P → TurnsBy rows given t way n Q
  by_tree_weaker way n P Q f (run, b, v, e, g, p) = (run, b, v, e, g, f (rows.turns run.kind v) p)

  by_tree_zone : (way : Way) (n : ℕ) (P : ℕ → Type 0) → TurnsBy rows given t way n P → (run : Run) × (b : Body) × (part_at t way n ≡ Some (a_repeat run b))
  by_tree_zone way n P (run, b, v, e, g, p) = (run, b, e)

  abbrev RunSite : Site → Type 0
  RunSite = IsRunSite t (TurnsBy rows given t)

  reads_run : (site : Site) (run : Run) (r : Read) → run_of t site ≡ Some run → Has run.reads r → RunSite site → RunSite r.from
  reads_run (at_output way n s) run r e h w = near_run t (TurnsBy rows given t) by_tree_weaker by_tree_zone way r.from w (has_in way run.reads r (run_reads_in t way n s run e) h)
  reads_run (at_input way i) run r e h w = cc
  reads_run (at_item way n k i) run r e h w = cc
  reads_run (at_constant c) run r e h w = cc
  reads_run nowhere run r e h w = cc

  only_output_run : (r : Read) → Has (output_read t ∷ []) r → RunSite r.from
  only_output_run r (inl e) = subst (λ x. RunSite x.from) (sym e) (near_run t (TurnsBy rows given t) by_tree_weaker by_tree_zone the_tree (output_read t).from own_list (out_in t the_tree 0))
  only_output_run r (inr h) = absurd h

  by_lead : (site : Site) (r : Read) → Leads t site r → RunSite site → RunSite r.from
  by_lead = led_run t (TurnsBy rows given t) by_tree_weaker by_tree_zone

  -- what is wanted is in lists that are run
  pub wanted_run : {site : Site} → Wanted rows given t (output_read t ∷ []) site → RunSite site
  wanted_run (a_root r h) = only_output_run r h
  wanted_run (an_input {site} run r w e h) = reads_run site run r e (has_first_read (rows.role run.kind) run.reads r h) (wanted_run w)
  wanted_run (a_case {site} run choice r w e c h) = reads_run site run r e (has_then_read (rows.role run.kind) choice run.reads r h) (wanted_run w)
  wanted_run (a_group_output {way} {n} {s} b reads w e) = by_lead (at_output way n s) (out_of t (into way (plain_step n)) s) (group_output b reads e) (wanted_run w)
  wanted_run (a_group_input {way} {n} {i} b reads w e) = by_lead (at_input (into way (plain_step n)) i) (read_at reads i) (group_input {step = plain_step n} b reads e) (wanted_run w)
  wanted_run (a_result {way} {n} {s} run b v w e g) = (wanted_run w, (run, b, v, e, g, omega arith))
  wanted_run (a_first_item {way} {n} {i} run b w e) = by_lead (at_item way n zero i) (read_at run.reads (suc i)) (first run b e) (wanted_run w)
  wanted_run (a_later_item {way} {n} {k} {i} w) = by_lead (at_item way n (suc k) i) (out_of t (into way (turn_step n k)) i) later (wanted_run w)
  wanted_run (an_item {way} {n} {k} {i} run b w e) = by_lead (at_input (into way (turn_step n k)) (suc i)) (plain_read (at_item way n k i)) (turn_item {step = turn_step n k} k run b e refl) (wanted_run w)

-- ---- by the graph

module _ {V S T : Type 0} (m : Meanings Kind V S T) (given : Given V) (t : Tree) (task : Task Kind V) (den : Path → List V) where
  abbrev pub tells : Answers m
  tells = told_by m given.files

  abbrev pub IsThereNode : Node Kind V → Type 0
  IsThereNode = Unfolded m task tells den

  -- the output of a zone's run
  abbrev pub head : Node Kind V → V
  head zone = slice_index_or (node_run m (link_value m den) None zone).outputs 0 m.nothing

  -- the zone's node turns that often
  pub record TurnsTo (way : Way) (n : ℕ) (Often : ℕ → Type 0) : Type 0 where
    pub run : Run
    pub body : Body
    pub zone : Node Kind V
    pub part : part_at t way n ≡ Some (a_repeat run body)
    pub there : IsThereNode zone
    pub is : IsNodeOf given t run zone
    pub often : Often (m.rows.turns zone.kind (head zone))

  by_graph_weaker : (way : Way) (n : ℕ) (P Q : ℕ → Type 0) → ((k : ℕ) → P k → Q k) → TurnsTo way n P → TurnsTo way n Q
  by_graph_weaker way n P Q f x = record {
    run = x.run;
    body = x.body;
    zone = x.zone;
    part = x.part;
    there = x.there;
    is = x.is;
    often = f (m.rows.turns x.zone.kind (head x.zone)) x.often;
  }

  by_graph_zone : (way : Way) (n : ℕ) (P : ℕ → Type 0) → TurnsTo way n P → (run : Run) × (b : Body) × (part_at t way n ≡ Some (a_repeat run b))
  by_graph_zone way n P x = (x.run, x.body, x.part)

  -- the nodes of the list are in the graph
  abbrev pub Reaches : Way → Type 0
  Reaches = IsRun t TurnsTo

  abbrev pub ReachesSite : Site → Type 0
  ReachesSite = IsRunSite t TurnsTo

  pub near_reached : (way : Way) (site : Site) → Reaches way → InList way site → ReachesSite site
  near_reached = near_run t TurnsTo by_graph_weaker by_graph_zone

  pub led_reached : (site : Site) (r : Read) → Leads t site r → ReachesSite site → ReachesSite r.from
  led_reached = led_run t TurnsTo by_graph_weaker by_graph_zone

  pub leads_to : {way : Way} → Reaches way → (b : Body) × LeadsTo t way b
  leads_to = leads_in t TurnsTo by_graph_weaker by_graph_zone

  pub led_wanted : (roots : List Read) (site : Site) (r : Read) → Leads t site r → ReachesSite site → Wanted m.rows given t roots site → Wanted m.rows given t roots r.from
  led_wanted = led_wants t TurnsTo by_graph_weaker by_graph_zone m.rows given

  module _ (keeps : KeepsRules t) (form : HasForm t) where
    pub only_root : (site : Site) → IsThere t site → (r : Read) → Has (plain_read site ∷ []) r → IsThere t r.from
    only_root site there r (inl e) = subst (λ x. IsThere t x.from) (sym e) there
    only_root site there r (inr h) = absurd h

    -- what is wanted for a site that is there is there
    pub behind_there : (site other : Site) → IsThere t site → (Wanted m.rows given t (plain_read site ∷ []) site → Wanted m.rows given t (plain_read site ∷ []) other) → IsThere t other
    behind_there site other there w = wanted_there t keeps form m.rows given (plain_read site ∷ []) (only_root site there) (w (a_root (plain_read site) (inl refl)))

    pub led_there : (site : Site) (r : Read) → Leads t site r → ReachesSite site → IsThere t site → IsThere t r.from
    led_there site r l h there = behind_there site r.from there (led_wanted (plain_read site ∷ []) site r l h)

  -- ---- nodes and runs

  module _ (knows : KnowsZones m.rows t) (stands : StandsFor given t task) (opens : ZonesOpen given t m) where
    pub zone_role : (way : Way) (n : ℕ) (run : Run) (b : Body) (zone : Node Kind V) → Reaches way → part_at t way n ≡ Some (a_repeat run b) → IsNodeOf given t run zone → m.rows.role zone.kind ≡ Zone
    zone_role way n run b zone reached e is = ap m.rows.role is.kind ∙ knows.zones way (leads_to reached).0 n run b (leads_to reached).1 e

    pub opened : {way : Way} (n : ℕ) (run : Run) (b : Body) (zone : Node Kind V) → Reaches way → part_at t way n ≡ Some (a_repeat run b) → IsNodeOf given t run zone → OpensFor given t m way n b zone (head zone)
    opened {way} n run b zone r e is = opens way (leads_to r).0 n run b zone (head zone) (leads_to r).1 e is

    abbrev pub HasNode : Run → Type 0
    HasNode run = (node : Node Kind V) × IsThereNode node × IsNodeOf given t run node

    abbrev Turned : Way → Type 0
    Turned inner = (way : Way) × (n : ℕ) × (k : ℕ) × Reaches way × TurnsTo way n (λ turns. k < turns) × Unfolds t (into way (turn_step n k)) inner

    lists : {way : Way} → Reaches way → Unfolds t the_tree way ⊎ Turned way
    lists own_list = inl the_list
    lists (group_list n b reads r e) = elim (lists r) [
      | inl u ↦ inl (in_group n b reads u e)
      | inr x ↦ inr (x.0, x.1, x.2, x.3, x.4, in_group n b reads x.5 e)
    ]
    lists (turn_list {way} n k r turns) = inr (way, n, k, r, turns, the_list)

    -- each run of a reached list has a node in the graph
    pub run_has_node : (way : Way) (n : ℕ) (run : Run) → Reaches way → run_of t (at_output way n 0) ≡ Some run → HasNode run
    run_has_node way n run r e = by_list (lists r)
      where
        by_list : Unfolds t the_tree way ⊎ Turned way → HasNode run
        by_list (inl u) =
            let x : (node : Node Kind V) × Has task.nodes node × IsNodeOf given t run node = stands.nodes.each way n run u e in
            (x.0, of_the_graph x.1, x.2)
        by_list (inr (outer, j, k, reached, turns, u)) =
            let o : OpensFor given t m outer j turns.body turns.zone (head turns.zone) = opened j turns.run turns.body turns.zone reached turns.part turns.is in
            let x : (node : Node Kind V) × Has (turn_nodes m (link_value m den) turns.zone) node × IsNodeOf given t run node = o.nodes.each way n run (k, turns.often, u) e in
            (x.0, of_a_turn turns.zone turns.there (zone_role outer j turns.run turns.body turns.zone reached turns.part turns.is) x.1, x.2)

    unfolds_reached : {outer way : Way} → Reaches outer → Unfolds t outer way → Reaches way
    unfolds_reached r the_list = r
    unfolds_reached r (in_group n b reads u e) = group_list n b reads (unfolds_reached r u) e

    abbrev pub HasRun : Node Kind V → Type 0
    HasRun node = (way : Way) × (n : ℕ) × (run : Run) × Reaches way × (run_of t (at_output way n 0) ≡ Some run) × IsNodeOf given t run node

    pub repeat_part : (way : Way) (n : ℕ) (run : Run) (zone : Node Kind V) → Reaches way → run_of t (at_output way n 0) ≡ Some run → IsNodeOf given t run zone → m.rows.role zone.kind ≡ Zone → (b : Body) × (part_at t way n ≡ Some (a_repeat run b))
    repeat_part way n run zone reached e is role = elim (part_of_run t way n 0 run e) [
      | inl plain ↦ absurd (knows.others way (leads_to reached).0 n run (leads_to reached).1 plain (ap m.rows.role (sym is.kind) ∙ role))
      | inr x ↦ x
    ]

    -- each node of the graph is that of a run in a reached list
    pub node_has_run : {node : Node Kind V} → IsThereNode node → HasRun node
    node_has_run {node} (of_the_graph h) =
        let x : (way : Way) × (n : ℕ) × (run : Run) × Unfolds t the_tree way × (run_of t (at_output way n 0) ≡ Some run) × IsNodeOf given t run node = stands.nodes.only node h in
        (x.0, x.1, x.2, unfolds_reached own_list x.3, x.4, x.5)
    node_has_run {node} (of_a_turn zone u role h) =
        let z : HasRun zone = node_has_run u in
        let p : (b : Body) × (part_at t z.0 z.1 ≡ Some (a_repeat z.2 b)) = repeat_part z.0 z.1 z.2 zone z.3 z.4 z.5 role in
        let o : OpensFor given t m z.0 z.1 p.0 zone (head zone) = opened z.1 z.2 p.0 zone z.3 p.1 z.5 in
        let x : (way : Way) × (n : ℕ) × (run : Run) × InTurns given t z.0 z.1 (m.rows.turns zone.kind (head zone)) way × (run_of t (at_output way n 0) ≡ Some run) × IsNodeOf given t run node = o.nodes.only node h in
        let turns : TurnsTo z.0 z.1 (λ often. x.3.0 < often) = record {
          run = z.2;
          body = p.0;
          zone = zone;
          part = p.1;
          there = u;
          is = z.5;
          often = x.3.1;
        } in
        (x.0, x.1, x.2, unfolds_reached (turn_list z.1 x.3.0 z.3 turns) x.3.2, x.4, x.5)
