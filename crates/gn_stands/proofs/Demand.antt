-- What is wanted in the tree is wanted in the graph, and what is wanted in the graph comes from it.
use Rattle.std.proofs.Common.{◌≡◌, inl, inr, ℕ, zero, suc, pos, List, [], ◌∷◌, Some, refl, sym, ◌∙◌, ap, subst}
use Rattle.std.specs.Prelude.{slice_get, option_map, option_and_then}
use Rattle.gn_value.specs.declared.value.Value.TheVariants.{Int as int}
use Rattle.gn_tree.specs.NodeKinds.{Kind}
use Rattle.gn_tree.specs.Trees.{Tree}
use Rattle.gn_rules.specs.Rules.{KeepsRules}
use Rattle.gn_node_set.specs.Paths.{Path}
use Rattle.gn_node_set.specs.Meanings.{Has, Source, a_value as a_given, an_output as an_output_of, Link, Node, Zone, Choice, Done, Meanings, selected, first_read, then_read}
use Rattle.gn_exec_laws.specs.Graphs.{Task, choice_of, links_read, result_links, told_by, Solves, a_start, an_input as a_link_read, a_result as a_result_link, Wanted as SourceWanted}
use Rattle.gn_exec_laws.proofs.Sorts.{Beside, beside_selected, selected_from}
use Rattle.gn_meaning.specs.Sites.{a_value, Way, the_tree, into, plain_step, turn_step, path_of, Site, at_output, at_input, at_item, at_constant, nowhere, Read, plain_read}
use Rattle.gn_meaning.specs.Bodies.{Body}
use Rattle.gn_meaning.specs.Reads.{read_at, Run, a_repeat, run_in, part_at, out_of, run_of}
use Rattle.gn_meaning.specs.Forms.{HasForm}
use Rattle.gn_meaning.specs.There.{IsThere}
use Rattle.gn_meaning.specs.Origins.{output_origin, origin_within, ComesFrom}
use Rattle.gn_meaning.specs.Denotation.{Given, read_values, choice_in, done_for, run_done, run_output, output_value, value_within, StandsAt, Chooses, Ends, Gives}
use Rattle.gn_meaning.specs.Demand.{Wanted, a_root, an_input, a_case, a_group_output, a_group_input, a_result, a_first_item, a_later_item, an_item, output_read}
use Rattle.gn_meaning.specs.Enough.{GivesAll}
use Rattle.gn_meaning.specs.Claims.{HasOneValue}
use Rattle.gn_meaning.proofs.Options.{some_same, then_some, map_some}
use Rattle.gn_meaning.proofs.Origins.{one_origin}
use Rattle.gn_meaning.proofs.Paths.{path_names_node}
use Rattle.gn_meaning.proofs.Meanings.{wanted_is_there, one_there, ends_there}
use Rattle.gn_stands.specs.Sources.{source_at, Carries}
use Rattle.gn_stands.specs.Stands.{KnowsZones, IsNodeOf, StandsFor, ZonesOpen}
use Rattle.gn_stands.specs.Claims.{own_list}
use Rattle.gn_stands.proofs.Near.{out_in}
use Rattle.gn_stands.proofs.Leads.{beyond, Leads, group_output, group_input, turn_item, first, later, IsOwn, Found, leads_on, itself, a_number, found, led_origin}
use Rattle.gn_stands.proofs.Side.{carried_beside, beside_from, beside_has, first_selected, then_selected, selected_split}
use Rattle.gn_stands.proofs.Reach.{part_of_run, Reaches, near_reached, led_reached, led_wanted, node_has_run, HasRun, repeat_part}
use Rattle.gn_stands.proofs.Right.{val, Open, NodeThere, Right, Split, split, selects, all_there, NodeOf, node_of, node_path, is_zone, head_of_zone, turns_of, item_reached, item_below, result_at, head_right, right}

-- where a run ends, it has chosen, and where it gives an output it has ended
module _ {V S T : Type 0} (m : Meanings Kind V S T) (given : Given V) (t : Tree) where
  pub run_chose : (j : ℕ) (run : Run) (done : Done V) → run_done m.rows given t (value_within m.rows given t j) run ≡ Some done → (c : Choice) × (choice_in m.rows given t (value_within m.rows given t j) run ≡ Some c)
  run_chose j run done e =
      let c : (c : Choice) × (choice_in m.rows given t (value_within m.rows given t j) run ≡ Some c) × (option_map (done_for m.rows given t run) (read_values m.rows given t (value_within m.rows given t j) (selected (m.rows.role run.kind) c run.reads)) ≡ Some done) =
      then_some (λ c. option_map (done_for m.rows given t run) (read_values m.rows given t (value_within m.rows given t j) (selected (m.rows.role run.kind) c run.reads))) (choice_in m.rows given t (value_within m.rows given t j) run) done e in
      (c.0, c.1)

  pub zone_gave : (way : Way) (n s : ℕ) (run : Run) (b : Body) (v : V) → part_at t way n ≡ Some (a_repeat run b) → StandsAt m.rows given t (at_output way n s) v → (h : V) × Gives m.rows given t run 0 h
  zone_gave way n s run b v e (zero, h) = cc
  zone_gave way n s run b v e (suc j, h) =
      let got : option_and_then (λ u. value_within m.rows given t j (at_item way n (m.rows.turns run.kind u) s)) (run_output m.rows given t (value_within m.rows given t j) run 0) ≡ Some v =
      sym (ap (output_value m.rows given t (value_within m.rows given t j) way n s) e) ∙ h in
      let u : (u : V) × (run_output m.rows given t (value_within m.rows given t j) run 0 ≡ Some u) × (value_within m.rows given t j (at_item way n (m.rows.turns run.kind u) s) ≡ Some v) =
      then_some (λ u. value_within m.rows given t j (at_item way n (m.rows.turns run.kind u) s)) (run_output m.rows given t (value_within m.rows given t j) run 0) v got in
      (u.0, (j, u.1))

pub own_origin : (t : Tree) (way : Way) (n s : ℕ) (run : Run) → run_of t (at_output way n s) ≡ Some run → ComesFrom t (at_output way n s) (plain_read (at_output way n s))
own_origin t way n s run e = elim (part_of_run t way n s run e) [
  | inl plain ↦ (1, ap (output_origin t (origin_within t 0) way n s) plain)
  | inr (b, zone) ↦ (1, ap (output_origin t (origin_within t 0) way n s) zone)
]

module _ {V S T : Type 0} (m : Meanings Kind V S T) (given : Given V) (t : Tree) (task : Task Kind V) (den : Path → List V) (keeps : KeepsRules t) (form : HasForm t) (knows : KnowsZones m.rows t) (stands : StandsFor given t task) (opens : ZonesOpen given t m) (solves : Solves m task (told_by m given.files) den) (all : GivesAll m.rows given t) where
  abbrev pub TreeWants : Site → Type 0
  TreeWants = Wanted m.rows given t (output_read t ∷ [])

  abbrev pub GraphWants : Source V → Type 0
  GraphWants = SourceWanted m task (told_by m given.files) den

  abbrev pub Reached : Way → Type 0
  Reached = Reaches m given t task den

  abbrev pub ReachedSite : Site → Type 0
  ReachedSite = Open m given t task den keeps form knows stands opens solves

  abbrev pub value_of : Link V → V
  value_of = val m given t task den keeps form knows stands opens solves

  abbrev pub zone_turns : Node Kind V → ℕ
  zone_turns = turns_of m given t task den keeps form knows stands opens solves

  abbrev pub OfRun : Run → Type 0
  OfRun = NodeOf m given t task den keeps form knows stands opens solves

  pub the_node : (way : Way) (n s : ℕ) (run : Run) → Reached way → run_of t (at_output way n s) ≡ Some run → OfRun run
  the_node = node_of m given t task den keeps form knows stands opens solves

  abbrev pub all_right : (j : ℕ) → Right m given t task den keeps form knows stands opens solves j
  all_right = right m given t task den keeps form knows stands opens solves

  abbrev pub SplitRead : Read → Link V → Type 0
  SplitRead = Split m given t task den keeps form knows stands opens solves

  pub split_read : (r : Read) (link : Link V) → Carries given t r link → SplitRead r link
  split_read = split m given t task den keeps form knows stands opens solves

  pub there_of : {site : Site} → TreeWants site → IsThere t site
  there_of {site} w = wanted_is_there m.rows given t form keeps all site w

  -- ---- to the graph

  -- the site is in the graph, and where it comes from is wanted there
  pub record InGraph (site : Site) : Type 0 where
    pub reached : ReachedSite site
    pub wanted : (origin : Read) (x : Source V) → ComesFrom t site origin → source_at given origin.from ≡ Some x → GraphWants x

  led_in : (site : Site) (r : Read) → Leads t site r → InGraph site → InGraph r.from
  led_in site r l h = record {
    reached = led_reached m given t task den site r l h.reached;
    wanted = λ origin x from e. h.wanted (beyond origin r) x (suc from.0, led_origin t from.0 site r origin l from.1) e;
  }

  pub one_source : (r : Read) (link : Link V) (origin : Read) (x : Source V) → Carries given t r link → ComesFrom t r.from origin → source_at given origin.from ≡ Some x → link.from ≡ x
  one_source r link origin x c from e =
      let s : SplitRead r link = split_read r link c in
      some_same (sym s.source ∙ ap (λ o. source_at given o.from) (one_origin t r.from s.origin origin s.from from) ∙ e)

  read_in_graph : (r : Read) (link : Link V) → ReachedSite r.from → Carries given t r link → GraphWants link.from → InGraph r.from
  read_in_graph r link reached c w = record {
    reached = reached;
    wanted = λ origin x from e. subst GraphWants (one_source r link origin x c from e) w;
  }

  pub node_wanted : (way : Way) (n s : ℕ) (run : Run) (node : Node Kind V) → run_of t (at_output way n s) ≡ Some run → IsNodeOf given t run node → InGraph (at_output way n s) → GraphWants (an_output_of node.path s)
  node_wanted way n s run node e is h =
      subst (λ p. GraphWants (an_output_of p s)) (sym (node_path m given t task den keeps form knows stands opens solves way n s run node e is))
      (h.wanted (plain_read (at_output way n s)) (an_output_of (path_of way n) s) (own_origin t way n s run e) refl)

  selected_in : (way : Way) (n s : ℕ) (run : Run) (r : Read) (c : Choice) → InGraph (at_output way n s) → run_of t (at_output way n s) ≡ Some run
      → ((node : Node Kind V) → IsNodeOf given t run node → links_read m value_of node ≡ selected (m.rows.role run.kind) c node.links)
      → Has (selected (m.rows.role run.kind) c run.reads) r → InGraph r.from
  selected_in way n s run r c h e same has =
      let node : OfRun run = the_node way n s run h.reached e in
      let beside : Beside (Carries given t) (selected (m.rows.role run.kind) c run.reads) (selected (m.rows.role run.kind) c node.0.links) =
      beside_selected (Carries given t) (m.rows.role run.kind) c run.reads node.0.links (carried_beside given t run.reads node.0.links node.2.links) in
      let link : (link : Link V) × Has (selected (m.rows.role run.kind) c node.0.links) link × Carries given t r link =
      beside_has (Carries given t) (selected (m.rows.role run.kind) c run.reads) (selected (m.rows.role run.kind) c node.0.links) beside r has in
      let read : Has (links_read m value_of node.0) link.0 = subst (λ links. Has links link.0) (sym (same node.0 node.2)) link.1 in
      read_in_graph r link.0
      (all_there m given t task den keeps form knows stands opens solves way n s run h.reached e r (selected_from (m.rows.role run.kind) c run.reads r has)).1
      link.2 (a_link_read node.0 s link.0 node.1 (node_wanted way n s run node.0 e node.2 h) read)

  first_in : (site : Site) (run : Run) (r : Read) → InGraph site → run_of t site ≡ Some run → Has (first_read (m.rows.role run.kind) run.reads) r → InGraph r.from
  first_in (at_output way n s) run r h e has =
      let node : OfRun run = the_node way n s run h.reached e in
      let c : Choice = choice_of m value_of node.0 in
      by_node node c refl
    where
      by_node : (node : OfRun run) (c : Choice) → choice_of m value_of node.0 ≡ c → InGraph r.from
      by_node node c is_choice =
          let beside : Beside (Carries given t) (selected (m.rows.role run.kind) c run.reads) (selected (m.rows.role run.kind) c node.0.links) =
          beside_selected (Carries given t) (m.rows.role run.kind) c run.reads node.0.links (carried_beside given t run.reads node.0.links node.2.links) in
          let picked : Has (selected (m.rows.role run.kind) c run.reads) r = first_selected (m.rows.role run.kind) c run.reads r has in
          let link : (link : Link V) × Has (selected (m.rows.role run.kind) c node.0.links) link × Carries given t r link =
          beside_has (Carries given t) (selected (m.rows.role run.kind) c run.reads) (selected (m.rows.role run.kind) c node.0.links) beside r picked in
          let same : selected (m.rows.role run.kind) c node.0.links ≡ links_read m value_of node.0 = λ i. selected (m.rows.role (sym node.2.kind i)) (sym is_choice i) node.0.links in
          read_in_graph r link.0
          (all_there m given t task den keeps form knows stands opens solves way n s run h.reached e r (selected_from (m.rows.role run.kind) c run.reads r picked)).1
          link.2 (a_link_read node.0 s link.0 node.1 (node_wanted way n s run node.0 e node.2 h) (subst (λ links. Has links link.0) same link.1))
  first_in (at_input way i) run r h e has = cc
  first_in (at_item way n k i) run r h e has = cc
  first_in (at_constant c) run r h e has = cc
  first_in nowhere run r h e has = cc

  case_in : (site : Site) (run : Run) (c : Choice) (r : Read) → InGraph site → run_of t site ≡ Some run → Chooses m.rows given t run c → Has (then_read (m.rows.role run.kind) c run.reads) r → InGraph r.from
  case_in (at_output way n s) run c r h e (j, chose) has =
      selected_in way n s run r c h e
      (λ node is. selects m given t task den keeps form knows stands opens solves j (all_right j) run node c is (all_there m given t task den keeps form knows stands opens solves way n s run h.reached e) chose node.links)
      (then_selected (m.rows.role run.kind) c run.reads r has)
  case_in (at_input way i) run c r h e chose has = cc
  case_in (at_item way n k i) run c r h e chose has = cc
  case_in (at_constant x) run c r h e chose has = cc
  case_in nowhere run c r h e chose has = cc

  -- a zone turns as often in the graph
  pub same_turns : (way : Way) (n : ℕ) (run : Run) (b : Body) (zone : Node Kind V) (v : V) → part_at t way n ≡ Some (a_repeat run b) → Reached way → IsNodeOf given t run zone → Gives m.rows given t run 0 v → zone_turns zone ≡ m.rows.turns run.kind v
  same_turns way n run b zone v e reached is (j, g) =
      let same : head_of_zone m given t task den keeps form knows stands opens solves zone ≡ v = head_right m given t task den keeps form knows stands opens solves j (all_right j) way n 0 run b zone v e reached is g in
      λ i. m.rows.turns (is.kind i) (same i)

  result_in : (way : Way) (n s : ℕ) (run : Run) (b : Body) (v : V) → InGraph (at_output way n s) → part_at t way n ≡ Some (a_repeat run b) → Gives m.rows given t run 0 v → IsThere t (at_item way n (m.rows.turns run.kind v) s) → InGraph (at_item way n (m.rows.turns run.kind v) s)
  result_in way n s run b v h e g there =
      let is_run : run_of t (at_output way n s) ≡ Some run = ap (option_and_then run_in) e in
      let zone : OfRun run = the_node way n s run h.reached is_run in
      let often : zone_turns zone.0 ≡ m.rows.turns run.kind v = same_turns way n run b zone.0 v e h.reached zone.2 g in
      let link : (link : Link V) × (slice_get (result_links m value_of zone.0) s ≡ Some link) × Carries given t (plain_read (at_item way n (zone_turns zone.0) s)) link =
      result_at m given t task den keeps form knows stands opens solves way n s run b zone.0 h.reached e zone.2 (item_below m given t task den keeps form knows stands opens solves way n (m.rows.turns run.kind v) s run b there e) in
      let wanted : GraphWants link.0.from = a_result_link zone.0 s link.0 zone.1 (is_zone m given t task den keeps form knows stands opens solves way n run b zone.0 h.reached e zone.2) (node_wanted way n s run zone.0 is_run zone.2 h) link.1 in
      subst (λ k. InGraph (at_item way n k s)) often
      (read_in_graph (plain_read (at_item way n (zone_turns zone.0) s)) link.0 (item_reached m given t task den keeps form knows stands opens solves way n s run b zone.0 h.reached e zone.1 zone.2) link.2 wanted)

  root_in : (r : Read) → Has (output_read t ∷ []) r → InGraph r.from
  root_in r has =
      let link : (link : Link V) × Has task.roots link × Carries given t r link = beside_has (Carries given t) (output_read t ∷ []) task.roots (carried_beside given t (output_read t ∷ []) task.roots stands.roots) r has in
      read_in_graph r link.0 (by_root has) link.2 (a_start (link.0, link.1, refl))
    where
      by_root : Has (output_read t ∷ []) r → ReachedSite r.from
      by_root (inl e) = subst (λ x. ReachedSite x.from) (sym e) (near_reached m given t task den the_tree (output_read t).from own_list (out_in t the_tree 0))
      by_root (inr h) = absurd h

  pub forward : {site : Site} → TreeWants site → InGraph site
  forward (a_root r h) = root_in r h
  forward (an_input {site} run r w e h) = first_in site run r (forward w) e h
  forward (a_case {site} run c r w e chose h) = case_in site run c r (forward w) e chose h
  forward (a_group_output {way} {n} {s} b reads w e) = led_in (at_output way n s) (out_of t (into way (plain_step n)) s) (group_output b reads e) (forward w)
  forward (a_group_input {way} {n} {i} b reads w e) = led_in (at_input (into way (plain_step n)) i) (read_at reads i) (group_input {step = plain_step n} b reads e) (forward w)
  forward (a_result {way} {n} {s} run b v w e g) = result_in way n s run b v (forward w) e g (there_of (a_result run b v w e g))
  forward (a_first_item {way} {n} {i} run b w e) = led_in (at_item way n zero i) (read_at run.reads (suc i)) (first run b e) (forward w)
  forward (a_later_item {way} {n} {k} {i} w) = led_in (at_item way n (suc k) i) (out_of t (into way (turn_step n k)) i) later (forward w)
  forward (an_item {way} {n} {k} {i} run b w e) = led_in (at_input (into way (turn_step n k)) (suc i)) (plain_read (at_item way n k i)) (turn_item {step = turn_step n k} k run b e refl) (forward w)

  -- ---- and back

  -- the output is that of a run that is wanted
  pub record Comes (p : Path) (s : ℕ) : Type 0 where
    pub way : Way
    pub n : ℕ
    pub run : Run
    pub wanted : TreeWants (at_output way n s)
    pub is_run : run_of t (at_output way n s) ≡ Some run
    pub path : path_of way n ≡ p

  same_output : (p q : Path) (s k : ℕ) → (let x : Source V = an_output_of p s in x) ≡ an_output_of q k → (p ≡ q) × (s ≡ k)
  same_output p q s k e = (cc, cc)

  own_comes : (site : Site) (p : Path) (s : ℕ) → TreeWants site → IsOwn t site → source_at given site ≡ Some (an_output_of p s) → Comes p s
  own_comes (at_output way n k) p s w (run, e) f =
      let same : (path_of way n ≡ p) × (k ≡ s) = same_output (path_of way n) p k s (some_same f) in
      record { way = way; n = n; run = run; wanted = subst (λ j. TreeWants (at_output way n j)) same.1 w; is_run = e; path = same.0 }
  own_comes (at_input the_tree i) p s w own f =
      let v : (v : V) × (slice_get given.inputs i ≡ Some v) × (a_given v ≡ an_output_of p s) = map_some a_given (slice_get given.inputs i) (an_output_of p s) f in
      let bad : a_given v.0 ≡ an_output_of p s = v.2 in cc
  own_comes (at_input (into way step) i) p s w own f = absurd own
  own_comes (at_item way n k i) p s w own f = absurd own
  own_comes (at_constant c) p s w own f = cc
  own_comes nowhere p s w own f = absurd own

  origin_comes : (k : ℕ) (site : Site) (origin : Read) (p : Path) (s : ℕ) → TreeWants site → ReachedSite site → origin_within t k site ≡ Some origin → source_at given origin.from ≡ Some (an_output_of p s) → Comes p s
  origin_comes zero site origin p s w reached e f = cc
  origin_comes (suc k) site origin p s w reached e f =
      by_found (λ r o w' reached' h g. origin_comes k r.from o p s w' reached' h g) (found t k site origin e)
    where
      by_found : ((r o : Read) → TreeWants r.from → ReachedSite r.from → origin_within t k r.from ≡ Some o → source_at given o.from ≡ Some (an_output_of p s) → Comes p s) → Found t k site origin → Comes p s
      by_found again (leads_on r o l h same) =
          again r o (led_wanted m given t task den (output_read t ∷ []) site r l reached w) (led_reached m given t task den site r l reached) h (ap (λ q. source_at given q.from) same ∙ f)
      by_found again (itself own same) = own_comes site p s w own (ap (λ q. source_at given q.from) same ∙ f)
      by_found again (a_number way step i run b part turn is same) =
          let bad : Some (a_given (given.constant (a_value (int (pos i))))) ≡ Some (an_output_of p s) = ap (λ q. source_at given q.from) same ∙ f in cc

  read_comes : (r : Read) (link : Link V) (p : Path) (s : ℕ) → TreeWants r.from → Carries given t r link → link.from ≡ an_output_of p s → Comes p s
  read_comes r link p s w c e =
      let h : SplitRead r link = split_read r link c in
      origin_comes h.from.0 r.from h.origin p s w (forward w).reached h.from.1 (h.source ∙ ap Some e)

  -- the run of a node, by its path
  same_run : (way other : Way) (n k s : ℕ) (run run' : Run) → path_of way n ≡ path_of other k → run_of t (at_output way n s) ≡ Some run → run_of t (at_output other k 0) ≡ Some run' → run' ≡ run
  same_run way other n k s run run' e f g =
      let same : (way ≡ other) × (n ≡ k) = path_names_node way other n k e in
      some_same (sym g ∙ sym (λ i. run_of t (at_output (same.0 i) (same.1 i) 0)) ∙ f)

  abbrev Nodes : Node Kind V → Type 0
  Nodes = NodeThere m given t task den keeps form knows stands opens solves

  pub is_its_node : (node : Node Kind V) (s : ℕ) (c : Comes node.path s) → Nodes node → IsNodeOf given t c.run node
  is_its_node node s c there =
      let x : HasRun m given t task den knows stands opens node = node_has_run m given t task den knows stands opens there in
      let paths : node.path ≡ path_of x.0 x.1 = node_path m given t task den keeps form knows stands opens solves x.0 x.1 0 x.2 node x.4 x.5 in
      subst (λ run. IsNodeOf given t run node) (same_run c.way x.0 c.n x.1 s c.run x.2 (c.path ∙ paths) c.is_run x.4) x.5

  link_comes : (node : Node Kind V) (k : ℕ) (link : Link V) (p : Path) (s : ℕ) → Nodes node → Comes node.path k → Has (links_read m value_of node) link → link.from ≡ an_output_of p s → Comes p s
  link_comes node k link p s there c has e =
      let is : IsNodeOf given t c.run node = is_its_node node k c there in
      let site : IsThere t (at_output c.way c.n k) = there_of c.wanted in
      let ends : (done : Done V) × Ends m.rows given t c.run done = ends_there m.rows given t form keeps all (at_output c.way c.n k) c.run site c.is_run in
      let choice : (ch : Choice) × (choice_in m.rows given t (value_within m.rows given t ends.1.0) c.run ≡ Some ch) = run_chose m given t ends.1.0 c.run ends.0 ends.1.1 in
      let same : links_read m value_of node ≡ selected (m.rows.role c.run.kind) choice.0 node.links =
      selects m given t task den keeps form knows stands opens solves ends.1.0 (all_right ends.1.0) c.run node choice.0 is
      (all_there m given t task den keeps form knows stands opens solves c.way c.n k c.run (forward c.wanted).reached c.is_run) choice.1 node.links in
      let beside : Beside (Carries given t) (selected (m.rows.role c.run.kind) choice.0 c.run.reads) (selected (m.rows.role c.run.kind) choice.0 node.links) =
      beside_selected (Carries given t) (m.rows.role c.run.kind) choice.0 c.run.reads node.links (carried_beside given t c.run.reads node.links is.links) in
      let r : (r : Read) × Has (selected (m.rows.role c.run.kind) choice.0 c.run.reads) r × Carries given t r link =
      beside_from (Carries given t) (selected (m.rows.role c.run.kind) choice.0 c.run.reads) (selected (m.rows.role c.run.kind) choice.0 node.links) beside link (subst (λ links. Has links link) same has) in
      let wanted : TreeWants r.0.from = elim (selected_split (m.rows.role c.run.kind) choice.0 c.run.reads r.0 r.1) [
        | inl h ↦ an_input c.run r.0 c.wanted c.is_run h
        | inr h ↦ a_case c.run choice.0 r.0 c.wanted c.is_run (ends.1.0, choice.1) h
      ] in
      read_comes r.0 link p s wanted r.2 e

  result_comes : (node : Node Kind V) (k : ℕ) (link : Link V) (p : Path) (s : ℕ) → Nodes node → m.rows.role node.kind ≡ Zone → Comes node.path k → slice_get (result_links m value_of node) k ≡ Some link → link.from ≡ an_output_of p s → Comes p s
  result_comes node k link p s there role c got e =
      let is : IsNodeOf given t c.run node = is_its_node node k c there in
      let b : (b : Body) × (part_at t c.way c.n ≡ Some (a_repeat c.run b)) = repeat_part m given t task den knows stands opens c.way c.n c.run node (forward c.wanted).reached c.is_run is role in
      let value : HasOneValue m.rows given t (at_output c.way c.n k) = one_there m.rows given t form keeps all (at_output c.way c.n k) (there_of c.wanted) in
      let h : (h : V) × Gives m.rows given t c.run 0 h = zone_gave m given t c.way c.n k c.run b.0 value.0 b.1 value.1 in
      let reached : Reached c.way = (forward c.wanted).reached in
      let often : zone_turns node ≡ m.rows.turns c.run.kind h.0 = same_turns c.way c.n c.run b.0 node h.0 b.1 reached is h.1 in
      let wanted : TreeWants (at_item c.way c.n (m.rows.turns c.run.kind h.0) k) = a_result c.run b.0 h.0 c.wanted b.1 h.1 in
      let found_link : (other : Link V) × (slice_get (result_links m value_of node) k ≡ Some other) × Carries given t (plain_read (at_item c.way c.n (zone_turns node) k)) other =
      result_at m given t task den keeps form knows stands opens solves c.way c.n k c.run b.0 node reached b.1 is (item_below m given t task den keeps form knows stands opens solves c.way c.n (m.rows.turns c.run.kind h.0) k c.run b.0 (there_of wanted) b.1) in
      let same : found_link.0 ≡ link = some_same (sym found_link.1 ∙ got) in
      read_comes (plain_read (at_item c.way c.n (zone_turns node) k)) link p s (subst (λ j. TreeWants (at_item c.way c.n j k)) (sym often) wanted) (subst (Carries given t (plain_read (at_item c.way c.n (zone_turns node) k))) same found_link.2) e

  pub back : {x : Source V} → GraphWants x → (p : Path) (s : ℕ) → x ≡ an_output_of p s → Comes p s
  back (a_start (link, has, is)) p s e =
      let r : (r : Read) × Has (output_read t ∷ []) r × Carries given t r link = beside_from (Carries given t) (output_read t ∷ []) task.roots (carried_beside given t (output_read t ∷ []) task.roots stands.roots) link has in
      read_comes r.0 link p s (a_root r.0 r.1) r.2 (sym is ∙ e)
  back (a_link_read node k link there w has) p s e = link_comes node k link p s there (back w node.path k refl) has e
  back (a_result_link node k link there role w got) p s e = result_comes node k link p s there role (back w node.path k refl) got e
