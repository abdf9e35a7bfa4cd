-- A solution of a graph that stands for a tree agrees with it.
use Rattle.std.proofs.Common.{◌≡◌, ◌<◌, ◌≤◌, inl, inr, ℕ, List, [], ◌∷◌, ◌++◌, map, Some, refl, sym, ◌∙◌, ap, subst}
use Rattle.std.specs.Prelude.{option_map, option_and_then}
use Rattle.gn_tree.specs.NodeKinds.{Kind}
use Rattle.gn_tree.specs.Trees.{Tree}
use Rattle.gn_rules.specs.Rules.{KeepsRules}
use Rattle.gn_node_set.specs.Paths.{Path}
use Rattle.gn_node_set.specs.Meanings.{Has, Source, Link, Node, Warning, Done, Meanings, AllDiffer}
use Rattle.gn_node_set.proofs.Lists.{has_image, image_of}
use Rattle.gn_exec_laws.specs.Graphs.{Task, told_by, Solves, Demanded as NodeDemanded, ListsDemand as ListsNodes}
use Rattle.gn_exec_laws.specs.Fits.{paths_of}
use Rattle.gn_meaning.specs.Sites.{Way, the_tree, path_of, Site, at_output, at_input, at_item, at_constant, nowhere, Read}
use Rattle.gn_meaning.specs.Reads.{Run, run_in, run_of}
use Rattle.gn_meaning.specs.Forms.{HasForm}
use Rattle.gn_meaning.specs.There.{IsThere}
use Rattle.gn_meaning.specs.Origins.{origin_within}
use Rattle.gn_meaning.specs.Denotation.{Given, read_value, value_within, StandsAt, Ends}
use Rattle.gn_meaning.specs.Demand.{Wanted, Demanded, ListsDemand, output_read}
use Rattle.gn_meaning.specs.Enough.{GivesAll}
use Rattle.gn_meaning.specs.Report.{IsReport, Warns, no_run, and_run}
use Rattle.gn_meaning.proofs.Options.{some_same, then_some, map_some}
use Rattle.gn_meaning.proofs.Origins.{one_origin}
use Rattle.gn_meaning.proofs.Values.{one_end}
use Rattle.gn_meaning.proofs.Paths.{path_names_node, path_of_run}
use Rattle.gn_meaning.proofs.WantedThere.{output_there}
use Rattle.gn_meaning.proofs.Meanings.{ends_there}
use Rattle.gn_stands.specs.Sources.{link_at, source_at, CarriesSite, Carries, CarryAll}
use Rattle.gn_stands.specs.Stands.{KnowsZones, IsNodeOf, StandsFor, ZonesOpen}
use Rattle.gn_stands.specs.Claims.{IsRun, own_list, group_list, turn_list, IsRunSite, TurnsBy, node_done, NodesWarn, no_node, and_node, IsNodesReport, Agrees}
use Rattle.gn_stands.proofs.Near.{out_in}
use Rattle.gn_stands.proofs.Side.{carried_beside}
use Rattle.gn_stands.proofs.Reach.{Reaches, ReachesSite, TurnsTo, near_reached, wanted_run}
use Rattle.gn_stands.proofs.Right.{val, Split, split, right, reads_right, run_right, all_there, node_of, NodeOf, head_right}
use Rattle.gn_stands.proofs.Demand.{InGraph, forward, there_of, Comes, back, is_its_node, node_wanted}

differ_image : {A B : Type 0} (f : A → B) (xs : List A) → AllDiffer xs → ((x y : A) → Has xs x → Has xs y → f x ≡ f y → x ≡ y) → AllDiffer (map f xs)
differ_image f [] d known = tt
differ_image f (x ∷ xs) d known = (
  λ h. let y : (y : _) × Has xs y × (f x ≡ f y) = image_of f xs (f x) h in d.0 (subst (Has xs) (sym (known x y.0 (inl refl) (inr y.1) y.2)) y.1),
  differ_image f xs d.1 (λ a b i j e. known a b (inr i) (inr j) e),
)

module _ {V S T : Type 0} (m : Meanings Kind V S T) (given : Given V) (t : Tree) (task : Task Kind V) (den : Path → List V) (keeps : KeepsRules t) (form : HasForm t) (knows : KnowsZones m.rows t) (stands : StandsFor given t task) (opens : ZonesOpen given t m) (solves : Solves m task (told_by m given.files) den) (all : GivesAll m.rows given t) where
  abbrev roots : List Read
  roots = output_read t ∷ []

  abbrev TreeWants : Site → Type 0
  TreeWants = Wanted m.rows given t roots

  abbrev NodeWanted : Node Kind V → Type 0
  NodeWanted = NodeDemanded m task (told_by m given.files) den

  abbrev done_of : Node Kind V → Done V
  done_of = node_done m task (told_by m given.files) den

  abbrev Ended : Run → Done V → Type 0
  Ended = Ends m.rows given t

  abbrev in_graph : {site : Site} → TreeWants site → InGraph m given t task den keeps form knows stands opens solves all site
  in_graph = forward m given t task den keeps form knows stands opens solves all

  -- ---- values

  abbrev Turned : Way → ℕ → (ℕ → Type 0) → Type 0
  Turned = TurnsBy m.rows given t

  abbrev Reached : Way → Type 0
  Reached = Reaches m given t task den

  turned : (way : Way) (n : ℕ) (P : ℕ → Type 0) → Reached way → Turned way n P → TurnsTo m given t task den way n P
  turned way n P reached (run, b, v, e, (j, g), p) =
      let node : NodeOf m given t task den keeps form knows stands opens solves run = node_of m given t task den keeps form knows stands opens solves way n 0 run reached (ap (option_and_then run_in) e) in
      let same : _ = head_right m given t task den keeps form knows stands opens solves j (right m given t task den keeps form knows stands opens solves j) way n 0 run b node.0 v e reached node.2 g in
      record {
        run = run;
        body = b;
        zone = node.0;
        part = e;
        there = node.1;
        is = node.2;
        often = subst P (sym (λ i. m.rows.turns (node.2.kind i) (same i))) p;
      }

  run_reached : {way : Way} → IsRun t Turned way → Reached way
  run_reached own_list = own_list
  run_reached (group_list n b reads r e) = group_list n b reads (run_reached r) e
  run_reached (turn_list {way} n k r turns) = turn_list n k (run_reached r) (turned way n (λ often. k < often) (run_reached r) turns)

  site_reached : (site : Site) → IsRunSite t Turned site → ReachesSite m given t task den site
  site_reached (at_output way n s) r = run_reached r
  site_reached (at_input way i) r = run_reached r
  site_reached (at_item way n k i) r = (run_reached r.0, turned way n (λ often. k ≤ often) (run_reached r.0) r.1)
  site_reached (at_constant c) r = tt
  site_reached nowhere r = tt

  values : (site : Site) (v : V) (link : Link V) → IsThere t site → IsRunSite t Turned site → StandsAt m.rows given t site v → CarriesSite given t site link → val m given t task den keeps form knows stands opens solves link ≡ v
  values site v link there is (j, h) (k, e) =
      let o : (origin : Read) × (origin_within t k site ≡ Some origin) × (link_at given origin ≡ Some link) = then_some (link_at given) (origin_within t k site) link e in
      let x : (x : Source V) × (source_at given o.0.from ≡ Some x) × (record { from = x; through = o.0.through } ≡ link) = map_some (λ x. record { from = x; through = o.0.through }) (source_at given o.0.from) link o.2 in
      ap (val m given t task den keeps form knows stands opens solves) (sym x.2)
      ∙ right m given t task den keeps form knows stands opens solves j site there (site_reached site is) v h o.0 (k, o.1) x.0 x.1

  output : (k : ℕ) (v : V) → read_value m.rows given t (value_within m.rows given t k) (output_read t) ≡ Some v → map (val m given t task den keeps form knows stands opens solves) task.roots ≡ v ∷ []
  output k v e =
      reads_right m given t task den keeps form knows stands opens solves k (right m given t task den keeps form knows stands opens solves k) roots task.roots (v ∷ [])
      only_output (carried_beside given t roots task.roots stands.roots)
      (ap (option_and_then (λ u. option_map (λ us. u ∷ us) (Some []))) e)
    where
      only_output : (r : Read) → Has roots r → IsThere t r.from × ReachesSite m given t task den r.from
      only_output r (inl same) = subst (λ x. IsThere t x.from × ReachesSite m given t task den x.from) (sym same) (output_there t keeps form, near_reached m given t task den the_tree (output_read t).from own_list (out_in t the_tree 0))
      only_output r (inr h) = absurd h

  -- ---- demand

  abbrev HasWanted : Run → Type 0
  HasWanted run = (node : Node Kind V) × NodeWanted node × IsNodeOf given t run node

  each : (site : Site) (run : Run) → TreeWants site → run_of t site ≡ Some run → HasWanted run
  each (at_output way n s) run w e =
      let h : InGraph m given t task den keeps form knows stands opens solves all (at_output way n s) = in_graph w in
      let node : NodeOf m given t task den keeps form knows stands opens solves run = node_of m given t task den keeps form knows stands opens solves way n s run h.reached e in
      (node.0, (node.1, (s, node_wanted m given t task den keeps form knows stands opens solves all way n s run node.0 e node.2 h)), node.2)
  each (at_input way i) run w e = cc
  each (at_item way n k i) run w e = cc
  each (at_constant c) run w e = cc
  each nowhere run w e = cc

  abbrev ComesFromRun : Node Kind V → Type 0
  ComesFromRun node = (site : Site) × (run : Run) × TreeWants site × (run_of t site ≡ Some run) × IsNodeOf given t run node × Ended run (done_of node)

  only : (node : Node Kind V) → NodeWanted node → ComesFromRun node
  only node (there, (s, w)) =
      let c : Comes m given t task den keeps form knows stands opens solves all node.path s = back m given t task den keeps form knows stands opens solves all w node.path s refl in
      let is : IsNodeOf given t c.run node = is_its_node m given t task den keeps form knows stands opens solves all node s c there in
      let site : IsThere t (at_output c.way c.n s) = there_of m given t task den keeps form knows stands opens solves all c.wanted in
      let ends : (done : Done V) × Ended c.run done = ends_there m.rows given t form keeps all (at_output c.way c.n s) c.run site c.is_run in
      let same : done_of node ≡ ends.0 =
      run_right m given t task den keeps form knows stands opens solves ends.1.0 (right m given t task den keeps form knows stands opens solves ends.1.0) c.run node ends.0 is
      (all_there m given t task den keeps form knows stands opens solves c.way c.n s c.run (in_graph c.wanted).reached c.is_run) ends.1.1 in
      (at_output c.way c.n s, c.run, c.wanted, c.is_run, is, subst (Ended c.run) (sym same) ends.1)

  abbrev HasPath : Path → Type 0
  HasPath p = (node : Node Kind V) × NodeWanted node × (node.path ≡ p)

  to_node : (p : Path) → Demanded m.rows given t roots p → HasPath p
  to_node p (site, w, run, e, path) = let x : HasWanted run = each site run w e in (x.0, x.1, x.2.path ∙ path)

  to_run : (p : Path) → HasPath p → Demanded m.rows given t roots p
  to_run p (node, w, path) = let x : ComesFromRun node = only node w in (x.0, x.2, x.1, x.3, sym x.4.path ∙ path)

  -- ---- one node for each path

  one_link : (r : Read) (link other : Link V) → Carries given t r link → Carries given t r other → link ≡ other
  one_link r link other c d =
      let a : Split m given t task den keeps form knows stands opens solves r link = split m given t task den keeps form knows stands opens solves r link c in
      let b : Split m given t task den keeps form knows stands opens solves r other = split m given t task den keeps form knows stands opens solves r other d in
      let origins : a.origin ≡ b.origin = one_origin t r.from a.origin b.origin a.from b.from in
      let froms : link.from ≡ other.from = some_same (sym a.source ∙ ap (λ o. source_at given o.from) origins ∙ b.source) in
      let throughs : link.through ≡ other.through = a.through ∙ ap (λ o. o.through ++ r.through) origins ∙ sym b.through in
      λ i. record { from = froms i; through = throughs i }

  one_list : (rs : List Read) (links others : List (Link V)) → CarryAll given t rs links → CarryAll given t rs others → links ≡ others
  one_list [] [] [] c d = refl
  one_list [] [] (x ∷ others) c d = absurd d
  one_list [] (x ∷ links) others c d = absurd c
  one_list (r ∷ rs) [] others c d = absurd c
  one_list (r ∷ rs) (x ∷ links) [] c d = absurd d
  one_list (r ∷ rs) (x ∷ links) (y ∷ others) c d = λ i. one_link r x y c.0 d.0 i ∷ one_list rs links others c.1 d.1 i

  run_at : (site : Site) (run : Run) → run_of t site ≡ Some run → (way : Way) × (n : ℕ) × (run_of t (at_output way n 0) ≡ Some run) × (run.path ≡ path_of way n)
  run_at (at_output way n s) run e = (way, n, e, path_of_run t way n s run e)
  run_at (at_input way i) run e = cc
  run_at (at_item way n k i) run e = cc
  run_at (at_constant c) run e = cc
  run_at nowhere run e = cc

  one_run : (site other : Site) (run run' : Run) → run_of t site ≡ Some run → run_of t other ≡ Some run' → run.path ≡ run'.path → run ≡ run'
  one_run site other run run' e f path =
      let a : (way : Way) × (n : ℕ) × (run_of t (at_output way n 0) ≡ Some run) × (run.path ≡ path_of way n) = run_at site run e in
      let b : (way : Way) × (n : ℕ) × (run_of t (at_output way n 0) ≡ Some run') × (run'.path ≡ path_of way n) = run_at other run' f in
      let same : (a.0 ≡ b.0) × (a.1 ≡ b.1) = path_names_node a.0 b.0 a.1 b.1 (sym a.3 ∙ path ∙ b.3) in
      some_same (sym a.2 ∙ (λ i. run_of t (at_output (same.0 i) (same.1 i) 0)) ∙ b.2)

  one_node : (x y : Node Kind V) → NodeWanted x → NodeWanted y → x.path ≡ y.path → x ≡ y
  one_node x y w u path =
      let a : ComesFromRun x = only x w in
      let b : ComesFromRun y = only y u in
      let same : b.1 ≡ a.1 = one_run b.0 a.0 b.1 a.1 b.3 a.3 (sym b.4.path ∙ sym path ∙ a.4.path) in
      let is : IsNodeOf given t a.1 y = subst (λ run. IsNodeOf given t run y) same b.4 in
      let kinds : x.kind ≡ y.kind = a.4.kind ∙ sym is.kind in
      let links : x.links ≡ y.links = one_list a.1.reads x.links y.links a.4.links is.links in
      λ i. record { path = path i; kind = kinds i; links = links i }

  listed : (nodes : List (Node Kind V)) → ListsNodes m task (told_by m given.files) den nodes → ListsDemand m.rows given t roots (paths_of nodes)
  listed nodes lists = record {
    members = λ p. (to_demand p, of_demand p);
    differ = differ_image (λ node. node.path) nodes lists.differ (λ x y h k e. one_node x y ((lists.members x).0 h) ((lists.members y).0 k) e);
  }
    where
      to_demand : (p : Path) → Has (paths_of nodes) p → Demanded m.rows given t roots p
      to_demand p h =
          let x : (node : Node Kind V) × Has nodes node × (p ≡ node.path) = image_of (λ node. node.path) nodes p h in
          to_run p (x.0, (lists.members x.0).0 x.1, sym x.2)

      of_demand : (p : Path) → Demanded m.rows given t roots p → Has (paths_of nodes) p
      of_demand p d =
          let x : HasPath p = to_node p d in
          subst (Has (paths_of nodes)) x.2 (has_image (λ node. node.path) nodes x.0 ((lists.members x.0).1 x.1))

  -- ---- warnings

  abbrev RunsWarn : List Path → List Warning → Type 0
  RunsWarn = Warns m.rows given t

  abbrev GraphWarns : List Path → List Warning → Type 0
  GraphWarns = NodesWarn m task (told_by m given.files) den

  node_end : (site : Site) (run : Run) (done : Done V) (x : HasPath run.path) → run_of t site ≡ Some run → Ended run done → done_of x.0 ≡ done
  node_end site run done x e ends =
      let c : ComesFromRun x.0 = only x.0 x.1 in
      let same : c.1 ≡ run = one_run c.0 site c.1 run c.3 e (sym c.4.path ∙ x.2) in
      one_end m.rows given t run (done_of x.0) done (subst (λ r. Ended r (done_of x.0)) same c.5) ends

  to_graph : {paths : List Path} {warnings : List Warning} → ((p : Path) → Has paths p → HasPath p) → RunsWarn paths warnings → GraphWarns paths warnings
  to_graph h no_run = no_node
  to_graph h (and_run {paths} {warnings} site run done e ends more) =
      let x : HasPath run.path = h run.path (inl refl) in
      let rest : GraphWarns paths warnings = to_graph (λ p k. h p (inr k)) more in
      let same : done_of x.0 ≡ done = node_end site run done x e ends in
      subst (λ p. GraphWarns (p ∷ paths) (done.warnings ++ warnings)) x.2
      (subst (λ d. GraphWarns (x.0.path ∷ paths) (d.warnings ++ warnings)) same (and_node x.0 x.1 rest))

  of_graph : {paths : List Path} {warnings : List Warning} → GraphWarns paths warnings → RunsWarn paths warnings
  of_graph no_node = no_run
  of_graph (and_node {paths} {warnings} node w more) =
      let c : ComesFromRun node = only node w in
      subst (λ p. RunsWarn (p ∷ paths) ((done_of node).warnings ++ warnings)) (sym c.4.path) (and_run c.0 c.1 (done_of node) c.3 c.5 (of_graph more))

  to_report : (paths : List Path) (warnings : List Warning) → IsReport m.rows given t roots paths warnings → IsNodesReport m task (told_by m given.files) den paths warnings
  to_report paths warnings report = record {
    members = λ p. (λ h. to_node p ((report.members p).0 h), λ x. (report.members p).1 (to_run p x));
    rise = report.rise;
    warn = to_graph (λ p h. to_node p ((report.members p).0 h)) report.warn;
  }

  of_report : (paths : List Path) (warnings : List Warning) → IsNodesReport m task (told_by m given.files) den paths warnings → IsReport m.rows given t roots paths warnings
  of_report paths warnings report = record {
    members = λ p. (λ h. to_run p ((report.members p).0 h), λ d. (report.members p).1 (to_node p d));
    rise = report.rise;
    warn = of_graph report.warn;
  }

  pub agrees : Agrees m given t task den
  agrees = record {
    values = values;
    wanted = λ site w. wanted_run m.rows given t w;
    output = output;
    each = each;
    only = only;
    demand = λ p. (to_node p, to_run p);
    listed = listed;
    report = λ paths warnings. (to_report paths warnings, of_report paths warnings);
  }
