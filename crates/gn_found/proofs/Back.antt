-- What the runs of a list read comes of runs before them.
use Rattle.std.proofs.Common.{◌≡◌, ◌<◌, ◌⊎◌, inl, inr, ℕ, zero, suc, List, [], ◌∷◌, ◌++◌, map, length, Option, Some, None, refl, sym, ◌∙◌, ap, subst}
use Rattle.std.specs.Prelude.{IsTrue, option_map, option_and_then}
use Rattle.std.specs.Option.{option_map_or}
use Rattle.std.specs.List.{flat_map}
use Rattle.std.proofs.lemmas.List.{length-map}
use Rattle.gn_tree.specs.Trees.{Node as TreeNode, Tree}
use Rattle.gn_cycle.specs.Graph.{Graph, targets, has_edge, Leads}
use Rattle.gn_rules.specs.declared.rule.Rule.TheVariants as rule
use Rattle.gn_rules.specs.Sockets.{ids, one_of, outputs_of, node_at}
use Rattle.gn_rules.specs.Rules.{KeepsRules, graph_of}
use Rattle.gn_node_set.specs.Lists.{all_of}
use Rattle.gn_node_set.specs.Paths.{Path}
use Rattle.gn_node_set.specs.Meanings.{Has}
use Rattle.gn_node_set.proofs.Lists.{append_nil, append_assoc, map_append, has_first, has_second, has_either}
use Rattle.gn_meaning.specs.Sites.{Constant, Way, the_tree, into, plain_step, path_of, Site, at_output, at_input, at_constant, nowhere, Read, plain_read}
use Rattle.gn_meaning.specs.Bodies.{Body, body_at}
use Rattle.gn_meaning.specs.Reads.{given_out, read_at, Run, Part, a_node, a_group, a_repeat, run_in, part_at, out_of}
use Rattle.gn_meaning.specs.Origins.{read_origin, output_origin, input_origin, origin_within}
use Rattle.gn_meaning.specs.Forms.{HasForm}
use Rattle.gn_meaning.specs.There.{LeadsTo, into_group}
use Rattle.gn_meaning.proofs.Options.{some_same, none_some, then_some, map_some}
use Rattle.gn_meaning.proofs.Paths.{path_of_run}
use Rattle.gn_meaning.proofs.Found.{Near, constant as near_constant, entry, output}
use Rattle.gn_meaning.proofs.Reached.{keeps_rule}
use Rattle.gn_meaning.proofs.Inputs.{reads_near, has_read}
use Rattle.gn_meaning.proofs.Order.{node_leading}
use Rattle.gn_meaning.proofs.Parts.{singles, Holds}
use Rattle.gn_meaning.proofs.Opened.{reads_in, Opens, part_of, part_near, group_opens, at_way}
use Rattle.gn_stands.specs.Order.{by_rank, OrdersBack}
use Rattle.gn_stands.specs.Tasks.{order_at, part_runs, runs_within}
use Rattle.gn_stands.proofs.Walks.{orders_back}
use Rattle.gn_stands.proofs.Tasks.{below_count}
use Rattle.gn_found.proofs.Edges.{has_member, edges_there}

abbrev pub paths_in : List Run → List Path
paths_in runs = map (λ run. run.path) runs

module _ (t : Tree) where
  -- an origin of the site that is an output is one of a node with one of these paths
  abbrev pub ComesOf : List Path → Site → Type 0
  ComesOf paths site = (j : ℕ) (o : Read) (way : Way) (n s : ℕ) → origin_within t j site ≡ Some o → o.from ≡ at_output way n s → Has paths (path_of way n)

  pub more : (paths others : List Path) (site : Site) → ComesOf paths site → ComesOf (paths ++ others) site
  more paths others site c j o way n s e f = has_first paths others (path_of way n) (c j o way n s e f)

  pub read_comes : (paths : List Path) (r : Read) → ComesOf paths r.from → (j : ℕ) (o : Read) (way : Way) (n s : ℕ) → read_origin t (origin_within t j) r ≡ Some o → o.from ≡ at_output way n s → Has paths (path_of way n)
  read_comes paths r c j o way n s e f =
      let x : (x : Read) × (origin_within t j r.from ≡ Some x) × (record { from = x.from; through = x.through ++ r.through } ≡ o) = map_some (λ x. record { from = x.from; through = x.through ++ r.through }) (origin_within t j r.from) o e in
      c j x.0 way n s x.1 (ap (λ q. q.from) x.2 ∙ f)

  constant_comes : (paths : List Path) (k : Constant) → ComesOf paths (at_constant k)
  constant_comes paths k zero o way n s e f = cc
  constant_comes paths k (suc j) o way n s e f = absurd (let bad : at_constant k ≡ at_output way n s = ap (λ q. q.from) (some_same e) ∙ f in cc)

  pub tree_input_comes : (paths : List Path) (i : ℕ) → ComesOf paths (at_input the_tree i)
  tree_input_comes paths i zero o way n s e f = cc
  tree_input_comes paths i (suc j) o way n s e f = absurd (let bad : at_input the_tree i ≡ at_output way n s = ap (λ q. q.from) (some_same e) ∙ f in cc)

  -- the node that an output belongs to
  node_path : Site → Path
  node_path (at_output way n s) = path_of way n
  node_path _ = []

  own_comes : (paths : List Path) (way : Way) (n s : ℕ) (p : Part) → part_at t way n ≡ Some p → ((j : ℕ) → output_origin t (origin_within t j) way n s (Some p) ≡ Some (plain_read (at_output way n s))) → Has paths (path_of way n) → ComesOf paths (at_output way n s)
  unfolding node_path
  own_comes paths way n s p at own h zero o w m i e f = cc
  own_comes paths way n s p at own h (suc j) o w m i e f =
      let is : plain_read (at_output way n s) ≡ o = some_same (sym (own j) ∙ (sym (ap (output_origin t (origin_within t j) way n s) at) ∙ e)) in
      subst (Has paths) (ap node_path (ap (λ q. q.from) is ∙ f)) h

  group_output_comes : (paths : List Path) (way : Way) (n s : ℕ) (b : Body) (reads : List Read) → part_at t way n ≡ Some (a_group b reads) → ComesOf paths (out_of t (into way (plain_step n)) s).from → ComesOf paths (at_output way n s)
  group_output_comes paths way n s b reads at c zero o w m i e f = cc
  group_output_comes paths way n s b reads at c (suc j) o w m i e f =
      read_comes paths (out_of t (into way (plain_step n)) s) c j o w m i (sym (ap (output_origin t (origin_within t j) way n s) at) ∙ e) f

  group_input_comes : (paths : List Path) (way : Way) (n i : ℕ) (b : Body) (reads : List Read) → part_at t way n ≡ Some (a_group b reads) → ComesOf paths (read_at reads i).from → ComesOf paths (at_input (into way (plain_step n)) i)
  group_input_comes paths way n i b reads at c zero o w m s e f = cc
  group_input_comes paths way n i b reads at c (suc j) o w m s e f =
      read_comes paths (read_at reads i) c j o w m s (sym (ap (input_origin t (origin_within t j) way (plain_step n) i) at) ∙ e) f

  -- ---- lists of runs

  abbrev pub ReadsCome : List Path → List Read → Type 0
  ReadsCome paths reads = (r : Read) → Has reads r → ComesOf paths r.from

  -- what each run reads comes of runs before, or of nodes with these paths
  abbrev pub RunsComeBack : List Path → List Run → Type 0
  RunsComeBack paths [] = Unit {0}
  RunsComeBack paths (run ∷ runs) = ReadsCome paths run.reads × RunsComeBack (paths ++ run.path ∷ []) runs

  joined : (paths : List Path) (xs ys : List Run) → RunsComeBack paths xs → RunsComeBack (paths ++ paths_in xs) ys → RunsComeBack paths (xs ++ ys)
  joined paths [] ys bs cs = subst (λ ps. RunsComeBack ps ys) (append_nil paths) cs
  joined paths (x ∷ xs) ys (b, bs) cs = (b, joined (paths ++ x.path ∷ []) xs ys bs (subst (λ ps. RunsComeBack ps ys) (sym (append_assoc paths (x.path ∷ []) (paths_in xs))) cs))

  -- ---- lists of nodes

  abbrev pub Entries : List Path → Way → Body → Type 0
  Entries paths way b = (i : ℕ) → i < length b.scope.entries → ComesOf paths (at_input way i)

  abbrev pub Outputs : List Path → Way → Body → (ℕ → Type 0) → Type 0
  Outputs paths way b P = (m s : ℕ) (x : TreeNode) → node_at b.scope.nodes m ≡ Some x → s < length (outputs_of b.scope.groups x) → P m → ComesOf paths (at_output way m s)

  near_comes : (b : Body) (way : Way) (P : ℕ → Type 0) (paths : List Path) → Entries paths way b → Outputs paths way b P → {site : Site} → Near b.scope way P site → ComesOf paths site
  near_comes b way P paths entries outputs (near_constant k) = constant_comes paths k
  near_comes b way P paths entries outputs (entry i h) = entries i h
  near_comes b way P paths entries outputs (output m s x there h p) = outputs m s x there h p

  pub record Done (way : Way) (b : Body) (paths : List Path) (runs : List Run) : Type 0 where
    pub back : RunsComeBack paths runs
    pub outputs : Outputs (paths ++ paths_in runs) way b (λ _. Unit {0})

  module _ (keeps : KeepsRules t) (form : HasForm t) where
    pub out_comes : (paths : List Path) (way : Way) (b : Body) → LeadsTo t way b → Entries paths way b → Outputs paths way b (λ _. Unit {0}) → (i : ℕ) → i < length b.sockets → ComesOf paths (out_of t way i).from
    out_comes paths way b leads entries outputs i h =
        let list : (body_at t way ≡ Some b) × Holds t b = at_way t keeps form leads in
        let has : Has (given_out b way) (read_at (given_out b way) i) =
        has_read t keeps b.scope way (map one_of b.sockets) b.output list.1.out (singles b.sockets) (map one_of b.sockets) [] i (singles b.sockets) (subst (λ n. i < n) (sym (length-map b.sockets one_of)) h) in
        let near : Near b.scope way (λ _. Unit {0}) (read_at (given_out b way) i).from =
        reads_near t keeps b.scope way (map one_of b.sockets) b.output list.1.out (λ _. Unit {0}) (λ l k m e. tt) (map one_of b.sockets) [] (read_at (given_out b way) i) has in
        subst (λ r. ComesOf paths r.from) (sym (ap (λ o. option_map_or (λ c. read_at (given_out c way) i) o (plain_read nowhere)) list.0))
        (near_comes b way (λ _. Unit {0}) paths entries outputs near)

    module _ (way : Way) (b : Body) (leads : LeadsTo t way b) (k : ℕ)
        (below : (n : ℕ) (inner : Body) → LeadsTo t (into way (plain_step n)) inner → (paths : List Path) → Entries paths (into way (plain_step n)) inner → (runs : List Run) → runs_within (body_at t) k (into way (plain_step n)) ≡ Some runs → Done (into way (plain_step n)) inner paths runs) where
      abbrev list : (body_at t way ≡ Some b) × Holds t b
      list = at_way t keeps form leads

      abbrev graph : Graph
      graph = graph_of b.scope.nodes

      no_cycle : (n : ℕ) → ¬ Leads graph n n
      no_cycle n l =
          let x : (x : TreeNode) × (node_at b.scope.nodes n ≡ Some x) = node_leading b.scope.nodes n n l in
          keeps_rule t rule.Order keeps (list.1.nodes n x.0 x.1) l

      order : OrdersBack graph (by_rank graph)
      order = orders_back graph no_cycle (edges_there b.scope.nodes)

      abbrev known : ℕ → Option (List Run)
      known n = part_runs (body_at t) (runs_within (body_at t) k) way n (part_at t way n)

      -- a node, where those that it leads to are done
      module _ (paths : List Path) (done : List ℕ) (n : ℕ) (entries : Entries paths way b) (outputs : Outputs paths way b (Has done)) (behind : (m : ℕ) → Has (targets graph n) m → Has done m) where
        reads_come : (p : Part) → part_at t way n ≡ Some p → ReadsCome paths (reads_in p)
        reads_come p at r h =
            near_comes b way (λ m. IsTrue (has_edge graph n m)) paths entries (λ m s x there less edge. outputs m s x there less (behind m (has_member (targets graph n) m edge)))
            (part_near t keeps form way b list.0 n list.1 p at r h)

        abbrev IsDone : List Run → Type 0
        IsDone runs = RunsComeBack paths runs × ((s : ℕ) (x : TreeNode) → node_at b.scope.nodes n ≡ Some x → s < length (outputs_of b.scope.groups x) → ComesOf (paths ++ paths_in runs) (at_output way n s))

        own_done : (p : Part) (run : Run) → part_at t way n ≡ Some p → run_in p ≡ Some run → reads_in p ≡ run.reads → ((s j : ℕ) → output_origin t (origin_within t j) way n s (Some p) ≡ Some (plain_read (at_output way n s))) → IsDone (run ∷ [])
        own_done p run at is reads own =
            let path : run.path ≡ path_of way n = path_of_run t way n 0 run (ap (option_and_then run_in) at ∙ is) in (
              (subst (ReadsCome paths) reads (reads_come p at), tt),
              λ s x there less. own_comes (paths ++ run.path ∷ []) way n s p at (own s) (has_second paths (run.path ∷ []) (path_of way n) (inl (sym path))),
            )

        as_many : (s : ℕ) (x y : TreeNode) (inner : Body) → node_at b.scope.nodes n ≡ Some x → node_at b.scope.nodes n ≡ Some y → length (outputs_of b.scope.groups y) ≡ length inner.sockets → s < length (outputs_of b.scope.groups x) → s < length inner.sockets
        as_many s x y inner there too count h =
            let same : y ≡ x = some_same (sym too ∙ there) in
            subst (λ m. s < m) (sym (ap (λ z. length (outputs_of b.scope.groups z)) same) ∙ count) h

        group_done : (inner : Body) (reads : List Read) → part_at t way n ≡ Some (a_group inner reads) → (runs : List Run) → runs_within (body_at t) k (into way (plain_step n)) ≡ Some runs → IsDone runs
        group_done inner reads at runs f =
            let opens : (y : TreeNode) × (node_at b.scope.nodes n ≡ Some y) × Opens t b y inner reads = group_opens t keeps form way b list.0 n list.1 inner reads at in
            let leads_in : LeadsTo t (into way (plain_step n)) inner = into_group n reads leads at in
            let entries_in : Entries paths (into way (plain_step n)) inner = λ i h. group_input_comes paths way n i inner reads at (reads_come (a_group inner reads) at (read_at reads i) (opens.2.has i h)) in
            let inside : Done (into way (plain_step n)) inner paths runs = below n inner leads_in paths entries_in runs f in (
              inside.back,
              λ s x there less.
                  group_output_comes (paths ++ paths_in runs) way n s inner reads at
                  (out_comes (paths ++ paths_in runs) (into way (plain_step n)) inner leads_in (λ i h. more paths (paths_in runs) (at_input (into way (plain_step n)) i) (entries_in i h)) inside.outputs s
                  (as_many s x opens.0 inner there opens.1 opens.2.outs less)),
            )

        one_done : (p : Option Part) → part_at t way n ≡ p → (runs : List Run) → part_runs (body_at t) (runs_within (body_at t) k) way n p ≡ Some runs → IsDone runs
        one_done None at runs f = subst IsDone (some_same f) (tt, λ s x there less. absurd (none_some at (part_of t keeps form way b list.0 n x there)))
        one_done (Some (a_node run)) at runs f = subst IsDone (some_same f) (own_done (a_node run) run at refl refl (λ s j. refl))
        one_done (Some (a_group inner reads)) at runs f = group_done inner reads at runs f
        one_done (Some (a_repeat run inner)) at runs f = subst IsDone (some_same f) (own_done (a_repeat run inner) run at refl refl (λ s j. refl))

      -- ---- the nodes of the list in their order

      abbrev all_runs : List (List Run) → List Run
      all_runs lists = flat_map (λ runs. runs) lists

      abbrev AreDone : List Path → List ℕ → List (List Run) → Type 0
      AreDone paths nodes lists = RunsComeBack paths (all_runs lists) × Outputs (paths ++ paths_in (all_runs lists)) way b (Has nodes)

      regrouped : (paths : List Path) (xs ys : List Run) → (paths ++ paths_in xs) ++ paths_in ys ≡ paths ++ paths_in (xs ++ ys)
      regrouped paths xs ys = append_assoc paths (paths_in xs) (paths_in ys) ∙ ap (λ ps. paths ++ ps) (sym (map_append (λ run. run.path) xs ys))

      pub many_done : (ns done : List ℕ) (paths : List Path) (lists : List (List Run)) → done ++ ns ≡ by_rank graph → Entries paths way b → Outputs paths way b (Has done) → all_of (map known ns) ≡ Some lists → AreDone paths (done ++ ns) lists
      many_done [] done paths lists split entries outputs e =
          subst (AreDone paths (done ++ [])) (some_same e)
          (tt, λ m s x there less h. subst (λ ps. ComesOf ps (at_output way m s)) (sym (append_nil paths)) (outputs m s x there less (subst (λ ds. Has ds m) (append_nil done) h)))
      many_done (n ∷ ns) done paths lists split entries outputs e =
          let first : (runs : List Run) × (known n ≡ Some runs) × (option_map (λ vs. runs ∷ vs) (all_of (map known ns)) ≡ Some lists) = then_some (λ v. option_map (λ vs. v ∷ vs) (all_of (map known ns))) (known n) lists e in
          let rest : (ls : List (List Run)) × (all_of (map known ns) ≡ Some ls) × (first.0 ∷ ls ≡ lists) = map_some (λ vs. first.0 ∷ vs) (all_of (map known ns)) lists first.2 in
          let here : IsDone paths done n entries outputs (λ m h. order.back done ns n m split h) first.0 = one_done paths done n entries outputs (λ m h. order.back done ns n m split h) (part_at t way n) refl first.0 first.1 in
          let after : AreDone (paths ++ paths_in first.0) ((done ++ n ∷ []) ++ ns) rest.0 =
          many_done ns (done ++ n ∷ []) (paths ++ paths_in first.0) rest.0 (append_assoc done (n ∷ []) ns ∙ split) (λ i h. more paths (paths_in first.0) (at_input way i) (entries i h))
          (λ m s x there less h. by_place first.0 here.1 m s x there less (has_either done (n ∷ []) m h)) rest.1 in
          subst (AreDone paths (done ++ n ∷ ns)) rest.2 (
            joined paths first.0 (all_runs rest.0) here.0 after.0,
            λ m s x there less h. subst (λ ps. ComesOf ps (at_output way m s)) (regrouped paths first.0 (all_runs rest.0)) (after.1 m s x there less (subst (λ ds. Has ds m) (sym (append_assoc done (n ∷ []) ns)) h)),
          )
        where
          by_place : (runs : List Run) → ((s : ℕ) (x : TreeNode) → node_at b.scope.nodes n ≡ Some x → s < length (outputs_of b.scope.groups x) → ComesOf (paths ++ paths_in runs) (at_output way n s))
              → (m s : ℕ) (x : TreeNode) → node_at b.scope.nodes m ≡ Some x → s < length (outputs_of b.scope.groups x) → Has done m ⊎ Has (n ∷ []) m → ComesOf (paths ++ paths_in runs) (at_output way m s)
          by_place runs own m s x there less (inl h) = more paths (paths_in runs) (at_output way m s) (outputs m s x there less h)
          by_place runs own m s x there less (inr (inl same)) = subst (λ i. ComesOf (paths ++ paths_in runs) (at_output way i s)) (sym same) (own s x (subst (λ i. node_at b.scope.nodes i ≡ Some x) same there) less)
          by_place runs own m s x there less (inr (inr h)) = absurd h

    -- the runs of a list, through groups less deep than k
    pub list_done : (k : ℕ) (way : Way) (b : Body) → LeadsTo t way b → (paths : List Path) → Entries paths way b → (runs : List Run) → runs_within (body_at t) k way ≡ Some runs → Done way b paths runs
    list_done zero way b leads paths entries runs e = cc
    list_done (suc k) way b leads paths entries runs e =
        let at : body_at t way ≡ Some b = (at_way t keeps form leads).0 in
        let nodes : order_at (body_at t) way ≡ by_rank (graph_of b.scope.nodes) = ap (λ o. option_map_or (λ c. by_rank (graph_of c.scope.nodes)) o []) at in
        let lists : (lists : List (List Run)) × (all_of (map (λ n. part_runs (body_at t) (runs_within (body_at t) k) way n (part_at t way n)) (order_at (body_at t) way)) ≡ Some lists) × (flat_map (λ rs. rs) lists ≡ runs) =
        map_some (flat_map (λ rs. rs)) (all_of (map (λ n. part_runs (body_at t) (runs_within (body_at t) k) way n (part_at t way n)) (order_at (body_at t) way))) runs e in
        let below : (n : ℕ) (inner : Body) → LeadsTo t (into way (plain_step n)) inner → (ps : List Path) → Entries ps (into way (plain_step n)) inner → (rs : List Run) → runs_within (body_at t) k (into way (plain_step n)) ≡ Some rs → Done (into way (plain_step n)) inner ps rs
        = λ n inner leads_in ps entries_in rs f. list_done k (into way (plain_step n)) inner leads_in ps entries_in rs f in
        let done = many_done way b leads k below (by_rank (graph_of b.scope.nodes)) [] paths lists.0 refl entries (λ m s x there less h. absurd h)
        (subst (λ ns. all_of (map (λ n. part_runs (body_at t) (runs_within (body_at t) k) way n (part_at t way n)) ns) ≡ Some lists.0) nodes lists.1) in
        let ordered : OrdersBack (graph_of b.scope.nodes) (by_rank (graph_of b.scope.nodes)) = order way b leads k below in
        subst (Done way b paths) lists.2 (record {
          back = done.0;
          outputs = λ m s x there less h. done.1 m s x there less ((ordered.members m).1 (below_count (ids b.scope.nodes) b.scope.nodes m x there));
        })
