-- What is unfolded is the graph that is found for the tree.
use Rattle.std.proofs.Common.{◌≡◌, inl, inr, ℕ, List, [], ◌∷◌, ◌++◌, map, length, Some, refl, sym, ◌∙◌, ap, subst}
use Rattle.std.specs.Prelude.{option_map, option_and_then, slice_get}
use Rattle.gn_lazy.specs.declared.graph.Origin.{Origin}
use Rattle.gn_lazy.specs.declared.graph.Origin.TheVariants.{Input, Constant as Slot, Out}
use Rattle.gn_lazy.specs.declared.graph.Link.{Link as CodeLink}
use Rattle.gn_lazy.specs.declared.graph.GraphNode.{GraphNode}
use Rattle.gn_tree.specs.NodeKinds as tree
use Rattle.gn_tree.specs.Trees.{Node as TreeNode, Tree}
use Rattle.gn_tree.specs.declared.kind.Kind.{Kind}
use Rattle.gn_node_kind.specs.Seen.{written_as}
use Rattle.gn_node_set.specs.Lists.{all_of}
use Rattle.gn_node_set.proofs.Lists.{same_place}
use Rattle.gn_node_set.specs.Meanings as meanings
use Rattle.gn_node_set.specs.Meanings.{Has, a_value, an_output, Link, Node}
use Rattle.gn_rules.specs.Rules.{KeepsRules}
use Rattle.gn_rules.specs.Sockets.{node_at, outputs_of}
use Rattle.gn_exec_laws.specs.Graphs.{Task}
use Rattle.gn_meaning.specs.Sites.{Way, the_tree, path_of}
use Rattle.gn_meaning.specs.Bodies.{Body, body_at}
use Rattle.gn_meaning.specs.Demand.{output_read}
use Rattle.gn_meaning.specs.Forms.{HasForm}
use Rattle.gn_meaning.specs.There.{LeadsTo}
use Rattle.gn_meaning.specs.Reads.{Run}
use Rattle.gn_meaning.proofs.Opened.{at_way}
use Rattle.gn_meaning.proofs.Paths.{path_names_node}
use Rattle.gn_meaning.proofs.Options.{some_same, then_some, map_some}
use Rattle.gn_stands.specs.Sources.{CarryAll}
use Rattle.gn_stands.specs.Tasks.{runs_within, links_within, node_within, nodes_within, task_within}
use Rattle.gn_found.specs.Filled.{by_name}
use Rattle.gn_table.specs.declared.constant.Constant.{Constant}
use Rattle.gn_table.specs.Constants.{name_of}
use Rattle.gn_lower.specs.Lowered.{Named, source_of, link_of, node_of, Lowers}
use Rattle.gn_lower.specs.Unfolding.{IsNodeOf, AreNodes}
use Rattle.gn_lower.proofs.Carrying.{carried_found}

-- ---- more nodes and constants change nothing of what was seen

module _ (nodes others : List (GraphNode Kind)) (constants more : List Constant) where
  source_stays : (o : Origin) (x : meanings.Source Named) → source_of nodes constants o ≡ Some x → source_of (nodes ++ others) (constants ++ more) o ≡ Some x
  source_stays Input x e = e
  source_stays (Slot slot) x e =
      let c : (c : Constant) × (slice_get constants slot ≡ Some c) × (a_value (Some (name_of c)) ≡ x) = map_some (λ c. a_value (Some (name_of c))) (slice_get constants slot) x e in
      ap (option_map (λ d. a_value (Some (name_of d)))) (same_place constants more slot c.0 c.1) ∙ ap Some c.2
  source_stays (Out node socket) x e =
      let n : (n : GraphNode Kind) × (slice_get nodes node ≡ Some n) × (an_output n.path.steps.items socket ≡ x) = map_some (λ n. an_output n.path.steps.items socket) (slice_get nodes node) x e in
      ap (option_map (λ m. an_output m.path.steps.items socket)) (same_place nodes others node n.0 n.1) ∙ ap Some n.2

  link_stays : (link : CodeLink) (l : Link Named) → link_of nodes constants link ≡ Some l → link_of (nodes ++ others) (constants ++ more) link ≡ Some l
  link_stays link l e =
      let x : (x : meanings.Source Named) × (source_of nodes constants link.origin ≡ Some x) × (record { from = x; through = link.through.items } ≡ l) = map_some (λ x. record { from = x; through = link.through.items }) (source_of nodes constants link.origin) l e in
      ap (option_map (λ y. record { from = y; through = link.through.items })) (source_stays link.origin x.0 x.1) ∙ ap Some x.2

  pub links_stay : (links : List CodeLink) (ls : List (Link Named)) → all_of (map (link_of nodes constants) links) ≡ Some ls → all_of (map (link_of (nodes ++ others) (constants ++ more)) links) ≡ Some ls
  links_stay [] ls e = e
  links_stay (link ∷ links) ls e =
      let first : (x : Link Named) × (link_of nodes constants link ≡ Some x) × (option_map (λ vs. x ∷ vs) (all_of (map (link_of nodes constants) links)) ≡ Some ls) =
      then_some (λ v. option_map (λ vs. v ∷ vs) (all_of (map (link_of nodes constants) links))) (link_of nodes constants link) ls e in
      let rest : (vs : List (Link Named)) × (all_of (map (link_of nodes constants) links) ≡ Some vs) × (first.0 ∷ vs ≡ ls) = map_some (λ vs. first.0 ∷ vs) (all_of (map (link_of nodes constants) links)) ls first.2 in
      ap (option_and_then (λ v. option_map (λ vs. v ∷ vs) (all_of (map (link_of (nodes ++ others) (constants ++ more)) links)))) (link_stays link first.0 first.1)
      ∙ (ap (option_map (λ vs. first.0 ∷ vs)) (links_stay links rest.0 rest.1) ∙ ap Some rest.2)

  module _ (t : Tree) where
    node_stays : (run : Run) (node : GraphNode Kind) → IsNodeOf t nodes constants run node → IsNodeOf t (nodes ++ others) (constants ++ more) run node
    node_stays run node is = record {
      path = is.path;
      kind = is.kind;
      links = is.links;
      seen = links_stay node.inputs.items is.links is.seen;
      carry = is.carry;
      way = is.way;
      body = is.body;
      number = is.number;
      written = is.written;
      leads = is.leads;
      at = is.at;
      place = is.place;
      outputs = is.outputs;
    }

    pub nodes_stay : (runs : List Run) (rest : List (GraphNode Kind)) → AreNodes t nodes constants runs rest → AreNodes t (nodes ++ others) (constants ++ more) runs rest
    nodes_stay [] [] is = tt
    nodes_stay [] (node ∷ rest) is = absurd is
    nodes_stay (run ∷ runs) [] is = absurd is
    nodes_stay (run ∷ runs) (node ∷ rest) (is, more_are) = (node_stays run node is, nodes_stay runs rest more_are)

-- ---- the nodes of the runs are those that are found

module _ (t : Tree) (nodes : List (GraphNode Kind)) (constants : List Constant) where
  pub one_node_more : (runs : List Run) (rest : List (GraphNode Kind)) (run : Run) (node : GraphNode Kind) → AreNodes t nodes constants runs rest → IsNodeOf t nodes constants run node → AreNodes t nodes constants (runs ++ run ∷ []) (rest ++ node ∷ [])
  one_node_more [] [] run node are is = (is, tt)
  one_node_more [] (x ∷ rest) run node are is = absurd are
  one_node_more (r ∷ runs) [] run node are is = absurd are
  one_node_more (r ∷ runs) (x ∷ rest) run node (first, are) is = (first, one_node_more runs rest run node are is)

  one_found : (k : ℕ) (run : Run) (node : GraphNode Kind) (found : Node tree.Kind Named) → IsNodeOf t nodes constants run node → node_within by_name t k run ≡ Some found → node_of nodes constants node ≡ Some found
  one_found k run node found is e =
      let links : (links : List (Link Named)) × (links_within by_name t k run.reads ≡ Some links) × (record { path = run.path; kind = run.kind; links = links } ≡ found) =
      map_some (λ links. record { path = run.path; kind = run.kind; links = links }) (links_within by_name t k run.reads) found e in
      let same : is.links ≡ links.0 = carried_found t k run.reads is.links links.0 is.carry links.1 in
      ap (option_map (λ ls. record { path = node.path.steps.items; kind = written_as node.kind; links = ls })) is.seen
      ∙ ((λ i. Some (record { path = is.path i; kind = is.kind i; links = same i })) ∙ ap Some links.2)

  pub nodes_found : (k : ℕ) (runs : List Run) (rest : List (GraphNode Kind)) (found : List (Node tree.Kind Named)) → AreNodes t nodes constants runs rest → all_of (map (node_within by_name t k) runs) ≡ Some found → all_of (map (node_of nodes constants) rest) ≡ Some found
  nodes_found k [] [] found are e = e
  nodes_found k [] (node ∷ rest) found are e = absurd are
  nodes_found k (run ∷ runs) [] found are e = absurd are
  nodes_found k (run ∷ runs) (node ∷ rest) found (is, are) e =
      let first : (x : Node tree.Kind Named) × (node_within by_name t k run ≡ Some x) × (option_map (λ vs. x ∷ vs) (all_of (map (node_within by_name t k) runs)) ≡ Some found) =
      then_some (λ v. option_map (λ vs. v ∷ vs) (all_of (map (node_within by_name t k) runs))) (node_within by_name t k run) found e in
      let more : (vs : List (Node tree.Kind Named)) × (all_of (map (node_within by_name t k) runs) ≡ Some vs) × (first.0 ∷ vs ≡ found) = map_some (λ vs. first.0 ∷ vs) (all_of (map (node_within by_name t k) runs)) found first.2 in
      ap (option_and_then (λ v. option_map (λ vs. v ∷ vs) (all_of (map (node_of nodes constants) rest)))) (one_found k run node first.0 is first.1)
      ∙ (ap (option_map (λ vs. first.0 ∷ vs)) (nodes_found k runs rest more.0 are more.1) ∙ ap Some more.2)

-- ---- the whole graph

one_body : (a b : Body) → Some a ≡ Some b → a ≡ b
one_body a b e = some_same e

module _ (t : Tree) (keeps : KeepsRules t) (form : HasForm t) (nodes : List (GraphNode Kind)) (constants : List Constant) where
  node_from : (runs : List Run) (rest : List (GraphNode Kind)) → AreNodes t nodes constants runs rest → (node : GraphNode Kind) → Has rest node → (run : Run) × IsNodeOf t nodes constants run node
  node_from [] [] are node h = absurd h
  node_from [] (x ∷ rest) are node h = absurd are
  node_from (run ∷ runs) [] are node h = absurd are
  node_from (run ∷ runs) (x ∷ rest) (is, are) node (inl same) = (run, subst (IsNodeOf t nodes constants run) (sym same) is)
  node_from (run ∷ runs) (x ∷ rest) (is, are) node (inr h) = node_from runs rest are node h

  same_count : (b c : Body) (m n : ℕ) (x y : TreeNode) → b ≡ c → m ≡ n → node_at b.scope.nodes m ≡ Some x → node_at c.scope.nodes n ≡ Some y → length (outputs_of b.scope.groups x) ≡ length (outputs_of c.scope.groups y)
  same_count b c m n x y bodies numbers e f =
      let same : x ≡ y = some_same (sym e ∙ ((λ i. node_at (bodies i).scope.nodes (numbers i)) ∙ f)) in
      λ i. length (outputs_of (bodies i).scope.groups (same i))

  outputs_are : (runs : List Run) → AreNodes t nodes constants runs nodes → (way : Way) (b : Body) (n : ℕ) (x : TreeNode) (node : GraphNode Kind) → LeadsTo t way b → node_at b.scope.nodes n ≡ Some x → Has nodes node → node.path.steps.items ≡ path_of way n → node.outputs ≡ length (outputs_of b.scope.groups x)
  outputs_are runs are way b n x node leads at h place =
      let run : (run : Run) × IsNodeOf t nodes constants run node = node_from runs nodes are node h in
      let is = run.1 in
      let same : (is.way ≡ way) × (is.number ≡ n) = path_names_node is.way way is.number n (sym is.place ∙ (sym is.path ∙ place)) in
      let here : body_at t way ≡ Some b = (at_way t keeps form leads).0 in
      let there : body_at t is.way ≡ Some is.body = (at_way t keeps form is.leads).0 in
      let bodies : is.body ≡ b = one_body is.body b (sym there ∙ (ap (body_at t) same.0 ∙ here)) in
      is.outputs ∙ same_count is.body b is.number n is.written x bodies same.1 is.at at

  -- nodes of all runs that are found, with what is given out, make the graph that is found for the tree
  pub graph_is_found : (k : ℕ) (task : Task tree.Kind Named) (all : List Run) (roots : List CodeLink) (links : List (Link Named)) → task_within by_name t k ≡ Some task → runs_within (body_at t) k the_tree ≡ Some all
      → AreNodes t nodes constants all nodes → all_of (map (link_of nodes constants) roots) ≡ Some links → CarryAll by_name t (output_read t ∷ []) links
      → Lowers t (record { nodes = nodes; roots = roots; constants = length constants }) constants
  graph_is_found k task all roots links found these are seen carry =
      let there : (ns : List (Node tree.Kind Named)) × (nodes_within by_name t k the_tree ≡ Some ns) × (option_map (λ rs. record { nodes = ns; roots = rs }) (links_within by_name t k (output_read t ∷ [])) ≡ Some task) =
      then_some (λ ns. option_map (λ rs. record { nodes = ns; roots = rs }) (links_within by_name t k (output_read t ∷ []))) (nodes_within by_name t k the_tree) task found in
      let out : (rs : List (Link Named)) × (links_within by_name t k (output_read t ∷ []) ≡ Some rs) × (record { nodes = there.0; roots = rs } ≡ task) =
      map_some (λ rs. record { nodes = there.0; roots = rs }) (links_within by_name t k (output_read t ∷ [])) task there.2 in
      let runs : (rs : List Run) × (runs_within (body_at t) k the_tree ≡ Some rs) × (all_of (map (node_within by_name t k) rs) ≡ Some there.0) =
      then_some (λ rs. all_of (map (node_within by_name t k) rs)) (runs_within (body_at t) k the_tree) there.0 there.1 in
      let same : runs.0 ≡ all = some_same (sym runs.1 ∙ these) in
      let all_nodes : all_of (map (node_of nodes constants) nodes) ≡ Some there.0 = nodes_found t nodes constants k all nodes there.0 are (subst (λ rs. all_of (map (node_within by_name t k) rs) ≡ Some there.0) same runs.2) in
      let all_roots : all_of (map (link_of nodes constants) roots) ≡ Some out.0 = seen ∙ ap Some (carried_found t k (output_read t ∷ []) links out.0 carry out.1) in
      record {
        steps = k;
        task = task;
        found = found;
        is =
            ap (option_and_then (λ ns. option_map (λ rs. record { nodes = ns; roots = rs }) (all_of (map (link_of nodes constants) roots)))) all_nodes
            ∙ (ap (option_map (λ rs. record { nodes = there.0; roots = rs })) all_roots ∙ ap Some out.2);
        slots = refl;
        outputs = outputs_are all are;
      }
