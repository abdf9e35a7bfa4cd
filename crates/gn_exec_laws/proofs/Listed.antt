-- The demanded nodes as a list.
use Rattle.std.proofs.Common.{◌≡◌, inl, inr, ◌<◌, ◌≤◌, ℕ, List, [], ◌∷◌, ◌++◌, map, Option, Some, None, Bool, true, false, refl, sym, ◌∙◌, ap, subst, arith}
use Rattle.std.specs.Prelude.{if◌then◌else◌, slice_get}
use Rattle.gn_node_set.specs.Paths.{Path}
use Rattle.gn_node_set.specs.Meanings.{Has, Source, a_value, an_item, an_output, Link, Node, Role, Plain, Switch, File, Zone, Meanings, AllDiffer}
use Rattle.gn_exec_laws.specs.Graphs.{Task, link_value, choice_of, links_read, result_links, Answers, Unfolded, Solves, Brought, Wanted, ListsDemand}
use Rattle.gn_exec_laws.specs.Fits.{CanStart, IsLawful}
use Rattle.gn_exec_laws.specs.Machine.{World, reads}
use Rattle.gn_node_set.proofs.Lists.{has_first, has_second, has_either, has_image, image_of, member_at}
use Rattle.gn_exec_laws.proofs.Sorts.{selected_from}
use Rattle.gn_exec_laws.proofs.Order.{Ordered}
use Rattle.gn_exec_laws.proofs.Closure.{Reaches, height, reached, listed, listed_reaches, any_output, output_found_in, output_in}
use Rattle.gn_exec_laws.proofs.Right.{Right}
use Rattle.gn_exec_laws.proofs.Complete.{IsComplete, complete, differ_of_images}
use Rattle.gn_exec_laws.proofs.Solution.{agrees_any, complete_right, results_same, solution, solution_solves, one_solution, stands_there}
use Rattle.gn_exec_laws.specs.Claims.{HasOneSolution}

module _ {K V S T : Type 0} (m : Meanings K V S T) (lawful : IsLawful m) (task : Task K V) (c : CanStart m task) (tells : Answers m) (v : World K V) (ic : IsComplete m lawful task tells v) (den : Path → List V) (solves : Solves m task tells den) where
  abbrev value : Link V → V
  value = link_value m den

  abbrev Is : Node K V → Type 0
  Is = Unfolded m task tells den

  right : Right m lawful task c tells den v
  right = complete_right m lawful task c tells v ic den solves

  there : (node : Node K V) → Is node → Has v.graph node
  there node is = stands_there m lawful task c tells v ic den (agrees_any m lawful task c tells v ic den solves) node is

  -- ---- what a node brings

  froms : List (Link V) → List (Source V)
  froms links = map (λ l. l.from) links

  result_in : Role → Option (Link V) → List (Source V)
  result_in Zone (Some link) = link.from ∷ []
  result_in _ _ = []

  brought_by : Node K V → ℕ → List (Source V)
  brought_by node s = froms (links_read m value node) ++ result_in (m.rows.role node.kind) (slice_get (result_links m value node) s)

  abbrev Closed : Source V → Type 0
  Closed = Reaches v.graph (froms task.roots) brought_by

  -- ---- what is wanted is what nodes bring

  result_wanted : (node : Node K V) (s : ℕ) → Is node → Wanted m task tells den (an_output node.path s) → (role : Role) → m.rows.role node.kind ≡ role → (o : Option (Link V)) → slice_get (result_links m value node) s ≡ o → (x : Source V) → Has (result_in role o) x → Wanted m task tells den x
  unfolding result_in
  result_wanted node s is d Zone role (Some link) at x (inl q) = subst (Wanted m task tells den) (sym q) (Brought.a_result node s link is role d at)
  result_wanted node s is d Zone role (Some link) at x (inr q) = absurd q
  result_wanted node s is d Zone role None at x h = absurd h
  result_wanted node s is d Plain role o at x h = absurd h
  result_wanted node s is d Switch role o at x h = absurd h
  result_wanted node s is d File role o at x h = absurd h

  node_brings : (node : Node K V) (s : ℕ) → Is node → Wanted m task tells den (an_output node.path s) → (x : Source V) → Has (brought_by node s) x → Wanted m task tells den x
  unfolding brought_by froms
  node_brings node s is d x h = elim (has_either (map (λ l. l.from) (links_read m value node)) (result_in (m.rows.role node.kind) (slice_get (result_links m value node) s)) x h) [
    | inl a ↦
        let link : (link : Link V) × Has (links_read m value node) link × (x ≡ link.from) = image_of (λ l. l.from) (links_read m value node) x a in
        subst (Wanted m task tells den) (sym link.2) (Brought.an_input node s link.0 is d link.1)
    | inr b ↦ result_wanted node s is d (m.rows.role node.kind) refl (slice_get (result_links m value node) s) refl x b
  ]

  closed_wanted : (x : Source V) → Closed x → Wanted m task tells den x
  unfolding froms
  closed_wanted x (Reaches.from_start y h) = Brought.a_start (image_of (λ l. l.from) task.roots y h)
  closed_wanted x (Reaches.from_node node s y h r has) = node_brings node s (right.there node h) (closed_wanted (an_output node.path s) r) y has

  in_reads : (node : Node K V) (s : ℕ) (link : Link V) → Has (links_read m value node) link → Has (brought_by node s) link.from
  unfolding brought_by froms
  in_reads node s link h = has_first (map (λ l. l.from) (links_read m value node)) (result_in (m.rows.role node.kind) (slice_get (result_links m value node) s)) link.from (has_image (λ l. l.from) (links_read m value node) link h)

  in_results : (node : Node K V) (s : ℕ) (link : Link V) → m.rows.role node.kind ≡ Zone → slice_get (result_links m value node) s ≡ Some link → Has (brought_by node s) link.from
  unfolding brought_by result_in
  in_results node s link role at =
      has_second (froms (links_read m value node)) (result_in (m.rows.role node.kind) (slice_get (result_links m value node) s)) link.from
      (subst (λ o. Has (result_in (m.rows.role node.kind) o) link.from) (sym at) (subst (λ r. Has (result_in r (Some link)) link.from) (sym role) (inl refl)))

  wanted_closed : (x : Source V) → Wanted m task tells den x → Closed x
  unfolding froms
  wanted_closed x (Brought.a_start root) = Reaches.from_start x (subst (Has (map (λ l. l.from) task.roots)) (sym root.2) (has_image (λ l. l.from) task.roots root.0 root.1))
  wanted_closed x (Brought.an_input node s link is d has) = Reaches.from_node node s link.from (there node is) (wanted_closed (an_output node.path s) d) (in_reads node s link has)
  wanted_closed x (Brought.a_result node s link is role d at) = Reaches.from_node node s link.from (there node is) (wanted_closed (an_output node.path s) d) (in_results node s link role at)

  -- ---- nodes bring what is below them

  abbrev order : Ordered m lawful task v
  order = ic.fine.order

  link_height : (node : Node K V) (link : Link V) → Has v.graph node → Has node.links link → (y : Source V) → link.from ≡ y → height v.graph (froms task.roots) brought_by order.rank y ≤ order.rank node.path
  unfolding height
  link_height node link h has (a_value u) e = omega arith
  link_height node link h has (an_item i) e = omega arith
  link_height node link h has (an_output p k) e = let less : order.rank p < order.rank node.path = order.links node link p k h has e in omega arith

  result_height : (zone : Node K V) (link : Link V) → Has v.graph zone → m.rows.role zone.kind ≡ Zone → Has (result_links m (reads m v) zone) link → (y : Source V) → link.from ≡ y → height v.graph (froms task.roots) brought_by order.rank y ≤ order.rank zone.path
  unfolding height
  result_height zone link h role has (a_value u) e = omega arith
  result_height zone link h role has (an_item i) e = omega arith
  result_height zone link h role has (an_output p k) e =
      let less : order.rank p < order.rank zone.path = order.results zone.path (result_links m (reads m v) zone) link p k (ic.fine.solved.zones zone h (ic.done zone h) role) has e in
      omega arith

  result_below : (node : Node K V) (s : ℕ) → Has v.graph node → (role : Role) → m.rows.role node.kind ≡ role → (o : Option (Link V)) → slice_get (result_links m value node) s ≡ o → (x : Source V) → Has (result_in role o) x → height v.graph (froms task.roots) brought_by order.rank x ≤ order.rank node.path
  unfolding result_in
  result_below node s h Zone role (Some link) at x (inl q) =
      let same : result_links m value node ≡ result_links m (reads m v) node = results_same m lawful task c tells v ic den (agrees_any m lawful task c tells v ic den solves) node h in
      subst (λ y. height v.graph (froms task.roots) brought_by order.rank y ≤ order.rank node.path) (sym q)
      (result_height node link h role (subst (λ ls. Has ls link) same (member_at (result_links m value node) s link at)) link.from refl)
  result_below node s h Zone role (Some link) at x (inr q) = absurd q
  result_below node s h Zone role None at x k = absurd k
  result_below node s h Plain role o at x k = absurd k
  result_below node s h Switch role o at x k = absurd k
  result_below node s h File role o at x k = absurd k

  read_below : (node : Node K V) (x : Source V) → Has v.graph node → Has (froms (links_read m value node)) x → height v.graph (froms task.roots) brought_by order.rank x ≤ order.rank node.path
  unfolding froms
  read_below node x h a =
      let link : (link : Link V) × Has (links_read m value node) link × (x ≡ link.from) = image_of (λ l. l.from) (links_read m value node) x a in
      subst (λ y. height v.graph (map (λ l. l.from) task.roots) brought_by order.rank y ≤ order.rank node.path) (sym link.2)
      (link_height node link.0 h (selected_from (m.rows.role node.kind) (choice_of m value node) node.links link.0 link.1) link.0.from refl)

  lower : (node : Node K V) (s : ℕ) (x : Source V) → Has v.graph node → Has (brought_by node s) x → height v.graph (froms task.roots) brought_by order.rank x ≤ order.rank node.path
  unfolding brought_by
  lower node s x h k = elim (has_either (froms (links_read m value node)) (result_in (m.rows.role node.kind) (slice_get (result_links m value node) s)) x k) [
    | inl a ↦ read_below node x h a
    | inr b ↦ result_below node s h (m.rows.role node.kind) refl (slice_get (result_links m value node) s) refl x b
  ]

  -- ---- the nodes whose outputs are wanted

  abbrev wanted : List (Source V)
  wanted = reached v.graph (froms task.roots) brought_by order.rank lower

  demanded_in : List (Node K V) → List (Node K V)
  demanded_in [] = []
  demanded_in (node ∷ nodes) = if any_output node.path wanted then node ∷ demanded_in nodes else demanded_in nodes

  was_in : (nodes : List (Node K V)) (x : Node K V) → Has (demanded_in nodes) x → Has nodes x × (any_output x.path wanted ≡ true)
  unfolding demanded_in
  was_in [] x h = absurd h
  was_in (node ∷ nodes) x h = by_test (any_output node.path wanted) refl h (was_in nodes x)
    where
      by_test : (b : Bool) → any_output node.path wanted ≡ b → Has (if b then node ∷ demanded_in nodes else demanded_in nodes) x → (Has (demanded_in nodes) x → Has nodes x × (any_output x.path wanted ≡ true)) → Has (node ∷ nodes) x × (any_output x.path wanted ≡ true)
      by_test true e (inl q) rest = (inl q, ap (λ n. any_output n.path wanted) q ∙ e)
      by_test true e (inr k) rest = (inr (rest k).0, (rest k).1)
      by_test false e k rest = (inr (rest k).0, (rest k).1)

  is_in : (nodes : List (Node K V)) (x : Node K V) → Has nodes x → any_output x.path wanted ≡ true → Has (demanded_in nodes) x
  unfolding demanded_in
  is_in [] x h e = absurd h
  is_in (node ∷ nodes) x (inl q) e = subst (λ b. Has (if b then node ∷ demanded_in nodes else demanded_in nodes) x) (sym (ap (λ n. any_output n.path wanted) (sym q) ∙ e)) (inl q)
  is_in (node ∷ nodes) x (inr h) e = by_test (any_output node.path wanted) (is_in nodes x h e)
    where
      by_test : (b : Bool) → Has (demanded_in nodes) x → Has (if b then node ∷ demanded_in nodes else demanded_in nodes) x
      by_test true k = inr k
      by_test false k = k

  in_differ : (nodes : List (Node K V)) → AllDiffer nodes → AllDiffer (demanded_in nodes)
  unfolding demanded_in
  in_differ [] d = tt
  in_differ (node ∷ nodes) d = by_test (any_output node.path wanted) (in_differ nodes d.1)
    where
      by_test : (b : Bool) → AllDiffer (demanded_in nodes) → AllDiffer (if b then node ∷ demanded_in nodes else demanded_in nodes)
      by_test true r = (λ h. d.0 (was_in nodes node h).0, r)
      by_test false r = r

  -- the demanded nodes, each once
  pub demand : List (Node K V)
  demand = demanded_in v.graph

  pub demand_listed : ListsDemand m task tells den demand
  unfolding demand
  demand_listed = record {
    members = λ node. (
      λ h.
          let k : Has v.graph node × (any_output node.path wanted ≡ true) = was_in v.graph node h in
          let x : (s : ℕ) × Has wanted (an_output node.path s) = output_found_in node.path wanted k.1 in
          (right.there node k.0, (x.0, closed_wanted (an_output node.path x.0) (listed_reaches v.graph (froms task.roots) brought_by order.rank lower (an_output node.path x.0) x.1))),
      λ d. is_in v.graph node (there node d.0)
          (output_in node.path d.1.0 wanted (listed v.graph (froms task.roots) brought_by order.rank lower (an_output node.path d.1.0) (wanted_closed (an_output node.path d.1.0) d.1.1))),
    );
    differ = in_differ v.graph (differ_of_images m lawful task tells (λ n. n.path) v.graph ic.fine.shape.differ);
  }

-- ---- for each graph

module _ {K V S T : Type 0} (m : Meanings K V S T) (lawful : IsLawful m) (task : Task K V) (c : CanStart m task) (tells : Answers m) where
  pub has_one_solution : HasOneSolution m task tells
  has_one_solution =
      let v : (v : World K V) × IsComplete m lawful task tells v = complete m lawful task tells c in
      record {
        solution = solution m lawful task c tells v.0 v.1;
        solves = solution_solves m lawful task c tells v.0 v.1;
        only = one_solution m lawful task c tells v.0 v.1;
      }

  pub has_list : (den : Path → List V) → Solves m task tells den → (nodes : List (Node K V)) × ListsDemand m task tells den nodes
  has_list den solves =
      let v : (v : World K V) × IsComplete m lawful task tells v = complete m lawful task tells c in
      (demand m lawful task c tells v.0 v.1 den solves, demand_listed m lawful task c tells v.0 v.1 den solves)
