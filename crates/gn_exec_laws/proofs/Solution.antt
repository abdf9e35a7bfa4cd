-- The equations of the nodes have one solution, and its demand can be listed.
use Rattle.std.proofs.Common.{◌≡◌, ◌≢◌, inl, ℕ, List, [], ◌∷◌, map, Option, Some, None, true, refl, sym, ◌∙◌, ap, subst}
use Rattle.std.specs.Prelude.{unwrap_or, slice_get, slice_index_or}
use Rattle.gn_node_set.specs.Paths.{Path}
use Rattle.gn_node_set.specs.Meanings.{Has, Source, a_value, an_item, an_output, Link, Node, Role, Plain, Switch, File, Zone, Answer, Meanings, selected, converted}
use Rattle.gn_exec_laws.specs.Graphs.{Task, source_value, link_value, condition, links_read, run_of, outer_link, outer_node, turn_nodes, result_links, Answers, answer_of, Unfolded, Solves}
use Rattle.gn_exec_laws.specs.Fits.{SourceSort, LinkSort, LinkSorts, NodeFits, CanStart, IsLawful}
use Rattle.gn_exec_laws.specs.Machine.{World, is_set, set_outputs, reads, first_world}
use Rattle.gn_node_set.proofs.Lists.{index_at, at_image, map_equal, known_by}
use Rattle.gn_exec_laws.proofs.Sorts.{beside_of, beside_at, links_beside, selected_from, converted_joined}
use Rattle.gn_exec_laws.proofs.Shapes.{Shape}
use Rattle.gn_exec_laws.proofs.Order.{Ordered}
use Rattle.gn_exec_laws.proofs.Right.{Right, right_start, right_step, reads_right}
use Rattle.gn_exec_laws.proofs.Complete.{Steps, no_step, then_step, source_set, IsComplete}

module _ {K V S T : Type 0} (m : Meanings K V S T) (lawful : IsLawful m) (task : Task K V) (c : CanStart m task) (tells : Answers m) (v : World K V) (ic : IsComplete m lawful task tells v) where
  abbrev shape : Shape m lawful task v
  shape = ic.fine.shape

  abbrev order : Ordered m lawful task v
  order = ic.fine.order

  value_at : Option (List (Link V)) → List V → List V
  value_at None vs = vs
  value_at (Some outs) vs = map (reads m v) outs

  -- what the nodes give in the complete world
  pub solution : Path → List V
  solution p = value_at (v.opened p) (set_outputs m v p)

  -- ---- all links are set

  fine_source : (y : Source V) (s : S) → SourceSort m [] v.graph y s → is_set v y ≡ true
  fine_source y s h = source_set m lawful task tells v ic.fine v.graph ic.out y s h

  link_sort : (node : Node K V) → Has v.graph node → (link : Link V) → Has node.links link → (s : S) × LinkSort m [] v.graph link s
  link_sort node h link has = let f : NodeFits m [] v.graph node = shape.fit node h in beside_of (LinkSort m [] v.graph) node.links f.sorts (links_beside m [] v.graph node.links f.sorts f.links) link has

  link_set : (link : Link V) (s : S) → LinkSort m [] v.graph link s → is_set v link.from ≡ true
  link_set link s h = fine_source link.from h.0 h.1

  one_node : (x y : Node K V) → Has v.graph x → Has v.graph y → x.path ≡ y.path → x ≡ y
  one_node x y h k e = known_by (λ n. n.path) v.graph shape.differ x y h k e

  plain_shut : (node : Node K V) → Has v.graph node → m.rows.role node.kind ≢ Zone → (o : Option (List (Link V))) → v.opened node.path ≡ o → v.opened node.path ≡ None
  plain_shut node h plain None e = e
  plain_shut node h plain (Some outs) e =
      let z : (z : Node K V) × Has v.graph z × (z.path ≡ node.path) × (m.rows.role z.kind ≡ Zone) × LinkSorts m [] v.graph outs (m.gives z.kind) = shape.opened node.path outs e in
      absurd (plain (ap (λ n. m.rows.role n.kind) (sym (one_node z.0 node z.1 h z.2)) ∙ z.3))

  out_sorts : (zone : Node K V) → Has v.graph zone → m.rows.role zone.kind ≡ Zone → LinkSorts m [] v.graph (result_links m (reads m v) zone) (m.gives zone.kind)
  out_sorts zone h role =
      let z : (z : Node K V) × Has v.graph z × (z.path ≡ zone.path) × (m.rows.role z.kind ≡ Zone) × LinkSorts m [] v.graph (result_links m (reads m v) zone) (m.gives z.kind) =
      shape.opened zone.path (result_links m (reads m v) zone) (ic.fine.solved.zones zone h (ic.done zone h) role) in
      subst (λ n. LinkSorts m [] v.graph (result_links m (reads m v) zone) (m.gives n.kind)) (one_node z.0 zone z.1 h z.2) z.4

  out_sort : (zone : Node K V) → Has v.graph zone → m.rows.role zone.kind ≡ Zone → (link : Link V) → Has (result_links m (reads m v) zone) link → (s : S) × LinkSort m [] v.graph link s
  out_sort zone h role link has = beside_of (LinkSort m [] v.graph) (result_links m (reads m v) zone) (m.gives zone.kind) (links_beside m [] v.graph (result_links m (reads m v) zone) (m.gives zone.kind) (out_sorts zone h role)) link has

  -- ---- the solution has the values that are read

  zone_solution : (zone : Node K V) → Has v.graph zone → m.rows.role zone.kind ≡ Zone → solution zone.path ≡ map (reads m v) (result_links m (reads m v) zone)
  unfolding solution value_at
  zone_solution zone h role = ap (λ o. value_at o (set_outputs m v zone.path)) (ic.fine.solved.zones zone h (ic.done zone h) role)

  plain_solution : (node : Node K V) → Has v.graph node → m.rows.role node.kind ≢ Zone → solution node.path ≡ set_outputs m v node.path
  unfolding solution value_at
  plain_solution node h plain = ap (λ o. value_at o (set_outputs m v node.path)) (plain_shut node h plain (v.opened node.path) refl)

  output_right : (node : Node K V) → Has v.graph node → (k : ℕ) (s : S) → slice_get (m.gives node.kind) k ≡ Some s → (role : Role) → m.rows.role node.kind ≡ role → source_value m solution (an_output node.path k) ≡ link_value m (set_outputs m v) (v.leads (an_output node.path k))
  output_right node h k s at Zone is =
      let outs : List (Link V) = result_links m (reads m v) node in
      let link : (link : Link V) × (slice_get (result_links m (reads m v) node) k ≡ Some link) × LinkSort m [] v.graph link s =
      beside_at (LinkSort m [] v.graph) (result_links m (reads m v) node) (m.gives node.kind) (links_beside m [] v.graph (result_links m (reads m v) node) (m.gives node.kind) (out_sorts node h is)) k s at in
      ap (λ vs. slice_index_or vs k m.nothing) (zone_solution node h is)
      ∙ index_at (map (reads m v) (result_links m (reads m v) node)) k m.nothing (reads m v link.0) (at_image (reads m v) (result_links m (reads m v) node) k link.0 link.1)
      ∙ ap (link_value m (set_outputs m v)) (sym (order.opens node.path k (result_links m (reads m v) node) link.0 (ic.fine.solved.zones node h (ic.done node h) is) link.1))
  output_right node h k s at Plain is = plain_right node h k (λ z. let bad : Plain ≡ Zone = sym is ∙ z in cc)
    where
      plain_right : (node : Node K V) → Has v.graph node → (k : ℕ) → m.rows.role node.kind ≢ Zone → source_value m solution (an_output node.path k) ≡ link_value m (set_outputs m v) (v.leads (an_output node.path k))
      plain_right node h k plain =
          ap (λ vs. slice_index_or vs k m.nothing) (plain_solution node h plain) ∙ ap (link_value m (set_outputs m v)) (sym (shape.shut node.path k (plain_shut node h plain (v.opened node.path) refl)))
  output_right node h k s at Switch is =
      let plain : m.rows.role node.kind ≢ Zone = λ z. let bad : Switch ≡ Zone = sym is ∙ z in cc in
      ap (λ vs. slice_index_or vs k m.nothing) (plain_solution node h plain) ∙ ap (link_value m (set_outputs m v)) (sym (shape.shut node.path k (plain_shut node h plain (v.opened node.path) refl)))
  output_right node h k s at File is =
      let plain : m.rows.role node.kind ≢ Zone = λ z. let bad : File ≡ Zone = sym is ∙ z in cc in
      ap (λ vs. slice_index_or vs k m.nothing) (plain_solution node h plain) ∙ ap (link_value m (set_outputs m v)) (sym (shape.shut node.path k (plain_shut node h plain (v.opened node.path) refl)))

  source_right : (y : Source V) (s : S) → SourceSort m [] v.graph y s → source_value m solution y ≡ link_value m (set_outputs m v) (v.leads y)
  source_right (a_value u) s h = ap (link_value m (set_outputs m v)) (sym (shape.values u))
  source_right (an_item i) s h = cc
  source_right (an_output p k) s h =
      subst (λ q. source_value m solution (an_output q k) ≡ link_value m (set_outputs m v) (v.leads (an_output q k))) h.2
      (output_right h.0 h.1 k s h.3 (m.rows.role h.0.kind) refl)

  -- the links of the complete world have the values that are read in it
  abbrev pub Agrees : (Path → List V) → Type 0
  Agrees den = (link : Link V) (s : S) → LinkSort m [] v.graph link s → link_value m den link ≡ reads m v link

  pub solution_agrees : Agrees solution
  solution_agrees link s h =
      ap (λ u. converted m.rows u link.through) (source_right link.from h.0 h.1) ∙ sym (converted_joined m (source_value m (set_outputs m v) (v.leads link.from).from) (v.leads link.from).through link.through)

  module _ (den : Path → List V) (agrees : Agrees den) where
    abbrev value : Link V → V
    value = link_value m den

    node_agrees : (node : Node K V) → Has v.graph node → (link : Link V) → Has node.links link → value link ≡ reads m v link
    node_agrees node h link has = let s : (s : S) × LinkSort m [] v.graph link s = link_sort node h link has in agrees link s.0 s.1

    selected_same : (node : Node K V) (role : Role) (links : List (Link V)) → ((link : Link V) → Has links link → value link ≡ reads m v link)
        → selected role (m.rows.choice node.kind (condition m value links)) links ≡ selected role (m.rows.choice node.kind (condition m (reads m v) links)) links
    selected_same node Plain links same = refl
    selected_same node File links same = refl
    selected_same node Zone links same = refl
    selected_same node Switch [] same = refl
    selected_same node Switch (link ∷ links) same = ap (λ u. selected Switch (m.rows.choice node.kind u) (link ∷ links)) (same link (inl refl))

    pub reads_same : (node : Node K V) → Has v.graph node → links_read m value node ≡ links_read m (reads m v) node
    reads_same node h = selected_same node (m.rows.role node.kind) node.links (node_agrees node h)

    run_same : (node : Node K V) → Has v.graph node → (answer : Option Answer) → run_of m value answer node ≡ run_of m (reads m v) answer node
    run_same node h answer =
        ap (λ vs. m.rows.row node.path node.kind vs answer)
        (ap (map value) (reads_same node h)
        ∙ map_equal value (reads m v) (links_read m (reads m v) node) (λ link has. node_agrees node h link (selected_from (m.rows.role node.kind) (m.rows.choice node.kind (condition m (reads m v) node.links)) node.links link has)))

    pub results_same : (zone : Node K V) → Has v.graph zone → result_links m value zone ≡ result_links m (reads m v) zone
    results_same zone h = ap (λ d. map (outer_link m zone) (m.opens zone.path zone.kind (slice_index_or d.outputs 0 m.nothing)).outputs) (run_same zone h None)

    turns_same : (zone : Node K V) → Has v.graph zone → turn_nodes m value zone ≡ turn_nodes m (reads m v) zone
    turns_same zone h = ap (λ d. map (outer_node m zone) (m.opens zone.path zone.kind (slice_index_or d.outputs 0 m.nothing)).nodes) (run_same zone h None)

    -- each node of the graph with its zones opened stands in the complete world
    pub stands_there : (node : Node K V) → Unfolded m task tells den node → Has v.graph node
    stands_there node (Unfolded.of_the_graph h) = ic.graph node h
    stands_there node (Unfolded.of_a_turn zone z role h) =
        let k : Has v.graph zone = stands_there zone z in
        ic.fine.solved.turns zone node k (ic.done zone k) role (subst (λ ns. Has ns node) (turns_same zone k) h)

    row_value : (node : Node K V) → Has v.graph node → m.rows.role node.kind ≢ Zone → solution node.path ≡ (run_of m value (answer_of m tells node) node).outputs
    row_value node h plain =
        plain_solution node h plain
        ∙ ap (λ o. unwrap_or o []) (ic.fine.solved.rows node h (ic.done node h) plain)
        ∙ ap (λ d. d.outputs) (sym (run_same node h (answer_of m tells node)))

    zone_value : (node : Node K V) → Has v.graph node → m.rows.role node.kind ≡ Zone → solution node.path ≡ map value (result_links m value node)
    zone_value node h role =
        zone_solution node h role
        ∙ sym (map_equal value (reads m v) (result_links m (reads m v) node) (λ link has. let s : (s : S) × LinkSort m [] v.graph link s = out_sort node h role link has in agrees link s.0 s.1))
        ∙ ap (map value) (sym (results_same node h))

  pub solution_solves : Solves m task tells solution
  solution_solves = record {
    rows = λ node there plain. row_value solution solution_agrees node (stands_there solution solution_agrees node there) plain;
    zones = λ node there role. zone_value solution solution_agrees node (stands_there solution solution_agrees node there) role;
  }

  -- ---- any solution

  module _ (den : Path → List V) (solves : Solves m task tells den) where
    right_steps : (w u : World K V) → Right m lawful task c tells den w → Steps m lawful task tells w u → Right m lawful task c tells den u
    right_steps w u r no_step = r
    right_steps w u r (then_step x u' steps s) = right_step m lawful task c tells den solves x u (right_steps w x r steps) s

    pub complete_right : Right m lawful task c tells den v
    complete_right = right_steps (first_world m task) v (right_start m lawful task c tells den solves) ic.steps

    pub agrees_any : Agrees den
    agrees_any link s h = sym (reads_right m lawful task c tells den v complete_right link (link_set link s h))

    by_role : (node : Node K V) → Unfolded m task tells den node → (role : Role) → m.rows.role node.kind ≡ role → den node.path ≡ solution node.path
    by_role node there Zone is = solves.zones node there is ∙ sym (zone_value den agrees_any node (stands_there den agrees_any node there) is)
    by_role node there Plain is =
        let plain : m.rows.role node.kind ≢ Zone = λ z. let bad : Plain ≡ Zone = sym is ∙ z in cc in
        solves.rows node there plain ∙ sym (row_value den agrees_any node (stands_there den agrees_any node there) plain)
    by_role node there Switch is =
        let plain : m.rows.role node.kind ≢ Zone = λ z. let bad : Switch ≡ Zone = sym is ∙ z in cc in
        solves.rows node there plain ∙ sym (row_value den agrees_any node (stands_there den agrees_any node there) plain)
    by_role node there File is =
        let plain : m.rows.role node.kind ≢ Zone = λ z. let bad : File ≡ Zone = sym is ∙ z in cc in
        solves.rows node there plain ∙ sym (row_value den agrees_any node (stands_there den agrees_any node there) plain)

    -- each solution gives the same outputs
    pub one_solution : (node : Node K V) → Unfolded m task tells den node → den node.path ≡ solution node.path
    one_solution node there = by_role node there (m.rows.role node.kind) refl
