-- What is set is what the equations of the nodes give, and what is used is demanded.
use Rattle.std.proofs.Common.{◌≡◌, ◌≢◌, inl, inr, ℕ, List, [], ◌∷◌, ◌++◌, map, Option, Some, None, Bool, true, false, refl, sym, ◌∙◌, ap, subst}
use Rattle.std.specs.Prelude.{is_some, unwrap_or, if◌then◌else◌, slice_get, slice_index_or}
use Rattle.gn_node_set.specs.Paths.{Path, ends_plain, zone_of, with_entry}
use Rattle.gn_node_set.specs.Meanings.{Has, Source, a_value, an_item, an_output, Link, plain_link, along, Node, Role, Plain, Switch, File, Zone, Answer, Warning, Done, Meanings, AllDiffer, chosen, selected, converted, answer_for}
use Rattle.gn_exec_laws.specs.Graphs.{Task, source_value, link_value, condition, links_read, run_of, opened_by, outer_link, outer_node, turn_nodes, result_links, Answers, answer_of, Unfolded, Solves, Brought, Wanted, Demanded}
use Rattle.gn_exec_laws.specs.Fits.{paths_of, is_file, KindFits, NodeFits, CanStart, OpensWell, IsLawful}
use Rattle.gn_exec_laws.specs.Machine.{Event, Serve, World, link_now, is_there, is_set, set_outputs, reads, led_on, with_outputs, with_turns, first_world, world, condition_set, sure_as, sure, Reached, Used, IsRun, AnswersAs, IsServed}
use Rattle.gn_node_set.proofs.Lists.{some_same, held, not_both, has_either, image_of, map_map, map_equal, index_image, known_by}
use Rattle.gn_node_set.proofs.Paths.{by_path, entry_is, no_zone, turn_ends}
use Rattle.gn_exec_laws.proofs.Sorts.{converted_joined, each_fits}
use Rattle.gn_exec_laws.proofs.Shapes.{IsFed}
use Rattle.gn_exec_laws.proofs.Kept.{kept, Step, step_of}

module _ {K V S T : Type 0} (m : Meanings K V S T) (lawful : IsLawful m) (task : Task K V) (c : CanStart m task) (tells : Answers m) (den : Path → List V) where
  abbrev pub value : Link V → V
  value = link_value m den

  abbrev pub Is : Node K V → Type 0
  Is = Unfolded m task tells den

  -- ---- the nodes of the graph with all its zones opened

  -- what a zone needs to open well
  pub record IsSound (node : Node K V) : Type 0 where
    pub sorts : List S
    pub kind : KindFits m node.kind sorts
    pub ends : ends_plain node.path ≡ true

  opens_sound : (zone : Node K V) → IsSound zone → m.rows.role zone.kind ≡ Zone → OpensWell m zone.path zone.kind (opened_by m value zone)
  opens_sound zone s role = lawful.opens zone.path zone.kind (slice_index_or (run_of m value None zone).outputs 0 m.nothing) s.sorts s.ends role s.kind

  there_sound : (node : Node K V) → Is node → IsSound node
  there_sound node (Unfolded.of_the_graph h) = let f : NodeFits m [] task.nodes node = each_fits m [] [] task.nodes c.fit node h in record { sorts = f.sorts; kind = f.kind; ends = c.ends node h }
  there_sound node (Unfolded.of_a_turn zone z role h) =
      let well : OpensWell m zone.path zone.kind (opened_by m value zone) = opens_sound zone (there_sound zone z) role in
      let x : (x : Node K V) × Has (opened_by m value zone).nodes x × (node ≡ outer_node m zone x) = image_of (outer_node m zone) (opened_by m value zone).nodes node h in
      let f : NodeFits m (m.gives zone.kind) (opened_by m value zone).nodes x.0 = each_fits m (m.gives zone.kind) [] (opened_by m value zone).nodes well.fit x.0 x.1 in
      record {
        sorts = f.sorts;
        kind = subst (λ n. KindFits m n.kind f.sorts) (sym x.2) f.kind;
        ends = turn_ends node.path zone.path (ap (λ n. zone_of n.path) x.2 ∙ well.in_turns x.0 x.1);
      }

  pub zone_opens_well : (zone : Node K V) → Is zone → m.rows.role zone.kind ≡ Zone → OpensWell m zone.path zone.kind (opened_by m value zone)
  zone_opens_well zone z role = opens_sound zone (there_sound zone z) role

  turn_zone : (zone : Node K V) → Is zone → m.rows.role zone.kind ≡ Zone → (node : Node K V) → Has (turn_nodes m value zone) node → zone_of node.path ≡ Some zone.path
  turn_zone zone z role node h =
      let x : (x : Node K V) × Has (opened_by m value zone).nodes x × (node ≡ outer_node m zone x) = image_of (outer_node m zone) (opened_by m value zone).nodes node h in
      ap (λ n. zone_of n.path) x.2 ∙ (zone_opens_well zone z role).in_turns x.0 x.1

  turns_differ : (zone : Node K V) → Is zone → m.rows.role zone.kind ≡ Zone → AllDiffer (paths_of (turn_nodes m value zone))
  turns_differ zone z role = subst AllDiffer (sym (map_map (λ n. n.path) (outer_node m zone) (opened_by m value zone).nodes)) (zone_opens_well zone z role).differ

  -- no path names two nodes
  pub one_there : (x y : Node K V) → Is x → Is y → x.path ≡ y.path → x ≡ y
  one_there x y (Unfolded.of_the_graph h) (Unfolded.of_the_graph k) e = known_by (λ n. n.path) task.nodes c.differ x y h k e
  one_there x y (Unfolded.of_the_graph h) (Unfolded.of_a_turn zone z role k) e = absurd (not_both (no_zone x.path (c.no_turns x h)) (ap zone_of e ∙ turn_zone zone z role y k))
  one_there x y (Unfolded.of_a_turn zone z role h) (Unfolded.of_the_graph k) e = absurd (not_both (no_zone y.path (c.no_turns y k)) (ap zone_of (sym e) ∙ turn_zone zone z role x h))
  one_there x y (Unfolded.of_a_turn zone z role h) (Unfolded.of_a_turn zone' z' role' k) e =
      let same : zone ≡ zone' = one_there zone zone' z z' (some_same (sym (turn_zone zone z role x h) ∙ ap zone_of e ∙ turn_zone zone' z' role' y k)) in
      known_by (λ n. n.path) (turn_nodes m value zone) (turns_differ zone z role) x y h (subst (λ n. Has (turn_nodes m value n) y) (sym same) k) e

  -- ---- what is set is right

  abbrev pub WarnsRight : World K V → Path → List Warning → Type 0
  WarnsRight w p warnings = (node : Node K V) × Is node × (node.path ≡ p) × (warnings ≡ (run_of m value (answer_of m tells node) node).warnings)

  pub record Right (w : World K V) : Type 0 where
    pub there : (node : Node K V) → Has w.graph node → Is node
    pub set : (p : Path) (vs : List V) → w.set p ≡ Some vs → vs ≡ den p
    pub leads : (x : Source V) → value (w.leads x) ≡ source_value m den x
    pub opened : (p : Path) (outs : List (Link V)) → w.opened p ≡ Some outs → (zone : Node K V) × Is zone × (zone.path ≡ p) × (m.rows.role zone.kind ≡ Zone) × (outs ≡ result_links m value zone)
    pub told : (p : Path) (a : Answer) → w.answers p ≡ Some a → (node : Node K V) × Is node × (node.path ≡ p) × (m.rows.role node.kind ≡ File) × (a ≡ tells node)
    pub warned : (p : Path) (warnings : List Warning) → w.warned p ≡ Some warnings → WarnsRight w p warnings

  source_is_right : (w : World K V) → Right w → (y : Source V) → is_there w y ≡ true → source_value m (set_outputs m w) y ≡ source_value m den y
  source_is_right w g (a_value u) e = refl
  source_is_right w g (an_item i) e = refl
  source_is_right w g (an_output p k) e =
      let vs : (vs : List V) × (w.set p ≡ Some vs) = held (w.set p) e in
      ap (λ o. slice_index_or (unwrap_or o []) k m.nothing) vs.1 ∙ ap (λ us. slice_index_or us k m.nothing) (g.set p vs.0 vs.1)

  -- a link now has the value that it had
  pub now_right : (w : World K V) → Right w → (link : Link V) → value (link_now w link) ≡ value link
  now_right w g link = converted_joined m (source_value m den (w.leads link.from).from) (w.leads link.from).through link.through ∙ ap (λ u. converted m.rows u link.through) (g.leads link.from)

  pub reads_right : (w : World K V) → Right w → (link : Link V) → is_set w link.from ≡ true → reads m w link ≡ value link
  reads_right w g link e = ap (λ u. converted m.rows u ((w.leads link.from).through ++ link.through)) (source_is_right w g (w.leads link.from).from e) ∙ now_right w g link

  selected_right : (w : World K V) → Right w → (node : Node K V) (role : Role) (links : List (Link V)) → ((link : Link V) → Has (selected role (m.rows.choice node.kind (condition m (reads m w) links)) links) link → is_set w link.from ≡ true)
      → selected role (m.rows.choice node.kind (condition m (reads m w) links)) links ≡ selected role (m.rows.choice node.kind (condition m value links)) links
  selected_right w g node Plain links fed = refl
  selected_right w g node File links fed = refl
  selected_right w g node Zone links fed = refl
  selected_right w g node Switch [] fed = refl
  selected_right w g node Switch (link ∷ links) fed = ap (λ u. selected Switch (m.rows.choice node.kind u) (link ∷ links)) (reads_right w g link (fed link (inl refl)))

  pub read_by_right : (w : World K V) → Right w → (node : Node K V) → IsFed m lawful task w node → links_read m (reads m w) node ≡ links_read m value node
  read_by_right w g node fed = selected_right w g node (m.rows.role node.kind) node.links fed

  -- a node whose inputs are set runs as the equations say
  pub run_right : (w : World K V) → Right w → (node : Node K V) (answer : Option Answer) → IsFed m lawful task w node → run_of m (reads m w) answer node ≡ run_of m value answer node
  run_right w g node answer fed =
      ap (λ vs. m.rows.row node.path node.kind vs answer)
      (map_equal (reads m w) value (links_read m (reads m w) node) (λ link has. reads_right w g link (fed link has)) ∙ ap (map value) (read_by_right w g node fed))

  told_here : (w : World K V) → Right w → (node : Node K V) → Is node → (a : Answer) → w.answers node.path ≡ Some a → a ≡ tells node
  told_here w g node is a e =
      let x : (x : Node K V) × Is x × (x.path ≡ node.path) × (m.rows.role x.kind ≡ File) × (a ≡ tells x) = g.told node.path a e in
      x.4 ∙ ap tells (one_there x.0 node x.1 is x.2)

  answer_right : (w : World K V) → Right w → (node : Node K V) → Is node → (role : Role) → (answer : Option Answer) → w.answers node.path ≡ answer → is_some answer ≡ is_file role → answer ≡ answer_for role (tells node)
  answer_right w g node is File None e there = cc
  answer_right w g node is File (Some a) e there = ap Some (told_here w g node is a e)
  answer_right w g node is Plain None e there = refl
  answer_right w g node is Switch None e there = refl
  answer_right w g node is Zone None e there = refl
  answer_right w g node is Plain (Some a) e there = cc
  answer_right w g node is Switch (Some a) e there = cc
  answer_right w g node is Zone (Some a) e there = cc

  pub whole_run_right : (w : World K V) → Right w → (node : Node K V) → Is node → (answer : Option Answer) → w.answers node.path ≡ answer → is_some answer ≡ is_file (m.rows.role node.kind) → IsFed m lawful task w node → run_of m (reads m w) answer node ≡ run_of m value (answer_of m tells node) node
  whole_run_right w g node is answer e there fed = run_right w g node answer fed ∙ ap (λ a. run_of m value a node) (answer_right w g node is (m.rows.role node.kind) answer e there)

  -- ---- each event keeps it

  abbrev Told : Node K V → Answer → Type 0
  Told node a = a ≡ tells node

  module _ (solves : Solves m task tells den) where
    right_outputs : (w : World K V) → Right w → (node : Node K V) → Is node → m.rows.role node.kind ≢ Zone → (done : Done V) → done ≡ run_of m value (answer_of m tells node) node → Right (with_outputs m w node done)
    right_outputs w g node is plain done same = record {
      there = g.there;
      set = λ p vs e. elim (entry_is node.path done.outputs w.set p vs e) [
        | inl s ↦ sym s.1 ∙ ap (λ d. d.outputs) same ∙ sym (solves.rows node is plain) ∙ ap den s.0
        | inr s ↦ g.set p vs s.1
      ];
      leads = g.leads;
      opened = g.opened;
      told = g.told;
      warned = λ p ws e. elim (entry_is node.path done.warnings w.warned p ws e) [ inl s ↦ (node, is, s.0, sym s.1 ∙ ap (λ d. d.warnings) same) | inr s ↦ g.warned p ws s.1 ];
    }

    right_answer : (w : World K V) → Right w → (node : Node K V) → Is node → m.rows.role node.kind ≡ File → (a : Answer) → a ≡ tells node → Right (record w { answers = with_entry node.path a w.answers })
    right_answer w g node is file a told = record {
      there = g.there;
      set = g.set;
      leads = g.leads;
      opened = g.opened;
      told = λ p b e. elim (entry_is node.path a w.answers p b e) [ inl s ↦ (node, is, s.0, file, sym s.1 ∙ told) | inr s ↦ g.told p b s.1 ];
      warned = g.warned;
    }

    zone_answer : (zone : Node K V) → m.rows.role zone.kind ≡ Zone → answer_of m tells zone ≡ None
    zone_answer zone role = ap (λ r. answer_for r (tells zone)) role

    led_right : (w : World K V) → Right w → (zone : Node K V) → Is zone → m.rows.role zone.kind ≡ Zone → (link : Link V) (y : Source V) → link.from ≡ y → value (led_on m w zone.path (result_links m value zone) link y) ≡ value link
    led_right w g zone is role link (a_value u) e = refl
    led_right w g zone is role link (an_item i) e = refl
    led_right w g zone is role link (an_output p k) e =
        let result : Link V = slice_index_or (result_links m value zone) k (plain_link (a_value m.nothing)) in
        by_path (λ t. value (if t then along (link_now w (slice_index_or (result_links m value zone) k (plain_link (a_value m.nothing)))) link.through else link) ≡ value link) zone.path p
        (λ same.
        converted_joined m (source_value m den (link_now w result).from) (link_now w result).through link.through
        ∙ ap (λ u. converted m.rows u link.through)
        (now_right w g result
        ∙ sym (index_image value (result_links m value zone) k (plain_link (a_value m.nothing)))
        ∙ ap (λ us. slice_index_or us k m.nothing) (sym (solves.zones zone is role) ∙ ap den same)
        ∙ ap (source_value m den) (sym e)))
        (λ _. refl)

    right_turns : (w : World K V) → Right w → (zone : Node K V) → Is zone → m.rows.role zone.kind ≡ Zone → (warnings : List Warning) → warnings ≡ (run_of m value None zone).warnings → Right (with_turns m w zone (turn_nodes m value zone) (result_links m value zone) warnings)
    right_turns w g zone is role warnings same = record {
      there = λ node h. elim (has_either w.graph (turn_nodes m value zone) node h) [ inl a ↦ g.there node a | inr b ↦ Unfolded.of_a_turn zone is role b ];
      set = g.set;
      leads = λ x. led_right w g zone is role (w.leads x) (w.leads x).from refl ∙ g.leads x;
      opened = λ p outs e. elim (entry_is zone.path (result_links m value zone) w.opened p outs e) [ inl s ↦ (zone, is, s.0, role, sym s.1) | inr s ↦ g.opened p outs s.1 ];
      told = g.told;
      warned = λ p ws e. elim (entry_is zone.path warnings w.warned p ws e) [
        | inl s ↦ (zone, is, s.0, sym s.1 ∙ same ∙ ap (λ a. (run_of m value a zone).warnings) (sym (zone_answer zone role)))
        | inr s ↦ g.warned p ws s.1
      ];
    }

    pub right_step : (w v : World K V) → Right w → Step m lawful task Told w v → Right v
    right_step w v g Step.nothing_new = g
    right_step w v g (Step.gives_outputs node h fed not plain answer e there) =
        right_outputs w g node (g.there node h) plain (run_of m (reads m w) answer node) (whole_run_right w g node (g.there node h) answer e there fed)
    right_step w v g (Step.gives_answer node h file none a told) = right_answer w g node (g.there node h) file a told
    right_step w v g (Step.opens_zone zone h fed not role) =
        let same : run_of m (reads m w) None zone ≡ run_of m value None zone = run_right w g zone None fed in
        subst (λ d. Right (with_turns m w zone (map (outer_node m zone) (m.opens zone.path zone.kind (slice_index_or d.outputs 0 m.nothing)).nodes) (map (outer_link m zone) (m.opens zone.path zone.kind (slice_index_or d.outputs 0 m.nothing)).outputs) d.warnings)) (sym same)
        (right_turns w g zone (g.there zone h) role (run_of m value None zone).warnings refl)

    pub right_start : Right (first_world m task)
    right_start = record { there = λ node h. Unfolded.of_the_graph h; set = λ p vs e. cc; leads = λ x. refl; opened = λ p os e. cc; told = λ p a e. cc; warned = λ p ws e. cc }

    served : (e : Event) (es : List Event) → AnswersAs m task tells es e → (n : ℕ) (a : Answer) (node : Node K V) → e ≡ Serve n a → slice_get (world m task es).graph n ≡ Some node → a ≡ tells node
    served e es h n a node same at = subst (AnswersAs m task tells es) same h node at

    pub right : (es : List Event) → IsRun m task es → IsServed m task tells es → Right (world m task es)
    right [] r s = right_start
    right (e ∷ es) r s =
        right_step (world m task es) (world m task (e ∷ es)) (right es r.1 s.1)
        (step_of m lawful task Told e es (kept m lawful task c es r.1) r.0 (served e es s.0))

  -- ---- what is used is demanded

  sure_in : (w : World K V) → Right w → (node : Node K V) (role : Role) (links : List (Link V)) (link : Link V) → Has (sure_as m role (condition_set m w links) (m.rows.choice node.kind (condition m (reads m w) links)) links) link → Has (selected role (m.rows.choice node.kind (condition m value links)) links) link
  sure_in w g node Plain links link h = h
  sure_in w g node File links link h = h
  sure_in w g node Zone links link h = h
  sure_in w g node Switch [] link h = h
  sure_in w g node Switch (first ∷ links) link h = by_set (is_set w first.from) refl h
    where
      by_set : (b : Bool) → is_set w first.from ≡ b → Has (sure_as m Switch b (m.rows.choice node.kind (reads m w first)) (first ∷ links)) link → Has (first ∷ chosen (m.rows.choice node.kind (value first)) links) link
      by_set true e k = subst (λ u. Has (first ∷ chosen (m.rows.choice node.kind u) links) link) (reads_right w g first e) k
      by_set false e (inl same) = inl same
      by_set false e (inr k) = absurd k

  pub reached_is_wanted : (w : World K V) → Right w → (x : Source V) → Reached m task w (sure m w) x → Wanted m task tells den x
  reached_is_wanted w g x (Reached.a_root link h) = Brought.a_start (link, h, refl)
  reached_is_wanted w g x (Reached.an_input node s link h r has) =
      Brought.an_input node s link (g.there node h) (reached_is_wanted w g (an_output node.path s) r) (sure_in w g node (m.rows.role node.kind) node.links link has)
  reached_is_wanted w g x (Reached.a_result p s outs link is r at) =
      let z : (zone : Node K V) × Is zone × (zone.path ≡ p) × (m.rows.role zone.kind ≡ Zone) × (outs ≡ result_links m value zone) = g.opened p outs is in
      Brought.a_result z.0 s link z.1 z.3 (subst (λ q. Wanted m task tells den (an_output q s)) (sym z.2) (reached_is_wanted w g (an_output p s) r)) (subst (λ os. slice_get os s ≡ Some link) z.4 at)

  pub used_demanded : (w : World K V) → Right w → (node : Node K V) → Has w.graph node → Used m task w node → Demanded m task tells den node
  used_demanded w g node h u = (g.there node h, (u.0, reached_is_wanted w g (an_output node.path u.0) u.1))
