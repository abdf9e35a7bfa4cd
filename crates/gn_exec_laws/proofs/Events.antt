-- What is in a world came of events, and each event left what it brings.
use Rattle.std.proofs.Common.{◌≡◌, ◌≢◌, inl, inr, ℕ, List, [], ◌∷◌, map, Option, Some, None, true, false, refl, sym, ◌∙◌, ap, subst}
use Rattle.std.specs.Prelude.{is_some, slice_get, slice_index_or}
use Rattle.gn_node_set.specs.Paths.{Path, with_entry}
use Rattle.gn_node_set.specs.Meanings.{Has, Source, a_value, an_item, an_output, Link, plain_link, Node, Role, Plain, Switch, File, Zone, Answer, Warning, Meanings}
use Rattle.gn_exec_laws.specs.Graphs.{Task, links_read, run_of, outer_link, outer_node, turn_nodes, result_links}
use Rattle.gn_exec_laws.specs.Fits.{is_file, LinkSorts, CanStart, RunsWell, IsLawful}
use Rattle.gn_exec_laws.specs.Machine.{Event, Take, Finish, Serve, Refuse, World, finished, HasNumber, IsShut, reads, run_now, led_on, with_outputs, with_turns, finish_by_role, finish_node, serve_node, world, IsRun}
use Rattle.gn_exec_laws.specs.Claims.{WasFinished, WasServed, CameOfEvents, EventsLeft, LeadsOn}
use Rattle.gn_node_set.proofs.Lists.{some_same, not_held, is_held, has_second, member_at, known_by}
use Rattle.gn_node_set.proofs.Paths.{entry_here, entry_is}
use Rattle.gn_exec_laws.proofs.Shapes.{Shape, IsFed, can_run}
use Rattle.gn_exec_laws.proofs.Kept as kept_by
use Rattle.gn_exec_laws.proofs.Kept.{Grows, Kept, kept, IsTakenWell, IsFinished, Step, AnyAnswer, step_of, answer_there, number_of}
use Rattle.gn_exec_laws.proofs.Counts.{worker_of, by_taker, event_grows}
use Rattle.gn_exec_laws.proofs.Growing.{same_run, runs_stay}
use Rattle.gn_exec_laws.proofs.Order.{ordered}
use Rattle.gn_exec_laws.proofs.Ends.{finish_tells}

module _ {K V S T : Type 0} (m : Meanings K V S T) (lawful : IsLawful m) (task : Task K V) (c : CanStart m task) where
  abbrev W : List Event → World K V
  W es = world m task es

  -- ---- what finishing a node leaves, by what was read in a world

  record Left (u v : World K V) (node : Node K V) : Type 0 where
    outputs : m.rows.role node.kind ≢ Zone → v.set node.path ≡ Some (run_now m u node).outputs
    results : m.rows.role node.kind ≡ Zone → v.opened node.path ≡ Some (result_links m (reads m u) node)
    turns : m.rows.role node.kind ≡ Zone → (x : Node K V) → Has (turn_nodes m (reads m u) node) x → Has v.graph x
    warnings : v.warned node.path ≡ Some (run_now m u node).warnings

  plain_left : (w : World K V) (node : Node K V) → m.rows.role node.kind ≢ Zone → Left w (with_outputs m w node (run_now m w node)) node
  plain_left w node plain = record {
    outputs = λ _. entry_here node.path (run_now m w node).outputs w.set;
    results = λ zone. absurd (plain zone);
    turns = λ zone. absurd (plain zone);
    warnings = entry_here node.path (run_now m w node).warnings w.warned;
  }

  zone_left : (w : World K V) (node : Node K V) → m.rows.role node.kind ≡ Zone → w.answers node.path ≡ None
      → Left w (with_turns m w node (turn_nodes m (reads m w) node) (result_links m (reads m w) node) (run_of m (reads m w) None node).warnings) node
  zone_left w node zone none = record {
    outputs = λ plain. absurd (plain zone);
    results = λ _. entry_here node.path (result_links m (reads m w) node) w.opened;
    turns = λ _ x h. has_second w.graph (turn_nodes m (reads m w) node) x h;
    warnings = entry_here node.path (run_of m (reads m w) None node).warnings w.warned ∙ ap (λ a. Some (run_of m (reads m w) a node).warnings) (sym none);
  }

  left_by : (w : World K V) (node : Node K V) (role : Role) → m.rows.role node.kind ≡ role → is_some (w.answers node.path) ≡ is_file role → Left w (finish_by_role m role w node) node
  left_by w node Zone is there = zone_left w node is (not_held (w.answers node.path) there)
  left_by w node Plain is there = plain_left w node (λ z. let bad : Plain ≡ Zone = sym is ∙ z in cc)
  left_by w node Switch is there = plain_left w node (λ z. let bad : Switch ≡ Zone = sym is ∙ z in cc)
  left_by w node File is there = plain_left w node (λ z. let bad : File ≡ Zone = sym is ∙ z in cc)

  -- what is left stays, where a run gives the same
  left_stays : (u v u' v' : World K V) (node : Node K V) → Grows m v v' → run_now m u' node ≡ run_now m u node → run_of m (reads m u') None node ≡ run_of m (reads m u) None node → Left u v node → Left u' v' node
  left_stays u v u' v' node grows now none l = record {
    outputs = λ plain. grows.set node.path (run_now m u node).outputs (l.outputs plain) ∙ ap (λ d. Some d.outputs) (sym now);
    results = λ zone. grows.opened node.path (result_links m (reads m u) node) (l.results zone) ∙ ap (λ d. Some (map (outer_link m node) (m.opens node.path node.kind (slice_index_or d.outputs 0 m.nothing)).outputs)) (sym none);
    turns = λ zone x h. kept_by.node_stays m v v' grows x
        (l.turns zone x (subst (λ d. Has (map (outer_node m node) (m.opens node.path node.kind (slice_index_or d.outputs 0 m.nothing)).nodes) x) none h));
    warnings = grows.warned node.path (run_now m u node).warnings l.warnings ∙ ap (λ d. Some d.warnings) (sym now);
  }

  -- a run of a taken node gives the same after one more event
  module _ (e : Event) (es : List Event) (r : IsRun m task (e ∷ es)) where
    k : Kept m lawful task es
    k = kept m lawful task c es r.1

    grows : Grows m (W es) (W (e ∷ es))
    grows = event_grows m lawful task c e es r

    none_stays : (v n : ℕ) (node : Node K V) → Has es (Take v n) → HasNumber (W es) n node → run_of m (reads m (W (e ∷ es))) None node ≡ run_of m (reads m (W es)) None node
    none_stays v n node h at =
        let t : IsTakenWell m lawful task (W es) n = k.taken v n h in
        let is : t.0 ≡ node = some_same (sym t.1 ∙ at) in
        same_run m (W es) (W (e ∷ es)) grows node (subst (IsFed m lawful task (W es)) is t.2) None

    next_left : (v n : ℕ) (node : Node K V) (u w' : World K V) → Has es (Take v n) → HasNumber (W es) n node → Grows m u w' → Left (W es) u node → Left (W (e ∷ es)) w' node
    next_left v n node u w' h at more l = left_stays (W es) u (W (e ∷ es)) w' node more (runs_stay m lawful task c (e ∷ []) es r v n node h at) (none_stays v n node h at) l

  finish_left : (es : List Event) → IsRun m task es → (v n : ℕ) (node : Node K V) → Has es (Finish v n) → HasNumber (W es) n node → Left (W es) (W es) node
  unfolding number_of worker_of
  finish_left [] r v n node h at = absurd h
  finish_left (e ∷ es) r v n node (inr h) at =
      let k : Kept m lawful task es = kept m lawful task c es r.1 in
      let x : IsFinished m lawful task (W es) n = k.finishes v n h in
      let grows : Grows m (W es) (W (e ∷ es)) = event_grows m lawful task c e es r in
      let is : x.0 ≡ node = some_same (sym (grows.graph n x.0 x.1) ∙ at) in
      let at' : HasNumber (W es) n node = x.1 ∙ ap Some is in
      next_left e es r v n node (W es) (W (e ∷ es)) (by_taker m lawful task es r.1 v n h) at' grows (finish_left es r.1 v n node h at')
  finish_left (Finish u j ∷ es) r v n node (inl q) at =
      let k : Kept m lawful task es = kept m lawful task c es r.1 in
      let t : IsTakenWell m lawful task (W es) j = k.taken u j r.0.0 in
      let grows : Grows m (W es) (W (Finish u j ∷ es)) = event_grows m lawful task c (Finish u j) es r in
      let is : t.0 ≡ node = some_same (sym (grows.graph j t.0 t.1) ∙ ap (slice_get (W (Finish u j ∷ es)).graph) (sym (ap number_of q)) ∙ at) in
      let there : is_some ((W es).answers t.0.path) ≡ is_file (m.rows.role t.0.kind) =
      answer_there m lawful task (W es) k.shape t.0 (member_at (W es).graph j t.0 t.1) t.3 (m.rows.role t.0.kind) refl ((W es).answers t.0.path) refl in
      let now : Left (W es) (W (Finish u j ∷ es)) t.0 = subst (λ o. Left (W es) (finish_node m (W es) o) t.0) (sym t.1) (left_by (W es) t.0 (m.rows.role t.0.kind) refl there) in
      subst (Left (W (Finish u j ∷ es)) (W (Finish u j ∷ es))) is
      (next_left (Finish u j) es r u j t.0 (W (Finish u j ∷ es)) (W (Finish u j ∷ es)) r.0.0 t.1 (kept_by.same_world m (W (Finish u j ∷ es))) now)
  finish_left (Take u j ∷ es) r v n node (inl q) at = cc
  finish_left (Serve j b ∷ es) r v n node (inl q) at = cc
  finish_left (Refuse u ∷ es) r v n node (inl q) at = cc

  -- ---- answers

  answer_of_event : Event → Answer → Answer
  answer_of_event (Serve n a) b = a
  answer_of_event _ b = b

  served_number : (es : List Event) → IsRun m task es → (n : ℕ) (a : Answer) → Has es (Serve n a) → (node : Node K V) × HasNumber (W es) n node
  unfolding number_of
  served_number [] r n a h = absurd h
  served_number (e ∷ es) r n a (inr h) =
      let x : (x : Node K V) × HasNumber (W es) n x = served_number es r.1 n a h in
      (x.0, (event_grows m lawful task c e es r).graph n x.0 x.1)
  served_number (Serve j b ∷ es) r n a (inl q) =
      (r.0.0.0, (event_grows m lawful task c (Serve j b) es r).graph n r.0.0.0 (ap (slice_get (W es).graph) (ap number_of q) ∙ r.0.0.1.there))
  served_number (Take u j ∷ es) r n a (inl q) = cc
  served_number (Finish u j ∷ es) r n a (inl q) = cc
  served_number (Refuse u ∷ es) r n a (inl q) = cc

  serve_left : (es : List Event) → IsRun m task es → (n : ℕ) (a : Answer) (node : Node K V) → Has es (Serve n a) → HasNumber (W es) n node → (W es).answers node.path ≡ Some a
  unfolding number_of answer_of_event
  serve_left [] r n a node h at = absurd h
  serve_left (e ∷ es) r n a node (inr h) at =
      let grows : Grows m (W es) (W (e ∷ es)) = event_grows m lawful task c e es r in
      let x : (x : Node K V) × HasNumber (W es) n x = served_number es r.1 n a h in
      let is : x.0 ≡ node = some_same (sym (grows.graph n x.0 x.1) ∙ at) in
      grows.answers node.path a (serve_left es r.1 n a node h (x.1 ∙ ap Some is))
  serve_left (Serve j b ∷ es) r n a node (inl q) at =
      let grows : Grows m (W es) (W (Serve j b ∷ es)) = event_grows m lawful task c (Serve j b) es r in
      let is : r.0.0.0 ≡ node = some_same (sym (grows.graph j r.0.0.0 r.0.0.1.there) ∙ ap (slice_get (W (Serve j b ∷ es)).graph) (sym (ap number_of q)) ∙ at) in
      subst (λ y. (W (Serve j b ∷ es)).answers y.path ≡ Some a) is
      (subst (λ o. (serve_node m (W es) b o).answers r.0.0.0.path ≡ Some a) (sym r.0.0.1.there)
      (entry_here r.0.0.0.path b (W es).answers ∙ ap Some (sym (ap (λ e. answer_of_event e a) q))))
  serve_left (Take u j ∷ es) r n a node (inl q) at = cc
  serve_left (Finish u j ∷ es) r n a node (inl q) at = cc
  serve_left (Refuse u ∷ es) r n a node (inl q) at = cc

  later : (e : Event) (es : List Event) → IsRun m task (e ∷ es) → (p : Path) (a : Answer) → (node : Node K V) × (node.path ≡ p) × WasServed m task es node a → (node : Node K V) × (node.path ≡ p) × WasServed m task (e ∷ es) node a
  later e es r p a t = (t.0, t.1, (t.2.0, inr t.2.1, (event_grows m lawful task c e es r).graph t.2.0 t.0 t.2.2))

  answered_by : (es : List Event) → IsRun m task es → (p : Path) (a : Answer) → (W es).answers p ≡ Some a → (node : Node K V) × (node.path ≡ p) × WasServed m task es node a
  answered_by [] r p a e = cc
  answered_by (Take v j ∷ es) r p a e = later (Take v j) es r p a (answered_by es r.1 p a e)
  answered_by (Refuse v ∷ es) r p a e = later (Refuse v) es r p a (answered_by es r.1 p a e)
  answered_by (Finish v j ∷ es) r p a e = later (Finish v j) es r p a (answered_by es r.1 p a (ap (λ f. f p) (sym (finish_tells m lawful task c (W es) (slice_get (W es).graph j))) ∙ e))
  answered_by (Serve j b ∷ es) r p a e =
      elim (entry_is r.0.0.0.path b (W es).answers p a (subst (λ o. (serve_node m (W es) b o).answers p ≡ Some a) r.0.0.1.there e)) [
        | inl s ↦ (r.0.0.0, s.0, (j, inl (ap (Serve j) (sym s.1)), (event_grows m lawful task c (Serve j b) es r).graph j r.0.0.0 r.0.0.1.there))
        | inr s ↦ later (Serve j b) es r p a (answered_by es r.1 p a s.1)
      ]

  -- ---- where there is something, an event came

  module _ (es : List Event) (r : IsRun m task es) where
    abbrev w : World K V
    w = W es

    fine : Kept m lawful task es
    fine = kept m lawful task c es r

    one_node : (x y : Node K V) → Has w.graph x → Has w.graph y → x.path ≡ y.path → x ≡ y
    one_node x y h i e = known_by (λ n. n.path) w.graph fine.shape.differ x y h i e

    finished_by : (p : Path) → finished w p ≡ true → (node : Node K V) × (node.path ≡ p) × WasFinished m task es node
    finished_by p e =
        let f : kept_by.WasFinished m lawful task es w p = fine.finished_by p e in
        (f.2, f.5, (f.0, f.1, f.3, f.4))

    set_by : (p : Path) (vs : List V) → w.set p ≡ Some vs → (node : Node K V) × (node.path ≡ p) × WasFinished m task es node × (m.rows.role node.kind ≢ Zone)
    set_by p vs e =
        let f : (node : Node K V) × (node.path ≡ p) × WasFinished m task es node = finished_by p (fine.shape.set_done p vs e) in
        let x : (x : Node K V) × Has w.graph x × (x.path ≡ p) × (m.rows.role x.kind ≢ Zone) × (map m.sort vs ≡ m.gives x.kind) = fine.shape.set p vs e in
        let is : x.0 ≡ f.0 = one_node x.0 f.0 x.1 (member_at w.graph f.2.1 f.0 f.2.3) (x.2 ∙ sym f.1) in
        (f.0, f.1, f.2, λ zone. x.3 (ap (λ y. m.rows.role y.kind) is ∙ zone))

    opened_by : (p : Path) (outs : List (Link V)) → w.opened p ≡ Some outs → (zone : Node K V) × (zone.path ≡ p) × WasFinished m task es zone × (m.rows.role zone.kind ≡ Zone)
    opened_by p outs e =
        let f : (node : Node K V) × (node.path ≡ p) × WasFinished m task es node = finished_by p (fine.shape.opened_done p outs e) in
        let x : (x : Node K V) × Has w.graph x × (x.path ≡ p) × (m.rows.role x.kind ≡ Zone) × LinkSorts m [] w.graph outs (m.gives x.kind) = fine.shape.opened p outs e in
        let is : x.0 ≡ f.0 = one_node x.0 f.0 x.1 (member_at w.graph f.2.1 f.0 f.2.3) (x.2 ∙ sym f.1) in
        (f.0, f.1, f.2, ap (λ y. m.rows.role y.kind) (sym is) ∙ x.3)

    pub came_of_events : CameOfEvents m task es
    came_of_events = record {
      set = set_by;
      opened = opened_by;
      warned = λ p ws e. finished_by p (is_held (w.warned p) ws e);
      answers = answered_by es r;
    }

  -- ---- warnings stand under the path of their node

  abbrev OwnPaths : World K V → Type 0
  OwnPaths w = (p : Path) (ws : List Warning) (x : Warning) → w.warned p ≡ Some ws → Has ws x → x.path ≡ p

  run_warns : (w : World K V) → Shape m lawful task w → (node : Node K V) → Has w.graph node → IsFed m lawful task w node → finished w node.path ≡ false → (answer : Option Answer) → is_some answer ≡ is_file (m.rows.role node.kind)
      → (x : Warning) → Has (run_of m (reads m w) answer node).warnings x → x.path ≡ node.path
  run_warns w g node h fed not answer is =
      let well : RunsWell m node.path node.kind (map (reads m w) (links_read m (reads m w) node)) (run_of m (reads m w) answer node) =
      lawful.rows node.path node.kind (map (reads m w) (links_read m (reads m w) node)) answer (can_run m lawful task w g node h fed not answer is) in
      well.warns

  with_warnings : (w : World K V) → OwnPaths w → (q : Path) (new : List Warning) → ((x : Warning) → Has new x → x.path ≡ q) → (p : Path) (ws : List Warning) (x : Warning) → with_entry q new w.warned p ≡ Some ws → Has ws x → x.path ≡ p
  with_warnings w own q new own' p ws x e h = elim (entry_is q new w.warned p ws e) [
    | inl s ↦ own' x (subst (λ us. Has us x) (sym s.1) h) ∙ s.0
    | inr s ↦ own p ws x s.1 h
  ]

  own_step : (w v : World K V) → Shape m lawful task w → Step m lawful task (AnyAnswer m lawful task) w v → OwnPaths w → OwnPaths v
  own_step w v g Step.nothing_new own = own
  own_step w v g (Step.gives_answer node h file none a told) own = own
  own_step w v g (Step.gives_outputs node h fed not plain answer e there) own = with_warnings w own node.path (run_of m (reads m w) answer node).warnings (run_warns w g node h fed not answer there)
  own_step w v g (Step.opens_zone zone h fed not role) own = with_warnings w own zone.path (run_of m (reads m w) None zone).warnings (run_warns w g zone h fed not None (ap is_file (sym role)))

  own_paths : (es : List Event) → IsRun m task es → OwnPaths (W es)
  own_paths [] r = λ p ws x e h. let bad : None ≡ Some ws = e in cc
  own_paths (e ∷ es) r =
      let k : Kept m lawful task es = kept m lawful task c es r.1 in
      own_step (W es) (W (e ∷ es)) k.shape (step_of m lawful task (AnyAnswer m lawful task) e es k r.0 (λ n b node same at. tt)) (own_paths es r.1)

  pub events_left : (es : List Event) → IsRun m task es → EventsLeft m task es
  events_left es r = record {
    outputs = λ node f. (finish_left es r f.0 f.1 node f.2 f.3).outputs;
    results = λ zone f. (finish_left es r f.0 f.1 zone f.2 f.3).results;
    turns = λ zone f. (finish_left es r f.0 f.1 zone f.2 f.3).turns;
    warnings = λ node f. (finish_left es r f.0 f.1 node f.2 f.3).warnings;
    answers = λ node a s. serve_left es r s.0 a node s.1 s.2;
    own_path = own_paths es r;
  }

  -- ---- where sources lead

  item_step : (w v : World K V) → Shape m lawful task w → Step m lawful task (AnyAnswer m lawful task) w v → (i : ℕ) → w.leads (an_item i) ≡ plain_link (an_item i) → v.leads (an_item i) ≡ plain_link (an_item i)
  item_step w v g Step.nothing_new i e = e
  item_step w v g (Step.gives_answer node h file none a told) i e = e
  item_step w v g (Step.gives_outputs node h fed not plain answer o there) i e = e
  item_step w v g (Step.opens_zone zone h fed not role) i e = ap (λ l. led_on m w zone.path (result_links m (reads m w) zone) l l.from) e

  item_leads : (es : List Event) → IsRun m task es → (i : ℕ) → (W es).leads (an_item i) ≡ plain_link (an_item i)
  item_leads [] r i = refl
  item_leads (e ∷ es) r i =
      let k : Kept m lawful task es = kept m lawful task c es r.1 in
      item_step (W es) (W (e ∷ es)) k.shape (step_of m lawful task (AnyAnswer m lawful task) e es k r.0 (λ n b node same at. tt)) i (item_leads es r.1 i)

  pub leads_on : (es : List Event) → IsRun m task es → LeadsOn m (W es)
  leads_on es r = record { results = (ordered m lawful task c es r).opens; others = to_itself }
    where
      to_itself : (x : Source V) → IsShut (W es) x → (W es).leads x ≡ plain_link x
      to_itself (a_value v) shut = (kept m lawful task c es r).shape.values v
      to_itself (an_item i) shut = item_leads es r i
      to_itself (an_output p s) shut = (kept m lawful task c es r).shape.shut p s shut
