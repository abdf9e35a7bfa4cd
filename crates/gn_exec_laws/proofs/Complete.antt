-- A world in which every node is finished, whether it is used or not.
use Rattle.std.proofs.Common.{◌≡◌, ◌≢◌, ◌⊎◌, inl, inr, ◌<◌, ◌+◌, ℕ, zero, suc, List, [], ◌∷◌, ◌++◌, map, Option, Some, None, Bool, true, false, refl, sym, ◌∙◌, ap, subst, arith}
use Rattle.std.specs.Prelude.{is_some, if◌then◌else◌, slice_get, slice_index_or}
use Rattle.gn_node_set.specs.Paths.{Path, with_entry}
use Rattle.gn_node_set.specs.Meanings.{Has, Source, a_value, an_item, an_output, Link, Node, Role, Plain, Switch, File, Zone, Answer, Warning, Done, Meanings, AllDiffer, answer_for}
use Rattle.gn_exec_laws.specs.Graphs.{Task, run_of, opened_by, outer_link, outer_node, turn_nodes, result_links, Answers, answer_of, condition}
use Rattle.gn_exec_laws.specs.Fits.{is_file, SourceSort, LinkSort, LinkSorts, NodeFits, NodesFit, CanStart, OpensWell, IsLawful}
use Rattle.gn_exec_laws.specs.Machine.{World, finished, is_there, is_set, reads, with_outputs, with_turns, first_world}
use Rattle.gn_node_set.proofs.Lists.{append_nil, map_map, has_first, has_second, has_either, has_image, image_of, known_by}
use Rattle.gn_node_set.proofs.Paths.{by_path, entry_here, entry_is}
use Rattle.gn_exec_laws.proofs.Sorts.{beside_of, beside_at, links_beside, selected_from, outer_nodes_fit, outer_link_sorts}
use Rattle.gn_exec_laws.proofs.Shapes.{Shape, IsFed, IsDone, shape_start, not_opened, apart}
use Rattle.gn_exec_laws.proofs.Kept.{Grows, same_world, node_stays, set_stays, fed_stays, Step, step_grows, step_shape, zone_well}
use Rattle.gn_exec_laws.proofs.Growing.{both_grow, same_run}
use Rattle.gn_exec_laws.proofs.Order.{Ordered, order_start, order_step}

module _ {K V S T : Type 0} (m : Meanings K V S T) (lawful : IsLawful m) (task : Task K V) (tells : Answers m) where
  abbrev pub Told : Node K V → Answer → Type 0
  Told node a = a ≡ tells node

  abbrev OneStep : World K V → World K V → Type 0
  OneStep = Step m lawful task Told

  -- ---- the equations of the nodes that are finished

  pub record Solved (w : World K V) : Type 0 where
    pub answers : (p : Path) (a : Answer) → w.answers p ≡ Some a → (node : Node K V) × Has w.graph node × (node.path ≡ p) × (m.rows.role node.kind ≡ File) × (a ≡ tells node)
    pub fed : (node : Node K V) → Has w.graph node → finished w node.path ≡ true → IsFed m lawful task w node
    pub rows : (node : Node K V) → Has w.graph node → finished w node.path ≡ true → m.rows.role node.kind ≢ Zone → w.set node.path ≡ Some (run_of m (reads m w) (answer_of m tells node) node).outputs
    pub zones : (node : Node K V) → Has w.graph node → finished w node.path ≡ true → m.rows.role node.kind ≡ Zone → w.opened node.path ≡ Some (result_links m (reads m w) node)
    pub turns : (zone node : Node K V) → Has w.graph zone → finished w zone.path ≡ true → m.rows.role zone.kind ≡ Zone → Has (turn_nodes m (reads m w) zone) node → Has w.graph node

  solved_start : Solved (first_world m task)
  solved_start = record { answers = λ p a e. cc; fed = λ node h e. cc; rows = λ node h e. cc; zones = λ node h e. cc; turns = λ zone node h e. cc }

  one_node : (w : World K V) → Shape m lawful task w → (x y : Node K V) → Has w.graph x → Has w.graph y → x.path ≡ y.path → x ≡ y
  one_node w g x y h k e = known_by (λ n. n.path) w.graph g.differ x y h k e

  same_results : (w v : World K V) → Grows m w v → (zone : Node K V) → IsFed m lawful task w zone → result_links m (reads m v) zone ≡ result_links m (reads m w) zone
  same_results w v grows zone fed = ap (λ d. map (outer_link m zone) (m.opens zone.path zone.kind (slice_index_or d.outputs 0 m.nothing)).outputs) (same_run m w v grows zone fed None)

  same_turns : (w v : World K V) → Grows m w v → (zone : Node K V) → IsFed m lawful task w zone → turn_nodes m (reads m v) zone ≡ turn_nodes m (reads m w) zone
  same_turns w v grows zone fed = ap (λ d. map (outer_node m zone) (m.opens zone.path zone.kind (slice_index_or d.outputs 0 m.nothing)).nodes) (same_run m w v grows zone fed None)

  -- finishing a node at a path finishes no other
  module _ {A : Type 0} where
    entry_or : (p : Path) (a : A) (table : Path → Option A) (q : Path) → is_some (with_entry p a table q) ≡ true → (p ≡ q) ⊎ (is_some (table q) ≡ true)
    entry_or p a table q = by_path (λ t. is_some (if t then Some a else table q) ≡ true → (p ≡ q) ⊎ (is_some (table q) ≡ true)) p q (λ same _. inl same) (λ _ e. inr e)

  answer_is : (w : World K V) → Shape m lawful task w → Solved w → (node : Node K V) → Has w.graph node → (role : Role) → m.rows.role node.kind ≡ role → (o : Option Answer) → w.answers node.path ≡ o → is_some o ≡ is_file role → o ≡ answer_for role (tells node)
  answer_is w g s node h File is None e there = cc
  answer_is w g s node h File is (Some a) e there =
      let x : (x : Node K V) × Has w.graph x × (x.path ≡ node.path) × (m.rows.role x.kind ≡ File) × (a ≡ tells x) = s.answers node.path a e in
      ap Some (x.4 ∙ ap tells (one_node w g x.0 node x.1 h x.2))
  answer_is w g s node h Plain is None e there = refl
  answer_is w g s node h Switch is None e there = refl
  answer_is w g s node h Zone is None e there = refl
  answer_is w g s node h Plain is (Some a) e there = cc
  answer_is w g s node h Switch is (Some a) e there = cc
  answer_is w g s node h Zone is (Some a) e there = cc

  module _ (w v : World K V) (g : Shape m lawful task w) (g' : Shape m lawful task v) (grows : Grows m w v) (s : Solved w) where
    -- what was finished before is solved still
    old_rows : (node : Node K V) → Has w.graph node → finished w node.path ≡ true → m.rows.role node.kind ≢ Zone → v.set node.path ≡ Some (run_of m (reads m v) (answer_of m tells node) node).outputs
    old_rows node h e plain =
        grows.set node.path (run_of m (reads m w) (answer_of m tells node) node).outputs (s.rows node h e plain)
        ∙ ap (λ d. Some d.outputs) (sym (same_run m w v grows node (s.fed node h e) (answer_of m tells node)))

    old_zones : (node : Node K V) → Has w.graph node → finished w node.path ≡ true → m.rows.role node.kind ≡ Zone → v.opened node.path ≡ Some (result_links m (reads m v) node)
    old_zones node h e zone = grows.opened node.path (result_links m (reads m w) node) (s.zones node h e zone) ∙ ap Some (sym (same_results w v grows node (s.fed node h e)))

    old_turns : (zone node : Node K V) → Has w.graph zone → finished w zone.path ≡ true → m.rows.role zone.kind ≡ Zone → Has (turn_nodes m (reads m v) zone) node → Has v.graph node
    old_turns zone node h e role has = node_stays m w v grows node (s.turns zone node h e role (subst (λ ns. Has ns node) (same_turns w v grows zone (s.fed zone h e)) has))

  -- what holds of the node that an event finishes
  record Here (w v : World K V) (node : Node K V) : Type 0 where
    row : m.rows.role node.kind ≢ Zone → v.set node.path ≡ Some (run_of m (reads m w) (answer_of m tells node) node).outputs
    zone : m.rows.role node.kind ≡ Zone → v.opened node.path ≡ Some (result_links m (reads m w) node)
    turn : m.rows.role node.kind ≡ Zone → (x : Node K V) → Has (turn_nodes m (reads m w) node) x → Has v.graph x

  module _ (w v : World K V) (g : Shape m lawful task w) (g' : Shape m lawful task v) (grows : Grows m w v) (s : Solved w) (node : Node K V) (h : Has w.graph node) (fed : IsFed m lawful task w node) (here : Here w v node)
      (or_old : (x : Node K V) → Has v.graph x → finished v x.path ≡ true → (node.path ≡ x.path) ⊎ Has w.graph x × (finished w x.path ≡ true)) where
    is_node : (x : Node K V) → Has v.graph x → node.path ≡ x.path → node ≡ x
    is_node x k same = one_node v g' node x (node_stays m w v grows node h) k same

    row_here : m.rows.role node.kind ≢ Zone → v.set node.path ≡ Some (run_of m (reads m v) (answer_of m tells node) node).outputs
    row_here plain = here.row plain ∙ ap (λ d. Some d.outputs) (sym (same_run m w v grows node fed (answer_of m tells node)))

    zone_here : m.rows.role node.kind ≡ Zone → v.opened node.path ≡ Some (result_links m (reads m v) node)
    zone_here zone = here.zone zone ∙ ap Some (sym (same_results w v grows node fed))

    turn_here : m.rows.role node.kind ≡ Zone → (x : Node K V) → Has (turn_nodes m (reads m v) node) x → Has v.graph x
    turn_here zone x has = here.turn zone x (subst (λ ns. Has ns x) (same_turns w v grows node fed) has)

    solved_next : ((p : Path) (a : Answer) → v.answers p ≡ Some a → (x : Node K V) × Has v.graph x × (x.path ≡ p) × (m.rows.role x.kind ≡ File) × (a ≡ tells x)) → Solved v
    solved_next answers = record {
      answers = answers;
      fed = λ x k f. elim (or_old x k f) [
        | inl same ↦ subst (IsFed m lawful task v) (is_node x k same) (fed_stays m w v grows node fed)
        | inr old ↦ fed_stays m w v grows x (s.fed x old.0 old.1)
      ];
      rows = λ x k f. elim (or_old x k f) [
        | inl same ↦ subst (λ y. m.rows.role y.kind ≢ Zone → v.set y.path ≡ Some (run_of m (reads m v) (answer_of m tells y) y).outputs) (is_node x k same) row_here
        | inr old ↦ old_rows w v g g' grows s x old.0 old.1
      ];
      zones = λ x k f. elim (or_old x k f) [
        | inl same ↦ subst (λ y. m.rows.role y.kind ≡ Zone → v.opened y.path ≡ Some (result_links m (reads m v) y)) (is_node x k same) zone_here
        | inr old ↦ old_zones w v g g' grows s x old.0 old.1
      ];
      turns = λ z x k f role has. elim (or_old z k f) [
        | inl same ↦ subst (λ y. m.rows.role y.kind ≡ Zone → Has (turn_nodes m (reads m v) y) x → Has v.graph x) (is_node z k same) (λ r q. turn_here r x q) role has
        | inr old ↦ old_turns w v g g' grows s z x old.0 old.1 role has
      ];
    }

  -- ---- worlds that steps lead to

  pub record Fine (w : World K V) : Type 0 where
    pub shape : Shape m lawful task w
    pub order : Ordered m lawful task w
    pub solved : Solved w

  pub fine_start : CanStart m task → Fine (first_world m task)
  fine_start c = record { shape = shape_start m lawful task c; order = order_start m lawful task c; solved = solved_start }

  solved_step : (w v : World K V) → Fine w → Shape m lawful task v → Grows m w v → OneStep w v → Solved v
  solved_step w v f g' grows Step.nothing_new = f.solved
  solved_step w v f g' grows (Step.gives_answer node h file none a told) = record {
    answers = λ p b e. elim (entry_is node.path a w.answers p b e) [ inl s ↦ (node, h, s.0, file, sym s.1 ∙ told) | inr s ↦ f.solved.answers p b s.1 ];
    fed = f.solved.fed;
    rows = f.solved.rows;
    zones = f.solved.zones;
    turns = f.solved.turns;
  }
  solved_step w v f g' grows (Step.gives_outputs node h fed not plain answer e there) =
      let done : Done V = run_of m (reads m w) answer node in
      let is : answer ≡ answer_of m tells node = answer_is w f.shape f.solved node h (m.rows.role node.kind) refl answer e there in
      solved_next w (with_outputs m w node (run_of m (reads m w) answer node)) f.shape g' grows f.solved node h fed
      (record {
        row = λ _. entry_here node.path (run_of m (reads m w) answer node).outputs w.set ∙ ap (λ o. Some (run_of m (reads m w) o node).outputs) is;
        zone = λ zone. absurd (plain zone);
        turn = λ zone. absurd (plain zone);
      })
      (λ x k fin. elim (entry_or node.path (run_of m (reads m w) answer node).warnings w.warned x.path fin) [ inl same ↦ inl same | inr old ↦ inr (k, old) ]) f.solved.answers
  solved_step w v f g' grows (Step.opens_zone zone h fed not role) =
      let turns : List (Node K V) = turn_nodes m (reads m w) zone in
      let warnings : List Warning = (run_of m (reads m w) None zone).warnings in
      solved_next w (with_turns m w zone (turn_nodes m (reads m w) zone) (result_links m (reads m w) zone) (run_of m (reads m w) None zone).warnings) f.shape g' grows f.solved zone h fed
      (record {
        row = λ plain. absurd (plain role);
        zone = λ _. entry_here zone.path (result_links m (reads m w) zone) w.opened;
        turn = λ _ x k. has_second w.graph (turn_nodes m (reads m w) zone) x k;
      })
      (λ x k fin. elim (entry_or zone.path (run_of m (reads m w) None zone).warnings w.warned x.path fin) [
        | inl same ↦ inl same
        | inr old ↦ inr (was_there x old (has_either w.graph (turn_nodes m (reads m w) zone) x k), old)
      ])
      (λ p a e.
      let t : (x : Node K V) × Has w.graph x × (x.path ≡ p) × (m.rows.role x.kind ≡ File) × (a ≡ tells x) = f.solved.answers p a e in
      (t.0, has_first w.graph (turn_nodes m (reads m w) zone) t.0 t.1, t.2, t.3, t.4))
    where
      was_there : (x : Node K V) → finished w x.path ≡ true → Has w.graph x ⊎ Has (turn_nodes m (reads m w) zone) x → Has w.graph x
      was_there x old (inl k) = k
      was_there x old (inr k) =
          let d : IsDone m lawful task w x.path = f.shape.done x.path old in
          absurd (apart m lawful task w f.shape zone h not role (opened_by m (reads m w) zone) (zone_well m lawful task w f.shape zone h role) (run_of m (reads m w) None zone).warnings d.0 x d.1 k d.2)

  pub fine_step : (w v : World K V) → Fine w → OneStep w v → Fine v
  fine_step w v f s =
      let g' : Shape m lawful task v = step_shape m lawful task Told w v f.shape s in
      record { shape = g'; order = order_step m lawful task Told w v f.shape f.order s; solved = solved_step w v f g' (step_grows m lawful task Told w v f.shape s) s }

  pub data Steps (w : World K V) : World K V → Type 0 where
    no_step : Steps w w
    then_step : (v u : World K V) → Steps w v → OneStep v u → Steps w u

  pub fine_steps : (w v : World K V) → Fine w → Steps w v → Fine v
  fine_steps w v f no_step = f
  fine_steps w v f (then_step x v' steps s) = fine_step x v (fine_steps w x f steps) s

  joined : (w v u : World K V) → Steps w v → Steps v u → Steps w u
  joined w v u a no_step = a
  joined w v u a (then_step x u' b s) = then_step x u (joined w v x a b) s

  steps_grow : (w v : World K V) → Fine w → Steps w v → Grows m w v
  steps_grow w v f no_step = same_world m w
  steps_grow w v f (then_step x v' steps s) = both_grow m w x v (steps_grow w x f steps) (step_grows m lawful task Told x v (fine_steps w x f steps).shape s)

  -- ---- finishing nodes in order

  -- the outputs of the node are set
  abbrev pub IsOut : World K V → Node K V → Type 0
  IsOut w x = (k : ℕ) (s : S) → slice_get (m.gives x.kind) k ≡ Some s → is_set w (an_output x.path k) ≡ true

  abbrev pub AllOut : World K V → List (Node K V) → Type 0
  AllOut w ns = (x : Node K V) → Has ns x → IsOut w x

  all_out_stays : (w v : World K V) → Grows m w v → (ns : List (Node K V)) → AllOut w ns → AllOut v ns
  all_out_stays w v grows ns out x h k s at = set_stays m w v grows (an_output x.path k) (out x h k s at)

  -- these nodes are finished, with all that their zones open, and no other
  pub record Completes (w : World K V) (ns : List (Node K V)) (v : World K V) : Type 0 where
    pub steps : Steps w v
    pub out : AllOut v ns
    pub done : (x : Node K V) → Has ns x → finished v x.path ≡ true
    pub new : (x : Node K V) → Has v.graph x → Has w.graph x ⊎ (finished v x.path ≡ true) × IsOut v x
    pub others : (x : Node K V) → Has w.graph x → (¬ Has ns x) → finished v x.path ≡ true → finished w x.path ≡ true

  abbrev Completed : World K V → List (Node K V) → Type 0
  Completed w ns = (v : World K V) × Completes w ns v

  abbrev AllThere : World K V → List (Node K V) → Type 0
  AllThere w ns = (x : Node K V) → Has ns x → Has w.graph x

  abbrev NoneDone : World K V → List (Node K V) → Type 0
  NoneDone w ns = (x : Node K V) → Has ns x → finished w x.path ≡ false

  abbrev AllBelow : ℕ → List (Node K V) → Type 0
  AllBelow h ns = (x : Node K V) → Has ns x → m.height x.kind < h

  -- a node that fits behind nodes whose outputs are set can be finished
  abbrev FinishesOne : ℕ → Type 0
  FinishesOne h = (w : World K V) → Fine w → (before : List (Node K V)) → AllOut w before → (node : Node K V) → NodeFits m [] before node → Has w.graph node → finished w node.path ≡ false → m.height node.kind < h → Completed w (node ∷ [])

  abbrev FinishesAll : ℕ → Type 0
  FinishesAll h = (ns before : List (Node K V)) (w : World K V) → Fine w → AllOut w before → NodesFit m [] before ns → AllDiffer ns → AllThere w ns → NoneDone w ns → AllBelow h ns → Completed w ns

  or_false : (b : Bool) → (b ≡ true → ⊥) → b ≡ false
  or_false true no' = absurd (no' refl)
  or_false false no' = refl

  out_joined : (w : World K V) (xs ys : List (Node K V)) → AllOut w xs → AllOut w ys → AllOut w (xs ++ ys)
  out_joined w xs ys a b x h = elim (has_either xs ys x h) [ inl l ↦ a x l | inr r ↦ b x r ]

  finishes_all : (h : ℕ) → FinishesOne h → FinishesAll h
  finishes_all h one [] before w f out fit d there none below =
      (w, record { steps = no_step; out = λ x k. absurd k; done = λ x k. absurd k; new = λ x k. inl k; others = λ x k o e. e })
  finishes_all h one (n ∷ ns) before w f out fit d there none below =
      let a : Completed w (n ∷ []) = one w f before out n fit.0 (there n (inl refl)) (none n (inl refl)) (below n (inl refl)) in
      let grows : Grows m w a.0 = steps_grow w a.0 f a.1.steps in
      let b : Completed a.0 ns =
      finishes_all h one ns (before ++ n ∷ []) a.0 (fine_steps w a.0 f a.1.steps)
      (out_joined a.0 before (n ∷ []) (all_out_stays w a.0 grows before out) a.1.out) fit.1 d.1 (λ x k. node_stays m w a.0 grows x (there x (inr k)))
      (λ x k. or_false (finished a.0 x.path) (λ e.
      let bad : true ≡ false = sym (a.1.others x (there x (inr k)) (λ o. elim o [ inl q ↦ d.0 (subst (Has ns) q k) | inr z ↦ absurd z ]) e) ∙ none x (inr k) in
      cc))
      (λ x k. below x (inr k)) in
      let grows' : Grows m a.0 b.0 = steps_grow a.0 b.0 (fine_steps w a.0 f a.1.steps) b.1.steps in (
        b.0,
        record {
          steps = joined w a.0 b.0 a.1.steps b.1.steps;
          out = out_joined b.0 (n ∷ []) ns (all_out_stays a.0 b.0 grows' (n ∷ []) a.1.out) b.1.out;
          done = λ x k. elim k [ inl q ↦ grows'.finished x.path (a.1.done x (inl q)) | inr j ↦ b.1.done x j ];
          new = λ x k. elim (b.1.new x k) [ inl j ↦ elim (a.1.new x j) [ inl i ↦ inl i | inr e ↦ inr (grows'.finished x.path e.0, λ q s at. set_stays m a.0 b.0 grows' (an_output x.path q) (e.1 q s at)) ] | inr e ↦ inr e ];
          others = λ x k o e. a.1.others x k (λ q. elim q [ inl i ↦ o (inl i) | inr z ↦ absurd z ]) (b.1.others x (node_stays m w a.0 grows x k) (λ j. o (inr j)) e);
        },
      )

  -- ---- one node

  module _ (w : World K V) (f : Fine w) (before : List (Node K V)) (out : AllOut w before) where
    pub source_set : (y : Source V) (s : S) → SourceSort m [] before y s → is_set w y ≡ true
    source_set (a_value u) s h = ap (λ l. is_there w l.from) (f.shape.values u)
    source_set (an_item i) s h = cc
    source_set (an_output p k) s h = subst (λ q. is_set w (an_output q k) ≡ true) h.2 (out h.0 h.1 k s h.3)

    fits_fed : (node : Node K V) → NodeFits m [] before node → IsFed m lawful task w node
    fits_fed node fit link has =
        let s : (s : S) × LinkSort m [] before link s =
        beside_of (LinkSort m [] before) node.links fit.sorts (links_beside m [] before node.links fit.sorts fit.links) link (selected_from (m.rows.role node.kind) (m.rows.choice node.kind (condition m (reads m w) node.links)) node.links link has) in
        source_set link.from s.1.0 s.1.1

  -- a node that is no zone
  one_plain : (w : World K V) → Fine w → (node : Node K V) → Has w.graph node → IsFed m lawful task w node → finished w node.path ≡ false → m.rows.role node.kind ≢ Zone → (answer : Option Answer) → w.answers node.path ≡ answer → is_some answer ≡ is_file (m.rows.role node.kind) → Completed w (node ∷ [])
  one_plain w f node h fed not plain answer e there =
      let shut : w.opened node.path ≡ None = not_opened m lawful task w f.shape node.path not (w.opened node.path) refl in (
        with_outputs m w node (run_of m (reads m w) answer node),
        record {
          steps = then_step w (with_outputs m w node (run_of m (reads m w) answer node)) no_step (Step.gives_outputs node h fed not plain answer e there);
          out = λ x k j s at. elim k [
            | inl q ↦
                subst (λ y. is_set (with_outputs m w node (run_of m (reads m w) answer node)) (an_output y.path j) ≡ true) (sym q)
                (ap (λ l. is_there (with_outputs m w node (run_of m (reads m w) answer node)) l.from) (f.shape.shut node.path j shut)
                ∙ ap is_some (entry_here node.path (run_of m (reads m w) answer node).outputs w.set))
            | inr z ↦ absurd z
          ];
          done = λ x k. elim k [ inl q ↦ subst (λ y. finished (with_outputs m w node (run_of m (reads m w) answer node)) y.path ≡ true) (sym q) (ap is_some (entry_here node.path (run_of m (reads m w) answer node).warnings w.warned)) | inr z ↦ absurd z ];
          new = λ x k. inl k;
          others = λ x k o fin. elim (entry_or node.path (run_of m (reads m w) answer node).warnings w.warned x.path fin) [ inl same ↦ absurd (o (inl (sym (one_node w f.shape node x h k same)))) | inr old ↦ old ];
        },
      )

  -- an import, whose answer is served first
  one_import : (w : World K V) → Fine w → (node : Node K V) → Has w.graph node → IsFed m lawful task w node → finished w node.path ≡ false → m.rows.role node.kind ≡ File → (o : Option Answer) → w.answers node.path ≡ o → Completed w (node ∷ [])
  one_import w f node h fed not file (Some a) e = one_plain w f node h fed not (λ z. let bad : File ≡ Zone = sym file ∙ z in cc) (Some a) e (sym (ap is_file file))
  one_import w f node h fed not file None e =
      let v : World K V = record w { answers = with_entry node.path (tells node) w.answers } in
      let s : OneStep w (record w { answers = with_entry node.path (tells node) w.answers }) = Step.gives_answer node h file e (tells node) refl in
      let f' : Fine (record w { answers = with_entry node.path (tells node) w.answers }) = fine_step w (record w { answers = with_entry node.path (tells node) w.answers }) f s in
      let a : Completed (record w { answers = with_entry node.path (tells node) w.answers }) (node ∷ []) =
      one_plain (record w { answers = with_entry node.path (tells node) w.answers }) f' node h
      (fed_stays m w (record w { answers = with_entry node.path (tells node) w.answers }) (step_grows m lawful task Told w (record w { answers = with_entry node.path (tells node) w.answers }) f.shape s) node fed) not
      (λ z. let bad : File ≡ Zone = sym file ∙ z in cc) (Some (tells node)) (entry_here node.path (tells node) w.answers) (sym (ap is_file file)) in (
        a.0,
        record {
          steps = joined w (record w { answers = with_entry node.path (tells node) w.answers }) a.0 (then_step w (record w { answers = with_entry node.path (tells node) w.answers }) no_step s) a.1.steps;
          out = a.1.out;
          done = a.1.done;
          new = a.1.new;
          others = a.1.others;
        },
      )

  -- a zone, and then the nodes of its turns
  pub differ_of_images : {A B : Type 0} (g : A → B) (xs : List A) → AllDiffer (map g xs) → AllDiffer xs
  differ_of_images g [] d = tt
  differ_of_images g (x ∷ xs) d = (λ h. d.0 (has_image g xs x h), differ_of_images g xs d.1)

  module _ (h : ℕ) (all : FinishesAll h) (w : World K V) (f : Fine w) (before : List (Node K V)) (out : AllOut w before) (zone : Node K V) (fit : NodeFits m [] before zone) (k : Has w.graph zone) (not : finished w zone.path ≡ false) (less : m.height zone.kind < suc h) (role : m.rows.role zone.kind ≡ Zone) where
    abbrev turns : List (Node K V)
    turns = turn_nodes m (reads m w) zone

    abbrev outs : List (Link V)
    outs = result_links m (reads m w) zone

    abbrev warnings : List Warning
    warnings = (run_of m (reads m w) None zone).warnings

    abbrev w1 : World K V
    w1 = with_turns m w zone turns outs warnings

    well : OpensWell m zone.path zone.kind (opened_by m (reads m w) zone)
    well = zone_well m lawful task w f.shape zone k role

    opening : OneStep w w1
    opening = Step.opens_zone zone k (fits_fed w f before out zone fit) not role

    fine1 : Fine w1
    fine1 = fine_step w w1 f opening

    grows1 : Grows m w w1
    grows1 = step_grows m lawful task Told w w1 f.shape opening

    turn_apart : (a b : Node K V) → Has w.graph a → Has turns b → a.path ≡ b.path → ⊥
    turn_apart a b a_in b_in same = apart m lawful task w f.shape zone k not role (opened_by m (reads m w) zone) well warnings a b a_in b_in same

    turns_fit : NodesFit m [] before turns
    turns_fit = subst (λ xs. NodesFit m [] xs turns) (append_nil before) (outer_nodes_fit m before zone role fit [] (opened_by m (reads m w) zone).nodes well.fit)

    turns_differ : AllDiffer turns
    turns_differ = differ_of_images (λ n. n.path) turns (subst AllDiffer (sym (map_map (λ n. n.path) (outer_node m zone) (opened_by m (reads m w) zone).nodes)) well.differ)

    turns_new : NoneDone w1 turns
    turns_new x x_in =
        or_false (finished w1 x.path)
        (λ e. elim (entry_or zone.path warnings w.warned x.path e) [
          | inl same ↦ turn_apart zone x k x_in same
          | inr old ↦ let d : IsDone m lawful task w x.path = f.shape.done x.path old in turn_apart d.0 x d.1 x_in d.2
        ])

    turns_below : AllBelow h turns
    turns_below x x_in =
        let y : (y : Node K V) × Has (opened_by m (reads m w) zone).nodes y × (x ≡ outer_node m zone y) = image_of (outer_node m zone) (opened_by m (reads m w) zone).nodes x x_in in
        let lower : m.height y.0.kind < m.height zone.kind = well.lower y.0 y.1 in
        subst (λ n. m.height n.kind < h) (sym y.2) (lower_still (m.height y.0.kind) (m.height zone.kind) lower less)
      where
        lower_still : (a b : ℕ) → a < b → b < suc h → a < h
        lower_still a b p q = omega arith

    inside : Completed w1 turns
    inside = all turns before w1 fine1 (all_out_stays w w1 grows1 before out) turns_fit turns_differ (λ x x_in. has_second w.graph turns x x_in) turns_new turns_below

    abbrev v : World K V
    v = inside.0

    fine_v : Fine v
    fine_v = fine_steps w1 v fine1 inside.1.steps

    grows_v : Grows m w1 v
    grows_v = steps_grow w1 v fine1 inside.1.steps

    opened_v : v.opened zone.path ≡ Some outs
    opened_v = grows_v.opened zone.path outs (entry_here zone.path outs w.opened)

    zone_out : (j : ℕ) (s : S) → slice_get (m.gives zone.kind) j ≡ Some s → is_set v (an_output zone.path j) ≡ true
    zone_out j s at =
        let sorts : LinkSorts m [] (before ++ turns) outs (m.gives zone.kind) = outer_link_sorts m before zone role fit (opened_by m (reads m w) zone).nodes (opened_by m (reads m w) zone).outputs (m.gives zone.kind) well.outputs in
        let link : (link : Link V) × (slice_get outs j ≡ Some link) × LinkSort m [] (before ++ turns) link s =
        beside_at (LinkSort m [] (before ++ turns)) outs (m.gives zone.kind) (links_beside m [] (before ++ turns) outs (m.gives zone.kind) sorts) j s at in
        ap (λ l. is_there v l.from) (fine_v.order.opens zone.path j outs link.0 opened_v link.1)
        ∙ source_set v fine_v (before ++ turns)
        (out_joined v before turns (all_out_stays w1 v grows_v before (all_out_stays w w1 grows1 before out)) inside.1.out) link.0.from link.2.0 link.2.1

    one_zone : Completed w (zone ∷ [])
    one_zone = (
      v,
      record {
        steps = joined w w1 v (then_step w w1 no_step opening) inside.1.steps;
        out = λ x x_in j s. elim x_in [ inl q ↦ subst (λ y. slice_get (m.gives y.kind) j ≡ Some s → is_set v (an_output y.path j) ≡ true) (sym q) (zone_out j s) | inr z ↦ absurd z ];
        done = λ x x_in. elim x_in [
          | inl q ↦ subst (λ y. finished v y.path ≡ true) (sym q) (grows_v.finished zone.path (ap is_some (entry_here zone.path warnings w.warned)))
          | inr z ↦ absurd z
        ];
        new = λ x x_in. elim (inside.1.new x x_in) [
          | inl old ↦ elim (has_either w.graph turns x old) [ inl a ↦ inl a | inr b ↦ inr (inside.1.done x b, inside.1.out x b) ]
          | inr e ↦ inr e
        ];
        others = λ x x_in o e. elim (entry_or zone.path warnings w.warned x.path (inside.1.others x (has_first w.graph turns x x_in) (λ t. turn_apart x x x_in t refl) e)) [
          | inl same ↦ absurd (o (inl (sym (one_node w f.shape zone x k x_in same))))
          | inr old ↦ old
        ];
      },
    )

  not_told : (w : World K V) → Fine w → (node : Node K V) → Has w.graph node → m.rows.role node.kind ≢ File → (o : Option Answer) → w.answers node.path ≡ o → is_some o ≡ false
  not_told w f node h other None e = refl
  not_told w f node h other (Some a) e =
      let x : (x : Node K V) × Has w.graph x × (x.path ≡ node.path) × (m.rows.role x.kind ≡ File) × (a ≡ tells x) = f.solved.answers node.path a e in
      absurd (other (ap (λ y. m.rows.role y.kind) (sym (one_node w f.shape x.0 node x.1 h x.2)) ∙ x.3))

  one : (h : ℕ) → FinishesOne h
  one zero w f before out node fit k not less = absurd (never_below (m.height node.kind) less)
    where
      never_below : (a : ℕ) → a < 0 → ⊥
      never_below a p = omega arith
  one (suc h) w f before out node fit k not less = by_role (finishes_all h (one h)) (m.rows.role node.kind) refl
    where
      by_role : FinishesAll h → (role : Role) → m.rows.role node.kind ≡ role → Completed w (node ∷ [])
      by_role all Zone is = one_zone h all w f before out node fit k not less is
      by_role all File is = one_import w f node k (fits_fed w f before out node fit) not is (w.answers node.path) refl
      by_role all Plain is =
          one_plain w f node k (fits_fed w f before out node fit) not (λ z. let bad : Plain ≡ Zone = sym is ∙ z in cc) (w.answers node.path) refl
          (not_told w f node k (λ z. let bad : Plain ≡ File = sym is ∙ z in cc) (w.answers node.path) refl ∙ sym (ap is_file is))
      by_role all Switch is =
          one_plain w f node k (fits_fed w f before out node fit) not (λ z. let bad : Switch ≡ Zone = sym is ∙ z in cc) (w.answers node.path) refl
          (not_told w f node k (λ z. let bad : Switch ≡ File = sym is ∙ z in cc) (w.answers node.path) refl ∙ sym (ap is_file is))

  -- ---- all nodes

  heights : List (Node K V) → ℕ
  heights [] = 0
  heights (n ∷ ns) = suc (m.height n.kind) + heights ns

  below_heights : (ns : List (Node K V)) → AllBelow (heights ns) ns
  unfolding heights
  below_heights [] x h = absurd h
  below_heights (n ∷ ns) x (inl q) = subst (λ y. m.height y.kind < suc (m.height n.kind) + heights ns) (sym q) (at_front (m.height n.kind) (heights ns))
    where
      at_front : (a b : ℕ) → a < suc a + b
      at_front a b = omega arith
  below_heights (n ∷ ns) x (inr h) = behind (m.height x.kind) (m.height n.kind) (heights ns) (below_heights ns x h)
    where
      behind : (a b c : ℕ) → a < c → a < suc b + c
      behind a b c p = omega arith

  -- a world that steps lead to and in which every node is finished
  pub record IsComplete (v : World K V) : Type 0 where
    pub fine : Fine v
    pub steps : Steps (first_world m task) v
    pub graph : (node : Node K V) → Has task.nodes node → Has v.graph node
    pub done : (node : Node K V) → Has v.graph node → finished v node.path ≡ true
    pub out : AllOut v v.graph

  pub complete : CanStart m task → (v : World K V) × IsComplete v
  complete c =
      let f : Fine (first_world m task) = fine_start c in
      let a : Completed (first_world m task) task.nodes =
      finishes_all (heights task.nodes) (one (heights task.nodes)) task.nodes [] (first_world m task) f (λ x h. absurd h) c.fit (differ_of_images (λ n. n.path) task.nodes c.differ) (λ x h. h) (λ x h. refl) (below_heights task.nodes) in (
        a.0,
        record {
          fine = fine_steps (first_world m task) a.0 f a.1.steps;
          steps = a.1.steps;
          graph = λ node h. node_stays m (first_world m task) a.0 (steps_grow (first_world m task) a.0 f a.1.steps) node h;
          done = λ node h. elim (a.1.new node h) [ inl first ↦ a.1.done node first | inr e ↦ e.0 ];
          out = λ node h. elim (a.1.new node h) [ inl first ↦ a.1.out node first | inr e ↦ e.1 ];
        },
      )
