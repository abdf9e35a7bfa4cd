-- What an event doesn't change, and what holds after every list of events that may come.
use Rattle.std.proofs.Common.{◌≡◌, ◌≢◌, ◌⊎◌, inl, inr, ℕ, List, [], ◌∷◌, ◌++◌, map, Option, Some, None, Bool, true, false, refl, sym, ◌∙◌, ap, subst}
use Rattle.std.specs.Prelude.{is_some, unwrap_or, if◌then◌else◌, slice_get, slice_index_or}
use Rattle.gn_node_set.specs.Paths.{Path, with_entry}
use Rattle.gn_node_set.specs.Meanings.{Has, Source, a_value, an_item, an_output, Link, plain_link, along, Node, Role, Plain, Switch, File, Zone, Answer, Warning, Done, Meanings, chosen, selected, converted}
use Rattle.gn_exec_laws.specs.Graphs.{Task, source_value, link_value, condition, links_read, run_of, opened_by, turn_nodes, result_links}
use Rattle.gn_exec_laws.specs.Fits.{is_file, NodeFits, CanStart, OpensWell, IsLawful}
use Rattle.gn_exec_laws.specs.Machine.{Event, Take, Finish, Serve, Refuse, World, finished, link_now, is_there, is_set, set_outputs, reads, led_on, with_outputs, with_turns, finish_by_role, finish_node, serve_node, world, condition_set, sure_as, sure, Reached, Used, Allowed, IsRun}
use Rattle.gn_node_set.proofs.Lists.{held, not_held, not_both, member_at, place_of, same_place, known_by, one_place}
use Rattle.gn_node_set.proofs.Paths.{by_path, entry_keeps}
use Rattle.gn_exec_laws.proofs.Shapes.{Shape, IsFed, can_run, shape_start, shape_outputs, shape_answer, shape_turns, not_set, not_opened}

-- ---- what an event leaves as it was

module _ {K V S T : Type 0} (m : Meanings K V S T) where
  -- what is set, opened, answered or finished stays so, and what is set keeps its value
  pub record Grows (w v : World K V) : Type 0 where
    pub graph : (n : ℕ) (node : Node K V) → slice_get w.graph n ≡ Some node → slice_get v.graph n ≡ Some node
    pub set : (p : Path) (vs : List V) → w.set p ≡ Some vs → v.set p ≡ Some vs
    pub opened : (p : Path) (outs : List (Link V)) → w.opened p ≡ Some outs → v.opened p ≡ Some outs
    pub answers : (p : Path) (a : Answer) → w.answers p ≡ Some a → v.answers p ≡ Some a
    pub warned : (p : Path) (warnings : List Warning) → w.warned p ≡ Some warnings → v.warned p ≡ Some warnings
    pub finished : (p : Path) → finished w p ≡ true → finished v p ≡ true
    pub leads : (x : Source V) → is_set w x ≡ true → v.leads x ≡ w.leads x

  pub same_world : (w : World K V) → Grows w w
  same_world w = record { graph = λ n node e. e; set = λ p vs e. e; opened = λ p os e. e; answers = λ p a e. e; warned = λ p ws e. e; finished = λ p e. e; leads = λ x e. refl }

  module _ (w v : World K V) (grows : Grows w v) where
    pub node_stays : (node : Node K V) → Has w.graph node → Has v.graph node
    node_stays node h = let t : (n : ℕ) × (slice_get w.graph n ≡ Some node) = place_of w.graph node h in member_at v.graph t.0 node (grows.graph t.0 node t.1)

    there_stays : (y : Source V) → is_there w y ≡ true → (is_there v y ≡ true) × (source_value m (set_outputs m v) y ≡ source_value m (set_outputs m w) y)
    there_stays (a_value u) e = (refl, refl)
    there_stays (an_item i) e = cc
    there_stays (an_output p k) e =
        let vs : (vs : List V) × (w.set p ≡ Some vs) = held (w.set p) e in
        let stays : v.set p ≡ Some vs.0 = grows.set p vs.0 vs.1 in
        (ap is_some stays, ap (λ o. slice_index_or (unwrap_or o []) k m.nothing) (stays ∙ sym vs.1))

    pub set_stays : (x : Source V) → is_set w x ≡ true → is_set v x ≡ true
    set_stays x e = ap (λ l. is_there v l.from) (grows.leads x e) ∙ (there_stays (w.leads x).from e).0

    pub read_stays : (link : Link V) → is_set w link.from ≡ true → reads m v link ≡ reads m w link
    read_stays link e =
        ap (λ l. link_value m (set_outputs m v) (along l link.through)) (grows.leads link.from e)
        ∙ ap (λ u. converted m.rows u ((w.leads link.from).through ++ link.through)) (there_stays (w.leads link.from).from e).1

    same_selected : (node : Node K V) (role : Role) (links : List (Link V)) → ((link : Link V) → Has (selected role (m.rows.choice node.kind (condition m (reads m w) links)) links) link → is_set w link.from ≡ true)
        → selected role (m.rows.choice node.kind (condition m (reads m v) links)) links ≡ selected role (m.rows.choice node.kind (condition m (reads m w) links)) links
    same_selected node Plain links fed = refl
    same_selected node File links fed = refl
    same_selected node Zone links fed = refl
    same_selected node Switch [] fed = refl
    same_selected node Switch (link ∷ links) fed = ap (λ u. selected Switch (m.rows.choice node.kind u) (link ∷ links)) (read_stays link (fed link (inl refl)))

    abbrev pub Fed : World K V → Node K V → Type 0
    Fed u node = (link : Link V) → Has (links_read m (reads m u) node) link → is_set u link.from ≡ true

    pub same_reads : (node : Node K V) → Fed w node → links_read m (reads m v) node ≡ links_read m (reads m w) node
    same_reads node fed = same_selected node (m.rows.role node.kind) node.links fed

    pub fed_stays : (node : Node K V) → Fed w node → Fed v node
    fed_stays node fed link has = set_stays link.from (fed link (subst (λ ls. Has ls link) (same_reads node fed) has))

    -- ---- use

    sure_more : (node : Node K V) (role : Role) (links : List (Link V)) (link : Link V) → Has (sure_as m role (condition_set m w links) (m.rows.choice node.kind (condition m (reads m w) links)) links) link
        → Has (sure_as m role (condition_set m v links) (m.rows.choice node.kind (condition m (reads m v) links)) links) link
    sure_more node Plain links link h = h
    sure_more node File links link h = h
    sure_more node Zone links link h = h
    sure_more node Switch [] link h = by_set (condition_set m v []) (condition_set m w []) h
      where
        by_set : (b c : Bool) → Has (sure_as m Switch c (m.rows.choice node.kind (condition m (reads m w) [])) []) link → Has (sure_as m Switch b (m.rows.choice node.kind (condition m (reads m v) [])) []) link
        by_set b true k = absurd k
        by_set b false k = absurd k
    sure_more node Switch (c ∷ links) link h = by_set (is_set w c.from) refl (is_set v c.from) refl h
      where
        by_set : (b : Bool) → is_set w c.from ≡ b → (d : Bool) → is_set v c.from ≡ d → Has (sure_as m Switch b (m.rows.choice node.kind (reads m w c)) (c ∷ links)) link → Has (sure_as m Switch d (m.rows.choice node.kind (reads m v c)) (c ∷ links)) link
        by_set true e true f k = subst (λ u. Has (c ∷ chosen (m.rows.choice node.kind u) links) link) (sym (read_stays c e)) k
        by_set true e false f k = let bad : true ≡ false = sym (set_stays c.from e) ∙ f in cc
        by_set false e true f (inl same) = inl same
        by_set false e true f (inr k) = absurd k
        by_set false e false f k = k

    pub reached_stays : (task : Task K V) (x : Source V) → Reached m task w (sure m w) x → Reached m task v (sure m v) x
    reached_stays task x (Reached.a_root link h) = Reached.a_root link h
    reached_stays task x (Reached.an_input node s link h r has) =
        Reached.an_input node s link (node_stays node h) (reached_stays task (an_output node.path s) r) (sure_more node (m.rows.role node.kind) node.links link has)
    reached_stays task x (Reached.a_result p s outs link is r at) = Reached.a_result p s outs link (grows.opened p outs is) (reached_stays task (an_output p s) r) at

    pub used_stays : (task : Task K V) (node : Node K V) → Used m task w node → Used m task v node
    used_stays task node u = (u.0, reached_stays task (an_output node.path u.0) u.1)

unfoldable pub number_of : Event → ℕ
number_of (Take v n) = n
number_of (Finish v n) = n
number_of (Serve n a) = n
number_of (Refuse v) = 0

-- ---- after each list of events

module _ {K V S T : Type 0} (m : Meanings K V S T) (lawful : IsLawful m) (task : Task K V) where
  abbrev W : List Event → World K V
  W es = world m task es

  abbrev HasAnswer : World K V → Node K V → Type 0
  HasAnswer w node = m.rows.role node.kind ≡ File → (a : Answer) × (w.answers node.path ≡ Some a)

  -- the node with this number was taken: all that it reads is set, and it is used
  abbrev pub IsTakenWell : World K V → ℕ → Type 0
  IsTakenWell w n = (node : Node K V) × (slice_get w.graph n ≡ Some node) × IsFed m lawful task w node × HasAnswer w node × Used m task w node

  abbrev pub IsFinished : World K V → ℕ → Type 0
  IsFinished w n = (node : Node K V) × (slice_get w.graph n ≡ Some node) × (finished w node.path ≡ true)

  abbrev pub WasFinished : List Event → World K V → Path → Type 0
  WasFinished es w p = (v : ℕ) × (n : ℕ) × (node : Node K V) × Has es (Finish v n) × (slice_get w.graph n ≡ Some node) × (node.path ≡ p)

  pub record Kept (es : List Event) : Type 0 where
    pub shape : Shape m lawful task (W es)
    pub taken : (v n : ℕ) → Has es (Take v n) → IsTakenWell (W es) n
    pub finishes : (v n : ℕ) → Has es (Finish v n) → IsFinished (W es) n
    pub finished_by : (p : Path) → finished (W es) p ≡ true → WasFinished es (W es) p

  -- ---- a node that is ready is fed

  sure_is_read : (w : World K V) (node : Node K V) (role : Role) (links : List (Link V))
      → ((link : Link V) → Has (sure_as m role (condition_set m w links) (m.rows.choice node.kind (condition m (reads m w) links)) links) link → is_set w link.from ≡ true)
      → sure_as m role (condition_set m w links) (m.rows.choice node.kind (condition m (reads m w) links)) links ≡ selected role (m.rows.choice node.kind (condition m (reads m w) links)) links
  sure_is_read w node Plain links sets = refl
  sure_is_read w node File links sets = refl
  sure_is_read w node Zone links sets = refl
  sure_is_read w node Switch [] sets = refl
  sure_is_read w node Switch (c ∷ links) sets = by_set (is_set w c.from) refl
    where
      first_in : (b : Bool) → Has (sure_as m Switch b (m.rows.choice node.kind (reads m w c)) (c ∷ links)) c
      first_in true = inl refl
      first_in false = inl refl

      by_set : (b : Bool) → is_set w c.from ≡ b → sure_as m Switch (is_set w c.from) (m.rows.choice node.kind (reads m w c)) (c ∷ links) ≡ c ∷ chosen (m.rows.choice node.kind (reads m w c)) links
      by_set true e = ap (λ b. sure_as m Switch b (m.rows.choice node.kind (reads m w c)) (c ∷ links)) e
      by_set false e = let bad : true ≡ false = sym (sets c (first_in (is_set w c.from))) ∙ e in cc

  -- where all that a node is sure to read is set, that is what its run reads
  pub sure_read : (w : World K V) (node : Node K V) → ((link : Link V) → Has (sure m w node) link → is_set w link.from ≡ true) → sure m w node ≡ links_read m (reads m w) node
  sure_read w node sets = sure_is_read w node (m.rows.role node.kind) node.links sets

  pub fed_of : (w : World K V) (node : Node K V) → ((link : Link V) → Has (sure m w node) link → is_set w link.from ≡ true) → IsFed m lawful task w node
  fed_of w node sets link has = sets link (subst (λ ls. Has ls link) (sym (sure_read w node sets)) has)

  -- ---- the effect of each event

  outputs_grow : (w : World K V) → Shape m lawful task w → (node : Node K V) → finished w node.path ≡ false → (done : Done V) → Grows m w (with_outputs m w node done)
  outputs_grow w g node not done = record {
    graph = λ n x e. e;
    set = λ p vs e. entry_keeps node.path done.outputs w.set (not_set m lawful task w g node.path not (w.set node.path) refl) p vs e;
    opened = λ p os e. e;
    answers = λ p a e. e;
    warned = entry_keeps node.path done.warnings w.warned (not_held (w.warned node.path) not);
    finished = λ p e. by_path (λ t. is_some (if t then Some done.warnings else w.warned p) ≡ true) node.path p (λ _. refl) (λ _. e);
    leads = λ x e. refl;
  }

  answer_grows : (w : World K V) (node : Node K V) → w.answers node.path ≡ None → (a : Answer) → Grows m w (record w { answers = with_entry node.path a w.answers })
  answer_grows w node none a = record {
    graph = λ n x e. e;
    set = λ p vs e. e;
    opened = λ p os e. e;
    answers = λ p b e. entry_keeps node.path a w.answers none p b e;
    warned = λ p ws e. e;
    finished = λ p e. e;
    leads = λ x e. refl;
  }

  turns_grow : (w : World K V) → Shape m lawful task w → (zone : Node K V) → finished w zone.path ≡ false → (turns : List (Node K V)) (outs : List (Link V)) (warnings : List Warning) → Grows m w (with_turns m w zone turns outs warnings)
  turns_grow w g zone not turns outs warnings = record {
    graph = λ n x e. same_place w.graph turns n x e;
    set = λ p vs e. e;
    opened = λ p os e. entry_keeps zone.path outs w.opened (not_opened m lawful task w g zone.path not (w.opened zone.path) refl) p os e;
    answers = λ p a e. e;
    warned = entry_keeps zone.path warnings w.warned (not_held (w.warned zone.path) not);
    finished = λ p e. by_path (λ t. is_some (if t then Some warnings else w.warned p) ≡ true) zone.path p (λ _. refl) (λ _. e);
    leads = λ x e. same_lead (w.leads x) (w.leads x).from e;
  }
    where
      same_lead : (link : Link V) (y : Source V) → is_there w y ≡ true → led_on m w zone.path outs link y ≡ link
      same_lead link (a_value u) e = refl
      same_lead link (an_item i) e = refl
      same_lead link (an_output p k) e =
          by_path (λ t. (if t then along (link_now w (slice_index_or outs k (plain_link (a_value m.nothing)))) link.through else link) ≡ link) zone.path p
          (λ same.
          let bad : true ≡ false = sym e ∙ ap (λ q. is_some (w.set q)) (sym same) ∙ ap is_some (not_set m lawful task w g zone.path not (w.set zone.path) refl) in
          cc)
          (λ _. refl)

  pub zone_well : (w : World K V) → Shape m lawful task w → (zone : Node K V) → Has w.graph zone → m.rows.role zone.kind ≡ Zone → OpensWell m zone.path zone.kind (opened_by m (reads m w) zone)
  zone_well w g zone h role =
      let f : NodeFits m [] w.graph zone = g.fit zone h in
      lawful.opens zone.path zone.kind (slice_index_or (run_of m (reads m w) None zone).outputs 0 m.nothing) f.sorts (g.ends zone h) role f.kind

  told_file : (w : World K V) → Shape m lawful task w → (node : Node K V) → Has w.graph node → (a : Answer) → w.answers node.path ≡ Some a → m.rows.role node.kind ≡ File
  told_file w g node h a e =
      let x : (x : Node K V) × Has w.graph x × (x.path ≡ node.path) × (m.rows.role x.kind ≡ File) = g.answered node.path a e in
      ap (λ n. m.rows.role n.kind) (sym (known_by (λ n. n.path) w.graph g.differ x.0 node x.1 h x.2)) ∙ x.3

  -- an import alone has an answer
  pub answer_there : (w : World K V) → Shape m lawful task w → (node : Node K V) → Has w.graph node → HasAnswer w node → (role : Role) → m.rows.role node.kind ≡ role → (o : Option Answer) → w.answers node.path ≡ o → is_some o ≡ is_file role
  answer_there w g node h has File is None e = let a : (a : Answer) × (w.answers node.path ≡ Some a) = has is in absurd (not_both e a.1)
  answer_there w g node h has File is (Some a) e = refl
  answer_there w g node h has Plain is None e = refl
  answer_there w g node h has Switch is None e = refl
  answer_there w g node h has Zone is None e = refl
  answer_there w g node h has Plain is (Some a) e = let bad : Plain ≡ File = sym is ∙ told_file w g node h a e in cc
  answer_there w g node h has Switch is (Some a) e = let bad : Switch ≡ File = sym is ∙ told_file w g node h a e in cc
  answer_there w g node h has Zone is (Some a) e = let bad : Zone ≡ File = sym is ∙ told_file w g node h a e in cc

  -- what no worker has finished is not finished
  not_finished : (es : List Event) → Kept es → (n : ℕ) (node : Node K V) → slice_get (W es).graph n ≡ Some node → ((u : ℕ) → ¬ Has es (Finish u n)) → (b : Bool) → finished (W es) node.path ≡ b → finished (W es) node.path ≡ false
  not_finished es k n node at none false e = e
  not_finished es k n node at none true e =
      let f : WasFinished es (W es) node.path = k.finished_by node.path e in
      let same : f.1 ≡ n = one_place (λ x. x.path) (W es).graph k.shape.differ f.1 n f.2 node f.4 at f.5 in
      absurd (none f.0 (subst (λ j. Has es (Finish f.0 j)) same f.3))

  -- ---- which step an event is

  module _ (Told : Node K V → Answer → Type 0) where
    -- what an event does to the world
    pub data Step (w : World K V) : World K V → Type 0 where
      nothing_new : Step w w
      gives_outputs : (node : Node K V) → Has w.graph node → IsFed m lawful task w node → finished w node.path ≡ false → m.rows.role node.kind ≢ Zone → (answer : Option Answer) → w.answers node.path ≡ answer → is_some answer ≡ is_file (m.rows.role node.kind) → Step w (with_outputs m w node (run_of m (reads m w) answer node))
      gives_answer : (node : Node K V) → Has w.graph node → m.rows.role node.kind ≡ File → w.answers node.path ≡ None → (a : Answer) → Told node a → Step w (record w { answers = with_entry node.path a w.answers })
      opens_zone : (zone : Node K V) → Has w.graph zone → IsFed m lawful task w zone → finished w zone.path ≡ false → m.rows.role zone.kind ≡ Zone → Step w (with_turns m w zone (turn_nodes m (reads m w) zone) (result_links m (reads m w) zone) (run_of m (reads m w) None zone).warnings)

    pub step_grows : (w v : World K V) → Shape m lawful task w → Step w v → Grows m w v
    step_grows w v g nothing_new = same_world m w
    step_grows w v g (gives_outputs node h fed not plain answer told is) = outputs_grow w g node not (run_of m (reads m w) answer node)
    step_grows w v g (gives_answer node h file none a told) = answer_grows w node none a
    step_grows w v g (opens_zone zone h fed not role) = turns_grow w g zone not (turn_nodes m (reads m w) zone) (result_links m (reads m w) zone) (run_of m (reads m w) None zone).warnings

    pub step_shape : (w v : World K V) → Shape m lawful task w → Step w v → Shape m lawful task v
    step_shape w v g nothing_new = g
    step_shape w v g (gives_outputs node h fed not plain answer told is) =
        shape_outputs m lawful task w g node h fed not plain (run_of m (reads m w) answer node)
        (lawful.rows node.path node.kind (map (reads m w) (links_read m (reads m w) node)) answer (can_run m lawful task w g node h fed not answer is))
    step_shape w v g (gives_answer node h file none a told) = shape_answer m lawful task w g node h file a
    step_shape w v g (opens_zone zone h fed not role) =
        shape_turns m lawful task w g zone h not role (opened_by m (reads m w) zone) (zone_well w g zone h role) (run_of m (reads m w) None zone).warnings

    finish_step : (w : World K V) → Shape m lawful task w → (node : Node K V) → Has w.graph node → IsFed m lawful task w node → HasAnswer w node → finished w node.path ≡ false → (role : Role) → m.rows.role node.kind ≡ role → Step w (finish_by_role m role w node)
    finish_step w g node h fed has not Zone is = opens_zone node h fed not is
    finish_step w g node h fed has not Plain is = gives_outputs node h fed not (λ z. let bad : Plain ≡ Zone = sym is ∙ z in cc) (w.answers node.path) refl (answer_there w g node h has (m.rows.role node.kind) refl (w.answers node.path) refl)
    finish_step w g node h fed has not Switch is = gives_outputs node h fed not (λ z. let bad : Switch ≡ Zone = sym is ∙ z in cc) (w.answers node.path) refl (answer_there w g node h has (m.rows.role node.kind) refl (w.answers node.path) refl)
    finish_step w g node h fed has not File is = gives_outputs node h fed not (λ z. let bad : File ≡ Zone = sym is ∙ z in cc) (w.answers node.path) refl (answer_there w g node h has (m.rows.role node.kind) refl (w.answers node.path) refl)

    pub step_of : (e : Event) (es : List Event) → Kept es → Allowed m task es e → ((n : ℕ) (a : Answer) (node : Node K V) → e ≡ Serve n a → slice_get (W es).graph n ≡ Some node → Told node a) → Step (W es) (W (e ∷ es))
    step_of (Take v n) es k a tells = nothing_new
    step_of (Refuse v) es k a tells = nothing_new
    step_of (Serve n b) es k a tells =
        subst (λ o. Step (W es) (serve_node m (W es) b o)) (sym a.0.1.there)
        (gives_answer a.0.0 (member_at (W es).graph n a.0.0 a.0.1.there) a.0.1.file a.0.1.no_answer b (tells n b a.0.0 refl a.0.1.there))
    step_of (Finish v n) es k a tells =
        let t : IsTakenWell (W es) n = k.taken v n a.0 in
        subst (λ o. Step (W es) (finish_node m (W es) o)) (sym t.1)
        (finish_step (W es) k.shape t.0 (member_at (W es).graph n t.0 t.1) t.2 t.3 (not_finished es k n t.0 t.1 a.1 (finished (W es) t.0.path) refl) (m.rows.role t.0.kind) refl)

  -- ---- each event keeps it

  taken_stays : (w v : World K V) → Grows m w v → (n : ℕ) → IsTakenWell w n → IsTakenWell v n
  taken_stays w v grows n t = (
    t.0,
    grows.graph n t.0 t.1,
    fed_stays m w v grows t.0 t.2,
    λ file. let a : (a : Answer) × (w.answers t.0.path ≡ Some a) = t.3 file in (a.0, grows.answers t.0.path a.0 a.1),
    used_stays m w v grows task t.0 t.4,
  )

  taken_next : (e : Event) (es : List Event) → Kept es → Allowed m task es e → Grows m (W es) (W (e ∷ es)) → (v n : ℕ) → Has (e ∷ es) (Take v n) → IsTakenWell (W (e ∷ es)) n
  unfolding number_of
  taken_next e es k a grows v n (inr h) = taken_stays (W es) (W (e ∷ es)) grows n (k.taken v n h)
  taken_next (Take u j) es k a grows v n (inl q) =
      subst (IsTakenWell (W es)) (sym (ap number_of q)) (a.0.0, a.0.1.there, fed_of (W es) a.0.0 a.0.1.inputs, a.0.1.answered, a.0.1.used)
  taken_next (Finish u j) es k a grows v n (inl q) = cc
  taken_next (Serve j b) es k a grows v n (inl q) = cc
  taken_next (Refuse u) es k a grows v n (inl q) = cc

  finished_stays : (w v : World K V) → Grows m w v → (n : ℕ) → IsFinished w n → IsFinished v n
  finished_stays w v grows n t = (t.0, grows.graph n t.0 t.1, grows.finished t.0.path t.2)

  now_finished : (w : World K V) (node : Node K V) (role : Role) → finished (finish_by_role m role w node) node.path ≡ true
  now_finished w node Zone = by_path (λ t. is_some (if t then Some (run_of m (reads m w) None node).warnings else w.warned node.path) ≡ true) node.path node.path (λ _. refl) (λ n. absurd (n refl))
  now_finished w node Plain = by_path (λ t. is_some (if t then Some (run_of m (reads m w) (w.answers node.path) node).warnings else w.warned node.path) ≡ true) node.path node.path (λ _. refl) (λ n. absurd (n refl))
  now_finished w node Switch = by_path (λ t. is_some (if t then Some (run_of m (reads m w) (w.answers node.path) node).warnings else w.warned node.path) ≡ true) node.path node.path (λ _. refl) (λ n. absurd (n refl))
  now_finished w node File = by_path (λ t. is_some (if t then Some (run_of m (reads m w) (w.answers node.path) node).warnings else w.warned node.path) ≡ true) node.path node.path (λ _. refl) (λ n. absurd (n refl))

  finishes_next : (e : Event) (es : List Event) → Kept es → Allowed m task es e → Grows m (W es) (W (e ∷ es)) → (v n : ℕ) → Has (e ∷ es) (Finish v n) → IsFinished (W (e ∷ es)) n
  unfolding number_of
  finishes_next e es k a grows v n (inr h) = finished_stays (W es) (W (e ∷ es)) grows n (k.finishes v n h)
  finishes_next (Finish u j) es k a grows v n (inl q) =
      let t : IsTakenWell (W es) j = k.taken u j a.0 in
      subst (IsFinished (W (Finish u j ∷ es))) (sym (ap number_of q))
      (t.0, grows.graph j t.0 t.1, subst (λ o. finished (finish_node m (W es) o) t.0.path ≡ true) (sym t.1) (now_finished (W es) t.0 (m.rows.role t.0.kind)))
  finishes_next (Take u j) es k a grows v n (inl q) = cc
  finishes_next (Serve j b) es k a grows v n (inl q) = cc
  finishes_next (Refuse u) es k a grows v n (inl q) = cc

  was_finished_stays : (e : Event) (es : List Event) (w v : World K V) → Grows m w v → (p : Path) → WasFinished es w p → WasFinished (e ∷ es) v p
  was_finished_stays e es w v grows p f = (f.0, f.1, f.2, inr f.3, grows.graph f.1 f.2 f.4, f.5)

  -- what finishing a node finishes is that node
  finished_or : (w : World K V) (node : Node K V) (p : Path) (role : Role) → finished (finish_by_role m role w node) p ≡ true → (node.path ≡ p) ⊎ (finished w p ≡ true)
  finished_or w node p Zone e = by_path (λ t. is_some (if t then Some (run_of m (reads m w) None node).warnings else w.warned p) ≡ true → (node.path ≡ p) ⊎ (finished w p ≡ true)) node.path p (λ same _. inl same) (λ _ x. inr x) e
  finished_or w node p Plain e = by_path (λ t. is_some (if t then Some (run_of m (reads m w) (w.answers node.path) node).warnings else w.warned p) ≡ true → (node.path ≡ p) ⊎ (finished w p ≡ true)) node.path p (λ same _. inl same) (λ _ x. inr x) e
  finished_or w node p Switch e = by_path (λ t. is_some (if t then Some (run_of m (reads m w) (w.answers node.path) node).warnings else w.warned p) ≡ true → (node.path ≡ p) ⊎ (finished w p ≡ true)) node.path p (λ same _. inl same) (λ _ x. inr x) e
  finished_or w node p File e = by_path (λ t. is_some (if t then Some (run_of m (reads m w) (w.answers node.path) node).warnings else w.warned p) ≡ true → (node.path ≡ p) ⊎ (finished w p ≡ true)) node.path p (λ same _. inl same) (λ _ x. inr x) e

  finished_by_next : (e : Event) (es : List Event) → Kept es → Allowed m task es e → Grows m (W es) (W (e ∷ es)) → (p : Path) → finished (W (e ∷ es)) p ≡ true → WasFinished (e ∷ es) (W (e ∷ es)) p
  finished_by_next (Take u j) es k a grows p e = was_finished_stays (Take u j) es (W es) (W (Take u j ∷ es)) grows p (k.finished_by p e)
  finished_by_next (Refuse u) es k a grows p e = was_finished_stays (Refuse u) es (W es) (W (Refuse u ∷ es)) grows p (k.finished_by p e)
  finished_by_next (Serve j b) es k a grows p e =
      was_finished_stays (Serve j b) es (W es) (W (Serve j b ∷ es)) grows p
      (k.finished_by p (subst (λ o. finished (serve_node m (W es) b o) p ≡ true) a.0.1.there e))
  finished_by_next (Finish u j) es k a grows p e =
      let t : IsTakenWell (W es) j = k.taken u j a.0 in
      elim (finished_or (W es) t.0 p (m.rows.role t.0.kind) (subst (λ o. finished (finish_node m (W es) o) p ≡ true) t.1 e)) [
        | inl same ↦ (u, j, t.0, inl refl, grows.graph j t.0 t.1, same)
        | inr old ↦ was_finished_stays (Finish u j) es (W es) (W (Finish u j ∷ es)) grows p (k.finished_by p old)
      ]

  abbrev pub AnyAnswer : Node K V → Answer → Type 0
  AnyAnswer node a = Unit {0}

  kept_next : (e : Event) (es : List Event) → Kept es → Allowed m task es e → Kept (e ∷ es)
  kept_next e es k a =
      let s : Step AnyAnswer (W es) (W (e ∷ es)) = step_of AnyAnswer e es k a (λ n b node same at. tt) in
      let grows : Grows m (W es) (W (e ∷ es)) = step_grows AnyAnswer (W es) (W (e ∷ es)) k.shape s in
      record {
        shape = step_shape AnyAnswer (W es) (W (e ∷ es)) k.shape s;
        taken = taken_next e es k a grows;
        finishes = finishes_next e es k a grows;
        finished_by = finished_by_next e es k a grows;
      }

  pub kept : CanStart m task → (es : List Event) → IsRun m task es → Kept es
  kept c [] r = record { shape = shape_start m lawful task c; taken = λ v n h. absurd h; finishes = λ v n h. absurd h; finished_by = λ p e. cc }
  kept c (e ∷ es) r = kept_next e es (kept c es r.1) r.0
