-- What holds of each world that events leave, whatever the answers: all fits, and tags agree.
use Rattle.std.proofs.Common.{◌≡◌, ◌≢◌, ◌⊎◌, inl, inr, ℕ, List, [], ◌∷◌, ◌++◌, map, Option, Some, None, true, false, refl, sym, ◌∙◌, ap, subst}
use Rattle.std.specs.Prelude.{is_some, unwrap_or, if◌then◌else◌, slice_get, slice_index_or}
use Rattle.gn_node_set.specs.Paths.{Path, zone_of, with_entry, ends_plain}
use Rattle.gn_node_set.specs.Meanings.{Has, Source, a_value, an_item, an_output, Link, plain_link, along, Node, Opened, Role, Plain, Switch, File, Zone, Choice, Answer, Warning, Done, Meanings, AllDiffer, selected}
use Rattle.gn_exec_laws.specs.Graphs.{Task, source_value, condition, choice_of, links_read, outer_link, outer_node}
use Rattle.gn_exec_laws.specs.Fits.{paths_of, is_file, shifted, HasNoTags, SourceSort, LinkSort, LinkSorts, NodeFits, CanStart, Agree, first_of, CanRun, RunsWell, OpensWell, IsLawful}
use Rattle.gn_exec_laws.specs.Machine.{World, finished, link_now, is_there, is_set, set_outputs, reads, led_on, with_outputs, with_turns, first_world}
use Rattle.gn_node_set.proofs.Lists.{some_same, held, not_both, map_append, map_map, has_first, has_either, image_of, member_at, index_at, image_at, known_by, differ_joined}
use Rattle.gn_node_set.proofs.Paths.{by_path, entry_is, no_zone, turn_ends}
use Rattle.gn_exec_laws.proofs.Sorts.{Beside, beside_selected, beside_equal, beside_of, beside_at, selected_from, shifted_joined, converted_sort, converted_tags, more_link, more_links, more_fits, each_fits, links_beside, along_sort, outer_link_sorts, outer_node_fits}

module _ {K V S T : Type 0} (m : Meanings K V S T) (lawful : IsLawful m) (task : Task K V) where
  -- the node at a path has finished: its outputs are set, or its zone is opened
  abbrev pub IsDone : World K V → Path → Type 0
  IsDone w p =
      (node : Node K V) × Has w.graph node × (node.path ≡ p) × (m.rows.role node.kind ≢ Zone → is_some (w.set p) ≡ true) × (m.rows.role node.kind ≡ Zone → is_some (w.opened p) ≡ true)

  pub record Shape (w : World K V) : Type 0 where
    pub fit : (node : Node K V) → Has w.graph node → NodeFits m [] w.graph node
    pub roots : (link : Link V) → Has task.roots link → (s : S) × LinkSort m [] w.graph link s
    pub differ : AllDiffer (paths_of w.graph)
    pub turns : (node : Node K V) (q : Path) → Has w.graph node → zone_of node.path ≡ Some q → is_some (w.opened q) ≡ true
    pub ends : (node : Node K V) → Has w.graph node → ends_plain node.path ≡ true
    pub set : (p : Path) (vs : List V) → w.set p ≡ Some vs → (node : Node K V) × Has w.graph node × (node.path ≡ p) × (m.rows.role node.kind ≢ Zone) × (map m.sort vs ≡ m.gives node.kind)
    pub opened : (p : Path) (outs : List (Link V)) → w.opened p ≡ Some outs → (zone : Node K V) × Has w.graph zone × (zone.path ≡ p) × (m.rows.role zone.kind ≡ Zone) × LinkSorts m [] w.graph outs (m.gives zone.kind)
    pub leads : (x : Source V) (s : S) → SourceSort m [] w.graph x s → LinkSort m [] w.graph (w.leads x) s
    pub values : (v : V) → w.leads (a_value v) ≡ plain_link (a_value v)
    pub shut : (p : Path) (k : ℕ) → w.opened p ≡ None → w.leads (an_output p k) ≡ plain_link (an_output p k)
    pub tagged : (p q : Path) (vs : List V) (v : V) (t : T) → w.set p ≡ Some vs → Has vs v → m.tag v q ≡ Some t → finished w q ≡ true
    pub agree : (p q : Path) (us vs : List V) (u v : V) → w.set p ≡ Some us → w.set q ≡ Some vs → Has us u → Has vs v → Agree m u v
    pub done : (p : Path) → finished w p ≡ true → IsDone w p
    pub set_done : (p : Path) (vs : List V) → w.set p ≡ Some vs → finished w p ≡ true
    pub opened_done : (p : Path) (outs : List (Link V)) → w.opened p ≡ Some outs → finished w p ≡ true
    pub answered : (p : Path) (a : Answer) → w.answers p ≡ Some a → (node : Node K V) × Has w.graph node × (node.path ≡ p) × (m.rows.role node.kind ≡ File)

  -- ---- what is read

  -- the value is one that is set, or is given
  abbrev pub ComesFrom : World K V → V → Type 0
  ComesFrom w u = HasNoTags m u ⊎ ((p : Path) × (vs : List V) × (v : V) × (w.set p ≡ Some vs) × Has vs v × ((q : Path) → m.tag u q ≡ m.tag v q))

  source_read : (w : World K V) → Shape w → (y : Source V) (t : S) → SourceSort m [] w.graph y t → is_there w y ≡ true → (m.sort (source_value m (set_outputs m w) y) ≡ t) × ComesFrom w (source_value m (set_outputs m w) y)
  source_read w g (a_value v) t h e = (h.0, inl h.1)
  source_read w g (an_item i) t h e = cc
  source_read w g (an_output p k) t h e =
      let vs : (vs : List V) × (w.set p ≡ Some vs) = held (w.set p) e in
      let y : (node : Node K V) × Has w.graph node × (node.path ≡ p) × (m.rows.role node.kind ≢ Zone) × (map m.sort vs.0 ≡ m.gives node.kind) = g.set p vs.0 vs.1 in
      let same : h.0 ≡ y.0 = known_by (λ n. n.path) w.graph g.differ h.0 y.0 h.1 y.1 (h.2 ∙ sym y.2) in
      let at : slice_get (map m.sort vs.0) k ≡ Some t = ap (λ ss. slice_get ss k) y.4 ∙ ap (λ n. slice_get (m.gives n.kind) k) (sym same) ∙ h.3 in
      let v : (v : V) × (slice_get vs.0 k ≡ Some v) × (m.sort v ≡ t) = image_at m.sort vs.0 k t at in
      let is : source_value m (set_outputs m w) (an_output p k) ≡ v.0 = ap (λ o. slice_index_or (unwrap_or o []) k m.nothing) vs.1 ∙ index_at vs.0 k m.nothing v.0 v.1 in
      (ap m.sort is ∙ v.2, inr (p, vs.0, v.0, vs.1, member_at vs.0 k v.0 v.1, λ q. ap (λ u. m.tag u q) is))

  same_origin : (w : World K V) (u v : V) → ((q : Path) → m.tag u q ≡ m.tag v q) → ComesFrom w v → ComesFrom w u
  same_origin w u v same (inl none) = inl (λ q. same q ∙ none q)
  same_origin w u v same (inr t) = inr (t.0, t.1, t.2, t.3, t.4, λ q. same q ∙ t.5 q)

  -- a link that is set has a value of its sort
  pub link_read : (w : World K V) → Shape w → (link : Link V) (s : S) → LinkSort m [] w.graph link s → is_set w link.from ≡ true → (m.sort (reads m w link) ≡ s) × ComesFrom w (reads m w link)
  link_read w g link s h e =
      let l : LinkSort m [] w.graph (w.leads link.from) h.0 = g.leads link.from h.0 h.1 in
      let r : (m.sort (source_value m (set_outputs m w) (w.leads link.from).from) ≡ l.0) × ComesFrom w (source_value m (set_outputs m w) (w.leads link.from).from) = source_read w g (w.leads link.from).from l.0 l.1 e in
      let shift : shifted m l.0 ((w.leads link.from).through ++ link.through) ≡ Some s = shifted_joined m l.0 h.0 s (w.leads link.from).through link.through l.2 h.2 in
      let shift' : shifted m (m.sort (source_value m (set_outputs m w) (w.leads link.from).from)) ((w.leads link.from).through ++ link.through) ≡ Some s =
      subst (λ t. shifted m t ((w.leads link.from).through ++ link.through) ≡ Some s) (sym r.0) shift in (
        converted_sort m lawful (source_value m (set_outputs m w) (w.leads link.from).from) s ((w.leads link.from).through ++ link.through) shift',
        same_origin w (reads m w link) (source_value m (set_outputs m w) (w.leads link.from).from)
            (λ q. converted_tags m lawful (source_value m (set_outputs m w) (w.leads link.from).from) s ((w.leads link.from).through ++ link.through) shift' q) r.1,
      )

  -- ---- a node whose inputs are set

  -- all that its run reads is set
  abbrev pub IsFed : World K V → Node K V → Type 0
  IsFed w node = (link : Link V) → Has (links_read m (reads m w) node) link → is_set w link.from ≡ true

  abbrev pub inputs_of : World K V → Node K V → List V
  inputs_of w node = map (reads m w) (links_read m (reads m w) node)

  -- the choice goes by the first input
  choice_same : (w : World K V) (kind : K) (role : Role) (links : List (Link V)) (sorts : List S)
      → selected role (m.rows.choice kind (condition m (reads m w) links)) sorts
      ≡ selected role (m.rows.choice kind (first_of m (map (reads m w) (selected role (m.rows.choice kind (condition m (reads m w) links)) links)))) sorts
  choice_same w kind Plain links sorts = refl
  choice_same w kind File links sorts = refl
  choice_same w kind Zone links sorts = refl
  choice_same w kind Switch [] sorts = refl
  choice_same w kind Switch (link ∷ links) sorts = refl

  pub inputs_fit : (w : World K V) → Shape w → (node : Node K V) → Has w.graph node → IsFed w node → (f : NodeFits m [] w.graph node)
      → map m.sort (inputs_of w node) ≡ selected (m.rows.role node.kind) (m.rows.choice node.kind (first_of m (inputs_of w node))) f.sorts
  inputs_fit w g node h fed f =
      let choice : Choice = choice_of m (reads m w) node in
      let beside : Beside (LinkSort m [] w.graph) (selected (m.rows.role node.kind) (choice_of m (reads m w) node) node.links) (selected (m.rows.role node.kind) (choice_of m (reads m w) node) f.sorts) =
      beside_selected (LinkSort m [] w.graph) (m.rows.role node.kind) (choice_of m (reads m w) node) node.links f.sorts (links_beside m [] w.graph node.links f.sorts f.links) in
      map_map m.sort (reads m w) (links_read m (reads m w) node)
      ∙ beside_equal (λ link. m.sort (reads m w link)) (LinkSort m [] w.graph) (links_read m (reads m w) node) (selected (m.rows.role node.kind) (choice_of m (reads m w) node) f.sorts) beside
      (λ link s has sort. (link_read w g link s sort (fed link has)).0)
      ∙ choice_same w node.kind (m.rows.role node.kind) node.links f.sorts

  input_from : (w : World K V) → Shape w → (node : Node K V) → Has w.graph node → IsFed w node → (u : V) → Has (inputs_of w node) u → ComesFrom w u
  input_from w g node h fed u has =
      let f : NodeFits m [] w.graph node = g.fit node h in
      let link : (link : Link V) × Has (links_read m (reads m w) node) link × (u ≡ reads m w link) = image_of (reads m w) (links_read m (reads m w) node) u has in
      let s : (s : S) × LinkSort m [] w.graph link.0 s =
      beside_of (LinkSort m [] w.graph) node.links f.sorts (links_beside m [] w.graph node.links f.sorts f.links) link.0
      (selected_from (m.rows.role node.kind) (choice_of m (reads m w) node) node.links link.0 link.1) in
      subst (ComesFrom w) (sym link.2) (link_read w g link.0 s.0 s.1 (fed link.0 link.1)).1

  both_agree : (w : World K V) → Shape w → (u v : V) → ComesFrom w u → ComesFrom w v → Agree m u v
  both_agree w g u v (inl none) b p s t e f = absurd (not_both (none p) e)
  both_agree w g u v (inr a) (inl none) p s t e f = absurd (not_both (none p) f)
  both_agree w g u v (inr a) (inr b) p s t e f = g.agree a.0 b.0 a.1 b.1 a.2 b.2 a.3 b.3 a.4 b.4 p s t (sym (a.5 p) ∙ e) (sym (b.5 p) ∙ f)

  -- a tag of an input names a node that has finished
  pub input_tag : (w : World K V) → Shape w → (u : V) → ComesFrom w u → (p : Path) (t : T) → m.tag u p ≡ Some t → finished w p ≡ true
  input_tag w g u (inl none) p t e = absurd (not_both (none p) e)
  input_tag w g u (inr a) p t e = g.tagged a.0 p a.1 a.2 t a.3 a.4 (sym (a.5 p) ∙ e)

  no_tag : (w : World K V) → Shape w → (u : V) → ComesFrom w u → (p : Path) → finished w p ≡ false → (o : Option T) → m.tag u p ≡ o → o ≡ None
  no_tag w g u from p not None e = refl
  no_tag w g u from p not (Some t) e = let bad : true ≡ false = sym (input_tag w g u from p t e) ∙ not in cc

  pub can_run : (w : World K V) → Shape w → (node : Node K V) → Has w.graph node → IsFed w node → finished w node.path ≡ false → (answer : Option Answer) → is_some answer ≡ is_file (m.rows.role node.kind) → CanRun m node.path node.kind (inputs_of w node) answer
  can_run w g node h fed not answer is =
      let f : NodeFits m [] w.graph node = g.fit node h in
      record {
        sorts = f.sorts;
        fits = f.kind;
        are = inputs_fit w g node h fed f;
        agree = λ u v u_in v_in. both_agree w g u v (input_from w g node h fed u u_in) (input_from w g node h fed v v_in);
        not_own = λ v v_in. no_tag w g v (input_from w g node h fed v v_in) node.path not (m.tag v node.path) refl;
        answered = is;
      }

  -- ---- the beginning

  pub shape_start : CanStart m task → Shape (first_world m task)
  shape_start c = record {
    fit = λ node h. each_fits m [] [] task.nodes c.fit node h;
    roots = c.roots;
    differ = c.differ;
    turns = λ node q h e. absurd (not_both (no_zone node.path (c.no_turns node h)) e);
    ends = c.ends;
    set = λ p vs e. cc;
    opened = λ p outs e. cc;
    leads = λ x s h. (s, h, refl);
    values = λ v. refl;
    shut = λ p k e. refl;
    tagged = λ p q vs v t e. cc;
    agree = λ p q us vs u v e. cc;
    done = λ p e. cc;
    set_done = λ p vs e. cc;
    opened_done = λ p outs e. cc;
    answered = λ p a e. cc;
  }

  -- ---- a node's outputs are set

  -- what is not finished is neither set nor opened
  pub not_set : (w : World K V) → Shape w → (p : Path) → finished w p ≡ false → (o : Option (List V)) → w.set p ≡ o → w.set p ≡ None
  not_set w g p not None e = e
  not_set w g p not (Some vs) e = let bad : true ≡ false = sym (g.set_done p vs e) ∙ not in cc

  pub not_opened : (w : World K V) → Shape w → (p : Path) → finished w p ≡ false → (o : Option (List (Link V))) → w.opened p ≡ o → w.opened p ≡ None
  not_opened w g p not None e = e
  not_opened w g p not (Some outs) e = let bad : true ≡ false = sym (g.opened_done p outs e) ∙ not in cc

  module _ (w : World K V) (g : Shape w) (node : Node K V) (h : Has w.graph node) (fed : IsFed w node) (not : finished w node.path ≡ false) (plain : m.rows.role node.kind ≢ Zone) (done : Done V) (well : RunsWell m node.path node.kind (inputs_of w node) done) where
    abbrev w' : World K V
    w' = with_outputs m w node done

    still_finished : (p : Path) → finished w p ≡ true → finished w' p ≡ true
    still_finished p e = by_path (λ t. is_some (if t then Some done.warnings else w.warned p) ≡ true) node.path p (λ _. refl) (λ _. e)

    now_finished : (p : Path) → node.path ≡ p → finished w' p ≡ true
    now_finished p same = by_path (λ t. is_some (if t then Some done.warnings else w.warned p) ≡ true) node.path p (λ _. refl) (λ other. absurd (other same))

    -- a tag of what the node gives
    new_tag : (v : V) → Has done.outputs v → (p : Path) (t : T) → m.tag v p ≡ Some t → (p ≡ node.path) ⊎ ((u : V) × ComesFrom w u × (m.tag u p ≡ Some t))
    new_tag v v_in p t e = elim (well.tags v v_in p t e) [ inl own ↦ inl own | inr x ↦ inr (x.0, input_from w g node h fed x.0 x.1, x.2) ]

    -- what the node gives agrees with what was set before
    agree_old : (u v : V) (q : Path) (vs : List V) → Has done.outputs u → w.set q ≡ Some vs → Has vs v → Agree m u v
    agree_old u v q vs u_in e v_in p s t a b = elim (new_tag u u_in p s a) [
      | inl own ↦ let bad : true ≡ false = sym (g.tagged q p vs v t e v_in b) ∙ ap (finished w) own ∙ not in cc
      | inr x ↦ both_agree w g x.0 v x.1 (inr (q, vs, v, e, v_in, λ r. refl)) p s t x.2 b
    ]

    abbrev IsSetBy : Path → List V → Type 0
    IsSetBy p vs = (node.path ≡ p) × (done.outputs ≡ vs) ⊎ (node.path ≢ p) × (w.set p ≡ Some vs)

    set_by : (p : Path) (vs : List V) → w'.set p ≡ Some vs → IsSetBy p vs
    set_by p vs e = entry_is node.path done.outputs w.set p vs e

    turned : {u v : V} → Agree m v u → Agree m u v
    turned a p s t e f = sym (a p t s f e)

    agree_new : (p q : Path) (us vs : List V) (u v : V) → IsSetBy p us → IsSetBy q vs → Has us u → Has vs v → Agree m u v
    agree_new p q us vs u v (inl a) (inl b) u_in v_in = well.agree u v (subst (λ xs. Has xs u) (sym a.1) u_in) (subst (λ xs. Has xs v) (sym b.1) v_in)
    agree_new p q us vs u v (inl a) (inr b) u_in v_in = agree_old u v q vs (subst (λ xs. Has xs u) (sym a.1) u_in) b.1 v_in
    agree_new p q us vs u v (inr a) (inl b) u_in v_in = turned {u = u} {v = v} (agree_old v u p us (subst (λ xs. Has xs v) (sym b.1) v_in) a.1 u_in)
    agree_new p q us vs u v (inr a) (inr b) u_in v_in = g.agree p q us vs u v a.1 b.1 u_in v_in

    tagged_new : (p q : Path) (vs : List V) (v : V) (t : T) → IsSetBy p vs → Has vs v → m.tag v q ≡ Some t → finished w' q ≡ true
    tagged_new p q vs v t (inl a) v_in e = elim (new_tag v (subst (λ xs. Has xs v) (sym a.1) v_in) q t e) [
      | inl own ↦ now_finished q (sym own)
      | inr x ↦ still_finished q (input_tag w g x.0 x.1 q t x.2)
    ]
    tagged_new p q vs v t (inr a) v_in e = still_finished q (g.tagged p q vs v t a.1 v_in e)

    still_set : (p : Path) → is_some (w.set p) ≡ true → is_some (w'.set p) ≡ true
    still_set p e = by_path (λ t. is_some (if t then Some done.outputs else w.set p) ≡ true) node.path p (λ _. refl) (λ _. e)

    done_new : (p : Path) → finished w' p ≡ true → IsDone w' p
    done_new p e =
        by_path (λ t. is_some (if t then Some done.warnings else w.warned p) ≡ true → IsDone w' p) node.path p
        (λ same _. (node, h, same, λ _. by_path (λ t. is_some (if t then Some done.outputs else w.set p) ≡ true) node.path p (λ _. refl) (λ other. absurd (other same)), λ zone. absurd (plain zone)))
        (λ other old. let d : IsDone w p = g.done p old in (d.0, d.1, d.2, λ r. still_set p (d.3 r), d.4))
        e

    pub shape_outputs : Shape w'
    shape_outputs = record {
      fit = g.fit;
      roots = g.roots;
      differ = g.differ;
      turns = g.turns;
      ends = g.ends;
      set = λ p vs e. elim (set_by p vs e) [ inl a ↦ (node, h, a.0, plain, ap (map m.sort) (sym a.1) ∙ well.sorts plain) | inr a ↦ g.set p vs a.1 ];
      opened = g.opened;
      leads = g.leads;
      values = g.values;
      shut = g.shut;
      tagged = λ p q vs v t e v_in tag. tagged_new p q vs v t (set_by p vs e) v_in tag;
      agree = λ p q us vs u v e f u_in v_in. agree_new p q us vs u v (set_by p us e) (set_by q vs f) u_in v_in;
      done = done_new;
      set_done = λ p vs e. elim (set_by p vs e) [ inl a ↦ now_finished p a.0 | inr a ↦ still_finished p (g.set_done p vs a.1) ];
      opened_done = λ p outs e. still_finished p (g.opened_done p outs e);
      answered = g.answered;
    }

  -- ---- an import gets its answer

  pub shape_answer : (w : World K V) → Shape w → (node : Node K V) → Has w.graph node → m.rows.role node.kind ≡ File → (a : Answer) → Shape (record w { answers = with_entry node.path a w.answers })
  shape_answer w g node h file a = record {
    fit = g.fit;
    roots = g.roots;
    differ = g.differ;
    turns = g.turns;
    ends = g.ends;
    set = g.set;
    opened = g.opened;
    leads = g.leads;
    values = g.values;
    shut = g.shut;
    tagged = g.tagged;
    agree = g.agree;
    done = g.done;
    set_done = g.set_done;
    opened_done = g.opened_done;
    answered = λ p b e. elim (entry_is node.path a w.answers p b e) [ inl s ↦ (node, h, s.0, file) | inr s ↦ g.answered p b s.1 ];
  }

  -- ---- a zone is opened

  module _ (w : World K V) (g : Shape w) (zone : Node K V) (h : Has w.graph zone) (not : finished w zone.path ≡ false) (role : m.rows.role zone.kind ≡ Zone) (opened : Opened K V) (well : OpensWell m zone.path zone.kind opened) (warnings : List Warning) where
    abbrev turns : List (Node K V)
    turns = map (outer_node m zone) opened.nodes

    abbrev outs : List (Link V)
    outs = map (outer_link m zone) opened.outputs

    abbrev v' : World K V
    v' = with_turns m w zone turns outs warnings

    shut_before : w.opened zone.path ≡ None
    shut_before = not_opened w g zone.path not (w.opened zone.path) refl

    stays : (node : Node K V) → Has w.graph node → Has v'.graph node
    stays node k = has_first w.graph turns node k

    -- a node of a turn is new
    turn_zone : (node : Node K V) → Has turns node → zone_of node.path ≡ Some zone.path
    turn_zone node k =
        let x : (x : Node K V) × Has opened.nodes x × (node ≡ outer_node m zone x) = image_of (outer_node m zone) opened.nodes node k in
        ap (λ n. zone_of n.path) x.2 ∙ well.in_turns x.0 x.1

    pub apart : (a b : Node K V) → Has w.graph a → Has turns b → a.path ≡ b.path → ⊥
    apart a b a_in b_in same =
        let bad : true ≡ false = sym (g.turns a zone.path a_in (ap zone_of same ∙ turn_zone b b_in)) ∙ ap is_some shut_before in
        cc

    turn_paths : paths_of turns ≡ paths_of opened.nodes
    turn_paths = map_map (λ n. n.path) (outer_node m zone) opened.nodes

    differ_new : AllDiffer (paths_of v'.graph)
    differ_new =
        subst AllDiffer (sym (map_append (λ n. n.path) w.graph turns))
        (differ_joined (paths_of w.graph) (paths_of turns) g.differ (subst AllDiffer (sym turn_paths) well.differ)
        (λ p a b.
        let x : (x : Node K V) × Has w.graph x × (p ≡ x.path) = image_of (λ n. n.path) w.graph p a in
        let y : (y : Node K V) × Has turns y × (p ≡ y.path) = image_of (λ n. n.path) turns p b in
        apart x.0 y.0 x.1 y.1 (sym x.2 ∙ y.2)))

    still_open : (q : Path) → is_some (w.opened q) ≡ true → is_some (v'.opened q) ≡ true
    still_open q e = by_path (λ t. is_some (if t then Some outs else w.opened q) ≡ true) zone.path q (λ _. refl) (λ _. e)

    turns_new : (node : Node K V) (q : Path) → Has w.graph node ⊎ Has turns node → zone_of node.path ≡ Some q → is_some (v'.opened q) ≡ true
    turns_new node q (inl k) e = still_open q (g.turns node q k e)
    turns_new node q (inr k) e =
        let same : zone.path ≡ q = some_same (sym (turn_zone node k) ∙ e) in
        by_path (λ t. is_some (if t then Some outs else w.opened q) ≡ true) zone.path q (λ _. refl) (λ other. absurd (other same))

    pub outs_sorts : LinkSorts m [] v'.graph outs (m.gives zone.kind)
    outs_sorts = outer_link_sorts m w.graph zone role (g.fit zone h) opened.nodes opened.outputs (m.gives zone.kind) well.outputs

    fit_new : (node : Node K V) → Has w.graph node ⊎ Has turns node → NodeFits m [] v'.graph node
    fit_new node (inl k) = more_fits m [] w.graph v'.graph stays node (g.fit node k)
    fit_new node (inr k) =
        let x : (x : Node K V) × Has opened.nodes x × (node ≡ outer_node m zone x) = image_of (outer_node m zone) opened.nodes node k in
        subst (NodeFits m [] v'.graph) (sym x.2) (outer_node_fits m w.graph zone role (g.fit zone h) opened.nodes x.0 (each_fits m (m.gives zone.kind) [] opened.nodes well.fit x.0 x.1))

    -- a node of a turn isn't opened, so what leads to it leads nowhere else yet
    pub turn_shut : (node : Node K V) → Has turns node → (o : Option (List (Link V))) → w.opened node.path ≡ o → w.opened node.path ≡ None
    turn_shut node k None e = e
    turn_shut node k (Some os) e =
        let z : (z : Node K V) × Has w.graph z × (z.path ≡ node.path) × (m.rows.role z.kind ≡ Zone) × LinkSorts m [] w.graph os (m.gives z.kind) = g.opened node.path os e in
        absurd (apart z.0 node z.1 k z.2)

    -- where sources led before, they did so with their sorts
    led_before : (x : Source V) (s : S) → SourceSort m [] v'.graph x s → LinkSort m [] v'.graph (w.leads x) s
    led_before (a_value v) s k = subst (λ l. LinkSort m [] v'.graph l s) (sym (g.values v)) (s, k, refl)
    led_before (an_item i) s k = cc
    led_before (an_output p j) s k = by_side (has_either w.graph turns k.0 k.1)
      where
        by_side : Has w.graph k.0 ⊎ Has turns k.0 → LinkSort m [] v'.graph (w.leads (an_output p j)) s
        by_side (inl a) = more_link m [] w.graph v'.graph stays (w.leads (an_output p j)) s (g.leads (an_output p j) s (k.0, a, k.2, k.3))
        by_side (inr b) =
            subst (λ l. LinkSort m [] v'.graph l s) (sym (g.shut p j (subst (λ q. w.opened q ≡ None) k.2 (turn_shut k.0 b (w.opened k.0.path) refl)))) (s, k, refl)

    -- the zone's outputs lead on to links of their sorts
    result_sort : (k : ℕ) (s : S) → slice_get (m.gives zone.kind) k ≡ Some s → LinkSort m [] v'.graph (link_now w (slice_index_or outs k (plain_link (a_value m.nothing)))) s
    result_sort k s at =
        let l : (l : Link V) × (slice_get outs k ≡ Some l) × LinkSort m [] v'.graph l s = beside_at (LinkSort m [] v'.graph) outs (m.gives zone.kind) (links_beside m [] v'.graph outs (m.gives zone.kind) outs_sorts) k s at in
        subst (λ x. LinkSort m [] v'.graph (link_now w x) s) (sym (index_at outs k (plain_link (a_value m.nothing)) l.0 l.1))
        (along_sort m v'.graph (w.leads l.0.from) l.2.0 s l.0.through (led_before l.0.from l.2.0 l.2.1) l.2.2)

    led_sort : (link : Link V) (s : S) → LinkSort m [] v'.graph link s → (y : Source V) → link.from ≡ y → LinkSort m [] v'.graph (led_on m w zone.path outs link y) s
    led_sort link s k (a_value v) e = k
    led_sort link s k (an_item i) e = k
    led_sort link s k (an_output p j) e =
        let src : SourceSort m [] v'.graph (an_output p j) k.0 = subst (λ y. SourceSort m [] v'.graph y k.0) e k.1 in
        by_path (λ t. LinkSort m [] v'.graph (if t then along (link_now w (slice_index_or outs j (plain_link (a_value m.nothing)))) link.through else link) s) zone.path p
        (λ same.
        let is : src.0 ≡ zone = known_by (λ n. n.path) v'.graph differ_new src.0 zone src.1 (stays zone h) (src.2 ∙ sym same) in
        along_sort m v'.graph (link_now w (slice_index_or outs j (plain_link (a_value m.nothing)))) k.0 s link.through
        (result_sort j k.0 (ap (λ n. slice_get (m.gives n.kind) j) (sym is) ∙ src.3)) k.2)
        (λ _. k)

    shut_new : (p : Path) (k : ℕ) → v'.opened p ≡ None → v'.leads (an_output p k) ≡ plain_link (an_output p k)
    shut_new p k e =
        by_path (λ t. (if t then Some outs else w.opened p) ≡ None → led_on m w zone.path outs (w.leads (an_output p k)) (w.leads (an_output p k)).from ≡ plain_link (an_output p k)) zone.path p
        (λ _ x. let bad : Some outs ≡ None = x in cc)
        (λ other x.
        ap (λ l. led_on m w zone.path outs l l.from) (g.shut p k x)
        ∙ by_path (λ t. (if t then along (link_now w (slice_index_or outs k (plain_link (a_value m.nothing)))) [] else plain_link (an_output p k)) ≡ plain_link (an_output p k)) zone.path p (λ same. absurd (other same)) (λ _. refl))
        e

    finished_new : (p : Path) → finished w p ≡ true → finished v' p ≡ true
    finished_new p e = by_path (λ t. is_some (if t then Some warnings else w.warned p) ≡ true) zone.path p (λ _. refl) (λ _. e)

    done_opened : (p : Path) → finished v' p ≡ true → IsDone v' p
    done_opened p e =
        by_path (λ t. is_some (if t then Some warnings else w.warned p) ≡ true → IsDone v' p) zone.path p
        (λ same _. (zone, stays zone h, same, λ plain. absurd (plain role), λ _. by_path (λ t. is_some (if t then Some outs else w.opened p) ≡ true) zone.path p (λ _. refl) (λ other. absurd (other same))))
        (λ other old. let d : IsDone w p = g.done p old in (d.0, stays d.0 d.1, d.2, d.3, λ r. still_open p (d.4 r)))
        e

    pub shape_turns : Shape v'
    shape_turns = record {
      fit = λ node k. fit_new node (has_either w.graph turns node k);
      roots = λ link k. let r : (s : S) × LinkSort m [] w.graph link s = g.roots link k in (r.0, more_link m [] w.graph v'.graph stays link r.0 r.1);
      differ = differ_new;
      turns = λ node q k e. turns_new node q (has_either w.graph turns node k) e;
      ends = λ node k. elim (has_either w.graph turns node k) [ inl a ↦ g.ends node a | inr b ↦ turn_ends node.path zone.path (turn_zone node b) ];
      set = λ p vs e.
          let s : (node : Node K V) × Has w.graph node × (node.path ≡ p) × (m.rows.role node.kind ≢ Zone) × (map m.sort vs ≡ m.gives node.kind) = g.set p vs e in
          (s.0, stays s.0 s.1, s.2, s.3, s.4);
      opened = λ p os e. elim (entry_is zone.path outs w.opened p os e) [
        | inl s ↦ (zone, stays zone h, s.0, role, subst (λ xs. LinkSorts m [] v'.graph xs (m.gives zone.kind)) s.1 outs_sorts)
        | inr s ↦
            let z : (z : Node K V) × Has w.graph z × (z.path ≡ p) × (m.rows.role z.kind ≡ Zone) × LinkSorts m [] w.graph os (m.gives z.kind) = g.opened p os s.1 in
            (z.0, stays z.0 z.1, z.2, z.3, more_links m [] w.graph v'.graph stays os (m.gives z.0.kind) z.4)
      ];
      leads = λ x s k. led_sort (w.leads x) s (led_before x s k) (w.leads x).from refl;
      values = λ v. ap (λ l. led_on m w zone.path outs l l.from) (g.values v);
      shut = shut_new;
      tagged = λ p q vs v t e v_in tag. finished_new q (g.tagged p q vs v t e v_in tag);
      agree = g.agree;
      done = done_opened;
      set_done = λ p vs e. finished_new p (g.set_done p vs e);
      opened_done = λ p os e. elim (entry_is zone.path outs w.opened p os e) [
        | inl s ↦ by_path (λ t. is_some (if t then Some warnings else w.warned p) ≡ true) zone.path p (λ _. refl) (λ other. absurd (other s.0))
        | inr s ↦ finished_new p (g.opened_done p os s.1)
      ];
      answered = λ p a e. let n : (node : Node K V) × Has w.graph node × (node.path ≡ p) × (m.rows.role node.kind ≡ File) = g.answered p a e in (n.0, stays n.0 n.1, n.2, n.3);
    }
