-- Where nothing may happen any more, all that is demanded is set, and the events are counted.
use Rattle.std.proofs.Common.{◌≡◌, ◌≢◌, ◌⊎◌, inl, inr, ◌<◌, ◌≤◌, ◌+◌, ℕ, zero, suc, length, List, [], ◌∷◌, Option, Some, None, Bool, true, false, refl, sym, ◌∙◌, ap, subst, arith}
use Rattle.std.specs.Prelude.{is_some, if◌then◌else◌, slice_get}
use Rattle.gn_node_set.specs.Paths.{Path}
use Rattle.gn_node_set.specs.Meanings.{Has, Source, a_value, an_item, an_output, Link, Node, Role, Plain, Switch, File, Zone, Answer, Absent, Meanings, AllDiffer}
use Rattle.gn_exec_laws.specs.Graphs.{Task, link_value, links_read, result_links, Answers, Unfolded, Solves, Brought, Wanted, Demanded, ListsDemand, condition}
use Rattle.gn_exec_laws.specs.Fits.{is_file, SourceSort, LinkSort, LinkSorts, CanStart, IsLawful}
use Rattle.gn_exec_laws.specs.Machine.{Event, Take, Finish, Serve, Refuse, World, finished, is_there, is_set, finish_by_role, finish_node, serve_node, world, sure, Reached, Used, IsRun, IsServed, condition_set, sure_as, possible_as, possible, reads}
use Rattle.gn_exec_laws.specs.Claims.{takes, finishes, serves, IsOver, with_node, numbered, taken_nodes, imports_of, EndsWell}
use Rattle.gn_node_set.proofs.Lists.{some_same, held, not_both, member_at, place_of, known_by, one_place}
use Rattle.gn_node_set.proofs.Paths.{entry_here, entry_is}
use Rattle.gn_exec_laws.proofs.Sorts.{beside_at, links_beside}
use Rattle.gn_exec_laws.proofs.Shapes.{IsDone}
use Rattle.gn_exec_laws.proofs.Kept.{Grows, Kept, kept, IsTakenWell, IsFinished, WasFinished, sure_read, number_of, used_stays}
use Rattle.gn_exec_laws.proofs.Counts.{was_taken, was_finished, takes_differ, finishes_differ, by_taker, event_grows}
use Rattle.gn_exec_laws.proofs.Order.{Ordered, ordered}
use Rattle.gn_exec_laws.proofs.Right.{Right, right, one_there, used_demanded, read_by_right}
use Rattle.gn_exec_laws.proofs.Waits.{find_take, find_finish, sure_linked, reached_sort, node_there}

-- ---- lists with the same members

module _ {A : Type 0} where
  -- a list without one of its members
  rest_of : (ys : List A) (x : A) → Has ys x → (zs : List A) × (length ys ≡ suc (length zs)) × ((y : A) → Has ys y → y ≢ x → Has zs y)
  rest_of [] x h = absurd h
  rest_of (z ∷ ys) x (inl e) = (ys, refl, λ y k other. elim k [ inl q ↦ absurd (other (q ∙ sym e)) | inr j ↦ j ])
  rest_of (z ∷ ys) x (inr h) =
      let t : (zs : List A) × (length ys ≡ suc (length zs)) × ((y : A) → Has ys y → y ≢ x → Has zs y) = rest_of ys x h in
      (z ∷ t.0, ap suc t.1, λ y k other. elim k [ inl q ↦ inl q | inr j ↦ inr (t.2 y j other) ])

  pub at_most_as_long : (xs ys : List A) → AllDiffer xs → ((x : A) → Has xs x → Has ys x) → length xs ≤ length ys
  at_most_as_long [] ys d sub = omega arith
  at_most_as_long (x ∷ xs) ys d sub =
      let t : (zs : List A) × (length ys ≡ suc (length zs)) × ((y : A) → Has ys y → y ≢ x → Has zs y) = rest_of ys x (sub x (inl refl)) in
      let less : length xs ≤ length t.0 = at_most_as_long xs t.0 d.1 (λ y h. t.2 y (sub y (inr h)) (λ e. d.0 (subst (Has xs) e h))) in
      let same : length ys ≡ suc (length t.0) = t.1 in
      omega arith

  pub as_long : (xs ys : List A) → AllDiffer xs → AllDiffer ys → ((x : A) → Has xs x → Has ys x) → ((x : A) → Has ys x → Has xs x) → length xs ≡ length ys
  as_long xs ys a b f g = let l : length xs ≤ length ys = at_most_as_long xs ys a f in let r : length ys ≤ length xs = at_most_as_long ys xs b g in omega arith

-- ---- events by their kinds

pub kinds_of_events : (es : List Event) → ((v : ℕ) → ¬ Has es (Refuse v)) → length es ≡ length (takes es) + length (finishes es) + length (serves es)
kinds_of_events [] none = refl
kinds_of_events (Take v n ∷ es) none = omega (arith, kinds_of_events es (λ u h. none u (inr h)))
kinds_of_events (Finish v n ∷ es) none = omega (arith, kinds_of_events es (λ u h. none u (inr h)))
kinds_of_events (Serve n a ∷ es) none = omega (arith, kinds_of_events es (λ u h. none u (inr h)))
kinds_of_events (Refuse v ∷ es) none = absurd (none v (inl refl))

pub taken_number : (es : List Event) (v n : ℕ) → Has es (Take v n) → Has (takes es) n
unfolding number_of
taken_number [] v n h = absurd h
taken_number (Take u k ∷ es) v n (inl q) = inl (ap number_of q)
taken_number (Take u k ∷ es) v n (inr h) = inr (taken_number es v n h)
taken_number (Finish u k ∷ es) v n (inl q) = cc
taken_number (Finish u k ∷ es) v n (inr h) = taken_number es v n h
taken_number (Serve k a ∷ es) v n (inl q) = cc
taken_number (Serve k a ∷ es) v n (inr h) = taken_number es v n h
taken_number (Refuse u ∷ es) v n (inl q) = cc
taken_number (Refuse u ∷ es) v n (inr h) = taken_number es v n h

finished_number : (es : List Event) (v n : ℕ) → Has es (Finish v n) → Has (finishes es) n
unfolding number_of
finished_number [] v n h = absurd h
finished_number (Finish u k ∷ es) v n (inl q) = inl (ap number_of q)
finished_number (Finish u k ∷ es) v n (inr h) = inr (finished_number es v n h)
finished_number (Take u k ∷ es) v n (inl q) = cc
finished_number (Take u k ∷ es) v n (inr h) = finished_number es v n h
finished_number (Serve k a ∷ es) v n (inl q) = cc
finished_number (Serve k a ∷ es) v n (inr h) = finished_number es v n h
finished_number (Refuse u ∷ es) v n (inl q) = cc
finished_number (Refuse u ∷ es) v n (inr h) = finished_number es v n h

module _ {K V S T : Type 0} (m : Meanings K V S T) (lawful : IsLawful m) (task : Task K V) where
  abbrev W : List Event → World K V
  W es = world m task es

  -- ---- nodes by their numbers

  pub numbered_number : (graph : List (Node K V)) (ns : List ℕ) (node : Node K V) → Has (numbered m graph ns) node → (n : ℕ) × Has ns n × (slice_get graph n ≡ Some node)
  numbered_number graph [] node h = absurd h
  numbered_number graph (n ∷ ns) node h = by_node (slice_get graph n) refl h (numbered_number graph ns node)
    where
      by_node : (o : Option (Node K V)) → slice_get graph n ≡ o → Has (with_node m o (numbered m graph ns)) node → (Has (numbered m graph ns) node → (k : ℕ) × Has ns k × (slice_get graph k ≡ Some node)) → (k : ℕ) × Has (n ∷ ns) k × (slice_get graph k ≡ Some node)
      by_node None e k rest = let t : (k : ℕ) × Has ns k × (slice_get graph k ≡ Some node) = rest k in (t.0, inr t.1, t.2)
      by_node (Some x) e (inl q) rest = (n, inl refl, e ∙ ap Some (sym q))
      by_node (Some x) e (inr k) rest = let t : (k : ℕ) × Has ns k × (slice_get graph k ≡ Some node) = rest k in (t.0, inr t.1, t.2)

  number_numbered : (graph : List (Node K V)) (ns : List ℕ) (n : ℕ) (node : Node K V) → Has ns n → slice_get graph n ≡ Some node → Has (numbered m graph ns) node
  number_numbered graph [] n node h at = absurd h
  number_numbered graph (k ∷ ns) n node (inl q) at = subst (λ o. Has (with_node m o (numbered m graph ns)) node) (sym (ap (slice_get graph) (sym q) ∙ at)) (inl refl)
  number_numbered graph (k ∷ ns) n node (inr h) at = by_node (slice_get graph k) (number_numbered graph ns n node h at)
    where
      by_node : (o : Option (Node K V)) → Has (numbered m graph ns) node → Has (with_node m o (numbered m graph ns)) node
      by_node None rest = rest
      by_node (Some x) rest = inr rest

  module _ (graph : List (Node K V)) (one : (n k : ℕ) (node : Node K V) → slice_get graph n ≡ Some node → slice_get graph k ≡ Some node → n ≡ k) where
    pub numbered_differ : (ns : List ℕ) → AllDiffer ns → AllDiffer (numbered m graph ns)
    numbered_differ [] d = tt
    numbered_differ (n ∷ ns) d = by_node (slice_get graph n) refl (numbered_differ ns d.1)
      where
        by_node : (o : Option (Node K V)) → slice_get graph n ≡ o → AllDiffer (numbered m graph ns) → AllDiffer (with_node m o (numbered m graph ns))
        by_node None e rest = rest
        by_node (Some x) e rest = (
          λ h.
              let t : (k : ℕ) × Has ns k × (slice_get graph k ≡ Some x) = numbered_number graph ns x h in
              d.0 (subst (Has ns) (one t.0 n x t.2 e) t.1),
          rest,
        )

    -- where each number is that of a node, there are as many nodes as numbers
    pub numbered_length : (ns : List ℕ) → ((n : ℕ) → Has ns n → (node : Node K V) × (slice_get graph n ≡ Some node)) → length (numbered m graph ns) ≡ length ns
    numbered_length [] there = refl
    numbered_length (n ∷ ns) there =
        let x : (node : Node K V) × (slice_get graph n ≡ Some node) = there n (inl refl) in
        ap (λ o. length (with_node m o (numbered m graph ns))) x.1 ∙ ap suc (numbered_length ns (λ k h. there k (inr h)))

  -- ---- imports

  import_in : (nodes : List (Node K V)) (node : Node K V) → Has (imports_of m nodes) node → Has nodes node × (is_file (m.rows.role node.kind) ≡ true)
  import_in [] node h = absurd h
  import_in (x ∷ nodes) node h = by_file (is_file (m.rows.role x.kind)) refl h (import_in nodes node)
    where
      by_file : (b : Bool) → is_file (m.rows.role x.kind) ≡ b → Has (if b then x ∷ imports_of m nodes else imports_of m nodes) node → (Has (imports_of m nodes) node → Has nodes node × (is_file (m.rows.role node.kind) ≡ true)) → Has (x ∷ nodes) node × (is_file (m.rows.role node.kind) ≡ true)
      by_file true e (inl q) rest = (inl q, ap (λ n. is_file (m.rows.role n.kind)) q ∙ e)
      by_file true e (inr k) rest = (inr (rest k).0, (rest k).1)
      by_file false e k rest = (inr (rest k).0, (rest k).1)

  in_imports : (nodes : List (Node K V)) (node : Node K V) → Has nodes node → is_file (m.rows.role node.kind) ≡ true → Has (imports_of m nodes) node
  in_imports [] node h f = absurd h
  in_imports (x ∷ nodes) node (inl q) f = subst (λ b. Has (if b then x ∷ imports_of m nodes else imports_of m nodes) node) (sym (ap (λ n. is_file (m.rows.role n.kind)) (sym q) ∙ f)) (inl q)
  in_imports (x ∷ nodes) node (inr h) f = by_file (is_file (m.rows.role x.kind)) (in_imports nodes node h f)
    where
      by_file : (b : Bool) → Has (imports_of m nodes) node → Has (if b then x ∷ imports_of m nodes else imports_of m nodes) node
      by_file true k = inr k
      by_file false k = k

  imports_differ : (nodes : List (Node K V)) → AllDiffer nodes → AllDiffer (imports_of m nodes)
  imports_differ [] d = tt
  imports_differ (x ∷ nodes) d = by_file (is_file (m.rows.role x.kind)) (imports_differ nodes d.1)
    where
      by_file : (b : Bool) → AllDiffer (imports_of m nodes) → AllDiffer (if b then x ∷ imports_of m nodes else imports_of m nodes)
      by_file true r = (λ h. d.0 (import_in nodes x h).0, r)
      by_file false r = r

  -- ---- imports that are served

  abbrev pub IsServedAt : World K V → ℕ → Type 0
  IsServedAt w n = (node : Node K V) × (slice_get w.graph n ≡ Some node) × (m.rows.role node.kind ≡ File) × ((a : Answer) × (w.answers node.path ≡ Some a)) × Used m task w node

  served_stays : (w v : World K V) → Grows m w v → (n : ℕ) → IsServedAt w n → IsServedAt v n
  served_stays w v grows n t = (t.0, grows.graph n t.0 t.1, t.2, (t.3.0, grows.answers t.0.path t.3.0 t.3.1), used_stays m w v grows task t.0 t.4)

  module _ (c : CanStart m task) where
    served_now : (es : List Event) (n : ℕ) (a : Answer) → IsRun m task (Serve n a ∷ es) → IsServedAt (W (Serve n a ∷ es)) n
    served_now es n a r =
        let node : Node K V = r.0.0.0 in
        let grows : Grows m (W es) (W (Serve n a ∷ es)) = event_grows m lawful task c (Serve n a) es r in (
          r.0.0.0,
          grows.graph n r.0.0.0 r.0.0.1.there,
          r.0.0.1.file,
          (a, subst (λ o. (serve_node m (W es) a o).answers r.0.0.0.path ≡ Some a) (sym r.0.0.1.there) (entry_here r.0.0.0.path a (W es).answers)),
          used_stays m (W es) (W (Serve n a ∷ es)) grows task r.0.0.0 r.0.0.1.used,
        )

    pub served_at : (es : List Event) → IsRun m task es → (n : ℕ) → Has (serves es) n → IsServedAt (W es) n
    served_at [] r n h = absurd h
    served_at (Serve k a ∷ es) r n (inl q) = subst (IsServedAt (W (Serve k a ∷ es))) (sym q) (served_now es k a r)
    served_at (Serve k a ∷ es) r n (inr h) = served_stays (W es) (W (Serve k a ∷ es)) (event_grows m lawful task c (Serve k a) es r) n (served_at es r.1 n h)
    served_at (Take v k ∷ es) r n h = served_stays (W es) (W (Take v k ∷ es)) (event_grows m lawful task c (Take v k) es r) n (served_at es r.1 n h)
    served_at (Finish v k ∷ es) r n h = served_stays (W es) (W (Finish v k ∷ es)) (event_grows m lawful task c (Finish v k) es r) n (served_at es r.1 n h)
    served_at (Refuse v ∷ es) r n h = served_stays (W es) (W (Refuse v ∷ es)) (event_grows m lawful task c (Refuse v) es r) n (served_at es r.1 n h)

    pub serves_differ : (es : List Event) → IsRun m task es → AllDiffer (serves es)
    serves_differ [] r = tt
    serves_differ (Serve n a ∷ es) r = (
      λ h.
          let t : IsServedAt (W es) n = served_at es r.1 n h in
          let same : t.0 ≡ r.0.0.0 = some_same (sym t.1 ∙ r.0.0.1.there) in
          not_both (subst (λ x. (W es).answers x.path ≡ None) (sym same) r.0.0.1.no_answer) t.3.1,
      serves_differ es r.1,
    )
    serves_differ (Take v n ∷ es) r = serves_differ es r.1
    serves_differ (Finish v n ∷ es) r = serves_differ es r.1
    serves_differ (Refuse v ∷ es) r = serves_differ es r.1

    pub finish_tells : (w : World K V) (o : Option (Node K V)) → (finish_node m w o).answers ≡ w.answers
    finish_tells w None = refl
    finish_tells w (Some node) = by_role (m.rows.role node.kind)
      where
        by_role : (role : Role) → (finish_by_role m role w node).answers ≡ w.answers
        by_role Plain = refl
        by_role Switch = refl
        by_role File = refl
        by_role Zone = refl

    abbrev pub WasServed : List Event → World K V → Path → Type 0
    WasServed es w p = (n : ℕ) × (node : Node K V) × Has (serves es) n × (slice_get w.graph n ≡ Some node) × (node.path ≡ p)

    pub was_served : (es : List Event) → IsRun m task es → (p : Path) (a : Answer) → (W es).answers p ≡ Some a → WasServed es (W es) p
    was_served [] r p a e = cc
    was_served (Take v k ∷ es) r p a e = was_served es r.1 p a e
    was_served (Refuse v ∷ es) r p a e = was_served es r.1 p a e
    was_served (Finish v k ∷ es) r p a e =
        let t : WasServed es (W es) p = was_served es r.1 p a (ap (λ f. f p) (sym (finish_tells (W es) (slice_get (W es).graph k))) ∙ e) in
        (t.0, t.1, t.2, (event_grows m lawful task c (Finish v k) es r).graph t.0 t.1 t.3, t.4)
    was_served (Serve k b ∷ es) r p a e =
        let node : Node K V = r.0.0.0 in
        let grows : Grows m (W es) (W (Serve k b ∷ es)) = event_grows m lawful task c (Serve k b) es r in
        elim (entry_is r.0.0.0.path b (W es).answers p a (subst (λ o. (serve_node m (W es) b o).answers p ≡ Some a) r.0.0.1.there e)) [
          | inl s ↦ (k, r.0.0.0, inl refl, grows.graph k r.0.0.0 r.0.0.1.there, s.0)
          | inr s ↦
              let t : WasServed es (W es) p = was_served es r.1 p a s.1 in
              (t.0, t.1, inr t.2, grows.graph t.0 t.1 t.3, t.4)
        ]

    -- ---- the end

    module _ (es : List Event) (r : IsRun m task es) (over : IsOver m task es) where
      abbrev w : World K V
      w = W es

      k : Kept m lawful task es
      k = kept m lawful task c es r

      order : Ordered m lawful task w
      order = ordered m lawful task c es r

      abbrev Reaches : Source V → Type 0
      Reaches = Reached m task w (sure m w)

      -- a used node whose inputs are set is finished
      finished_node : (n : ℕ) (node : Node K V) → slice_get w.graph n ≡ Some node → Used m task w node → ((link : Link V) → Has (sure m w node) link → is_set w link.from ≡ true) → (v : ℕ) × Has es (Finish v n)
      finished_node n node at used inputs = elim (find_finish es n) [ inl t ↦ t | inr open' ↦ absurd (by_take open' (find_take es n)) ]
        where
          by_answer : ((v : ℕ) → ¬ Has es (Take v n)) → (o : Option Answer) → w.answers node.path ≡ o → (role : Role) → m.rows.role node.kind ≡ role → ⊥
          by_answer fresh None e File is = over.no_serve n Absent ((node, record { there = at; used = used; file = is; no_answer = e }), over.none_refused)
          by_answer fresh (Some a) e role is = over.no_take 0 n ((node, record { there = at; used = used; fresh = fresh; inputs = inputs; answered = λ _. (a, e) }), over.none_refused)
          by_answer fresh None e Plain is = over.no_take 0 n ((node, record { there = at; used = used; fresh = fresh; inputs = inputs; answered = λ file. let bad : Plain ≡ File = sym is ∙ file in cc }), over.none_refused)
          by_answer fresh None e Switch is = over.no_take 0 n ((node, record { there = at; used = used; fresh = fresh; inputs = inputs; answered = λ file. let bad : Switch ≡ File = sym is ∙ file in cc }), over.none_refused)
          by_answer fresh None e Zone is = over.no_take 0 n ((node, record { there = at; used = used; fresh = fresh; inputs = inputs; answered = λ file. let bad : Zone ≡ File = sym is ∙ file in cc }), over.none_refused)

          by_take : ((v : ℕ) → ¬ Has es (Finish v n)) → ((v : ℕ) × Has es (Take v n)) ⊎ ((v : ℕ) → ¬ Has es (Take v n)) → ⊥
          by_take open' (inl t) = over.no_finish t.0 n (t.1, open')
          by_take open' (inr fresh) = by_answer fresh (w.answers node.path) refl (m.rows.role node.kind) refl

      height : Source V → ℕ
      height (an_output p j) = suc (order.rank p)
      height _ = 0

      link_height : (node : Node K V) (link : Link V) → Has w.graph node → Has node.links link → (y : Source V) → link.from ≡ y → height y ≤ order.rank node.path
      unfolding height
      link_height node link h has (a_value u) e = omega arith
      link_height node link h has (an_item i) e = omega arith
      link_height node link h has (an_output p j) e = let less : order.rank p < order.rank node.path = order.links node link p j h has e in omega arith

      out_height : (q : Path) (outs : List (Link V)) (link : Link V) → w.opened q ≡ Some outs → Has outs link → (y : Source V) → link.from ≡ y → height y ≤ order.rank q
      unfolding height
      out_height q outs link is has (a_value u) e = omega arith
      out_height q outs link is has (an_item i) e = omega arith
      out_height q outs link is has (an_output p j) e = let less : order.rank p < order.rank q = order.results q outs link p j is has e in omega arith

      one_node : (x y : Node K V) → Has w.graph x → Has w.graph y → x.path ≡ y.path → x ≡ y
      one_node x y h i e = known_by (λ n. n.path) w.graph k.shape.differ x y h i e

      -- only a zone is opened
      plain_shut : (node : Node K V) → Has w.graph node → m.rows.role node.kind ≢ Zone → (o : Option (List (Link V))) → w.opened node.path ≡ o → w.opened node.path ≡ None
      plain_shut node h plain None e = e
      plain_shut node h plain (Some outs) e =
          let z : (z : Node K V) × Has w.graph z × (z.path ≡ node.path) × (m.rows.role z.kind ≡ Zone) × LinkSorts m [] w.graph outs (m.gives z.kind) = k.shape.opened node.path outs e in
          absurd (plain (ap (λ n. m.rows.role n.kind) (sym (one_node z.0 node z.1 h z.2)) ∙ z.3))

      done_node : (node : Node K V) → Has w.graph node → (n : ℕ) → slice_get w.graph n ≡ Some node → (v : ℕ) → Has es (Finish v n) → (m.rows.role node.kind ≢ Zone → is_some (w.set node.path) ≡ true) × (m.rows.role node.kind ≡ Zone → is_some (w.opened node.path) ≡ true)
      done_node node h n at v f =
          let x : IsFinished m lawful task w n = k.finishes v n f in
          let same : x.0 ≡ node = some_same (sym x.1 ∙ at) in
          let d : IsDone m lawful task w node.path = k.shape.done node.path (subst (λ y. finished w y.path ≡ true) same x.2) in
          let is : d.0 ≡ node = one_node d.0 node d.1 h d.2 in
          (λ plain. d.3 (λ zone. plain (ap (λ y. m.rows.role y.kind) (sym is) ∙ zone)), λ zone. d.4 (ap (λ y. m.rows.role y.kind) is ∙ zone))

      -- an output of a finished node is set, where those below it are
      output_set : (node : Node K V) → Has w.graph node → (n : ℕ) → slice_get w.graph n ≡ Some node → (v : ℕ) → Has es (Finish v n) → (j : ℕ) (t : S) → slice_get (m.gives node.kind) j ≡ Some t → Reaches (an_output node.path j)
          → ((y : Source V) → height y ≤ order.rank node.path → Reaches y → is_set w y ≡ true) → (role : Role) → m.rows.role node.kind ≡ role → is_set w (an_output node.path j) ≡ true
      output_set node h n at v f j t gives d below role is = by_role role is
        where
          plain_set : m.rows.role node.kind ≢ Zone → is_set w (an_output node.path j) ≡ true
          plain_set plain = ap (λ l. is_there w l.from) (k.shape.shut node.path j (plain_shut node h plain (w.opened node.path) refl)) ∙ (done_node node h n at v f).0 plain

          zone_set : m.rows.role node.kind ≡ Zone → is_set w (an_output node.path j) ≡ true
          zone_set zone =
              let outs : (outs : List (Link V)) × (w.opened node.path ≡ Some outs) = held (w.opened node.path) ((done_node node h n at v f).1 zone) in
              let z : (z : Node K V) × Has w.graph z × (z.path ≡ node.path) × (m.rows.role z.kind ≡ Zone) × LinkSorts m [] w.graph outs.0 (m.gives z.kind) = k.shape.opened node.path outs.0 outs.1 in
              let same : z.0 ≡ node = one_node z.0 node z.1 h z.2 in
              let link : (link : Link V) × (slice_get outs.0 j ≡ Some link) × LinkSort m [] w.graph link t =
              beside_at (LinkSort m [] w.graph) outs.0 (m.gives z.0.kind) (links_beside m [] w.graph outs.0 (m.gives z.0.kind) z.4) j t (ap (λ y. slice_get (m.gives y.kind) j) same ∙ gives) in
              ap (λ l. is_there w l.from) (order.opens node.path j outs.0 link.0 outs.1 link.1)
              ∙ below link.0.from (out_height node.path outs.0 link.0 outs.1 (member_at outs.0 j link.0 link.1) link.0.from refl) (Reached.a_result node.path j outs.0 link.0 outs.1 d link.1)

          by_role : (role : Role) → m.rows.role node.kind ≡ role → is_set w (an_output node.path j) ≡ true
          by_role Zone is = zone_set is
          by_role Plain is = plain_set (λ z. let bad : Plain ≡ Zone = sym is ∙ z in cc)
          by_role Switch is = plain_set (λ z. let bad : Switch ≡ Zone = sym is ∙ z in cc)
          by_role File is = plain_set (λ z. let bad : File ≡ Zone = sym is ∙ z in cc)

      set_by_rank : (b : ℕ) (x : Source V) → height x < b → Reaches x → is_set w x ≡ true
      unfolding height
      set_by_rank zero x less d = absurd (omega arith)
      set_by_rank (suc b) (a_value u) less d = ap (λ l. is_there w l.from) (k.shape.values u)
      set_by_rank (suc b) (an_item i) less d =
          let t : (t : S) × SourceSort m [] w.graph (an_item i) t = reached_sort m lawful task w k.shape (an_item i) d in
          let none : slice_get [] i ≡ Some t.0 = t.1 in
          cc
      set_by_rank (suc b) (an_output p j) less d =
          let t : (t : S) × SourceSort m [] w.graph (an_output p j) t = reached_sort m lawful task w k.shape (an_output p j) d in
          let node : Node K V = t.1.0 in
          let n : (n : ℕ) × (slice_get w.graph n ≡ Some t.1.0) = place_of w.graph t.1.0 t.1.1 in
          let used : Reaches (an_output t.1.0.path j) = subst (λ q. Reaches (an_output q j)) (sym t.1.2) d in
          let ranks : order.rank t.1.0.path ≡ order.rank p = ap order.rank t.1.2 in
          let f : (v : ℕ) × Has es (Finish v n.0) =
          finished_node n.0 t.1.0 n.1 (j, used)
          (λ link has.
          let most : height link.from ≤ order.rank t.1.0.path = link_height t.1.0 link t.1.1 (sure_linked m lawful task w t.1.0 link has) link.from refl in
          set_by_rank b link.from (omega arith) (Reached.an_input t.1.0 j link t.1.1 used has)) in
          subst (λ q. is_set w (an_output q j) ≡ true) t.1.2
          (output_set t.1.0 t.1.1 n.0 n.1 f.0 f.1 j t.0 t.1.3 used (λ y most reached. set_by_rank b y (omega arith) reached) (m.rows.role t.1.0.kind) refl)

      pub used_is_set : (x : Source V) → Reaches x → is_set w x ≡ true
      used_is_set x d = set_by_rank (suc (height x)) x (omega arith) d

      sure_set : (node : Node K V) → Has w.graph node → Used m task w node → (link : Link V) → Has (sure m w node) link → is_set w link.from ≡ true
      sure_set node h u link has = used_is_set link.from (Reached.an_input node u.0 link h u.1 has)

      -- what a used node may read it is sure to read
      possible_as_sure : (node : Node K V) → Has w.graph node → Used m task w node → (role : Role) → m.rows.role node.kind ≡ role → (links : List (Link V))
          → ((link : Link V) → Has (sure_as m role (condition_set m w links) (m.rows.choice node.kind (condition m (reads m w) links)) links) link → is_set w link.from ≡ true)
          → (link : Link V) → Has (possible_as m role (condition_set m w links) (is_some (w.opened node.path)) (m.rows.choice node.kind (condition m (reads m w) links)) links) link
          → Has (sure_as m role (condition_set m w links) (m.rows.choice node.kind (condition m (reads m w) links)) links) link
      possible_as_sure node h u Plain is links sets link has = has
      possible_as_sure node h u File is links sets link has = has
      possible_as_sure node h u Zone is links sets link has =
          let n : (n : ℕ) × (slice_get w.graph n ≡ Some node) = place_of w.graph node h in
          let f : (v : ℕ) × Has es (Finish v n.0) = finished_node n.0 node n.1 u (sure_set node h u) in
          subst (λ b. Has (possible_as m Zone (condition_set m w links) b (m.rows.choice node.kind (condition m (reads m w) links)) links) link) ((done_node node h n.0 n.1 f.0 f.1).1 is) has
      possible_as_sure node h u Switch is [] sets link has = has
      possible_as_sure node h u Switch is (first ∷ links) sets link has = by_set (is_set w first.from) refl
        where
          first_in : (b : Bool) → Has (sure_as m Switch b (m.rows.choice node.kind (reads m w first)) (first ∷ links)) first
          first_in true = inl refl
          first_in false = inl refl

          by_set : (b : Bool) → is_set w first.from ≡ b → Has (sure_as m Switch (is_set w first.from) (m.rows.choice node.kind (reads m w first)) (first ∷ links)) link
          by_set true e =
              subst (λ b. Has (sure_as m Switch b (m.rows.choice node.kind (reads m w first)) (first ∷ links)) link) (sym e)
              (subst (λ b. Has (possible_as m Switch b (is_some (w.opened node.path)) (m.rows.choice node.kind (reads m w first)) (first ∷ links)) link) e has)
          by_set false e = let bad : true ≡ false = sym (sets first (first_in (is_set w first.from))) ∙ e in cc

      possible_reached : (x : Source V) → Reached m task w (possible m w) x → Reaches x
      possible_reached x (Reached.a_root link h) = Reached.a_root link h
      possible_reached x (Reached.an_input node s link h d has) =
          let u : Reaches (an_output node.path s) = possible_reached (an_output node.path s) d in
          Reached.an_input node s link h u (possible_as_sure node h (s, u) (m.rows.role node.kind) refl node.links (sure_set node h (s, u)) link has)
      possible_reached x (Reached.a_result p s outs link is d at) = Reached.a_result p s outs link is (possible_reached (an_output p s) d) at

      used_finished : (n : ℕ) (node : Node K V) → slice_get w.graph n ≡ Some node → Used m task w node → Has (finishes es) n
      used_finished n node at u =
          let f : (v : ℕ) × Has es (Finish v n) = finished_node n node at u (sure_set node (member_at w.graph n node at) u) in
          finished_number es f.0 n f.1

      finished_taken : (n : ℕ) → Has (finishes es) n → Has (takes es) n
      finished_taken n h = let f : (v : ℕ) × Has es (Finish v n) = was_finished es n h in taken_number es f.0 n (by_taker m lawful task es r f.0 n f.1)

      taken_well : (n : ℕ) → Has (takes es) n → IsTakenWell m lawful task w n
      taken_well n h = let t : (v : ℕ) × Has es (Take v n) = was_taken es n h in k.taken t.0 n t.1

      taken_finished : (n : ℕ) → Has (takes es) n → Has (finishes es) n
      taken_finished n h = let t : IsTakenWell m lawful task w n = taken_well n h in used_finished n t.0 t.1 t.4

      one_number : (n j : ℕ) (node : Node K V) → slice_get w.graph n ≡ Some node → slice_get w.graph j ≡ Some node → n ≡ j
      one_number n j node a b = one_place (λ x. x.path) w.graph k.shape.differ n j node node a b refl

      abbrev taken : List (Node K V)
      taken = taken_nodes m task es

      served_imports : (node : Node K V) → Has (numbered m w.graph (serves es)) node → Has (imports_of m taken) node
      served_imports node h =
          let n : (n : ℕ) × Has (serves es) n × (slice_get w.graph n ≡ Some node) = numbered_number w.graph (serves es) node h in
          let s : IsServedAt w n.0 = served_at es r n.0 n.1 in
          let same : s.0 ≡ node = some_same (sym s.1 ∙ n.2) in
          let f : Has (finishes es) n.0 = used_finished n.0 s.0 s.1 s.4 in
          in_imports taken node (number_numbered w.graph (takes es) n.0 node (finished_taken n.0 f) n.2) (ap (λ x. is_file (m.rows.role x.kind)) (sym same) ∙ ap is_file s.2)

      file_role : (role : Role) → is_file role ≡ true → role ≡ File
      file_role File e = refl
      file_role Plain e = cc
      file_role Switch e = cc
      file_role Zone e = cc

      imports_served : (node : Node K V) → Has (imports_of m taken) node → Has (numbered m w.graph (serves es)) node
      imports_served node h =
          let x : Has taken node × (is_file (m.rows.role node.kind) ≡ true) = import_in taken node h in
          let n : (n : ℕ) × Has (takes es) n × (slice_get w.graph n ≡ Some node) = numbered_number w.graph (takes es) node x.0 in
          let t : IsTakenWell m lawful task w n.0 = taken_well n.0 n.1 in
          let same : t.0 ≡ node = some_same (sym t.1 ∙ n.2) in
          let a : (a : Answer) × (w.answers t.0.path ≡ Some a) = t.3 (ap (λ y. m.rows.role y.kind) same ∙ file_role (m.rows.role node.kind) x.1) in
          let s : WasServed es w t.0.path = was_served es r t.0.path a.0 a.1 in
          let is : s.1 ≡ node = one_node s.1 node (member_at w.graph s.0 s.1 s.3) (member_at w.graph n.0 node n.2) (s.4 ∙ ap (λ y. y.path) same) in
          number_numbered w.graph (serves es) s.0 node s.2 (s.3 ∙ ap Some is)

      taken_differ : AllDiffer taken
      taken_differ = numbered_differ w.graph one_number (takes es) (takes_differ m lawful task es r)

      -- two events for each node that was taken, and one more for each import among them
      counted_taken : length es ≡ length taken + length taken + length (imports_of m taken)
      counted_taken =
          let a : length (takes es) ≡ length (finishes es) =
          as_long (takes es) (finishes es) (takes_differ m lawful task es r) (finishes_differ m lawful task es r) taken_finished finished_taken in
          let b : length taken ≡ length (takes es) = numbered_length w.graph one_number (takes es) (λ n h. let t : IsTakenWell m lawful task w n = taken_well n h in (t.0, t.1)) in
          let d : length (numbered m w.graph (serves es)) ≡ length (serves es) = numbered_length w.graph one_number (serves es) (λ n h. let t : IsServedAt w n = served_at es r n h in (t.0, t.1)) in
          let e : length (numbered m w.graph (serves es)) ≡ length (imports_of m taken) =
          as_long (numbered m w.graph (serves es)) (imports_of m taken) (numbered_differ w.graph one_number (serves es) (serves_differ es r)) (imports_differ taken taken_differ) served_imports imports_served in
          let f : length es ≡ length (takes es) + length (finishes es) + length (serves es) = kinds_of_events es over.none_refused in
          omega arith

      -- ---- over files

      module _ (tells : Answers m) (den : Path → List V) (solves : Solves m task tells den) (served : IsServed m task tells es) where
        correct : Right m lawful task c tells den w
        correct = right m lawful task c tells den solves es r served

        abbrev Is : Node K V → Type 0
        Is = Unfolded m task tells den

        read_sure : (node : Node K V) → Has w.graph node → Used m task w node → (link : Link V) → Has (links_read m (link_value m den) node) link → Has (sure m w node) link
        read_sure node h u link has =
            subst (λ ls. Has ls link)
            (sym (sure_read m lawful task w node (sure_set node h u) ∙ read_by_right m lawful task c tells den w correct node (λ l l_in. sure_set node h u l (subst (λ ls. Has ls l) (sym (sure_read m lawful task w node (sure_set node h u))) l_in)))) has

        -- a used zone is opened, and its outputs come from where the equations say
        used_opened : (node : Node K V) → Is node → (h : Has w.graph node) → Used m task w node → m.rows.role node.kind ≡ Zone → w.opened node.path ≡ Some (result_links m (link_value m den) node)
        used_opened node is h u role =
            let n : (n : ℕ) × (slice_get w.graph n ≡ Some node) = place_of w.graph node h in
            let f : (v : ℕ) × Has es (Finish v n.0) = finished_node n.0 node n.1 u (sure_set node h u) in
            by_outs (held (w.opened node.path) ((done_node node h n.0 n.1 f.0 f.1).1 role))
          where
            by_zone : (outs : List (Link V)) → w.opened node.path ≡ Some outs → (z : Node K V) × Is z × (z.path ≡ node.path) × (m.rows.role z.kind ≡ Zone) × (outs ≡ result_links m (link_value m den) z) → w.opened node.path ≡ Some (result_links m (link_value m den) node)
            by_zone outs e z = subst (λ y. w.opened node.path ≡ Some (result_links m (link_value m den) y)) (one_there m lawful task c tells den z.0 node z.1 is z.2) (subst (λ os. w.opened node.path ≡ Some os) z.4 e)

            by_outs : (outs : List (Link V)) × (w.opened node.path ≡ Some outs) → w.opened node.path ≡ Some (result_links m (link_value m den) node)
            by_outs t = by_zone t.0 t.1 (correct.opened node.path t.0 t.1)

        wanted_used : (x : Source V) → Wanted m task tells den x → Reaches x
        wanted_used x (Brought.a_start root) = subst Reaches (sym root.2) (Reached.a_root root.0 root.1)
        wanted_used x (Brought.an_input node s link is d has) =
            let u : Reaches (an_output node.path s) = wanted_used (an_output node.path s) d in
            let h : Has w.graph node = node_there m lawful task c tells den w k.shape correct node s is u in
            Reached.an_input node s link h u (read_sure node h (s, u) link has)
        wanted_used x (Brought.a_result node s link is role d at) =
            let u : Reaches (an_output node.path s) = wanted_used (an_output node.path s) d in
            Reached.a_result node.path s (result_links m (link_value m den) node) link (used_opened node is (node_there m lawful task c tells den w k.shape correct node s is u) (s, u) role) u at

        taken_demanded : (node : Node K V) → Has taken node → Demanded m task tells den node
        taken_demanded node h =
            let n : (n : ℕ) × Has (takes es) n × (slice_get w.graph n ≡ Some node) = numbered_number w.graph (takes es) node h in
            let t : IsTakenWell m lawful task w n.0 = taken_well n.0 n.1 in
            let same : t.0 ≡ node = some_same (sym t.1 ∙ n.2) in
            used_demanded m lawful task c tells den w correct node (member_at w.graph n.0 node n.2) (subst (Used m task w) same t.4)

        demanded_taken : (node : Node K V) → Demanded m task tells den node → Has taken node
        demanded_taken node d =
            let u : Reaches (an_output node.path d.1.0) = wanted_used (an_output node.path d.1.0) d.1.1 in
            let h : Has w.graph node = node_there m lawful task c tells den w k.shape correct node d.1.0 d.0 u in
            let n : (n : ℕ) × (slice_get w.graph n ≡ Some node) = place_of w.graph node h in
            number_numbered w.graph (takes es) n.0 node (finished_taken n.0 (used_finished n.0 node n.1 (d.1.0, u))) n.1

        taken_lists : ListsDemand m task tells den taken
        taken_lists = record { members = λ node. (taken_demanded node, demanded_taken node); differ = taken_differ }

        counted_demand : (nodes : List (Node K V)) → ListsDemand m task tells den nodes → length es ≡ length nodes + length nodes + length (imports_of m nodes)
        counted_demand nodes l =
            let to : (x : Node K V) → Has taken x → Has nodes x = λ x h. (l.members x).1 (taken_demanded x h) in
            let back : (x : Node K V) → Has nodes x → Has taken x = λ x h. demanded_taken x ((l.members x).0 h) in
            let a : length taken ≡ length nodes = as_long taken nodes taken_differ l.differ to back in
            let b : length (imports_of m taken) ≡ length (imports_of m nodes) =
            as_long (imports_of m taken) (imports_of m nodes) (imports_differ taken taken_differ) (imports_differ nodes l.differ)
            (λ x h. in_imports nodes x (to x (import_in taken x h).0) (import_in taken x h).1) (λ x h. in_imports taken x (back x (import_in nodes x h).0) (import_in nodes x h).1) in
            let d : length es ≡ length taken + length taken + length (imports_of m taken) = counted_taken in
            omega arith

        finished_demanded : (node : Node K V) → Has w.graph node → finished w node.path ≡ true → Demanded m task tells den node
        finished_demanded node h e =
            let f : WasFinished m lawful task es w node.path = k.finished_by node.path e in
            let same : f.2 ≡ node = one_node f.2 node (member_at w.graph f.1 f.2 f.4) h f.5 in
            taken_demanded node (number_numbered w.graph (takes es) f.1 node (finished_taken f.1 (finished_number es f.0 f.1 f.3)) (f.4 ∙ ap Some same))

        demanded_finished : (node : Node K V) → Demanded m task tells den node → finished w node.path ≡ true
        demanded_finished node d =
            let n : (n : ℕ) × Has (takes es) n × (slice_get w.graph n ≡ Some node) = numbered_number w.graph (takes es) node (demanded_taken node d) in
            let f : (v : ℕ) × Has es (Finish v n.0) = was_finished es n.0 (taken_finished n.0 n.1) in
            let x : IsFinished m lawful task w n.0 = k.finishes f.0 n.0 f.1 in
            subst (λ y. finished w y.path ≡ true) (some_same (sym x.1 ∙ n.2)) x.2

        pub ends_well : EndsWell m task tells den es
        ends_well = record { set = λ x wanted. used_is_set x (wanted_used x wanted); taken = taken_lists; finished = λ node h. (finished_demanded node h, demanded_finished node); used = λ node u. (u.0, possible_reached (an_output node.path u.0) u.1); counted = counted_demand }
