-- A run without refusals can go on until nothing may happen any more.
use Rattle.std.proofs.Common.{◌≡◌, ◌≢◌, ◌⊎◌, inl, inr, ◌<◌, ◌≤◌, ◌+◌, ℕ, zero, suc, length, List, [], ◌∷◌, ◌++◌, map, Option, Some, None, Bool, true, false, refl, sym, ◌∙◌, ap, subst, arith}
use Rattle.std.specs.Prelude.{◌==◌, slice_get}
use Rattle.std.proofs.lemmas.Bool.Decides.{eqb_tells}
use Rattle.gn_node_set.specs.Paths.{Path}
use Rattle.gn_node_set.specs.Meanings.{Has, Source, a_value, an_item, an_output, Link, Node, Role, Plain, Switch, File, Zone, Answer, Meanings, AllDiffer}
use Rattle.gn_exec_laws.specs.Graphs.{Task, Answers}
use Rattle.gn_exec_laws.specs.Fits.{LinkSorts, CanStart, IsLawful}
use Rattle.gn_exec_laws.specs.Machine.{Event, Take, Finish, Serve, Refuse, World, is_set, world, sure, Reached, Used, NoRefusals, Allowed, IsRun, AnswersAs, IsServed}
use Rattle.gn_exec_laws.specs.Claims.{takes, finishes, serves, numbered, IsOver}
use Rattle.gn_node_set.proofs.Lists.{some_same, not_both, append_assoc, has_first, has_second, has_either, has_image, image_of, member_at, one_place}
use Rattle.gn_exec_laws.proofs.Kept.{Kept, kept, IsTakenWell}
use Rattle.gn_exec_laws.proofs.Counts.{was_taken, was_finished, takes_differ, finishes_differ, by_taker}
use Rattle.gn_exec_laws.proofs.Order.{Ordered, ordered}
use Rattle.gn_exec_laws.proofs.Right.{right}
use Rattle.gn_exec_laws.proofs.Waits.{find_take, find_finish, sure_linked, all_set}
use Rattle.gn_exec_laws.proofs.Ends.{at_most_as_long, kinds_of_events, taken_number, numbered_number, numbered_differ, numbered_length, IsServedAt, served_at, serves_differ}
use Rattle.gn_exec_laws.proofs.Complete.{IsComplete, complete}
use Rattle.gn_exec_laws.proofs.Solution.{solution, solution_solves, solution_agrees, stands_there}
use Rattle.gn_exec_laws.proofs.Closure.{Reaches, height, reached, listed, listed_reaches, any_output, output_found_in, output_in}

-- a place that has a member is below the length
place_below : {A : Type 0} (xs : List A) (n : ℕ) (x : A) → slice_get xs n ≡ Some x → n < length xs
place_below [] n x e = cc
place_below (y ∷ xs) zero x e = omega arith
place_below (y ∷ xs) (suc n) x e = let less : n < length xs = place_below xs n x e in omega arith

module _ {K V S T : Type 0} (m : Meanings K V S T) (lawful : IsLawful m) (task : Task K V) (c : CanStart m task) where
  module _ (es : List Event) (r : IsRun m task es) where
    abbrev w : World K V
    w = world m task es

    k : Kept m lawful task es
    k = kept m lawful task c es r

    order : Ordered m lawful task w
    order = ordered m lawful task c es r

    -- ---- which nodes are used

    froms : List (Link V) → List (Source V)
    froms links = map (λ l. l.from) links

    from_of : Option (Link V) → List (Source V)
    from_of None = []
    from_of (Some link) = link.from ∷ []

    result_in : Option (List (Link V)) → ℕ → List (Source V)
    result_in None s = []
    result_in (Some outs) s = from_of (slice_get outs s)

    brought_by : Node K V → ℕ → List (Source V)
    brought_by node s = froms (sure m w node) ++ result_in (w.opened node.path) s

    abbrev Closed : Source V → Type 0
    Closed = Reaches w.graph (froms task.roots) brought_by

    abbrev Reached' : Source V → Type 0
    Reached' = Reached m task w (sure m w)

    result_reached : (node : Node K V) (s : ℕ) → Reached' (an_output node.path s) → (o : Option (List (Link V))) → w.opened node.path ≡ o → (x : Source V) → Has (result_in o s) x → Reached' x
    unfolding result_in from_of
    result_reached node s d None e x h = absurd h
    result_reached node s d (Some outs) e x h = by_link (slice_get outs s) refl h
      where
        by_link : (o : Option (Link V)) → slice_get outs s ≡ o → Has (from_of o) x → Reached' x
        by_link None at k' = absurd k'
        by_link (Some link) at (inl q) = subst Reached' (sym q) (Reached.a_result node.path s outs link e d at)
        by_link (Some link) at (inr z) = absurd z

    node_reaches : (node : Node K V) (s : ℕ) → Has w.graph node → Reached' (an_output node.path s) → (x : Source V) → Has (brought_by node s) x → Reached' x
    unfolding brought_by froms
    node_reaches node s h d x has = elim (has_either (map (λ l. l.from) (sure m w node)) (result_in (w.opened node.path) s) x has) [
      | inl a ↦
          let link : (link : Link V) × Has (sure m w node) link × (x ≡ link.from) = image_of (λ l. l.from) (sure m w node) x a in
          subst Reached' (sym link.2) (Reached.an_input node s link.0 h d link.1)
      | inr b ↦ result_reached node s d (w.opened node.path) refl x b
    ]

    closed_reached : (x : Source V) → Closed x → Reached' x
    unfolding froms
    closed_reached x (Reaches.from_start y h) =
        let link : (link : Link V) × Has task.roots link × (y ≡ link.from) = image_of (λ l. l.from) task.roots y h in
        subst Reached' (sym link.2) (Reached.a_root link.0 link.1)
    closed_reached x (Reaches.from_node node s y h d has) = node_reaches node s h (closed_reached (an_output node.path s) d) y has

    in_sure : (node : Node K V) (s : ℕ) (link : Link V) → Has (sure m w node) link → Has (brought_by node s) link.from
    unfolding brought_by froms
    in_sure node s link h = has_first (map (λ l. l.from) (sure m w node)) (result_in (w.opened node.path) s) link.from (has_image (λ l. l.from) (sure m w node) link h)

    in_results : (node : Node K V) (s : ℕ) (outs : List (Link V)) (link : Link V) → w.opened node.path ≡ Some outs → slice_get outs s ≡ Some link → Has (brought_by node s) link.from
    unfolding brought_by result_in from_of
    in_results node s outs link e at =
        has_second (froms (sure m w node)) (result_in (w.opened node.path) s) link.from
        (subst (λ o. Has (result_in o s) link.from) (sym e) (subst (λ o. Has (from_of o) link.from) (sym at) (inl refl)))

    reached_closed : (x : Source V) → Reached' x → Closed x
    unfolding froms
    reached_closed x (Reached.a_root link h) = Reaches.from_start link.from (has_image (λ l. l.from) task.roots link h)
    reached_closed x (Reached.an_input node s link h d has) = Reaches.from_node node s link.from h (reached_closed (an_output node.path s) d) (in_sure node s link has)
    reached_closed x (Reached.a_result p s outs link e d at) =
        let z : (z : Node K V) × Has w.graph z × (z.path ≡ p) × (m.rows.role z.kind ≡ Zone) × LinkSorts m [] w.graph outs (m.gives z.kind) = k.shape.opened p outs e in
        Reaches.from_node z.0 s link.from z.1 (subst (λ q. Closed (an_output q s)) (sym z.2) (reached_closed (an_output p s) d))
        (in_results z.0 s outs link (subst (λ q. w.opened q ≡ Some outs) (sym z.2) e) at)

    abbrev height' : Source V → ℕ
    height' = height w.graph (froms task.roots) brought_by order.rank

    link_below : (node : Node K V) (link : Link V) → Has w.graph node → Has node.links link → (y : Source V) → link.from ≡ y → height' y ≤ order.rank node.path
    unfolding height
    link_below node link h has (a_value u) e = omega arith
    link_below node link h has (an_item i) e = omega arith
    link_below node link h has (an_output p j) e = let less : order.rank p < order.rank node.path = order.links node link p j h has e in omega arith

    out_below : (q : Path) (outs : List (Link V)) (link : Link V) → w.opened q ≡ Some outs → Has outs link → (y : Source V) → link.from ≡ y → height' y ≤ order.rank q
    unfolding height
    out_below q outs link is has (a_value u) e = omega arith
    out_below q outs link is has (an_item i) e = omega arith
    out_below q outs link is has (an_output p j) e = let less : order.rank p < order.rank q = order.results q outs link p j is has e in omega arith

    sure_below : (node : Node K V) (x : Source V) → Has w.graph node → Has (froms (sure m w node)) x → height' x ≤ order.rank node.path
    unfolding froms
    sure_below node x h a =
        let link : (link : Link V) × Has (sure m w node) link × (x ≡ link.from) = image_of (λ l. l.from) (sure m w node) x a in
        subst (λ y. height w.graph (map (λ l. l.from) task.roots) brought_by order.rank y ≤ order.rank node.path) (sym link.2) (link_below node link.0 h (sure_linked m lawful task w node link.0 link.1) link.0.from refl)

    result_below : (node : Node K V) (s : ℕ) (o : Option (List (Link V))) → w.opened node.path ≡ o → (x : Source V) → Has (result_in o s) x → height' x ≤ order.rank node.path
    unfolding result_in from_of
    result_below node s None e x h = absurd h
    result_below node s (Some outs) e x h = by_link (slice_get outs s) refl h
      where
        by_link : (o : Option (Link V)) → slice_get outs s ≡ o → Has (from_of o) x → height w.graph (froms task.roots) brought_by order.rank x ≤ order.rank node.path
        by_link None at k' = absurd k'
        by_link (Some link) at (inl q) = subst (λ y. height w.graph (froms task.roots) brought_by order.rank y ≤ order.rank node.path) (sym q) (out_below node.path outs link e (member_at outs s link at) link.from refl)
        by_link (Some link) at (inr z) = absurd z

    lower : (node : Node K V) (s : ℕ) (x : Source V) → Has w.graph node → Has (brought_by node s) x → height' x ≤ order.rank node.path
    unfolding brought_by
    lower node s x h has = elim (has_either (froms (sure m w node)) (result_in (w.opened node.path) s) x has) [ inl a ↦ sure_below node x h a | inr b ↦ result_below node s (w.opened node.path) refl x b ]

    abbrev used_sources : List (Source V)
    used_sources = reached w.graph (froms task.roots) brought_by order.rank lower

    -- a node is used or not
    used_or_not : (node : Node K V) → Used m task w node ⊎ (¬ Used m task w node)
    used_or_not node = by_test (any_output node.path used_sources) refl
      where
        by_test : (b : Bool) → any_output node.path used_sources ≡ b → Used m task w node ⊎ (¬ Used m task w node)
        by_test true e =
            let x : (s : ℕ) × Has used_sources (an_output node.path s) = output_found_in node.path used_sources e in
            inl (x.0, closed_reached (an_output node.path x.0) (listed_reaches w.graph (froms task.roots) brought_by order.rank lower (an_output node.path x.0) x.1))
        by_test false e =
            inr (λ u.
            let bad : true ≡ false = sym (output_in node.path u.0 used_sources (listed w.graph (froms task.roots) brought_by order.rank lower (an_output node.path u.0) (reached_closed (an_output node.path u.0) u.1))) ∙ e in
            cc)

    -- ---- what may happen next

    module _ (tells : Answers m) (calm : NoRefusals m task es) where
      pub record Next : Type 0 where
        pub event : Event
        pub allowed : Allowed m task es event
        pub answers : AnswersAs m task tells es event
        pub no_refusal : (v : ℕ) → ¬ (Refuse v ≡ event)

      abbrev Quiet : ℕ → Type 0
      Quiet n = ((v : ℕ) → ¬ Allowed m task es (Take v n)) × ((a : Answer) → ¬ Allowed m task es (Serve n a))

      same_node : (n : ℕ) (node x : Node K V) → slice_get w.graph n ≡ Some node → slice_get w.graph n ≡ Some x → x ≡ node
      same_node n node x a b = some_same (sym b ∙ a)

      served : (n : ℕ) (node : Node K V) → slice_get w.graph n ≡ Some node → Used m task w node → m.rows.role node.kind ≡ File → w.answers node.path ≡ None → Next
      served n node at used file none = record {
        event = Serve n (tells node);
        allowed = ((node, record { there = at; used = used; file = file; no_answer = none }), calm);
        answers = λ x there. ap tells (sym (same_node n node x at there));
        no_refusal = λ v q. cc;
      }

      taken_next : (n : ℕ) (node : Node K V) → slice_get w.graph n ≡ Some node → Used m task w node → ((v : ℕ) → ¬ Has es (Take v n)) → ((link : Link V) → Has (sure m w node) link → is_set w link.from ≡ true) → (m.rows.role node.kind ≡ File → (a : Answer) × (w.answers node.path ≡ Some a)) → Next
      taken_next n node at used fresh all answered = record {
        event = Take 0 n;
        allowed = ((node, record { there = at; used = used; fresh = fresh; inputs = all; answered = answered }), calm);
        answers = tt;
        no_refusal = λ v q. cc;
      }

      no_serve_of : (n : ℕ) (node : Node K V) → slice_get w.graph n ≡ Some node → (m.rows.role node.kind ≡ File → (a : Answer) × (w.answers node.path ≡ Some a)) → (b : Answer) → ¬ Allowed m task es (Serve n b)
      no_serve_of n node at answered b a =
          let same : a.0.0 ≡ node = same_node n node a.0.0 at a.0.1.there in
          let x : (d : Answer) × (w.answers node.path ≡ Some d) = answered (ap (λ y. m.rows.role y.kind) (sym same) ∙ a.0.1.file) in
          not_both (subst (λ y. w.answers y.path ≡ None) same a.0.1.no_answer) x.1

      by_inputs : (n : ℕ) (node : Node K V) → slice_get w.graph n ≡ Some node → Used m task w node → (m.rows.role node.kind ≡ File → (a : Answer) × (w.answers node.path ≡ Some a)) → Next ⊎ Quiet n
      by_inputs n node at used answered = elim (find_take es n) [
        | inl t ↦ inr (λ v a. a.0.1.fresh t.0 t.1, no_serve_of n node at answered)
        | inr fresh ↦ elim (all_set m lawful task w (sure m w node)) [
          | inl all ↦ inl (taken_next n node at used fresh all answered)
          | inr unset ↦ inr (
            λ v a.
                let same : a.0.0 ≡ node = same_node n node a.0.0 at a.0.1.there in
                let bad : true ≡ false = sym (subst (λ y. (link : Link V) → Has (sure m w y) link → is_set w link.from ≡ true) same a.0.1.inputs unset.0 unset.1) ∙ unset.2 in
                cc,
            no_serve_of n node at answered,
          )
        ]
      ]

      by_role : (n : ℕ) (node : Node K V) → slice_get w.graph n ≡ Some node → Used m task w node → (role : Role) → m.rows.role node.kind ≡ role → (o : Option Answer) → w.answers node.path ≡ o → Next ⊎ Quiet n
      by_role n node at used File is None e = inl (served n node at used is e)
      by_role n node at used role is (Some a) e = by_inputs n node at used (λ _. (a, e))
      by_role n node at used Plain is None e = by_inputs n node at used (λ file. let bad : Plain ≡ File = sym is ∙ file in cc)
      by_role n node at used Switch is None e = by_inputs n node at used (λ file. let bad : Switch ≡ File = sym is ∙ file in cc)
      by_role n node at used Zone is None e = by_inputs n node at used (λ file. let bad : Zone ≡ File = sym is ∙ file in cc)

      by_node : (n : ℕ) (o : Option (Node K V)) → slice_get w.graph n ≡ o → Next ⊎ Quiet n
      by_node n None e = inr (λ v a. not_both e a.0.1.there, λ b a. not_both e a.0.1.there)
      by_node n (Some node) e = elim (used_or_not node) [
        | inl used ↦ by_role n node e used (m.rows.role node.kind) refl (w.answers node.path) refl
        | inr unused ↦ inr (λ v a. unused (subst (Used m task w) (same_node n node a.0.0 e a.0.1.there) a.0.1.used), λ b a. unused (subst (Used m task w) (same_node n node a.0.0 e a.0.1.there) a.0.1.used))
      ]

      -- the nodes below a number
      nodes_below : (b : ℕ) → Next ⊎ ((n : ℕ) → n < b → Quiet n)
      nodes_below zero = inr (λ n less. absurd (never n less))
        where
          never : (n : ℕ) → n < 0 → ⊥
          never n p = omega arith
      nodes_below (suc b) = elim (nodes_below b) [ inl next ↦ inl next | inr rest ↦ elim (by_node b (slice_get w.graph b) refl) [ inl next ↦ inl next | inr here ↦ inr (λ n less. by_place n rest here less (eqb_tells n b)) ] ]
        where
          below : (n d : ℕ) → n < suc d → n ≢ d → n < d
          below n d less other = omega arith

          by_place : (n : ℕ) → ((j : ℕ) → j < b → Quiet j) → Quiet b → n < suc b → ((n == b) ≡ true) × (n ≡ b) ⊎ ((n == b) ≡ false) × (n ≢ b) → Quiet n
          by_place n rest here less (inl t) = subst Quiet (sym t.1) here
          by_place n rest here less (inr t) = rest n (below n b less t.1)

      -- all that was taken is finished, or something may be finished
      taken_nodes_finished : (ns : List ℕ) → ((n : ℕ) → Has ns n → (v : ℕ) × Has es (Take v n)) → Next ⊎ ((n : ℕ) → Has ns n → (v : ℕ) × Has es (Finish v n))
      taken_nodes_finished [] taken = inr (λ n h. absurd h)
      taken_nodes_finished (n ∷ ns) taken = elim (taken_nodes_finished ns (λ j h. taken j (inr h))) [
        | inl next ↦ inl next
        | inr rest ↦ elim (find_finish es n) [
          | inl f ↦ inr (λ j h. elim h [ inl q ↦ (f.0, subst (λ i. Has es (Finish f.0 i)) (sym q) f.1) | inr z ↦ rest j z ])
          | inr open' ↦
              let t : (v : ℕ) × Has es (Take v n) = taken n (inl refl) in
              inl (record { event = Finish t.0 n; allowed = (t.1, open'); answers = tt; no_refusal = λ v q. cc })
        ]
      ]

      over : ((n : ℕ) → n < length w.graph → Quiet n) → ((n : ℕ) → Has (takes es) n → (v : ℕ) × Has es (Finish v n)) → IsOver m task es
      over quiet finished = record {
        none_refused = calm;
        no_take = λ v n a. (quiet n (place_below w.graph n a.0.0 a.0.1.there)).0 v a;
        no_finish = λ v n a. let f : (u : ℕ) × Has es (Finish u n) = finished n (taken_number es v n a.0) in a.1 f.0 f.1;
        no_serve = λ n b a. (quiet n (place_below w.graph n a.0.0 a.0.1.there)).1 b a;
      }

      pub next_or_over : Next ⊎ IsOver m task es
      next_or_over = elim (taken_nodes_finished (takes es) (was_taken es)) [
        | inl next ↦ inl next
        | inr finished ↦ elim (nodes_below (length w.graph)) [ inl next ↦ inl next | inr quiet ↦ inr (over quiet finished) ]
      ]

  -- ---- runs are not longer than three times the complete graph

  module _ (tells : Answers m) where
    complete_world : (v : World K V) × IsComplete m lawful task tells v
    complete_world = complete m lawful task tells c

    all_nodes : List (Node K V)
    all_nodes = complete_world.0.graph

    module _ (es : List Event) (r : IsRun m task es) (s : IsServed m task tells es) where
      in_complete : (node : Node K V) → Has (world m task es).graph node → Has all_nodes node
      unfolding all_nodes
      in_complete node h =
          let den : Path → List V = solution m lawful task c tells complete_world.0 complete_world.1 in
          stands_there m lawful task c tells complete_world.0 complete_world.1 (solution m lawful task c tells complete_world.0 complete_world.1)
          (solution_agrees m lawful task c tells complete_world.0 complete_world.1) node
          ((right m lawful task c tells (solution m lawful task c tells complete_world.0 complete_world.1) (solution_solves m lawful task c tells complete_world.0 complete_world.1) es r s).there node h)

      one_number : (n j : ℕ) (node : Node K V) → slice_get (world m task es).graph n ≡ Some node → slice_get (world m task es).graph j ≡ Some node → n ≡ j
      one_number n j node a b = one_place (λ x. x.path) (world m task es).graph (kept m lawful task c es r).shape.differ n j node node a b refl

      -- different numbers of nodes are no more than all nodes
      few : (ns : List ℕ) → AllDiffer ns → ((n : ℕ) → Has ns n → (node : Node K V) × (slice_get (world m task es).graph n ≡ Some node)) → length ns ≤ length all_nodes
      few ns d there =
          let same : length (numbered m (world m task es).graph ns) ≡ length ns = numbered_length m lawful task (world m task es).graph one_number ns there in
          subst (λ l. l ≤ length all_nodes) same
          (at_most_as_long (numbered m (world m task es).graph ns) all_nodes (numbered_differ m lawful task (world m task es).graph one_number ns d)
          (λ node h.
          let n : (n : ℕ) × Has ns n × (slice_get (world m task es).graph n ≡ Some node) = numbered_number m lawful task (world m task es).graph ns node h in
          in_complete node (member_at (world m task es).graph n.0 node n.2)))

      not_longer : NoRefusals m task es → length es ≤ length all_nodes + length all_nodes + length all_nodes
      not_longer calm =
          let taken : length (takes es) ≤ length all_nodes =
          few (takes es) (takes_differ m lawful task es r)
          (λ n h. let t : (v : ℕ) × Has es (Take v n) = was_taken es n h in let x : IsTakenWell m lawful task (world m task es) n = (kept m lawful task c es r).taken t.0 n t.1 in (x.0, x.1)) in
          let finished : length (finishes es) ≤ length (takes es) =
          at_most_as_long (finishes es) (takes es) (finishes_differ m lawful task es r)
          (λ n h. let f : (v : ℕ) × Has es (Finish v n) = was_finished es n h in taken_number es f.0 n (by_taker m lawful task es r f.0 n f.1)) in
          let served : length (serves es) ≤ length all_nodes =
          few (serves es) (serves_differ m lawful task c es r) (λ n h. let x : IsServedAt m lawful task (world m task es) n = served_at m lawful task c es r n h in (x.0, x.1)) in
          let sum : length es ≡ length (takes es) + length (finishes es) + length (serves es) = kinds_of_events es calm in
          omega arith

    abbrev CanEnd : List Event → Type 0
    CanEnd es = (later : List Event) × (IsRun m task (later ++ es) × IsServed m task tells (later ++ es)) × IsOver m task (later ++ es)

    one_event : (e : Event) (es : List Event) → CanEnd (e ∷ es) → CanEnd es
    one_event e es t = (
      t.0 ++ e ∷ [],
      subst (λ xs. IsRun m task xs × IsServed m task tells xs) (sym (append_assoc t.0 (e ∷ []) es)) t.1,
      subst (IsOver m task) (sym (append_assoc t.0 (e ∷ []) es)) t.2,
    )

    still_calm : (es : List Event) → NoRefusals m task es → (e : Event) → ((v : ℕ) → ¬ (Refuse v ≡ e)) → NoRefusals m task (e ∷ es)
    still_calm es calm e other v h = elim h [ inl q ↦ other v q | inr k ↦ calm v k ]

    goes_on : (n : ℕ) (es : List Event) → IsRun m task es → IsServed m task tells es → NoRefusals m task es → length all_nodes + length all_nodes + length all_nodes ≤ length es + n → CanEnd es
    goes_on zero es r s calm most = elim (next_or_over es r tells calm) [
      | inr over ↦ ([], (r, s), over)
      | inl next ↦ absurd (too_long (length es) (length all_nodes) (not_longer (next.event ∷ es) (next.allowed, r) (next.answers, s) (still_calm es calm next.event next.no_refusal)) most)
    ]
      where
        too_long : (a b : ℕ) → suc a ≤ b + b + b → b + b + b ≤ a + 0 → ⊥
        too_long a b p q = omega arith
    goes_on (suc n) es r s calm most = elim (next_or_over es r tells calm) [
      | inr over ↦ ([], (r, s), over)
      | inl next ↦
          one_event next.event es
          (goes_on n (next.event ∷ es) (next.allowed, r) (next.answers, s) (still_calm es calm next.event next.no_refusal) (one_less (length es) (length all_nodes) n most))
    ]
      where
        one_less : (a b n : ℕ) → b + b + b ≤ a + suc n → b + b + b ≤ suc a + n
        one_less a b n p = omega arith

    pub can_end : (es : List Event) → IsRun m task es → IsServed m task tells es → NoRefusals m task es → CanEnd es
    can_end es r s calm = goes_on (length all_nodes + length all_nodes + length all_nodes) es r s calm (enough (length es) (length all_nodes + length all_nodes + length all_nodes))
      where
        enough : (a b : ℕ) → b ≤ a + b
        enough a b = omega arith
