-- What each demanded node that isn't finished waits for.
use Rattle.std.proofs.Common.{◌≡◌, ◌≢◌, ◌⊎◌, inl, inr, ℕ, List, [], ◌∷◌, Option, Some, None, Bool, true, false, refl, sym, ◌∙◌, ap, subst}
use Rattle.std.specs.Prelude.{slice_get}
use Rattle.std.proofs.lemmas.Bool.Decides.{eqb_tells}
use Rattle.gn_node_set.specs.Paths.{Path}
use Rattle.gn_node_set.specs.Meanings.{Has, Source, an_output, Link, Node, Role, Plain, Switch, File, Zone, Choice, Answer, Meanings, tail_of, chosen, selected}
use Rattle.gn_exec_laws.specs.Graphs.{Task, link_value, condition, choice_of, links_read, result_links, Answers, Unfolded, Solves, Brought, BehindZone, BehindSwitch, Wanted, Demanded}
use Rattle.gn_exec_laws.specs.Fits.{SourceSort, LinkSort, LinkSorts, NodeFits, CanStart, IsLawful}
use Rattle.gn_exec_laws.specs.Machine.{Event, Take, Finish, Serve, Refuse, World, is_set, reads, world, condition_set, sure_as, sure, Reached, Used, IsRun, IsServed}
use Rattle.gn_exec_laws.specs.Claims.{WaitsFor, its_finish, a_worker, its_answer, an_unset_input, a_zone, a_condition}
use Rattle.gn_node_set.proofs.Lists.{member_at, place_of}
use Rattle.gn_exec_laws.proofs.Sorts.{beside_of, links_beside, head_from, selected_from}
use Rattle.gn_exec_laws.proofs.Shapes.{Shape}
use Rattle.gn_exec_laws.proofs.Kept.{kept, number_of}
use Rattle.gn_exec_laws.proofs.Right.{Right, right, one_there, reads_right}

-- ---- which nodes were taken and finished

abbrev KnownWhether : (ℕ → ℕ → Event) → List Event → ℕ → Type 0
KnownWhether by es n = ((v : ℕ) × Has es (by v n)) ⊎ ((v : ℕ) → ¬ Has es (by v n))

event_before : (by : ℕ → ℕ → Event) (e : Event) (es : List Event) (n : ℕ) → ((v : ℕ) → ¬ (by v n ≡ e)) → KnownWhether by es n → KnownWhether by (e ∷ es) n
event_before by e es n other (inl t) = inl (t.0, inr t.1)
event_before by e es n other (inr none) = inr (λ v h. elim h [ inl q ↦ other v q | inr k ↦ none v k ])

by_numbers : (n k : ℕ) {P : Type 0} → (k ≡ n → P) → (k ≢ n → P) → P
by_numbers n k same other = elim (eqb_tells k n) [ inl t ↦ same t.1 | inr t ↦ other t.1 ]

pub find_take : (es : List Event) (n : ℕ) → KnownWhether Take es n
unfolding number_of
find_take [] n = inr (λ v h. h)
find_take (Take v k ∷ es) n = by_numbers n k (λ e. inl (v, inl (ap (Take v) (sym e)))) (λ d. event_before Take (Take v k) es n (λ u q. d (sym (ap number_of q))) (find_take es n))
find_take (Finish v k ∷ es) n = event_before Take (Finish v k) es n (λ u q. cc) (find_take es n)
find_take (Serve k a ∷ es) n = event_before Take (Serve k a) es n (λ u q. cc) (find_take es n)
find_take (Refuse v ∷ es) n = event_before Take (Refuse v) es n (λ u q. cc) (find_take es n)

pub find_finish : (es : List Event) (n : ℕ) → KnownWhether Finish es n
unfolding number_of
find_finish [] n = inr (λ v h. h)
find_finish (Finish v k ∷ es) n = by_numbers n k (λ e. inl (v, inl (ap (Finish v) (sym e)))) (λ d. event_before Finish (Finish v k) es n (λ u q. d (sym (ap number_of q))) (find_finish es n))
find_finish (Take v k ∷ es) n = event_before Finish (Take v k) es n (λ u q. cc) (find_finish es n)
find_finish (Serve k a ∷ es) n = event_before Finish (Serve k a) es n (λ u q. cc) (find_finish es n)
find_finish (Refuse v ∷ es) n = event_before Finish (Refuse v) es n (λ u q. cc) (find_finish es n)

module _ {K V S T : Type 0} (m : Meanings K V S T) (lawful : IsLawful m) (task : Task K V) where
  -- ---- what is reached is there

  sure_from : (w : World K V) (node : Node K V) (role : Role) (b : Bool) (choice : Choice) (links : List (Link V)) (link : Link V) → Has (sure_as m role b choice links) link → Has links link
  sure_from w node Plain b choice links link h = h
  sure_from w node File b choice links link h = h
  sure_from w node Zone b choice links link h = head_from links link h
  sure_from w node Switch false choice links link h = head_from links link h
  sure_from w node Switch true choice links link h = selected_from Switch choice links link h

  pub sure_linked : (w : World K V) (node : Node K V) (link : Link V) → Has (sure m w node) link → Has node.links link
  sure_linked w node link h = sure_from w node (m.rows.role node.kind) (condition_set m w node.links) (choice_of m (reads m w) node) node.links link h

  -- what is reached has a sort, so an output that is reached is one of a node of the graph
  pub reached_sort : (w : World K V) → Shape m lawful task w → (x : Source V) → Reached m task w (sure m w) x → (s : S) × SourceSort m [] w.graph x s
  reached_sort w g x (Reached.a_root link h) = let r : (s : S) × LinkSort m [] w.graph link s = g.roots link h in (r.1.0, r.1.1)
  reached_sort w g x (Reached.an_input node s link h r has) =
      let f : NodeFits m [] w.graph node = g.fit node h in
      let t : (t : S) × LinkSort m [] w.graph link t = beside_of (LinkSort m [] w.graph) node.links f.sorts (links_beside m [] w.graph node.links f.sorts f.links) link (sure_linked w node link has) in
      (t.1.0, t.1.1)
  reached_sort w g x (Reached.a_result p s outs link is r at) =
      let z : (z : Node K V) × Has w.graph z × (z.path ≡ p) × (m.rows.role z.kind ≡ Zone) × LinkSorts m [] w.graph outs (m.gives z.kind) = g.opened p outs is in
      let t : (t : S) × LinkSort m [] w.graph link t = beside_of (LinkSort m [] w.graph) outs (m.gives z.0.kind) (links_beside m [] w.graph outs (m.gives z.0.kind) z.4) link (member_at outs s link at) in
      (t.1.0, t.1.1)

  -- all of the links are set, or one is not
  pub all_set : (w : World K V) (links : List (Link V)) → ((link : Link V) → Has links link → is_set w link.from ≡ true) ⊎ ((link : Link V) × Has links link × (is_set w link.from ≡ false))
  all_set w [] = inl (λ link h. absurd h)
  all_set w (link ∷ links) = by_set (is_set w link.from) refl (all_set w links)
    where
      by_set : (b : Bool) → is_set w link.from ≡ b → ((l : Link V) → Has links l → is_set w l.from ≡ true) ⊎ ((l : Link V) × Has links l × (is_set w l.from ≡ false)) → ((l : Link V) → Has (link ∷ links) l → is_set w l.from ≡ true) ⊎ ((l : Link V) × Has (link ∷ links) l × (is_set w l.from ≡ false))
      by_set false e rest = inr (link, inl refl, e)
      by_set true e (inl all) = inl (λ l h. elim h [ inl q ↦ subst (λ y. is_set w y.from ≡ true) (sym q) e | inr k ↦ all l k ])
      by_set true e (inr t) = inr (t.0, inr t.1, t.2)

  module _ (c : CanStart m task) (tells : Answers m) (den : Path → List V) where
    abbrev value : Link V → V
    value = link_value m den

    abbrev Is : Node K V → Type 0
    Is = Unfolded m task tells den

    -- an output that is reached is one of the node that has the path
    pub node_there : (w : World K V) → Shape m lawful task w → Right m lawful task c tells den w → (node : Node K V) (s : ℕ) → Is node → Reached m task w (sure m w) (an_output node.path s) → Has w.graph node
    node_there w g r node s is d =
        let t : (t : S) × SourceSort m [] w.graph (an_output node.path s) t = reached_sort w g (an_output node.path s) d in
        subst (Has w.graph) (one_there m lawful task c tells den t.1.0 node (r.there t.1.0 t.1.1) is t.1.2) t.1.1

    -- behind a zone that isn't opened, or behind a switch whose condition isn't set
    pub data Stopped (w : World K V) (x : Source V) : Type 0 where
      by_zone : (zone : Node K V) → Demanded m task tells den zone → m.rows.role zone.kind ≡ Zone → w.opened zone.path ≡ None → BehindZone m task tells den zone x → Stopped w x
      by_switch : (node : Node K V) → Demanded m task tells den node → m.rows.role node.kind ≡ Switch → condition_set m w node.links ≡ false → BehindSwitch m task tells den node x → Stopped w x

    abbrev pub Reaches : World K V → Source V → Type 0
    Reaches w x = Reached m task w (sure m w) x ⊎ Stopped w x

    -- what a node reads it is sure to read, or is a switch without a condition yet
    read_or : (w : World K V) → Right m lawful task c tells den w → (node : Node K V) (role : Role) (links : List (Link V)) (link : Link V) → Has (selected role (m.rows.choice node.kind (condition m value links)) links) link
        → Has (sure_as m role (condition_set m w links) (m.rows.choice node.kind (condition m (reads m w) links)) links) link
        ⊎ (role ≡ Switch) × (condition_set m w links ≡ false) × Has (tail_of (selected role (m.rows.choice node.kind (condition m value links)) links)) link
    read_or w r node Plain links link h = inl h
    read_or w r node File links link h = inl h
    read_or w r node Zone links link h = inl h
    read_or w r node Switch [] link h = absurd h
    read_or w r node Switch (first ∷ links) link h = by_set (is_set w first.from) refl h
      where
        by_set : (b : Bool) → is_set w first.from ≡ b → Has (first ∷ chosen (m.rows.choice node.kind (value first)) links) link
            → Has (sure_as m Switch (is_set w first.from) (m.rows.choice node.kind (reads m w first)) (first ∷ links)) link
            ⊎ (Switch ≡ Switch) × (is_set w first.from ≡ false) × Has (chosen (m.rows.choice node.kind (value first)) links) link
        by_set true e k =
            inl (subst (λ b. Has (sure_as m Switch b (m.rows.choice node.kind (reads m w first)) (first ∷ links)) link) (sym e)
            (subst (λ u. Has (first ∷ chosen (m.rows.choice node.kind u) links) link) (sym (reads_right m lawful task c tells den w r first e)) k))
        by_set false e (inl same) = inl (subst (λ b. Has (sure_as m Switch b (m.rows.choice node.kind (reads m w first)) (first ∷ links)) link) (sym e) (inl same))
        by_set false e (inr k) = inr (refl, e, k)

    pub wanted_reaches : (w : World K V) → Shape m lawful task w → Right m lawful task c tells den w → (x : Source V) → Wanted m task tells den x → Reaches w x
    wanted_reaches w g r x (Brought.a_start root) = inl (subst (Reached m task w (sure m w)) (sym root.2) (Reached.a_root root.0 root.1))
    wanted_reaches w g r x (Brought.an_input node s link is d has) = elim (wanted_reaches w g r (an_output node.path s) d) [
      | inl reached ↦ by_reading reached (read_or w r node (m.rows.role node.kind) node.links link has)
      | inr stopped ↦ inr (behind stopped)
    ]
      where
        by_reading : Reached m task w (sure m w) (an_output node.path s)
            → Has (sure m w node) link ⊎ (m.rows.role node.kind ≡ Switch) × (condition_set m w node.links ≡ false) × Has (tail_of (links_read m value node)) link
            → Reaches w link.from
        by_reading reached (inl k) = inl (Reached.an_input node s link (node_there w g r node s is reached) reached k)
        by_reading reached (inr t) = inr (Stopped.by_switch node (is, (s, d)) t.0 t.1 (Brought.a_start (link, t.2, refl)))

        behind : Stopped w (an_output node.path s) → Stopped w link.from
        behind (Stopped.by_zone zone dem role shut b) = Stopped.by_zone zone dem role shut (Brought.an_input node s link is b has)
        behind (Stopped.by_switch switch dem role unset b) = Stopped.by_switch switch dem role unset (Brought.an_input node s link is b has)
    wanted_reaches w g r x (Brought.a_result node s link is role d at) = elim (wanted_reaches w g r (an_output node.path s) d) [
      | inl reached ↦ by_opened reached (w.opened node.path) refl
      | inr stopped ↦ inr (behind stopped)
    ]
      where
        by_opened : Reached m task w (sure m w) (an_output node.path s) → (o : Option (List (Link V))) → w.opened node.path ≡ o → Reaches w link.from
        by_opened reached None e = inr (Stopped.by_zone node (is, (s, d)) role e (Brought.a_start (link, member_at (result_links m value node) s link at, refl)))
        by_opened reached (Some outs) e =
            let z : (z : Node K V) × Is z × (z.path ≡ node.path) × (m.rows.role z.kind ≡ Zone) × (outs ≡ result_links m value z) = r.opened node.path outs e in
            let same : outs ≡ result_links m value node = z.4 ∙ ap (result_links m value) (one_there m lawful task c tells den z.0 node z.1 is z.2) in
            inl (Reached.a_result node.path s outs link e reached (subst (λ os. slice_get os s ≡ Some link) (sym same) at))

        behind : Stopped w (an_output node.path s) → Stopped w link.from
        behind (Stopped.by_zone zone dem role' shut b) = Stopped.by_zone zone dem role' shut (Brought.a_result node s link is role b at)
        behind (Stopped.by_switch switch dem role' unset b) = Stopped.by_switch switch dem role' unset (Brought.a_result node s link is role b at)

    module _ (solves : Solves m task tells den) (es : List Event) (run : IsRun m task es) (served : IsServed m task tells es) where
      abbrev w : World K V
      w = world m task es

      shape : Shape m lawful task w
      shape = (kept m lawful task c es run).shape

      correct : Right m lawful task c tells den w
      correct = right m lawful task c tells den solves es run served

      -- a used node that isn't taken is ready, waits for its answer, or for an input
      untaken : (n : ℕ) (node : Node K V) → slice_get w.graph n ≡ Some node → Used m task w node → ((v : ℕ) → ¬ Has es (Take v n)) → WaitsFor m task tells den es node
      untaken n node at used fresh = by_inputs (all_set w (sure m w node))
        where
          by_answer : ((link : Link V) → Has (sure m w node) link → is_set w link.from ≡ true) → (o : Option Answer) → w.answers node.path ≡ o → (role : Role) → m.rows.role node.kind ≡ role → WaitsFor m task tells den es node
          by_answer all None e File is = its_answer n (record { there = at; used = used; file = is; no_answer = e })
          by_answer all (Some a) e role is = a_worker n (record { there = at; used = used; fresh = fresh; inputs = all; answered = λ _. (a, e) })
          by_answer all None e Plain is = a_worker n (record { there = at; used = used; fresh = fresh; inputs = all; answered = λ file. let bad : Plain ≡ File = sym is ∙ file in cc })
          by_answer all None e Switch is = a_worker n (record { there = at; used = used; fresh = fresh; inputs = all; answered = λ file. let bad : Switch ≡ File = sym is ∙ file in cc })
          by_answer all None e Zone is = a_worker n (record { there = at; used = used; fresh = fresh; inputs = all; answered = λ file. let bad : Zone ≡ File = sym is ∙ file in cc })

          by_inputs : ((link : Link V) → Has (sure m w node) link → is_set w link.from ≡ true) ⊎ ((link : Link V) × Has (sure m w node) link × (is_set w link.from ≡ false)) → WaitsFor m task tells den es node
          by_inputs (inl all) = by_answer all (w.answers node.path) refl (m.rows.role node.kind) refl
          by_inputs (inr t) = an_unset_input t.0 (member_at w.graph n node at) used t.1 t.2

      waits : (node : Node K V) → Is node → (s : ℕ) → Reaches w (an_output node.path s) → WaitsFor m task tells den es node
      waits node is s (inr (Stopped.by_zone zone dem role shut b)) = a_zone zone s dem role shut b
      waits node is s (inr (Stopped.by_switch switch dem role unset b)) = a_condition switch s dem role unset b
      waits node is s (inl reached) =
          let n : (n : ℕ) × (slice_get w.graph n ≡ Some node) = place_of w.graph node (node_there w shape correct node s is reached) in
          elim (find_take es n.0) [ inl t ↦ its_finish t.0 n.0 n.1 t.1 | inr fresh ↦ untaken n.0 node n.1 (s, reached) fresh ]

      pub unfinished_waits : (node : Node K V) → Demanded m task tells den node → WaitsFor m task tells den es node
      unfinished_waits node d = waits node d.0 d.1.0 (wanted_reaches w shape correct (an_output node.path d.1.0) d.1.1)
