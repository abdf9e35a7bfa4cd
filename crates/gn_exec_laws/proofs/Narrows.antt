-- A used node may be used, and what may be used becomes no more, but for the nodes of turns that are new.
use Rattle.std.proofs.Common.{◌≡◌, ◌≢◌, ◌⊎◌, inl, inr, ℕ, List, [], ◌∷◌, ◌++◌, Option, Some, None, Bool, true, false, refl, sym, ◌∙◌, ap, subst}
use Rattle.std.specs.Prelude.{is_some, slice_get}
use Rattle.gn_node_set.specs.Paths.{Path}
use Rattle.gn_node_set.specs.Meanings.{Has, Source, a_value, an_item, an_output, Link, plain_link, Node, Role, Plain, Switch, File, Zone, Choice, Meanings, tail_of, chosen}
use Rattle.gn_exec_laws.specs.Graphs.{Task, condition, choice_of, opened_by, outer_source, outer_link, outer_node, turn_nodes, result_links, run_of}
use Rattle.gn_exec_laws.specs.Fits.{SourceSort, LinkSort, LinkSorts, NodeFits, CanStart, OpensWell, IsLawful}
use Rattle.gn_exec_laws.specs.Machine.{Event, World, finished, is_set, reads, with_turns, world, condition_set, sure_as, sure, possible_as, possible, Reached, MaybeUsed, IsRun}
use Rattle.gn_exec_laws.specs.Claims.{UsesNarrow}
use Rattle.gn_node_set.proofs.Lists.{has_either, has_image, image_of, member_at, at_or}
use Rattle.gn_node_set.proofs.Paths.{entry_is}
use Rattle.gn_exec_laws.proofs.Sorts.{head_from, tail_from, selected_from, each_fits, beside_of, links_beside}
use Rattle.gn_exec_laws.proofs.Shapes.{Shape, apart, not_opened}
use Rattle.gn_exec_laws.proofs.Kept.{Grows, Kept, kept, Step, AnyAnswer, step_of, zone_well, node_stays, set_stays, read_stays}
use Rattle.gn_exec_laws.proofs.Counts.{event_grows}

module _ {K V S T : Type 0} (m : Meanings K V S T) where
  -- ---- what is used may be used

  sure_possible : (role : Role) (b open' : Bool) (choice : Choice) (links : List (Link V)) (link : Link V) → Has (sure_as m role b choice links) link → Has (possible_as m role b open' choice links) link
  sure_possible Plain b open' choice links link h = h
  sure_possible File b open' choice links link h = h
  sure_possible Zone b true choice links link h = h
  sure_possible Zone b false choice links link h = head_from links link h
  sure_possible Switch true open' choice links link h = h
  sure_possible Switch false open' choice links link h = head_from links link h

  reached_possible : (task : Task K V) (w : World K V) (x : Source V) → Reached m task w (sure m w) x → Reached m task w (possible m w) x
  reached_possible task w x (Reached.a_root link h) = Reached.a_root link h
  reached_possible task w x (Reached.an_input node s link h r has) =
      Reached.an_input node s link h (reached_possible task w (an_output node.path s) r)
      (sure_possible (m.rows.role node.kind) (condition_set m w node.links) (is_some (w.opened node.path)) (choice_of m (reads m w) node) node.links link has)
  reached_possible task w x (Reached.a_result p s outs link is r at) = Reached.a_result p s outs link is (reached_possible task w (an_output p s) r) at

  possible_from : (role : Role) (b open' : Bool) (choice : Choice) (links : List (Link V)) (link : Link V) → Has (possible_as m role b open' choice links) link → Has links link
  possible_from Plain b open' choice links link h = h
  possible_from File b open' choice links link h = h
  possible_from Zone b true choice links link h = head_from links link h
  possible_from Zone b false choice links link h = h
  possible_from Switch true open' choice links link h = selected_from Switch choice links link h
  possible_from Switch false open' choice links link h = h

  pub possible_linked : (w : World K V) (node : Node K V) (link : Link V) → Has (possible m w node) link → Has node.links link
  possible_linked w node link h = possible_from (m.rows.role node.kind) (condition_set m w node.links) (is_some (w.opened node.path)) (choice_of m (reads m w) node) node.links link h

  -- ---- what may be read becomes no more

  module _ (w v : World K V) (grows : Grows m w v) where
    fewer : (node : Node K V) (role : Role) (links : List (Link V)) (link : Link V) → Has (possible_as m role (condition_set m v links) (is_some (v.opened node.path)) (m.rows.choice node.kind (condition m (reads m v) links)) links) link
        → Has (possible_as m role (condition_set m w links) (is_some (w.opened node.path)) (m.rows.choice node.kind (condition m (reads m w) links)) links) link
    fewer node Plain links link h = h
    fewer node File links link h = h
    fewer node Zone links link h = by_opened (w.opened node.path) refl h
      where
        choice : World K V → Choice
        choice u = m.rows.choice node.kind (condition m (reads m u) links)

        by_opened : (o : Option (List (Link V))) → w.opened node.path ≡ o → Has (possible_as m Zone (condition_set m v links) (is_some (v.opened node.path)) (m.rows.choice node.kind (condition m (reads m v) links)) links) link
            → Has (possible_as m Zone (condition_set m w links) (is_some (w.opened node.path)) (m.rows.choice node.kind (condition m (reads m w) links)) links) link
        by_opened None e k =
            subst (λ o. Has (possible_as m Zone (condition_set m w links) (is_some o) (m.rows.choice node.kind (condition m (reads m w) links)) links) link) (sym e)
            (possible_from Zone (condition_set m v links) (is_some (v.opened node.path)) (m.rows.choice node.kind (condition m (reads m v) links)) links link k)
        by_opened (Some outs) e k =
            subst (λ o. Has (possible_as m Zone (condition_set m w links) (is_some o) (m.rows.choice node.kind (condition m (reads m w) links)) links) link) (sym e)
            (subst (λ o. Has (possible_as m Zone (condition_set m v links) (is_some o) (m.rows.choice node.kind (condition m (reads m v) links)) links) link) (grows.opened node.path outs e) k)
    fewer node Switch [] link h = absurd (none_of (condition_set m v []) h)
      where
        none_of : (b : Bool) → Has (possible_as m Switch b (is_some (v.opened node.path)) (m.rows.choice node.kind (condition m (reads m v) [])) []) link → ⊥
        none_of true k = k
        none_of false k = k
    fewer node Switch (first ∷ links) link h = by_set (is_set w first.from) refl (is_set v first.from) refl h
      where
        by_set : (b : Bool) → is_set w first.from ≡ b → (d : Bool) → is_set v first.from ≡ d → Has (possible_as m Switch d (is_some (v.opened node.path)) (m.rows.choice node.kind (reads m v first)) (first ∷ links)) link
            → Has (possible_as m Switch b (is_some (w.opened node.path)) (m.rows.choice node.kind (reads m w first)) (first ∷ links)) link
        by_set false e d f k = possible_from Switch d (is_some (v.opened node.path)) (m.rows.choice node.kind (reads m v first)) (first ∷ links) link k
        by_set true e true f k = subst (λ u. Has (first ∷ chosen (m.rows.choice node.kind u) links) link) (read_stays m w v grows first e) k
        by_set true e false f k = let bad : true ≡ false = sym (set_stays m w v grows first.from e) ∙ f in cc

    pub fewer_possible : (node : Node K V) (link : Link V) → Has (possible m v node) link → Has (possible m w node) link
    fewer_possible node link h = fewer node (m.rows.role node.kind) node.links link h

  -- an event that opens no zone
  narrows_plainly : (task : Task K V) (w v : World K V) → Grows m w v → v.graph ≡ w.graph → v.opened ≡ w.opened → (x : Source V) → Reached m task v (possible m v) x → Reached m task w (possible m w) x
  narrows_plainly task w v grows graph opened x (Reached.a_root link h) = Reached.a_root link h
  narrows_plainly task w v grows graph opened x (Reached.an_input node s link h r has) =
      Reached.an_input node s link (subst (λ ns. Has ns node) graph h) (narrows_plainly task w v grows graph opened (an_output node.path s) r) (fewer_possible w v grows node link has)
  narrows_plainly task w v grows graph opened x (Reached.a_result p s outs link is r at) =
      Reached.a_result p s outs link (ap (λ f. f p) (sym opened) ∙ is) (narrows_plainly task w v grows graph opened (an_output p s) r) at

module _ {K V S T : Type 0} (m : Meanings K V S T) (lawful : IsLawful m) (task : Task K V) where
  module _ (w : World K V) (g : Shape m lawful task w) (zone : Node K V) (h : Has w.graph zone) (not : finished w zone.path ≡ false) (role : m.rows.role zone.kind ≡ Zone) (grows : Grows m w (with_turns m w zone (turn_nodes m (reads m w) zone) (result_links m (reads m w) zone) (run_of m (reads m w) None zone).warnings)) where
    abbrev turns : List (Node K V)
    turns = turn_nodes m (reads m w) zone

    abbrev outs : List (Link V)
    outs = result_links m (reads m w) zone

    abbrev v : World K V
    v = with_turns m w zone turns outs (run_of m (reads m w) None zone).warnings

    abbrev Before : Source V → Type 0
    Before = Reached m task w (possible m w)

    turn_apart : (a b : Node K V) → Has w.graph a → Has turns b → a.path ≡ b.path → ⊥
    turn_apart a b a_in b_in same = apart m lawful task w g zone h not role (opened_by m (reads m w) zone) (zone_well m lawful task w g zone h role) (run_of m (reads m w) None zone).warnings a b a_in b_in same

    -- an output that may be used may have been so before, or is one of a new turn whose zone may have been used
    abbrev WasPossible : Source V → Type 0
    WasPossible (an_output p s) = Before (an_output p s) ⊎ ((x : Node K V) × Has turns x × (x.path ≡ p) × ((k : ℕ) × Before (an_output zone.path k)))
    WasPossible _ = Unit {0}

    shut : w.opened zone.path ≡ None
    shut = not_opened m lawful task w g zone.path not (w.opened zone.path) refl

    -- before the zone is opened all its links may be used
    zone_possible : (link : Link V) → Has zone.links link → Has (possible m w zone) link
    zone_possible link has =
        subst (λ r. Has (possible_as m r (condition_set m w zone.links) (is_some (w.opened zone.path)) (choice_of m (reads m w) zone) zone.links) link) (sym role)
        (subst (λ o. Has (possible_as m Zone (condition_set m w zone.links) (is_some o) (choice_of m (reads m w) zone) zone.links) link) (sym shut) has)

    item_possible : (k : ℕ) → Before (an_output zone.path k) → (i : ℕ) (p : Path) (s : ℕ) → (outer_source m zone (an_item i)).from ≡ an_output p s → Before (an_output p s)
    item_possible k z i p s e = by_place (at_or (tail_of zone.links) i (plain_link (a_value m.nothing)))
      where
        by_place : (slice_get (tail_of zone.links) i ≡ Some (outer_source m zone (an_item i))) ⊎ ((slice_get (tail_of zone.links) i ≡ None) × (outer_source m zone (an_item i) ≡ plain_link (a_value m.nothing))) → Before (an_output p s)
        by_place (inl at) =
            let has : Has zone.links (outer_source m zone (an_item i)) = tail_from zone.links (outer_source m zone (an_item i)) (member_at (tail_of zone.links) i (outer_source m zone (an_item i)) at) in
            subst Before e (Reached.an_input zone k (outer_source m zone (an_item i)) h z (zone_possible (outer_source m zone (an_item i)) has))
        by_place (inr at) = let bad : ◌≡◌ {A = Source V} (a_value m.nothing) (an_output p s) = ap (λ l. l.from) (sym at.1) ∙ e in cc

    -- a link that stood inside the zone, to a node of its turns
    inner_source : (l : Link V) (t : S) → LinkSort m (m.gives zone.kind) (opened_by m (reads m w) zone).nodes l t → (p : Path) (s : ℕ) → l.from ≡ an_output p s → (x : Node K V) × Has turns x × (x.path ≡ p)
    inner_source l t sort p s e =
        let src : SourceSort m (m.gives zone.kind) (opened_by m (reads m w) zone).nodes (an_output p s) sort.0 = subst (λ y. SourceSort m (m.gives zone.kind) (opened_by m (reads m w) zone).nodes y sort.0) e sort.1 in
        (outer_node m zone src.0, has_image (outer_node m zone) (opened_by m (reads m w) zone).nodes src.0 src.1, src.2)

    inner_possible : (k : ℕ) → Before (an_output zone.path k) → (l : Link V) (t : S) → LinkSort m (m.gives zone.kind) (opened_by m (reads m w) zone).nodes l t → (y : Source V) → l.from ≡ y → (z : Source V) → (outer_link m zone l).from ≡ z → WasPossible z
    inner_possible k z l t sort y is (a_value u) e = tt
    inner_possible k z l t sort y is (an_item i) e = tt
    inner_possible k z l t sort (a_value u) is (an_output p s) e = let bad : ◌≡◌ {A = Source V} (a_value u) (an_output p s) = ap (λ q. (outer_source m zone q).from) (sym is) ∙ e in cc
    inner_possible k z l t sort (an_item i) is (an_output p s) e = inl (item_possible k z i p s (ap (λ q. (outer_source m zone q).from) (sym is) ∙ e))
    inner_possible k z l t sort (an_output q j) is (an_output p s) e =
        let x : (x : Node K V) × Has turns x × (x.path ≡ p) = inner_source l t sort p s (is ∙ ap (λ r. (outer_source m zone r).from) (sym is) ∙ e) in
        inr (x.0, x.1, x.2, (k, z))

    some_before : (x : Source V) → Before x → WasPossible x
    some_before (a_value u) r = tt
    some_before (an_item i) r = tt
    some_before (an_output p s) r = inl r

    -- what may be used has a sort, so that an output is one of a node of the graph
    before_sort : (x : Source V) → Before x → (s : S) × SourceSort m [] w.graph x s
    before_sort x (Reached.a_root link k) = let r : (s : S) × LinkSort m [] w.graph link s = g.roots link k in (r.1.0, r.1.1)
    before_sort x (Reached.an_input node s link k r has) =
        let f : NodeFits m [] w.graph node = g.fit node k in
        let t : (t : S) × LinkSort m [] w.graph link t = beside_of (LinkSort m [] w.graph) node.links f.sorts (links_beside m [] w.graph node.links f.sorts f.links) link (possible_linked m w node link has) in
        (t.1.0, t.1.1)
    before_sort x (Reached.a_result p s os link is r at) =
        let z : (z : Node K V) × Has w.graph z × (z.path ≡ p) × (m.rows.role z.kind ≡ Zone) × LinkSorts m [] w.graph os (m.gives z.kind) = g.opened p os is in
        let t : (t : S) × LinkSort m [] w.graph link t = beside_of (LinkSort m [] w.graph) os (m.gives z.0.kind) (links_beside m [] w.graph os (m.gives z.0.kind) z.4) link (member_at os s link at) in
        (t.1.0, t.1.1)

    -- of a node that was there, an output was possible before
    old_before : (node : Node K V) (s : ℕ) → Has w.graph node → WasPossible (an_output node.path s) → Before (an_output node.path s)
    old_before node s k (inl r) = r
    old_before node s k (inr t) = absurd (turn_apart node t.0 k t.1 (sym t.2))

    -- of a new node, the zone was possible before
    new_before : (node : Node K V) (s : ℕ) → Has turns node → WasPossible (an_output node.path s) → (j : ℕ) × Before (an_output zone.path j)
    new_before node s k (inl r) = let t : (t : S) × SourceSort m [] w.graph (an_output node.path s) t = before_sort (an_output node.path s) r in absurd (turn_apart t.1.0 node t.1.1 k t.1.2)
    new_before node s k (inr t) = t.3

    well : OpensWell m zone.path zone.kind (opened_by m (reads m w) zone)
    well = zone_well m lawful task w g zone h role

    turn_link : (node : Node K V) → Has turns node → (link : Link V) → Has node.links link → (j : ℕ) → Before (an_output zone.path j) → WasPossible link.from
    turn_link node k link has j z =
        let x : (x : Node K V) × Has (opened_by m (reads m w) zone).nodes x × (node ≡ outer_node m zone x) = image_of (outer_node m zone) (opened_by m (reads m w) zone).nodes node k in
        let l : (l : Link V) × Has x.0.links l × (link ≡ outer_link m zone l) = image_of (outer_link m zone) x.0.links link (subst (λ n. Has n.links link) x.2 has) in
        let f : NodeFits m (m.gives zone.kind) (opened_by m (reads m w) zone).nodes x.0 = each_fits m (m.gives zone.kind) [] (opened_by m (reads m w) zone).nodes well.fit x.0 x.1 in
        let t : (t : S) × LinkSort m (m.gives zone.kind) (opened_by m (reads m w) zone).nodes l.0 t =
        beside_of (LinkSort m (m.gives zone.kind) (opened_by m (reads m w) zone).nodes) x.0.links f.sorts (links_beside m (m.gives zone.kind) (opened_by m (reads m w) zone).nodes x.0.links f.sorts f.links) l.0 l.1 in
        inner_possible j z l.0 t.0 t.1 l.0.from refl link.from (ap (λ y. y.from) (sym l.2))

    zone_result : (link : Link V) → Has outs link → (j : ℕ) → Before (an_output zone.path j) → WasPossible link.from
    zone_result link has j z =
        let l : (l : Link V) × Has (opened_by m (reads m w) zone).outputs l × (link ≡ outer_link m zone l) = image_of (outer_link m zone) (opened_by m (reads m w) zone).outputs link has in
        let t : (t : S) × LinkSort m (m.gives zone.kind) (opened_by m (reads m w) zone).nodes l.0 t =
        beside_of (LinkSort m (m.gives zone.kind) (opened_by m (reads m w) zone).nodes) (opened_by m (reads m w) zone).outputs (m.gives zone.kind)
        (links_beside m (m.gives zone.kind) (opened_by m (reads m w) zone).nodes (opened_by m (reads m w) zone).outputs (m.gives zone.kind) well.outputs) l.0 l.1 in
        inner_possible j z l.0 t.0 t.1 l.0.from refl link.from (ap (λ y. y.from) (sym l.2))

    by_side : (node : Node K V) (s : ℕ) (link : Link V) → Has w.graph node ⊎ Has turns node → WasPossible (an_output node.path s) → Has (possible m v node) link → WasPossible link.from
    by_side node s link (inl old) was has = some_before link.from (Reached.an_input node s link old (old_before node s old was) (fewer_possible m w v grows node link has))
    by_side node s link (inr new) was has = let z : (j : ℕ) × Before (an_output zone.path j) = new_before node s new was in turn_link node new link (possible_linked m v node link has) z.0 z.1

    by_entry : (p : Path) (s : ℕ) (os : List (Link V)) (link : Link V) → (zone.path ≡ p) × (outs ≡ os) ⊎ (zone.path ≢ p) × (w.opened p ≡ Some os) → WasPossible (an_output p s) → slice_get os s ≡ Some link → WasPossible link.from
    by_entry p s os link (inl e) was at =
        zone_result link (subst (λ xs. Has xs link) (sym e.1) (member_at os s link at)) s (old_before zone s h (subst (λ q. WasPossible (an_output q s)) (sym e.0) was))
    by_entry p s os link (inr e) was at =
        let z : (z : Node K V) × Has w.graph z × (z.path ≡ p) × (m.rows.role z.kind ≡ Zone) × LinkSorts m [] w.graph os (m.gives z.kind) = g.opened p os e.1 in
        let r : Before (an_output z.0.path s) = old_before z.0 s z.1 (subst (λ q. WasPossible (an_output q s)) (sym z.2) was) in
        some_before link.from (Reached.a_result p s os link e.1 (subst (λ q. Before (an_output q s)) z.2 r) at)

    was_possible : (x : Source V) → Reached m task v (possible m v) x → WasPossible x
    was_possible x (Reached.a_root link k) = some_before link.from (Reached.a_root link k)
    was_possible x (Reached.an_input node s link k r has) = by_side node s link (has_either w.graph turns node k) (was_possible (an_output node.path s) r) has
    was_possible x (Reached.a_result p s os link is r at) = by_entry p s os link (entry_is zone.path outs w.opened p os is) (was_possible (an_output p s) r) at

    pub opening_narrows : (node : Node K V) → Has w.graph node → MaybeUsed m task v node → MaybeUsed m task w node
    opening_narrows node k u = (u.0, old_before node u.0 k (was_possible (an_output node.path u.0) u.1))

  step_narrows : (w v : World K V) → Shape m lawful task w → Step m lawful task (AnyAnswer m lawful task) w v → Grows m w v → (node : Node K V) → Has w.graph node → MaybeUsed m task v node → MaybeUsed m task w node
  step_narrows w v g Step.nothing_new grows node k u = u
  step_narrows w v g (Step.gives_outputs x h fed not plain answer e there) grows node k u = (u.0, narrows_plainly m task w v grows refl refl (an_output node.path u.0) u.1)
  step_narrows w v g (Step.gives_answer x h file none a told) grows node k u = (u.0, narrows_plainly m task w v grows refl refl (an_output node.path u.0) u.1)
  step_narrows w v g (Step.opens_zone zone h fed not role) grows node k u = opening_narrows w g zone h not role grows node k u

  graph_stays : CanStart m task → (later es : List Event) → IsRun m task (later ++ es) → (node : Node K V) → Has (world m task es).graph node → Has (world m task (later ++ es)).graph node
  graph_stays c [] es r node h = h
  graph_stays c (e ∷ later) es r node h =
      node_stays m (world m task (later ++ es)) (world m task (e ∷ later ++ es)) (event_grows m lawful task c e (later ++ es) r) node (graph_stays c later es r.1 node h)

  narrows : CanStart m task → (later es : List Event) → IsRun m task (later ++ es) → (node : Node K V) → Has (world m task es).graph node → MaybeUsed m task (world m task (later ++ es)) node → MaybeUsed m task (world m task es) node
  narrows c [] es r node h u = u
  narrows c (e ∷ later) es r node h u =
      let k : Kept m lawful task (later ++ es) = kept m lawful task c (later ++ es) r.1 in
      narrows c later es r.1 node h
      (step_narrows (world m task (later ++ es)) (world m task (e ∷ later ++ es)) k.shape (step_of m lawful task (AnyAnswer m lawful task) e (later ++ es) k r.0 (λ n b x same at. tt))
      (event_grows m lawful task c e (later ++ es) r) node (graph_stays c later es r.1 node h) u)

  pub uses_narrow : CanStart m task → (later es : List Event) → IsRun m task (later ++ es) → UsesNarrow m task later es
  uses_narrow c later es r = record { possible = λ node u. (u.0, reached_possible m task (world m task es) (an_output node.path u.0) u.1); narrow = narrows c later es r }
