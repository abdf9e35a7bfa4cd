-- The nodes of a world can be ranked: links lead to lesser ranks, and so do the outputs of zones that are opened.
use Rattle.std.proofs.Common.{◌≡◌, ◌≢◌, ◌⊎◌, inl, inr, ◌<◌, ◌≤◌, ◌+◌, ◌*◌, ℕ, suc, length, List, [], ◌∷◌, ◌++◌, map, Option, Some, None, false, refl, sym, ◌∙◌, ap, subst, arith, mul-le-mul_right}
use Rattle.std.proofs.Math.Nat.{suc-mul}
use Rattle.std.specs.Prelude.{unwrap_or, option_map, if◌then◌else◌, slice_get, slice_index_or}
use Rattle.gn_node_set.specs.Paths.{Path, same_path}
use Rattle.gn_node_set.specs.Meanings.{Has, Source, a_value, an_item, an_output, Link, plain_link, along, Node, Opened, Zone, Answer, Warning, Meanings, AllDiffer, tail_of}
use Rattle.gn_exec_laws.specs.Graphs.{Task, outer_source, outer_link, outer_node, opened_by, run_of}
use Rattle.gn_exec_laws.specs.Fits.{paths_of, SourceSort, LinkSort, LinkSorts, NodeFits, NodesFit, CanStart, OpensWell, IsLawful}
use Rattle.gn_exec_laws.specs.Machine.{Event, World, finished, link_now, reads, led_on, with_turns, first_world, world, IsRun}
use Rattle.gn_node_set.proofs.Lists.{append_nil, append_assoc, map_append, has_second, has_either, has_image, image_of, member_at, index_at, at_or}
use Rattle.gn_node_set.proofs.Paths.{by_path, entry_is}
use Rattle.gn_exec_laws.proofs.Sorts.{beside_of, links_beside, tail_from}
use Rattle.gn_exec_laws.proofs.Shapes.{Shape, apart, turn_shut, outs_sorts, not_opened}
use Rattle.gn_exec_laws.proofs.Kept.{Kept, kept, Step, AnyAnswer, step_of, zone_well}

-- ---- places in a list of paths

abbrev position_in : List Path → Path → Option ℕ
position_in [] p = None
position_in (q ∷ qs) p = if same_path q p then Some 0 else option_map suc (position_in qs p)

position_before : (before after : List Path) (p : Path) → Has before p → (i : ℕ) × (position_in (before ++ after) p ≡ Some i) × (i < length before)
position_before [] after p h = absurd h
position_before (q ∷ before) after p h =
    by_path (λ t. (i : ℕ) × ((if t then Some 0 else option_map suc (position_in (before ++ after) p)) ≡ Some i) × (i < suc (length before))) q p
    (λ _. (0, refl, omega arith))
    (λ other. elim h [
      | inl e ↦ absurd (other (sym e))
      | inr k ↦
          let t : (i : ℕ) × (position_in (before ++ after) p ≡ Some i) × (i < length before) = position_before before after p k in
          let less : t.0 < length before = t.2 in
          (suc t.0, ap (option_map suc) t.1, omega arith)
    ])

position_here : (before after : List Path) (p : Path) → (¬ Has before p) → position_in (before ++ p ∷ after) p ≡ Some (length before)
position_here [] after p none = by_path (λ t. (if t then Some 0 else option_map suc (position_in after p)) ≡ Some 0) p p (λ _. refl) (λ n. absurd (n refl))
position_here (q ∷ before) after p none =
    by_path (λ t. (if t then Some 0 else option_map suc (position_in (before ++ p ∷ after) p)) ≡ Some (suc (length before))) q p
    (λ same. absurd (none (inl (sym same)))) (λ _. ap (option_map suc) (position_here before after p (λ h. none (inr h))))

position_none : (qs : List Path) (p : Path) → (¬ Has qs p) → position_in qs p ≡ None
position_none [] p none = refl
position_none (q ∷ qs) p none =
    by_path (λ t. (if t then Some 0 else option_map suc (position_in qs p)) ≡ None) q p
    (λ same. absurd (none (inl (sym same)))) (λ _. ap (option_map suc) (position_none qs p (λ h. none (inr h))))

not_again : {A : Type 0} (xs ys : List A) (y : A) → AllDiffer (xs ++ y ∷ ys) → ¬ Has xs y
not_again [] ys y d h = h
not_again (x ∷ xs) ys y d (inl e) = d.0 (has_second xs (y ∷ ys) x (inl (sym e)))
not_again (x ∷ xs) ys y d (inr h) = not_again xs ys y d.1 h

-- ---- ranks with room for the turns of a zone

rank_at : ℕ → ℕ → ℕ → Option ℕ → ℕ
rank_at r z n None = r * suc n + n
rank_at r z n (Some i) = z * suc n + i

scaled : (a b n : ℕ) → a < b → a * suc n + suc n ≤ b * suc n
scaled a b n h = subst (λ x. x ≤ b * suc n) (suc-mul a (suc n)) (mul-le-mul_right (suc n) h)

room : (x y n i : ℕ) → x + suc n ≤ y → x + n < y + i
room x y n i h = omega arith

room_above : (x n i : ℕ) → i < n → x + i < x + n
room_above x n i h = omega arith

keeps_less : (x y n : ℕ) → x + suc n ≤ y → x + n < y + n
keeps_less x y n h = omega arith

keeps_most : (x y n : ℕ) → x ≤ y → x + n ≤ y + n
keeps_most x y n h = omega arith

below_all : (a b c : ℕ) → a ≤ b → b < c → a < c
below_all a b c h k = omega arith

below_most : (a b c : ℕ) → a < b → b ≤ c → a ≤ c
below_most a b c h k = omega arith

most_all : (a b c : ℕ) → a ≤ b → b ≤ c → a ≤ c
most_all a b c h k = omega arith

at_most_itself : (a : ℕ) → a ≤ a
at_most_itself a = omega arith

never : (a b : ℕ) → a < b → b ≤ a → ⊥
never a b h k = omega arith

module _ (rank : Path → ℕ) (z : Path) (qs : List Path) where
  new_rank : Path → ℕ
  new_rank p = rank_at (rank p) (rank z) (length qs) (position_in qs p)

  old_rank : (p : Path) → (¬ Has qs p) → new_rank p ≡ rank p * suc (length qs) + length qs
  unfolding new_rank rank_at
  old_rank p none = ap (rank_at (rank p) (rank z) (length qs)) (position_none qs p none)

  turn_rank : (p : Path) (i : ℕ) → position_in qs p ≡ Some i → new_rank p ≡ rank z * suc (length qs) + i
  unfolding new_rank rank_at
  turn_rank p i at = ap (rank_at (rank p) (rank z) (length qs)) at

  old_less : (p q : Path) → (¬ Has qs p) → (¬ Has qs q) → rank p < rank q → new_rank p < new_rank q
  old_less p q a b h =
      subst (λ x. x < new_rank q) (sym (old_rank p a))
      (subst (λ y. rank p * suc (length qs) + length qs < y) (sym (old_rank q b)) (keeps_less (rank p * suc (length qs)) (rank q * suc (length qs)) (length qs) (scaled (rank p) (rank q) (length qs) h)))

  old_most : (p q : Path) → (¬ Has qs p) → (¬ Has qs q) → rank p ≤ rank q → new_rank p ≤ new_rank q
  old_most p q a b h =
      subst (λ x. x ≤ new_rank q) (sym (old_rank p a))
      (subst (λ y. rank p * suc (length qs) + length qs ≤ y) (sym (old_rank q b)) (keeps_most (rank p * suc (length qs)) (rank q * suc (length qs)) (length qs) (mul-le-mul_right (suc (length qs)) h)))

  -- what was below the zone is below its turns
  below_turn : (p q : Path) (i : ℕ) → (¬ Has qs p) → rank p < rank z → position_in qs q ≡ Some i → new_rank p < new_rank q
  below_turn p q i a h at =
      subst (λ x. x < new_rank q) (sym (old_rank p a))
      (subst (λ y. rank p * suc (length qs) + length qs < y) (sym (turn_rank q i at)) (room (rank p * suc (length qs)) (rank z * suc (length qs)) (length qs) i (scaled (rank p) (rank z) (length qs) h)))

  -- its turns are below the zone
  turn_below : (p : Path) (i : ℕ) → (¬ Has qs z) → position_in qs p ≡ Some i → i < length qs → new_rank p < new_rank z
  turn_below p i a at h =
      subst (λ x. x < new_rank z) (sym (turn_rank p i at))
      (subst (λ y. rank z * suc (length qs) + i < y) (sym (old_rank z a)) (room_above (rank z * suc (length qs)) (length qs) i h))

  turns_rise : (p q : Path) (i j : ℕ) → position_in qs p ≡ Some i → position_in qs q ≡ Some j → i < j → new_rank p < new_rank q
  turns_rise p q i j a b h =
      subst (λ x. x < new_rank q) (sym (turn_rank p i a)) (subst (λ y. rank z * suc (length qs) + i < y) (sym (turn_rank q j b)) (room_above (rank z * suc (length qs)) j i h))

module _ {K V S T : Type 0} (m : Meanings K V S T) (lawful : IsLawful m) (task : Task K V) where
  -- ---- the links of nodes that fit lead back

  -- the paths at both ends of a link stand in the list, that of its origin first
  abbrev LeadsBack : List Path → Path → Path → Type 0
  LeadsBack qs p q = (i : ℕ) × (j : ℕ) × (position_in qs p ≡ Some i) × (position_in qs q ≡ Some j) × (i < j)

  source_of : (items : List S) (ns : List (Node K V)) (node : Node K V) → NodeFits m items ns node → (link : Link V) → Has node.links link → (p : Path) (k : ℕ) → link.from ≡ an_output p k → (x : Node K V) × Has ns x × (x.path ≡ p)
  source_of items ns node f link h p k e =
      let s : (s : S) × LinkSort m items ns link s = beside_of (LinkSort m items ns) node.links f.sorts (links_beside m items ns node.links f.sorts f.links) link h in
      let src : SourceSort m items ns (an_output p k) s.1.0 = subst (λ y. SourceSort m items ns y s.1.0) e s.1.1 in
      (src.0, src.1, src.2)

  leads_back : (items : List S) (before ns : List (Node K V)) → NodesFit m items before ns → AllDiffer (paths_of (before ++ ns)) → (node : Node K V) → Has ns node → (link : Link V) → Has node.links link → (p : Path) (k : ℕ) → link.from ≡ an_output p k → LeadsBack (paths_of (before ++ ns)) p node.path
  leads_back items before [] f d node h link has p k e = absurd h
  leads_back items before (n ∷ ns) f d node (inl same) link has p k e =
      let x : (x : Node K V) × Has before x × (x.path ≡ p) = source_of items before n f.0 link (subst (λ y. Has y.links link) same has) p k e in
      let joined : paths_of (before ++ n ∷ ns) ≡ paths_of before ++ n.path ∷ paths_of ns = map_append (λ y. y.path) before (n ∷ ns) in
      let at : (i : ℕ) × (position_in (paths_of before ++ n.path ∷ paths_of ns) p ≡ Some i) × (i < length (paths_of before)) =
      position_before (paths_of before) (n.path ∷ paths_of ns) p (subst (Has (paths_of before)) x.2 (has_image (λ y. y.path) before x.0 x.1)) in
      let here : position_in (paths_of before ++ n.path ∷ paths_of ns) n.path ≡ Some (length (paths_of before)) =
      position_here (paths_of before) (paths_of ns) n.path (not_again (paths_of before) (paths_of ns) n.path (subst AllDiffer joined d)) in
      subst (λ y. LeadsBack (paths_of (before ++ n ∷ ns)) p y.path) (sym same)
      (subst (λ qs. LeadsBack qs p n.path) (sym joined) (at.0, length (paths_of before), at.1, here, at.2))
  leads_back items before (n ∷ ns) f d node (inr h) link has p k e =
      subst (λ xs. LeadsBack (paths_of xs) p node.path) (append_assoc before (n ∷ []) ns)
      (leads_back items (before ++ n ∷ []) ns f.1 (subst (λ xs. AllDiffer (paths_of xs)) (sym (append_assoc before (n ∷ []) ns)) d) node h link has p k e)

  -- ---- ranks of a world

  pub record Ordered (w : World K V) : Type 0 where
    pub rank : Path → ℕ
    pub links : (node : Node K V) (link : Link V) (p : Path) (k : ℕ) → Has w.graph node → Has node.links link → link.from ≡ an_output p k → rank p < rank node.path
    pub results : (q : Path) (outs : List (Link V)) (link : Link V) (p : Path) (k : ℕ) → w.opened q ≡ Some outs → Has outs link → link.from ≡ an_output p k → rank p < rank q
    pub leads : (node : Node K V) (k : ℕ) (s : S) (q : Path) (j : ℕ) → Has w.graph node → slice_get (m.gives node.kind) k ≡ Some s → (w.leads (an_output node.path k)).from ≡ an_output q j → rank q ≤ rank node.path
    -- an output of an opened zone leads where the link that it comes from leads
    pub opens : (p : Path) (k : ℕ) (outs : List (Link V)) (link : Link V) → w.opened p ≡ Some outs → slice_get outs k ≡ Some link → w.leads (an_output p k) ≡ link_now w link

  path_in : {V : Type 0} → Source V → Path
  path_in (an_output p k) = p
  path_in _ = []

  same_output : (p q : Path) (k j : ℕ) → ◌≡◌ {A = Source V} (an_output p k) (an_output q j) → p ≡ q
  unfolding path_in
  same_output p q k j e = ap path_in e

  pub order_start : CanStart m task → Ordered (first_world m task)
  order_start c = record {
    rank = λ p. unwrap_or (position_in (paths_of task.nodes) p) 0;
    links = λ node link p k h has e.
        let b : LeadsBack (paths_of task.nodes) p node.path = leads_back [] [] task.nodes c.fit c.differ node h link has p k e in
        subst (λ x. x < unwrap_or (position_in (paths_of task.nodes) node.path) 0) (sym (ap (λ o. unwrap_or o 0) b.2))
        (subst (λ y. b.0 < y) (sym (ap (λ o. unwrap_or o 0) b.3)) b.4);
    results = λ q outs link p k e. cc;
    leads = λ node k s q j h at e. subst (λ r. unwrap_or (position_in (paths_of task.nodes) r) 0 ≤ unwrap_or (position_in (paths_of task.nodes) node.path) 0) (same_output node.path q k j e) (at_most_itself (unwrap_or (position_in (paths_of task.nodes) node.path) 0));
    opens = λ p k outs link e. cc;
  }

  module _ (w : World K V) (g : Shape m lawful task w) (o : Ordered w) (zone : Node K V) (h : Has w.graph zone) (not : finished w zone.path ≡ false) (role : m.rows.role zone.kind ≡ Zone) (opened : Opened K V) (well : OpensWell m zone.path zone.kind opened) (warnings : List Warning) where
    abbrev turns : List (Node K V)
    turns = map (outer_node m zone) opened.nodes

    abbrev outs : List (Link V)
    outs = map (outer_link m zone) opened.outputs

    abbrev v' : World K V
    v' = with_turns m w zone turns outs warnings

    abbrev qs : List Path
    qs = paths_of opened.nodes

    abbrev rank' : Path → ℕ
    rank' = new_rank o.rank zone.path qs

    -- a node of the graph is in no turn of this zone
    is_old : (node : Node K V) → Has w.graph node → ¬ Has qs node.path
    is_old node k in_qs =
        let x : (x : Node K V) × Has opened.nodes x × (node.path ≡ x.path) = image_of (λ n. n.path) opened.nodes node.path in_qs in
        apart m lawful task w g zone h not role opened well warnings node (outer_node m zone x.0) k (has_image (outer_node m zone) opened.nodes x.0 x.1) x.2

    old_path : (p : Path) → (x : Node K V) × Has w.graph x × (x.path ≡ p) → ¬ Has qs p
    old_path p x = subst (λ q. ¬ Has qs q) x.2 (is_old x.0 x.1)

    -- where an item leads is below the zone
    item_below : (i : ℕ) (p : Path) (k : ℕ) → (outer_source m zone (an_item i)).from ≡ an_output p k → (¬ Has qs p) × (o.rank p < o.rank zone.path)
    item_below i p k e = by_place (at_or (tail_of zone.links) i (plain_link (a_value m.nothing)))
      where
        by_place : (slice_get (tail_of zone.links) i ≡ Some (outer_source m zone (an_item i))) ⊎ ((slice_get (tail_of zone.links) i ≡ None) × (outer_source m zone (an_item i) ≡ plain_link (a_value m.nothing))) → (¬ Has qs p) × (o.rank p < o.rank zone.path)
        by_place (inl at) =
            let has : Has zone.links (outer_source m zone (an_item i)) = tail_from zone.links (outer_source m zone (an_item i)) (member_at (tail_of zone.links) i (outer_source m zone (an_item i)) at) in
            (old_path p (source_of [] w.graph zone (g.fit zone h) (outer_source m zone (an_item i)) has p k e), o.links zone (outer_source m zone (an_item i)) p k h has e)
        by_place (inr at) = let bad : ◌≡◌ {A = Source V} (a_value m.nothing) (an_output p k) = ap (λ l. l.from) (sym at.1) ∙ e in cc

    -- a link inside the zone leads below it, or to a node of its turns
    inner_link : (link : Link V) (p : Path) (k : ℕ) → (outer_link m zone link).from ≡ an_output p k → (y : Source V) → link.from ≡ y → (¬ Has qs p) × (o.rank p < o.rank zone.path) ⊎ (link.from ≡ an_output p k)
    inner_link link p k e (a_value u) is = let bad : ◌≡◌ {A = Source V} (a_value u) (an_output p k) = ap (λ y. (outer_source m zone y).from) (sym is) ∙ e in cc
    inner_link link p k e (an_item i) is = inl (item_below i p k (ap (λ y. (outer_source m zone y).from) (sym is) ∙ e))
    inner_link link p k e (an_output q j) is = inr (is ∙ ap (λ y. (outer_source m zone y).from) (sym is) ∙ e)

    turn_links : (node : Node K V) (link : Link V) (p : Path) (k : ℕ) → Has turns node → Has node.links link → link.from ≡ an_output p k → rank' p < rank' node.path
    turn_links node link p k h' has e =
        let x : (x : Node K V) × Has opened.nodes x × (node ≡ outer_node m zone x) = image_of (outer_node m zone) opened.nodes node h' in
        let l : (l : Link V) × Has x.0.links l × (link ≡ outer_link m zone l) = image_of (outer_link m zone) x.0.links link (subst (λ n. Has n.links link) x.2 has) in
        let here : (i : ℕ) × (position_in (qs ++ []) x.0.path ≡ Some i) × (i < length qs) = position_before qs [] x.0.path (has_image (λ n. n.path) opened.nodes x.0 x.1) in
        let at : position_in qs x.0.path ≡ Some here.0 = subst (λ ps. position_in ps x.0.path ≡ Some here.0) (append_nil qs) here.1 in
        subst (λ n. rank' p < rank' n.path) (sym x.2)
        (elim (inner_link l.0 p k (ap (λ y. y.from) (sym l.2) ∙ e) l.0.from refl) [
          | inl low ↦ below_turn o.rank zone.path qs p x.0.path here.0 low.0 low.1 at
          | inr inner ↦
              let b : LeadsBack qs p x.0.path = leads_back (m.gives zone.kind) [] opened.nodes well.fit well.differ x.0 x.1 l.0 l.1 p k inner in
              turns_rise o.rank zone.path qs p x.0.path b.0 b.1 b.2 b.3 b.4
        ])

    old_links : (node : Node K V) (link : Link V) (p : Path) (k : ℕ) → Has w.graph node → Has node.links link → link.from ≡ an_output p k → rank' p < rank' node.path
    old_links node link p k h' has e =
        old_less o.rank zone.path qs p node.path (old_path p (source_of [] w.graph node (g.fit node h') link has p k e)) (is_old node h') (o.links node link p k h' has e)

    out_source : (ls : List (Link V)) (sorts items : List S) (ns : List (Node K V)) → LinkSorts m items ns ls sorts → (link : Link V) → Has ls link → (p : Path) (k : ℕ) → link.from ≡ an_output p k → (x : Node K V) × Has ns x × (x.path ≡ p)
    out_source ls sorts items ns s link has p k e =
        let t : (t : S) × LinkSort m items ns link t = beside_of (LinkSort m items ns) ls sorts (links_beside m items ns ls sorts s) link has in
        let src : SourceSort m items ns (an_output p k) t.1.0 = subst (λ y. SourceSort m items ns y t.1.0) e t.1.1 in
        (src.0, src.1, src.2)

    -- the zone's outputs come from below the zone: from a node of its turns, or from an older one
    out_below : (link : Link V) (p : Path) (k : ℕ) → Has outs link → link.from ≡ an_output p k → ((¬ Has qs p) × (o.rank p < o.rank zone.path) ⊎ ((x : Node K V) × Has turns x × (x.path ≡ p))) × (rank' p < rank' zone.path)
    out_below link p k has e =
        let l : (l : Link V) × Has opened.outputs l × (link ≡ outer_link m zone l) = image_of (outer_link m zone) opened.outputs link has in
        elim (inner_link l.0 p k (ap (λ y. y.from) (sym l.2) ∙ e) l.0.from refl) [
          | inl low ↦ (inl low, old_less o.rank zone.path qs p zone.path low.0 (is_old zone h) low.1)
          | inr inner ↦
              let x : (x : Node K V) × Has opened.nodes x × (x.path ≡ p) = out_source opened.outputs (m.gives zone.kind) (m.gives zone.kind) opened.nodes well.outputs l.0 l.1 p k inner in
              let here : (i : ℕ) × (position_in (qs ++ []) p ≡ Some i) × (i < length qs) = position_before qs [] p (subst (Has qs) x.2 (has_image (λ n. n.path) opened.nodes x.0 x.1)) in
              let at : position_in qs p ≡ Some here.0 = subst (λ ps. position_in ps p ≡ Some here.0) (append_nil qs) here.1 in
              (inr (outer_node m zone x.0, has_image (outer_node m zone) opened.nodes x.0 x.1, x.2), turn_below o.rank zone.path qs p here.0 (is_old zone h) at here.2)
        ]

    old_results : (q : Path) (os : List (Link V)) (link : Link V) (p : Path) (k : ℕ) → w.opened q ≡ Some os → Has os link → link.from ≡ an_output p k → rank' p < rank' q
    old_results q os link p k is has e =
        let z : (z : Node K V) × Has w.graph z × (z.path ≡ q) × (m.rows.role z.kind ≡ Zone) × LinkSorts m [] w.graph os (m.gives z.kind) = g.opened q os is in
        old_less o.rank zone.path qs p q (old_path p (out_source os (m.gives z.0.kind) [] w.graph z.4 link has p k e)) (old_path q (z.0, z.1, z.2)) (o.results q os link p k is has e)

    -- where an old source leads is old, and not above it
    old_lead : (node : Node K V) (k : ℕ) (s : S) → Has w.graph node → slice_get (m.gives node.kind) k ≡ Some s → (q : Path) (j : ℕ) → (w.leads (an_output node.path k)).from ≡ an_output q j → (¬ Has qs q) × (o.rank q ≤ o.rank node.path)
    old_lead node k s h' at q j e =
        let l : LinkSort m [] w.graph (w.leads (an_output node.path k)) s = g.leads (an_output node.path k) s (node, h', refl, at) in
        let src : SourceSort m [] w.graph (an_output q j) l.0 = subst (λ y. SourceSort m [] w.graph y l.0) e l.1 in
        (old_path q (src.0, src.1, src.2), o.leads node k s q j h' at e)

    -- where an output of the zone leads is below the zone
    result_lead : (link : Link V) → Has outs link → (q : Path) (j : ℕ) → (w.leads link.from).from ≡ an_output q j → (y : Source V) → link.from ≡ y → rank' q < rank' zone.path
    result_lead link has q j e (a_value u) is = let bad : ◌≡◌ {A = Source V} (a_value u) (an_output q j) = sym (ap (λ l. l.from) (ap w.leads is ∙ g.values u)) ∙ e in cc
    result_lead link has q j e (an_item i) is =
        let s : (s : S) × LinkSort m [] v'.graph link s = beside_of (LinkSort m [] v'.graph) outs (m.gives zone.kind) (links_beside m [] v'.graph outs (m.gives zone.kind) (outs_sorts m lawful task w g zone h not role opened well warnings)) link has in
        let src : SourceSort m [] v'.graph (an_item i) s.1.0 = subst (λ y. SourceSort m [] v'.graph y s.1.0) is s.1.1 in
        cc
    result_lead link has q j e (an_output r i) is =
        let s : (s : S) × LinkSort m [] v'.graph link s = beside_of (LinkSort m [] v'.graph) outs (m.gives zone.kind) (links_beside m [] v'.graph outs (m.gives zone.kind) (outs_sorts m lawful task w g zone h not role opened well warnings)) link has in
        let src : SourceSort m [] v'.graph (an_output r i) s.1.0 = subst (λ y. SourceSort m [] v'.graph y s.1.0) is s.1.1 in
        let low : ((¬ Has qs r) × (o.rank r < o.rank zone.path) ⊎ ((x : Node K V) × Has turns x × (x.path ≡ r))) × (rank' r < rank' zone.path) = out_below link r i has is in
        let lead : (w.leads (an_output r i)).from ≡ an_output q j = ap (λ y. (w.leads y).from) (sym is) ∙ e in
        elim (has_either w.graph turns src.0 src.1) [
          | inl old ↦
              let back : (¬ Has qs q) × (o.rank q ≤ o.rank src.0.path) = old_lead src.0 i s.1.0 old src.3 q j (subst (λ p. (w.leads (an_output p i)).from ≡ an_output q j) (sym src.2) lead) in
              elim low.0 [
                | inl below ↦
                    old_less o.rank zone.path qs q zone.path back.0 (is_old zone h)
                    (below_all (o.rank q) (o.rank r) (o.rank zone.path) (subst (λ p. o.rank q ≤ o.rank p) src.2 back.1) below.1)
                | inr x ↦ absurd (apart m lawful task w g zone h not role opened well warnings src.0 x.0 old x.1 (src.2 ∙ sym x.2))
              ]
          | inr new ↦
              let shut : w.opened r ≡ None = subst (λ p. w.opened p ≡ None) src.2 (turn_shut m lawful task w g zone h not role opened well warnings src.0 new (w.opened src.0.path) refl) in
              let same : r ≡ q = same_output r q i j (ap (λ l. l.from) (sym (g.shut r i shut)) ∙ lead) in
              subst (λ p. rank' p < rank' zone.path) same low.1
        ]

    -- the link that stands for an output of the zone, or for one that it doesn't have
    result_at : (i : ℕ) (q : Path) (j : ℕ) → (link_now w (slice_index_or outs i (plain_link (a_value m.nothing)))).from ≡ an_output q j → rank' q < rank' zone.path
    result_at i q j e = by_place (at_or outs i (plain_link (a_value m.nothing)))
      where
        by_place : (slice_get outs i ≡ Some (slice_index_or outs i (plain_link (a_value m.nothing)))) ⊎ ((slice_get outs i ≡ None) × (slice_index_or outs i (plain_link (a_value m.nothing)) ≡ plain_link (a_value m.nothing))) → rank' q < rank' zone.path
        by_place (inl at) =
            result_lead (slice_index_or outs i (plain_link (a_value m.nothing))) (member_at outs i (slice_index_or outs i (plain_link (a_value m.nothing))) at) q j e
            (slice_index_or outs i (plain_link (a_value m.nothing))).from refl
        by_place (inr at) =
            let bad : ◌≡◌ {A = Source V} (a_value m.nothing) (an_output q j) = sym (ap (λ l. l.from) (g.values m.nothing)) ∙ ap (λ l. (link_now w l).from) (sym at.1) ∙ e in
            cc

    old_leads : (node : Node K V) (k : ℕ) (s : S) → Has w.graph node → slice_get (m.gives node.kind) k ≡ Some s → (q : Path) (j : ℕ) (y : Source V) → (w.leads (an_output node.path k)).from ≡ y
        → (led_on m w zone.path outs (w.leads (an_output node.path k)) y).from ≡ an_output q j → rank' q ≤ rank' node.path
    old_leads node k s h' at q j (a_value u) is e = let bad : ◌≡◌ {A = Source V} (a_value u) (an_output q j) = sym is ∙ e in cc
    old_leads node k s h' at q j (an_item i) is e = let bad : ◌≡◌ {A = Source V} (an_item i) (an_output q j) = sym is ∙ e in cc
    old_leads node k s h' at q j (an_output r i) is e =
        let back : (¬ Has qs r) × (o.rank r ≤ o.rank node.path) = old_lead node k s h' at r i is in
        by_path (λ t. (if t then along (link_now w (slice_index_or outs i (plain_link (a_value m.nothing)))) (w.leads (an_output node.path k)).through else w.leads (an_output node.path k)).from ≡ an_output q j → rank' q ≤ rank' node.path) zone.path r
        (λ same x.
        below_most (rank' q) (rank' zone.path) (rank' node.path) (result_at i q j x)
        (old_most o.rank zone.path qs zone.path node.path (is_old zone h) (is_old node h') (subst (λ p. o.rank p ≤ o.rank node.path) (sym same) back.1)))
        (λ other x.
        let same : r ≡ q = same_output r q i j (sym is ∙ x) in
        subst (λ p. rank' p ≤ rank' node.path) same (old_most o.rank zone.path qs r node.path back.0 (is_old node h') back.1))
        e

    -- a node of a turn leads nowhere else
    turn_leads : (node : Node K V) → Has turns node → (k : ℕ) → v'.leads (an_output node.path k) ≡ plain_link (an_output node.path k)
    turn_leads node k' k =
        let shut : w.opened node.path ≡ None = turn_shut m lawful task w g zone h not role opened well warnings node k' (w.opened node.path) refl in
        ap (λ l. led_on m w zone.path outs l l.from) (g.shut node.path k shut)
        ∙ by_path (λ t. (if t then along (link_now w (slice_index_or outs k (plain_link (a_value m.nothing)))) [] else plain_link (an_output node.path k)) ≡ plain_link (an_output node.path k)) zone.path node.path
        (λ same. absurd (apart m lawful task w g zone h not role opened well warnings zone node h k' same)) (λ _. refl)

    new_leads : (node : Node K V) (k : ℕ) (s : S) (q : Path) (j : ℕ) → Has w.graph node ⊎ Has turns node → slice_get (m.gives node.kind) k ≡ Some s → (v'.leads (an_output node.path k)).from ≡ an_output q j → rank' q ≤ rank' node.path
    new_leads node k s q j (inl old) at e = old_leads node k s old at q j (w.leads (an_output node.path k)).from refl e
    new_leads node k s q j (inr new) at e =
        let same : node.path ≡ q = same_output node.path q k j (ap (λ l. l.from) (sym (turn_leads node new k)) ∙ e) in
        subst (λ p. rank' p ≤ rank' node.path) same (at_most_itself (rank' node.path))

    -- ---- the outputs of opened zones

    along_nothing : (l : Link V) → along l [] ≡ l
    along_nothing l = λ i. record { from = l.from; through = append_nil l.through i }

    along_twice : (l : Link V) (ks ls : List ℕ) → along (along l ks) ls ≡ along l (ks ++ ls)
    along_twice l ks ls = λ i. record { from = l.from; through = append_assoc l.through ks ls i }

    led_along : (l : Link V) (ks : List ℕ) (y : Source V) → led_on m w zone.path outs (along l ks) y ≡ along (led_on m w zone.path outs l y) ks
    led_along l ks (a_value u) = refl
    led_along l ks (an_item i) = refl
    led_along l ks (an_output p j) =
        by_path (λ t. (if t then along (link_now w (slice_index_or outs j (plain_link (a_value m.nothing)))) (l.through ++ ks) else along l ks) ≡ along (if t then along (link_now w (slice_index_or outs j (plain_link (a_value m.nothing)))) l.through else l) ks) zone.path p
        (λ _. sym (along_twice (link_now w (slice_index_or outs j (plain_link (a_value m.nothing)))) l.through ks)) (λ _. refl)

    -- where the zone's outputs come from is not led on
    not_led : (link : Link V) → Has outs link → (y : Source V) → (w.leads link.from).from ≡ y → led_on m w zone.path outs (w.leads link.from) y ≡ w.leads link.from
    not_led link has (a_value u) e = refl
    not_led link has (an_item i) e = refl
    not_led link has (an_output q j) e =
        by_path (λ t. (if t then along (link_now w (slice_index_or outs j (plain_link (a_value m.nothing)))) (w.leads link.from).through else w.leads link.from) ≡ w.leads link.from) zone.path q
        (λ same.
        let less : rank' zone.path < rank' zone.path = result_lead link has zone.path j (subst (λ p. (w.leads link.from).from ≡ an_output p j) (sym same) e) link.from refl in
        absurd (never (rank' zone.path) (rank' zone.path) less (at_most_itself (rank' zone.path))))
        (λ _. refl)

    opens_here : (k : ℕ) (link : Link V) → slice_get outs k ≡ Some link → v'.leads (an_output zone.path k) ≡ link_now v' link
    opens_here k link at =
        let shut : w.opened zone.path ≡ None = not_opened m lawful task w g zone.path not (w.opened zone.path) refl in
        ap (λ l. led_on m w zone.path outs l l.from) (g.shut zone.path k shut)
        ∙ by_path (λ t. (if t then along (link_now w (slice_index_or outs k (plain_link (a_value m.nothing)))) [] else plain_link (an_output zone.path k)) ≡ link_now w (slice_index_or outs k (plain_link (a_value m.nothing)))) zone.path zone.path
        (λ _. along_nothing (link_now w (slice_index_or outs k (plain_link (a_value m.nothing))))) (λ n. absurd (n refl))
        ∙ ap (link_now w) (index_at outs k (plain_link (a_value m.nothing)) link at)
        ∙ ap (λ l. along l link.through) (sym (not_led link (member_at outs k link at) (w.leads link.from).from refl))

    opens_new : (p : Path) (k : ℕ) (os : List (Link V)) (link : Link V) → (zone.path ≡ p) × (outs ≡ os) ⊎ (zone.path ≢ p) × (w.opened p ≡ Some os) → slice_get os k ≡ Some link → v'.leads (an_output p k) ≡ link_now v' link
    opens_new p k os link (inl s) at = subst (λ q. v'.leads (an_output q k) ≡ link_now v' link) s.0 (opens_here k link (subst (λ xs. slice_get xs k ≡ Some link) (sym s.1) at))
    opens_new p k os link (inr s) at = ap (λ l. led_on m w zone.path outs l l.from) (o.opens p k os link s.1 at) ∙ led_along (w.leads link.from) link.through (w.leads link.from).from

    order_turns : Ordered v'
    order_turns = record {
      rank = rank';
      links = λ node link p k h' has e. elim (has_either w.graph turns node h') [ inl old ↦ old_links node link p k old has e | inr new ↦ turn_links node link p k new has e ];
      results = λ q os link p k e has is. elim (entry_is zone.path outs w.opened q os e) [
        | inl s ↦ subst (λ r. rank' p < rank' r) s.0 (out_below link p k (subst (λ xs. Has xs link) (sym s.1) has) is).1
        | inr s ↦ old_results q os link p k s.1 has is
      ];
      leads = λ node k s q j h' at e. new_leads node k s q j (has_either w.graph turns node h') at e;
      opens = λ p k os link e at. opens_new p k os link (entry_is zone.path outs w.opened p os e) at;
    }

  pub order_step : (Told : Node K V → Answer → Type 0) (w v : World K V) → Shape m lawful task w → Ordered w → Step m lawful task Told w v → Ordered v
  order_step Told w v g o Step.nothing_new = o
  order_step Told w v g o (Step.gives_outputs node h fed not plain answer e there) = record { rank = o.rank; links = o.links; results = o.results; leads = o.leads; opens = o.opens }
  order_step Told w v g o (Step.gives_answer node h file none a told) = record { rank = o.rank; links = o.links; results = o.results; leads = o.leads; opens = o.opens }
  order_step Told w v g o (Step.opens_zone zone h fed not role) =
      order_turns w g o zone h not role (opened_by m (reads m w) zone) (zone_well m lawful task w g zone h role) (run_of m (reads m w) None zone).warnings

  pub ordered : CanStart m task → (es : List Event) → IsRun m task es → Ordered (world m task es)
  ordered c [] r = order_start c
  ordered c (e ∷ es) r =
      let k : Kept m lawful task es = kept m lawful task c es r.1 in
      order_step (AnyAnswer m lawful task) (world m task es) (world m task (e ∷ es)) k.shape (ordered c es r.1)
      (step_of m lawful task (AnyAnswer m lawful task) e es k r.0 (λ n b node same at. tt))
