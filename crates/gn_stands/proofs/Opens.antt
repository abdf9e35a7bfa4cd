-- What is found for the kind of a zone stands for its turns.
use Rattle.std.proofs.Common.{◌≡◌, ◌<◌, ◌+◌, ◌⊎◌, inl, inr, ℕ, zero, suc, List, [], ◌∷◌, ◌++◌, map, length, Some, None, refl, sym, ◌∙◌, ap, subst, arith}
use Rattle.std.specs.Prelude.{slice_get, slice_index_or, option_map, option_and_then}
use Rattle.std.specs.List.{flat_map, range_with_len}
use Rattle.gn_lazy.specs.declared.path.PathStep.{PathStep}
use Rattle.gn_tree.specs.NodeKinds.{Kind}
use Rattle.gn_tree.specs.Trees.{Tree}
use Rattle.gn_rules.specs.Rules.{KeepsRules}
use Rattle.gn_node_set.specs.Lists.{all_of}
use Rattle.gn_node_set.specs.Paths.{Path}
use Rattle.gn_node_set.specs.Meanings.{Has, Source, a_value, an_item, an_output, Link, plain_link, Node, Opened, Meanings, tail_of}
use Rattle.gn_node_set.proofs.Lists.{at_or, index_at, append_assoc, has_image, image_of}
use Rattle.gn_exec_laws.specs.Graphs.{outer_node, outer_link}
use Rattle.gn_meaning.specs.Sites.{Way, the_tree, into, plain_step, turn_step, path_by, path_of, Site, at_output, at_input, at_item, at_constant, nowhere, Read, plain_read}
use Rattle.gn_meaning.specs.Bodies.{Body, body_at}
use Rattle.gn_meaning.specs.Reads.{read_at, Run, a_node, a_repeat, run_in, part_at, run_of}
use Rattle.gn_meaning.specs.Forms.{HasForm}
use Rattle.gn_meaning.specs.There.{LeadsTo, into_group, into_turn, IsThere}
use Rattle.gn_meaning.specs.Origins.{read_origin, origin_within, ComesFrom}
use Rattle.gn_meaning.specs.Denotation.{Given}
use Rattle.gn_meaning.proofs.Options.{some_same, then_some, map_some}
use Rattle.gn_meaning.proofs.Origins.{one_origin}
use Rattle.gn_meaning.proofs.OriginsExist.{origin_exists}
use Rattle.gn_meaning.proofs.Paths.{path_of_run}
use Rattle.gn_meaning.proofs.WantedThere.{part_there}
use Rattle.gn_stands.specs.Sources.{source_at, link_at, Carries, CarryAll}
use Rattle.gn_stands.specs.Stands.{Unfolds, the_list, in_group, IsNodeOf, AreRuns, InTurns, items_after, OpensFor}
use Rattle.gn_stands.specs.Tasks.{runs_within}
use Rattle.gn_stands.specs.Zones.{place_by, zone_inside, list_in, inner_within, inner_source, inner_link, inner_read, inner_node, inner_nodes, turns_within, opened_at, opened_within}
use Rattle.gn_stands.proofs.Near.{has_in}
use Rattle.gn_stands.proofs.Leads.{beyond, first, led_equation}
use Rattle.gn_stands.proofs.Side.{carried_beside, beside_get}
use Rattle.gn_stands.proofs.Reach.{part_of_run, run_reads_in}
use Rattle.gn_stands.proofs.Demand.{own_origin}
use Rattle.gn_stands.proofs.Ranked.{in_range, below_range, has_flat, flat_has}
use Rattle.gn_stands.proofs.Tasks.{found_image, image_found, run_found, found_run}
use Rattle.gn_stands.proofs.Raised.{raised_body}
use Rattle.gn_stands.proofs.Inner.{inside_found, Under, a_turn, deeper, runs_like, Inside, near_inside, IsLast, GoesBack, goes_back}

-- ---- the place of a path

place_joined : (way : Way) (step : PathStep) (p : Path) → place_by the_tree (path_by way (step ∷ p)) ≡ place_by way (step ∷ p)
place_joined the_tree step p = refl
place_joined (into way other) step p = place_joined way other (step ∷ p)

place_found : (way : Way) (n : ℕ) → place_by the_tree (path_of way n) ≡ Some (way, n)
place_found way n = place_joined way (plain_step n) []

tail_at : {A : Type 0} (xs : List A) (i : ℕ) (d x : A) → slice_get xs (suc i) ≡ Some x → slice_index_or (tail_of xs) i d ≡ x
tail_at [] i d x e = cc
tail_at (y ∷ xs) i d x e = index_at xs i d x e

module _ {V : Type 0} (given : Given V) (t : Tree) where
  -- the link of a read, by the origin of its site
  abbrev Unpacked : Read → Link V → Type 0
  Unpacked r link = (o : Read) × ComesFrom t r.from o × (source_at given o.from ≡ Some link.from) × (link.through ≡ o.through ++ r.through)

  unpack : (r : Read) (link : Link V) → Carries given t r link → Unpacked r link
  unpack r link (k, h) =
      let e : (origin : Read) × (read_origin t (origin_within t k) r ≡ Some origin) × (link_at given origin ≡ Some link) = then_some (link_at given) (read_origin t (origin_within t k) r) link h in
      let o : (o : Read) × (origin_within t k r.from ≡ Some o) × (beyond o r ≡ e.0) = map_some (λ o. beyond o r) (origin_within t k r.from) e.0 e.1 in
      let x : (x : Source V) × (source_at given e.0.from ≡ Some x) × (record { from = x; through = e.0.through } ≡ link) = map_some (λ x. record { from = x; through = e.0.through }) (source_at given e.0.from) link e.2 in
      (o.0, (k, o.1), ap (λ q. source_at given q.from) o.2 ∙ x.1 ∙ ap (λ l. Some l.from) x.2, ap (λ l. l.through) (sym x.2) ∙ ap (λ q. q.through) (sym o.2))

  pack : (r whole : Read) (link : Link V) → ComesFrom t r.from whole → source_at given whole.from ≡ Some link.from → whole.through ++ r.through ≡ link.through → Carries given t r link
  pack r whole link (k, h) source through =
      (k, ap (option_and_then (link_at given)) (ap (option_map (λ o. beyond o r)) h) ∙ ap (option_map (λ x. record { from = x; through = whole.through ++ r.through })) source ∙ (λ i. Some (record { from = link.from; through = through i })))

module _ {V S T : Type 0} (m : Meanings Kind V S T) (given : Given V) (t : Tree) (keeps : KeepsRules t) (form : HasForm t) (zone_way : Way) (outer : Body) (zone_number : ℕ) (zone_run : Run) (inside : Body) (leads : LeadsTo t zone_way outer) (at : part_at t zone_way zone_number ≡ Some (a_repeat zone_run inside)) (zone : Node Kind V) (is : IsNodeOf given t zone_run zone) where
  abbrev kind : Kind
  kind = zone_run.kind

  abbrev path : Path
  path = zone_run.path

  abbrev In : Site → Type 0
  In = Inside t keeps form zone_way outer zone_number zone_run inside leads at

  abbrev Below : Way → Type 0
  Below = Under t keeps form zone_way outer zone_number zone_run inside leads at

  abbrev HasOrigin : Site → Type 0
  HasOrigin site = (whole : Read) × ComesFrom t site whole

  abbrev ItemLink : ℕ → Read → Type 0
  ItemLink i q = (link : Link V) × (slice_index_or (tail_of zone.links) i (plain_link (a_value m.nothing)) ≡ link) × (source_at given q.from ≡ Some link.from) × (link.through ≡ q.through)

  -- the link of an item before the first turn
  item_link : (i : ℕ) (q : Read) → ComesFrom t (at_item zone_way zone_number zero i) q → ItemLink i q
  item_link i q (zero, h) = cc
  item_link i q (suc j, h) = by_place (at_or zone_run.reads (suc i) (plain_read nowhere))
    where
      p : (p : Read) × (origin_within t j (read_at zone_run.reads (suc i)).from ≡ Some p) × (beyond p (read_at zone_run.reads (suc i)) ≡ q)
      p = map_some (λ x. beyond x (read_at zone_run.reads (suc i))) (origin_within t j (read_at zone_run.reads (suc i)).from) q (sym (led_equation t j (at_item zone_way zone_number zero i) (read_at zone_run.reads (suc i)) (first zone_run inside at)) ∙ h)

      none_nowhere : (k : ℕ) (o : Read) → origin_within t k nowhere ≡ Some o → ⊥
      none_nowhere zero o e = cc
      none_nowhere (suc k) o e = cc

      by_place : (slice_get zone_run.reads (suc i) ≡ Some (read_at zone_run.reads (suc i))) ⊎ ((slice_get zone_run.reads (suc i) ≡ None) × (read_at zone_run.reads (suc i) ≡ plain_read nowhere)) → ItemLink i q
      by_place (inr (none, none_there)) = absurd (none_nowhere j p.0 (ap (λ x. origin_within t j x.from) (sym none_there) ∙ p.1))
      by_place (inl there) =
          let link : (link : Link V) × (slice_get zone.links (suc i) ≡ Some link) × Carries given t (read_at zone_run.reads (suc i)) link =
          beside_get (Carries given t) zone_run.reads zone.links (carried_beside given t zone_run.reads zone.links is.links) (suc i) (read_at zone_run.reads (suc i)) there in
          let u : Unpacked given t (read_at zone_run.reads (suc i)) link.0 = unpack given t (read_at zone_run.reads (suc i)) link.0 link.2 in
          let same : u.0 ≡ p.0 = one_origin t (read_at zone_run.reads (suc i)).from u.0 p.0 u.1 (j, p.1) in
          let origins : beyond u.0 (read_at zone_run.reads (suc i)) ≡ q = ap (λ o. beyond o (read_at zone_run.reads (suc i))) same ∙ p.2 in
          (link.0, tail_at zone.links i (plain_link (a_value m.nothing)) link.0 link.1, ap (λ o. source_at given o.from) (sym origins) ∙ u.2, u.3 ∙ ap (λ o. o.through) origins)

  -- a link found in the zone is, in the graph, one that carries what is read
  link_carries : (r whole o q : Read) (link : Link V) (site : Site) → ComesFrom t r.from whole → o.from ≡ site → ComesFrom t site q → beyond q o ≡ whole → IsLast t keeps form zone_way outer zone_number zone_run inside leads at site
      → (x : Source V) → inner_source kind path given site ≡ Some x → record { from = x; through = o.through ++ r.through } ≡ link → Carries given t r (outer_link m zone link)
  link_carries r whole o q link (at_output way n s) from froms fq same (inl (run, e)) x source links =
      let own : q ≡ plain_read (at_output way n s) = one_origin t (at_output way n s) q (plain_read (at_output way n s)) fq (own_origin t way n s run e) in
      let all : record { from = at_output way n s; through = o.through } ≡ whole = ap (λ y. beyond y o) (sym own) ∙ same in
      subst (λ l. Carries given t r (outer_link m zone l)) links
      (subst (λ y. Carries given t r (outer_link m zone (record { from = y; through = o.through ++ r.through }))) (some_same source)
      (pack given t r whole (record { from = an_output (path_of way n) s; through = o.through ++ r.through }) from (ap (λ y. source_at given y.from) (sym all)) (ap (λ y. y.through ++ r.through) (sym all))))
  link_carries r whole o q link (at_output way n s) from froms fq same (inr (i, e)) x source links = cc
  link_carries r whole o q link (at_constant c) from froms fq same last x source links =
      let own : q ≡ plain_read (at_constant c) = one_origin t (at_constant c) q (plain_read (at_constant c)) fq (1, refl) in
      let all : record { from = at_constant c; through = o.through } ≡ whole = ap (λ y. beyond y o) (sym own) ∙ same in
      subst (λ l. Carries given t r (outer_link m zone l)) links
      (subst (λ y. Carries given t r (outer_link m zone (record { from = y; through = o.through ++ r.through }))) (some_same source)
      (pack given t r whole (record { from = a_value (given.constant c); through = o.through ++ r.through }) from (ap (λ y. source_at given y.from) (sym all)) (ap (λ y. y.through ++ r.through) (sym all))))
  link_carries r whole o q link (at_item way n k i) from froms fq same (inl own) x source links = absurd own
  link_carries r whole o q link (at_item way n k i) from froms fq same (inr (j, e)) x source links =
      let numbers : j ≡ i = ap (λ y. number_of y) e in
      let item : ItemLink j q =
      item_link j q (subst (λ y. ComesFrom t y q) (sym e) fq) in
      let through : whole.through ++ r.through ≡ item.0.through ++ (o.through ++ r.through) =
      ap (λ y. y.through ++ r.through) (sym same) ∙ append_assoc q.through o.through r.through ∙ ap (λ ks. ks ++ (o.through ++ r.through)) (sym item.3) in
      subst (λ l. Carries given t r (outer_link m zone l)) links
      (subst (λ y. Carries given t r (outer_link m zone (record { from = y; through = o.through ++ r.through }))) (some_same source)
      (subst (λ y. Carries given t r (outer_link m zone (record { from = an_item y; through = o.through ++ r.through }))) numbers
      (subst (λ l. Carries given t r (record { from = l.from; through = l.through ++ (o.through ++ r.through) })) (sym item.1)
      (pack given t r whole (record { from = item.0.from; through = item.0.through ++ (o.through ++ r.through) }) from (ap (λ y. source_at given y.from) (sym same) ∙ item.2) through))))
    where
      number_of : Site → ℕ
      number_of (at_item w l k' y) = y
      number_of _ = 0
  link_carries r whole o q link (at_input way i) from froms fq same last x source links = cc
  link_carries r whole o q link nowhere from froms fq same last x source links = cc

  read_carries : (k : ℕ) (r : Read) (link : Link V) → In r.from → HasOrigin r.from → inner_read kind path given k r ≡ Some link → Carries given t r (outer_link m zone link)
  read_carries k r link within (whole, from) e =
      let o : (o : Read) × (inner_within kind path k r.from ≡ Some o) × (inner_link kind path given r o ≡ Some link) = then_some (inner_link kind path given r) (inner_within kind path k r.from) link e in
      let x : (x : Source V) × (inner_source kind path given o.0.from ≡ Some x) × (record { from = x; through = o.0.through ++ r.through } ≡ link) =
      map_some (λ x. record { from = x; through = o.0.through ++ r.through }) (inner_source kind path given o.0.from) link o.2 in
      let g : GoesBack t keeps form zone_way outer zone_number zone_run inside leads at o.0 whole = goes_back t keeps form zone_way outer zone_number zone_run inside leads at k r.from o.0 within o.1 whole from in
      link_carries r whole o.0 g.0 link o.0.from from refl g.1 g.2 g.3 x.0 x.1 x.2

  all_carry : (k : ℕ) (rs : List Read) (links : List (Link V)) → ((r : Read) → Has rs r → In r.from × HasOrigin r.from) → all_of (map (inner_read kind path given k) rs) ≡ Some links → CarryAll given t rs (map (outer_link m zone) links)
  all_carry k [] links h e = subst (λ ls. CarryAll given t [] (map (outer_link m zone) ls)) (some_same e) tt
  all_carry k (r ∷ rs) links h e =
      let link : (link : Link V) × (inner_read kind path given k r ≡ Some link) × (option_map (λ ls. link ∷ ls) (all_of (map (inner_read kind path given k) rs)) ≡ Some links) =
      then_some (λ l. option_map (λ ls. l ∷ ls) (all_of (map (inner_read kind path given k) rs))) (inner_read kind path given k r) links e in
      let rest : (ls : List (Link V)) × (all_of (map (inner_read kind path given k) rs) ≡ Some ls) × (link.0 ∷ ls ≡ links) = map_some (λ ls. link.0 ∷ ls) (all_of (map (inner_read kind path given k) rs)) links link.2 in
      let own : In r.from × HasOrigin r.from = h r (inl refl) in
      subst (λ ls. CarryAll given t (r ∷ rs) (map (outer_link m zone) ls)) rest.2 (read_carries k r link.0 own.0 own.1 link.1, all_carry k rs rest.0 (λ q q_in. h q (inr q_in)) rest.1)

  -- ---- nodes

  abbrev turn_way : ℕ → Way
  turn_way j = into zone_way (turn_step zone_number j)

  unfolds_below : (j : ℕ) {way : Way} → Unfolds t (turn_way j) way → Below way
  unfolds_below j the_list = a_turn j
  unfolds_below j (in_group n b reads u e) = deeper (plain_step n) (unfolds_below j u)

  unfolds_leads : (j : ℕ) {way : Way} → Unfolds t (turn_way j) way → (b : Body) × LeadsTo t way b
  unfolds_leads j the_list = (inside, into_turn zone_number j zone_run leads at)
  unfolds_leads j (in_group n b reads u e) = (b, into_group n reads (unfolds_leads j u).1 e)

  reads_inside : (j : ℕ) (way : Way) (n : ℕ) (run : Run) → Unfolds t (turn_way j) way → run_of t (at_output way n 0) ≡ Some run → (r : Read) → Has run.reads r → In r.from × HasOrigin r.from
  reads_inside j way n run u e r h = (
    near_inside t keeps form zone_way outer zone_number zone_run inside leads at way r.from (unfolds_below j u) (has_in way run.reads r (run_reads_in t way n 0 run e) h),
    origin_exists t form keeps r.from (by_part (unfolds_leads j u).0 (unfolds_leads j u).1 (part_of_run t way n 0 run e)),
  )
    where
      by_part : (b : Body) → LeadsTo t way b → (part_at t way n ≡ Some (a_node run)) ⊎ ((c : Body) × (part_at t way n ≡ Some (a_repeat run c))) → IsThere t r.from
      by_part b l (inl plain) = part_there t keeps form way b l n (a_node run) plain r h
      by_part b l (inr (c, inner)) = part_there t keeps form way b l n (a_repeat run c) inner r h

  node_is : (k j : ℕ) (way : Way) (n : ℕ) (run : Run) (x : Node Kind V) → Unfolds t (turn_way j) way → run_of t (at_output way n 0) ≡ Some run → inner_node kind path given k run ≡ Some x → IsNodeOf given t run (outer_node m zone x)
  node_is k j way n run x u e f =
      let links : (links : List (Link V)) × (all_of (map (inner_read kind path given k) run.reads) ≡ Some links) × (record { path = run.path; kind = run.kind; links = links } ≡ x) =
      map_some (λ links. record { path = run.path; kind = run.kind; links = links }) (all_of (map (inner_read kind path given k) run.reads)) x f in
      subst (λ y. IsNodeOf given t run (outer_node m zone y)) links.2 (record { path = refl; kind = refl; links = all_carry k run.reads links.0 (reads_inside j way n run u e) links.1 })

  abbrev RunsOf : ℕ → ℕ → List (Node Kind V) → Type 0
  RunsOf k j nodes = (runs : List Run) × (runs_within (body_at t) k (turn_way j) ≡ Some runs) × (all_of (map (inner_node kind path given k) runs) ≡ Some nodes)

  runs_of_turn : (k j : ℕ) (nodes : List (Node Kind V)) → inner_nodes kind path given k (turn_way j) ≡ Some nodes → RunsOf k j nodes
  runs_of_turn k j nodes e =
      let runs : (runs : List Run) × (runs_within (list_in kind path) k (turn_way j) ≡ Some runs) × (all_of (map (inner_node kind path given k) runs) ≡ Some nodes) =
      then_some (λ rs. all_of (map (inner_node kind path given k) rs)) (runs_within (list_in kind path) k (turn_way j)) nodes e in
      (runs.0, sym (runs_like t keeps form zone_way outer zone_number zone_run inside leads at k (a_turn j)) ∙ runs.1, runs.2)

  turns_are_runs : (k turns : ℕ) (nodes : List (Node Kind V)) → turns_within kind path given k turns zone_way zone_number ≡ Some nodes → AreRuns given t (InTurns given t zone_way zone_number turns) (map (outer_node m zone) nodes)
  turns_are_runs k turns nodes e = record { each = each; only = only }
    where
      lists : (lists : List (List (Node Kind V))) × (all_of (map (λ j. inner_nodes kind path given k (turn_way j)) (range_with_len 0 turns)) ≡ Some lists) × (flat_map (λ ns. ns) lists ≡ nodes)
      lists = map_some (flat_map (λ ns. ns)) (all_of (map (λ j. inner_nodes kind path given k (turn_way j)) (range_with_len 0 turns))) nodes e

      each : (way : Way) (n : ℕ) (run : Run) → InTurns given t zone_way zone_number turns way → run_of t (at_output way n 0) ≡ Some run → (node : Node Kind V) × Has (map (outer_node m zone) nodes) node × IsNodeOf given t run node
      each way n run (j, less, u) at_run =
          let list : (list : List (Node Kind V)) × (inner_nodes kind path given k (turn_way j) ≡ Some list) × Has lists.0 list =
          found_image (λ i. inner_nodes kind path given k (turn_way i)) (range_with_len 0 turns) lists.0 lists.1 j (in_range 0 turns j (omega arith) (omega (arith, less))) in
          let runs : RunsOf k j list.0 = runs_of_turn k j list.0 list.1 in
          let x : (x : Node Kind V) × (inner_node kind path given k run ≡ Some x) × Has list.0 x = found_image (inner_node kind path given k) runs.0 list.0 runs.2 run (run_found t k (turn_way j) runs.0 runs.1 way n run u at_run) in
          (outer_node m zone x.0, has_image (outer_node m zone) nodes x.0 (subst (λ ns. Has ns x.0) lists.2 (has_flat (λ ns. ns) lists.0 list.0 x.0 list.2 x.2)), node_is k j way n run x.0 u at_run x.1)

      only : (node : Node Kind V) → Has (map (outer_node m zone) nodes) node → (way : Way) × (n : ℕ) × (run : Run) × InTurns given t zone_way zone_number turns way × (run_of t (at_output way n 0) ≡ Some run) × IsNodeOf given t run node
      only node h =
          let x : (x : Node Kind V) × Has nodes x × (node ≡ outer_node m zone x) = image_of (outer_node m zone) nodes node h in
          let list : (list : List (Node Kind V)) × Has lists.0 list × Has list x.0 = flat_has (λ ns. ns) lists.0 x.0 (subst (λ ns. Has ns x.0) (sym lists.2) x.1) in
          let j : (j : ℕ) × Has (range_with_len 0 turns) j × (inner_nodes kind path given k (turn_way j) ≡ Some list.0) = image_found (λ i. inner_nodes kind path given k (turn_way i)) (range_with_len 0 turns) lists.0 lists.1 list.0 list.1 in
          let less : j.0 < 0 + turns = below_range 0 turns j.0 j.1 in
          let runs : RunsOf k j.0 list.0 = runs_of_turn k j.0 list.0 j.2 in
          let run : (run : Run) × Has runs.0 run × (inner_node kind path given k run ≡ Some x.0) = image_found (inner_node kind path given k) runs.0 list.0 runs.2 x.0 list.2 in
          let place : (way : Way) × (n : ℕ) × Unfolds t (turn_way j.0) way × (run_of t (at_output way n 0) ≡ Some run.0) = found_run t k (turn_way j.0) (turn_way j.0) runs.0 the_list runs.1 run.0 run.1 in
          (place.0, place.1, run.0, (j.0, omega (arith, less), place.2), place.3, subst (IsNodeOf given t run.0) (sym x.2) (node_is k j.0 place.0 place.1 run.0 x.0 place.2 place.3 run.2))

  items_carry : (k turns : ℕ) (links : List (Link V)) → all_of (map (inner_read kind path given k) (items_after zone_way zone_number turns inside)) ≡ Some links → CarryAll given t (items_after zone_way zone_number turns inside) (map (outer_link m zone) links)
  items_carry k turns links e = all_carry k (items_after zone_way zone_number turns inside) links item e
    where
      item : (r : Read) → Has (items_after zone_way zone_number turns inside) r → In r.from × HasOrigin r.from
      item r h =
          let i : (i : ℕ) × Has (range_with_len 0 (length inside.sockets)) i × (r ≡ plain_read (at_item zone_way zone_number turns i)) = image_of (λ i. plain_read (at_item zone_way zone_number turns i)) (range_with_len 0 (length inside.sockets)) r h in
          let less : i.0 < 0 + length inside.sockets = below_range 0 (length inside.sockets) i.0 i.1 in
          subst (λ q. In q.from × HasOrigin q.from) (sym i.2) (inr (refl, refl), origin_exists t form keeps (at_item zone_way zone_number turns i.0) (outer, leads, zone_run, inside, at, omega (arith, less)))

  abbrev Opens : ℕ → Opened Kind V → Type 0
  Opens turns opened =
      AreRuns given t (InTurns given t zone_way zone_number turns) (map (outer_node m zone) opened.nodes)
      × CarryAll given t (items_after zone_way zone_number turns inside) (map (outer_link m zone) opened.outputs)

  opened_stands : (k turns : ℕ) (opened : Opened Kind V) → opened_within kind path given k turns ≡ Some opened → Opens turns opened
  opened_stands k turns opened e =
      let found : zone_inside kind path ≡ Some (raised_body 0 inside) = inside_found t keeps form zone_way outer zone_number zone_run inside leads at in
      let place : place_by the_tree path ≡ Some (zone_way, zone_number) = ap (place_by the_tree) (path_of_run t zone_way zone_number 0 zone_run (ap (option_and_then run_in) at)) ∙ place_found zone_way zone_number in
      let there : opened_at kind path given k turns (raised_body 0 inside) (zone_way, zone_number) ≡ Some opened =
      ap (option_and_then (opened_at kind path given k turns (raised_body 0 inside))) (sym place) ∙ ap (option_and_then (λ b. option_and_then (opened_at kind path given k turns b) (place_by the_tree path))) (sym found) ∙ e in
      let nodes : (nodes : List (Node Kind V)) × (turns_within kind path given k turns zone_way zone_number ≡ Some nodes) × (option_map (λ outputs. record { nodes = nodes; outputs = outputs }) (all_of (map (inner_read kind path given k) (items_after zone_way zone_number turns inside))) ≡ Some opened) =
      then_some (λ ns. option_map (λ outputs. record { nodes = ns; outputs = outputs }) (all_of (map (inner_read kind path given k) (items_after zone_way zone_number turns inside)))) (turns_within kind path given k turns zone_way zone_number) opened there in
      let outputs : (outputs : List (Link V)) × (all_of (map (inner_read kind path given k) (items_after zone_way zone_number turns inside)) ≡ Some outputs) × (record { nodes = nodes.0; outputs = outputs } ≡ opened) =
      map_some (λ outputs. record { nodes = nodes.0; outputs = outputs }) (all_of (map (inner_read kind path given k) (items_after zone_way zone_number turns inside))) opened nodes.2 in
      subst (Opens turns) outputs.2 (turns_are_runs k turns nodes.0 nodes.1, items_carry k turns outputs.0 outputs.1)

  pub zone_opens : (head : V) (k : ℕ) → opened_within kind path given k (m.rows.turns kind head) ≡ Some (m.opens path kind head) → OpensFor given t m zone_way zone_number inside zone head
  zone_opens head k e =
      let opened : opened_within kind path given k (m.rows.turns zone.kind head) ≡ Some (m.opens zone.path zone.kind head) =
      ap (λ z. opened_within kind path given k (m.rows.turns z head)) is.kind ∙ e ∙ (λ i. Some (m.opens (sym is.path i) (sym is.kind i) head)) in
      let both : Opens (m.rows.turns zone.kind head) (m.opens zone.path zone.kind head) = opened_stands k (m.rows.turns zone.kind head) (m.opens zone.path zone.kind head) opened in
      record { nodes = both.0; outputs = both.1 }
