-- What stands at a site of the tree is the value of the link that carries it.
use Rattle.std.proofs.Common.{◌≡◌, ◌<◌, ◌+◌, ◌⊎◌, inl, inr, ℕ, zero, suc, pos, List, [], ◌∷◌, ◌++◌, map, length, Option, Some, None, refl, sym, ◌∙◌, ap, subst, arith}
use Rattle.std.specs.Prelude.{slice_get, slice_index_or, option_map, option_and_then}
use Rattle.std.specs.List.{range_with_len}
use Rattle.gn_value.specs.declared.value.Value.TheVariants.{Int as int}
use Rattle.gn_tree.specs.NodeKinds.{Kind}
use Rattle.gn_tree.specs.Trees.{Tree}
use Rattle.gn_rules.specs.Rules.{KeepsRules}
use Rattle.gn_node_set.specs.Paths.{Path}
use Rattle.gn_node_set.specs.Meanings.{Has, Source, a_value as a_given, an_output, Link, Node, Role, Plain, Switch, File, Zone, Choice, Done, Meanings, converted, selected, answer_for}
use Rattle.gn_node_set.proofs.Lists.{index_at, at_image}
use Rattle.gn_exec_laws.specs.Graphs.{Task, source_value, link_value, condition, choice_of, links_read, run_of as node_run, result_links, told_by, answer_of, Unfolded, Solves}
use Rattle.gn_exec_laws.proofs.Sorts.{Beside, beside_selected, selected_from, converted_joined}
use Rattle.gn_meaning.specs.Sites.{a_value, Way, the_tree, into, path_of, Site, at_output, at_input, at_item, at_constant, nowhere, Read, plain_read}
use Rattle.gn_meaning.specs.Bodies.{Body}
use Rattle.gn_meaning.specs.Reads.{read_at, Run, a_node, a_repeat, run_in, part_at, run_of}
use Rattle.gn_meaning.specs.Forms.{HasForm}
use Rattle.gn_meaning.specs.There.{LeadsTo, IsThere}
use Rattle.gn_meaning.specs.Origins.{read_origin, origin_within, ComesFrom}
use Rattle.gn_meaning.specs.Denotation.{Given, read_value, read_values, choice_by, choice_in, done_for, run_done, run_output, output_value, turn_value, input_value, value_within}
use Rattle.gn_meaning.specs.Demand.{a_result}
use Rattle.gn_meaning.proofs.Options.{some_same, then_some, map_some}
use Rattle.gn_meaning.proofs.Paths.{path_of_run}
use Rattle.gn_meaning.proofs.WantedThere.{part_there}
use Rattle.gn_stands.specs.Sources.{link_at, source_at, Carries}
use Rattle.gn_stands.specs.Stands.{KnowsZones, IsNodeOf, StandsFor, items_after, OpensFor, ZonesOpen}
use Rattle.gn_stands.proofs.Near.{has_in}
use Rattle.gn_stands.proofs.Leads.{beyond, IsOwn, Found, leads_on, itself, a_number, found, led_value}
use Rattle.gn_stands.proofs.Side.{carried_beside, beside_get}
use Rattle.gn_stands.proofs.Reach.{part_of_run, head, Reaches, ReachesSite, run_reads_in, near_reached, led_reached, leads_to, behind_there, led_there, zone_role, opened, HasNode, run_has_node}

items_at : (way : Way) (n k from count i : ℕ) → i < count → slice_get (map (λ j. plain_read (at_item way n k j)) (range_with_len from count)) i ≡ Some (plain_read (at_item way n k (from + i)))
items_at way n k from zero i h = absurd (omega (arith, h))
items_at way n k from (suc count) zero h = let same : from ≡ from + 0 = omega arith in ap (λ j. Some (plain_read (at_item way n k j))) same
items_at way n k from (suc count) (suc i) h =
    let same : (from + 1) + i ≡ from + suc i = omega arith in
    items_at way n k (from + 1) count i (omega (arith, h)) ∙ ap (λ j. Some (plain_read (at_item way n k j))) same

from_zero : (s : ℕ) → 0 + s ≡ s
from_zero s = omega arith

module _ {V S T : Type 0} (m : Meanings Kind V S T) (given : Given V) (t : Tree) (task : Task Kind V) (den : Path → List V) (keeps : KeepsRules t) (form : HasForm t) (knows : KnowsZones m.rows t) (stands : StandsFor given t task) (opens : ZonesOpen given t m) (solves : Solves m task (told_by m given.files) den) where
  abbrev pub val : Link V → V
  val = link_value m den

  abbrev pub Open : Site → Type 0
  Open = ReachesSite m given t task den

  abbrev pub NodeThere : Node Kind V → Type 0
  NodeThere = Unfolded m task (told_by m given.files) den

  abbrev pub done_of : Node Kind V → Done V
  done_of node = node_run m val (answer_of m (told_by m given.files) node) node

  abbrev pub values : ℕ → Site → Option V
  values = value_within m.rows given t

  -- what was found in some steps is right
  abbrev pub Right : ℕ → Type 0
  Right j = (site : Site) → IsThere t site → Open site → (w : V) → values j site ≡ Some w
      → (origin : Read) → ComesFrom t site origin → (x : Source V) → source_at given origin.from ≡ Some x
      → converted m.rows (source_value m den x) origin.through ≡ w

  -- the link of a read, by the origin of its site
  pub record Split (r : Read) (link : Link V) : Type 0 where
    pub origin : Read
    pub from : ComesFrom t r.from origin
    pub source : source_at given origin.from ≡ Some link.from
    pub through : link.through ≡ origin.through ++ r.through

  pub split : (r : Read) (link : Link V) → Carries given t r link → Split r link
  split r link (k, h) =
      let e : (origin : Read) × (read_origin t (origin_within t k) r ≡ Some origin) × (link_at given origin ≡ Some link) = then_some (link_at given) (read_origin t (origin_within t k) r) link h in
      let o : (o : Read) × (origin_within t k r.from ≡ Some o) × (beyond o r ≡ e.0) = map_some (λ o. beyond o r) (origin_within t k r.from) e.0 e.1 in
      let x : (x : Source V) × (source_at given e.0.from ≡ Some x) × (record { from = x; through = e.0.through } ≡ link) = map_some (λ x. record { from = x; through = e.0.through }) (source_at given e.0.from) link e.2 in
      record {
        origin = o.0;
        from = (k, o.1);
        source = ap (λ q. source_at given q.from) o.2 ∙ x.1 ∙ ap (λ l. Some l.from) x.2;
        through = ap (λ l. l.through) (sym x.2) ∙ ap (λ q. q.through) (sym o.2);
      }

  link_is : (link : Link V) (kinds : List ℕ) → link.through ≡ kinds → val link ≡ converted m.rows (source_value m den link.from) kinds
  link_is link kinds e = ap (λ ks. converted m.rows (source_value m den link.from) ks) e

  module _ (j : ℕ) (right : Right j) where
    read_right : (r : Read) (link : Link V) (u : V) → IsThere t r.from → Open r.from → Carries given t r link → read_value m.rows given t (values j) r ≡ Some u → val link ≡ u
    read_right r link u there reached c e =
        let s : Split r link = split r link c in
        let v : (v : V) × (values j r.from ≡ Some v) × (converted m.rows v r.through ≡ u) = map_some (λ v. converted m.rows v r.through) (values j r.from) u e in
        link_is link (s.origin.through ++ r.through) s.through
        ∙ converted_joined m (source_value m den link.from) s.origin.through r.through
        ∙ ap (λ y. converted m.rows y r.through) (right r.from there reached v.0 v.1 s.origin s.from link.from s.source)
        ∙ v.2

    -- the reads of a list are there and reached
    abbrev pub AllThere : List Read → Type 0
    AllThere rs = (r : Read) → Has rs r → IsThere t r.from × Open r.from

    pub reads_right : (rs : List Read) (links : List (Link V)) (us : List V) → AllThere rs → Beside (Carries given t) rs links → read_values m.rows given t (values j) rs ≡ Some us → map val links ≡ us
    reads_right [] [] us all b e = some_same e
    reads_right [] (link ∷ links) us all b e = absurd b
    reads_right (r ∷ rs) [] us all b e = absurd b
    reads_right (r ∷ rs) (link ∷ links) us all b e =
        let u : (u : V) × (read_value m.rows given t (values j) r ≡ Some u) × (option_map (λ vs. u ∷ vs) (read_values m.rows given t (values j) rs) ≡ Some us) =
        then_some (λ u. option_map (λ vs. u ∷ vs) (read_values m.rows given t (values j) rs)) (read_value m.rows given t (values j) r) us e in
        let vs : (vs : List V) × (read_values m.rows given t (values j) rs ≡ Some vs) × (u.0 ∷ vs ≡ us) = map_some (λ vs. u.0 ∷ vs) (read_values m.rows given t (values j) rs) us u.2 in
        let here : IsThere t r.from × Open r.from = all r (inl refl) in
        let head_right : val link ≡ u.0 = read_right r link u.0 here.0 here.1 b.0 u.1 in
        let tail_right : map val links ≡ vs.0 = reads_right rs links vs.0 (λ q h. all q (inr h)) b.1 vs.1 in
        (λ i. head_right i ∷ tail_right i) ∙ vs.2

    -- a switch chooses the same in the graph
    first_right : (rs : List Read) (links : List (Link V)) (u : V) → AllThere rs → Beside (Carries given t) rs links → read_value m.rows given t (values j) (read_at rs 0) ≡ Some u → condition m val links ≡ u
    first_right [] [] u all b e = by_step j e
      where
        by_step : (k : ℕ) → read_value m.rows given t (values k) (plain_read nowhere) ≡ Some u → m.nothing ≡ u
        by_step zero h = cc
        by_step (suc k) h = cc
    first_right [] (link ∷ links) u all b e = absurd b
    first_right (r ∷ rs) [] u all b e = absurd b
    first_right (r ∷ rs) (link ∷ links) u all b e = let here : IsThere t r.from × Open r.from = all r (inl refl) in read_right r link u here.0 here.1 b.0 e

    same_selected : (role : Role) (kind : Kind) (rs : List Read) (links : List (Link V)) (choice : Choice) → AllThere rs → Beside (Carries given t) rs links
        → choice_by m.rows given t role kind (read_value m.rows given t (values j) (read_at rs 0)) ≡ Some choice
        → {A : Type 0} (xs : List A) → selected role (m.rows.choice kind (condition m val links)) xs ≡ selected role choice xs
    same_selected Plain kind rs links choice all b e xs = refl
    same_selected File kind rs links choice all b e xs = refl
    same_selected Zone kind rs links choice all b e xs = refl
    same_selected Switch kind rs links choice all b e xs =
        let u : (u : V) × (read_value m.rows given t (values j) (read_at rs 0) ≡ Some u) × (m.rows.choice kind u ≡ choice) = map_some (m.rows.choice kind) (read_value m.rows given t (values j) (read_at rs 0)) choice e in
        ap (λ c. selected Switch c xs) (ap (m.rows.choice kind) (first_right rs links u.0 all b u.1) ∙ u.2)

    -- a node selects as its run does
    pub selects : (run : Run) (node : Node Kind V) (choice : Choice) → IsNodeOf given t run node → AllThere run.reads → choice_in m.rows given t (values j) run ≡ Some choice
        → {A : Type 0} (xs : List A) → selected (m.rows.role node.kind) (choice_of m val node) xs ≡ selected (m.rows.role run.kind) choice xs
    selects run node choice is all e xs =
        ap (λ kind. selected (m.rows.role kind) (m.rows.choice kind (condition m val node.links)) xs) is.kind
        ∙ same_selected (m.rows.role run.kind) run.kind run.reads node.links choice all (carried_beside given t run.reads node.links is.links) e xs

    abbrev inputs_of : Run → Choice → Option (List V)
    inputs_of run choice = read_values m.rows given t (values j) (selected (m.rows.role run.kind) choice run.reads)

    -- and ends as its run does
    pub run_right : (run : Run) (node : Node Kind V) (done : Done V) → IsNodeOf given t run node → AllThere run.reads → run_done m.rows given t (values j) run ≡ Some done → done_of node ≡ done
    run_right run node done is all e =
        let c : (c : Choice) × (choice_in m.rows given t (values j) run ≡ Some c) × (option_map (done_for m.rows given t run) (inputs_of run c) ≡ Some done) =
        then_some (λ c. option_map (done_for m.rows given t run) (inputs_of run c)) (choice_in m.rows given t (values j) run) done e in
        let us : (us : List V) × (inputs_of run c.0 ≡ Some us) × (done_for m.rows given t run us ≡ done) = map_some (done_for m.rows given t run) (inputs_of run c.0) done c.2 in
        let same : links_read m val node ≡ selected (m.rows.role run.kind) c.0 node.links = selects run node c.0 is all c.1 node.links in
        let beside : Beside (Carries given t) (selected (m.rows.role run.kind) c.0 run.reads) (selected (m.rows.role run.kind) c.0 node.links) =
        beside_selected (Carries given t) (m.rows.role run.kind) c.0 run.reads node.links (carried_beside given t run.reads node.links is.links) in
        let got : map val (selected (m.rows.role run.kind) c.0 node.links) ≡ us.0 =
        reads_right (selected (m.rows.role run.kind) c.0 run.reads) (selected (m.rows.role run.kind) c.0 node.links) us.0
        (λ r h. all r (selected_from (m.rows.role run.kind) c.0 run.reads r h)) beside us.1 in
        (λ i. m.rows.row (is.path i) (is.kind i) (map val (same i)) (answer_for (m.rows.role (is.kind i)) (given.files (m.rows.file (is.kind i)))))
        ∙ ap (λ vs. done_for m.rows given t run vs) got
        ∙ us.2

  -- ---- what a reached node reads is there

  pub all_there : (way : Way) (n s : ℕ) (run : Run) → Reaches m given t task den way → run_of t (at_output way n s) ≡ Some run → (r : Read) → Has run.reads r → IsThere t r.from × Open r.from
  all_there way n s run reached e r h =
      let list : (b : Body) × LeadsTo t way b = leads_to m given t task den reached in
      (by_part list.0 list.1 (part_of_run t way n s run e), near_reached m given t task den way r.from reached (has_in way run.reads r (run_reads_in t way n s run e) h))
    where
      by_part : (b : Body) → LeadsTo t way b → (part_at t way n ≡ Some (a_node run)) ⊎ ((c : Body) × (part_at t way n ≡ Some (a_repeat run c))) → IsThere t r.from
      by_part b leads (inl plain) = part_there t keeps form way b leads n (a_node run) plain r h
      by_part b leads (inr (c, zone)) = part_there t keeps form way b leads n (a_repeat run c) zone r h

  abbrev pub NodeOf : Run → Type 0
  NodeOf = HasNode m given t task den knows stands opens

  pub node_of : (way : Way) (n s : ℕ) (run : Run) → Reaches m given t task den way → run_of t (at_output way n s) ≡ Some run → NodeOf run
  node_of way n s run reached e = run_has_node m given t task den knows stands opens way n run reached e

  pub node_path : (way : Way) (n s : ℕ) (run : Run) (node : Node Kind V) → run_of t (at_output way n s) ≡ Some run → IsNodeOf given t run node → node.path ≡ path_of way n
  node_path way n s run node e is = is.path ∙ path_of_run t way n s run e

  pub is_zone : (way : Way) (n : ℕ) (run : Run) (b : Body) (zone : Node Kind V) → Reaches m given t task den way → part_at t way n ≡ Some (a_repeat run b) → IsNodeOf given t run zone → m.rows.role zone.kind ≡ Zone
  is_zone = zone_role m given t task den knows stands opens

  abbrev pub head_of_zone : Node Kind V → V
  head_of_zone = head m given t task den

  abbrev pub turns_of : Node Kind V → ℕ
  turns_of zone = m.rows.turns zone.kind (head_of_zone zone)

  pub results_carry : (way : Way) (n : ℕ) (run : Run) (b : Body) (zone : Node Kind V) → Reaches m given t task den way → part_at t way n ≡ Some (a_repeat run b) → IsNodeOf given t run zone
      → Beside (Carries given t) (items_after way n (turns_of zone) b) (result_links m val zone)
  results_carry way n run b zone reached e is =
      let o : OpensFor given t m way n b zone (head_of_zone zone) = opened m given t task den knows stands opens n run b zone reached e is in
      carried_beside given t (items_after way n (turns_of zone) b) (result_links m val zone) o.outputs

  pub item_reached : (way : Way) (n s : ℕ) (run : Run) (b : Body) (zone : Node Kind V) → Reaches m given t task den way → part_at t way n ≡ Some (a_repeat run b) → NodeThere zone → IsNodeOf given t run zone → Open (at_item way n (turns_of zone) s)
  item_reached way n s run b zone reached e there is = (reached, record { run = run; body = b; zone = zone; part = e; there = there; is = is; often = omega arith })

  pub item_below : (way : Way) (n k s : ℕ) (run : Run) (b : Body) → IsThere t (at_item way n k s) → part_at t way n ≡ Some (a_repeat run b) → s < length b.sockets
  item_below way n k s run b (outer, leads, other, inner, f, h) e =
      let same : Some (a_repeat other inner) ≡ Some (a_repeat run b) = sym f ∙ e in
      let bodies : inner ≡ b = cc in
      subst (λ x. s < length x.sockets) bodies h

  -- an output of a zone is carried by the link of its item after the last turn
  pub result_at : (way : Way) (n s : ℕ) (run : Run) (b : Body) (zone : Node Kind V) → Reaches m given t task den way → part_at t way n ≡ Some (a_repeat run b) → IsNodeOf given t run zone → s < length b.sockets
      → (link : Link V) × (slice_get (result_links m val zone) s ≡ Some link) × Carries given t (plain_read (at_item way n (turns_of zone) s)) link
  result_at way n s run b zone reached e is h =
      beside_get (Carries given t) (items_after way n (turns_of zone) b) (result_links m val zone) (results_carry way n run b zone reached e is) s (plain_read (at_item way n (turns_of zone) s))
      (items_at way n (turns_of zone) 0 (length b.sockets) s h ∙ ap (λ j. Some (plain_read (at_item way n (turns_of zone) j))) (from_zero s))

  module _ (j : ℕ) (right : Right j) where
    node_right : (way : Way) (n s : ℕ) (run : Run) (w : V) → part_at t way n ≡ Some (a_node run) → IsThere t (at_output way n s) → Reaches m given t task den way → values (suc j) (at_output way n s) ≡ Some w → source_value m den (an_output (path_of way n) s) ≡ w
    node_right way n s run w e there reached h =
        let is_run : run_of t (at_output way n s) ≡ Some run = ap (option_and_then run_in) e in
        let done : (done : Done V) × (run_done m.rows given t (values j) run ≡ Some done) × (slice_get done.outputs s ≡ Some w) =
        then_some (λ done. slice_get done.outputs s) (run_done m.rows given t (values j) run) w (sym (ap (output_value m.rows given t (values j) way n s) e) ∙ h) in
        let node : NodeOf run = node_of way n s run reached is_run in
        let same : done_of node.0 ≡ done.0 = run_right j right run node.0 done.0 node.2 (all_there way n s run reached is_run) done.1 in
        let outs : den (path_of way n) ≡ done.0.outputs =
        ap den (sym (node_path way n s run node.0 is_run node.2))
        ∙ solves.rows node.0 node.1 (λ z. knows.others way (leads_to m given t task den reached).0 n run (leads_to m given t task den reached).1 e (ap m.rows.role (sym node.2.kind) ∙ z))
        ∙ ap (λ d. d.outputs) same in
        ap (λ vs. slice_index_or vs s m.nothing) outs ∙ index_at done.0.outputs s m.nothing w done.2

    -- the graph's zone gives the head that the tree's does
    pub head_right : (way : Way) (n s : ℕ) (run : Run) (b : Body) (zone : Node Kind V) (v : V) → part_at t way n ≡ Some (a_repeat run b) → Reaches m given t task den way → IsNodeOf given t run zone → run_output m.rows given t (values j) run 0 ≡ Some v → head_of_zone zone ≡ v
    head_right way n s run b zone v e reached is h =
        let is_run : run_of t (at_output way n s) ≡ Some run = ap (option_and_then run_in) e in
        let done : (done : Done V) × (run_done m.rows given t (values j) run ≡ Some done) × (slice_get done.outputs 0 ≡ Some v) = then_some (λ done. slice_get done.outputs 0) (run_done m.rows given t (values j) run) v h in
        let same : done_of zone ≡ done.0 = run_right j right run zone done.0 is (all_there way n s run reached is_run) done.1 in
        let unasked : None ≡ answer_of m (told_by m given.files) zone = sym (ap (λ role. answer_for role (given.files (m.rows.file zone.kind))) (is_zone way n run b zone reached e is)) in
        ap (λ a. slice_index_or (node_run m val a zone).outputs 0 m.nothing) unasked
        ∙ ap (λ d. slice_index_or d.outputs 0 m.nothing) same
        ∙ index_at done.0.outputs 0 m.nothing v done.2

    zone_right : (way : Way) (n s : ℕ) (run : Run) (b : Body) (w : V) → part_at t way n ≡ Some (a_repeat run b) → IsThere t (at_output way n s) → Reaches m given t task den way → values (suc j) (at_output way n s) ≡ Some w → source_value m den (an_output (path_of way n) s) ≡ w
    zone_right way n s run b w e there reached h =
        let is_run : run_of t (at_output way n s) ≡ Some run = ap (option_and_then run_in) e in
        let v : (v : V) × (run_output m.rows given t (values j) run 0 ≡ Some v) × (values j (at_item way n (m.rows.turns run.kind v) s) ≡ Some w) =
        then_some (λ v. values j (at_item way n (m.rows.turns run.kind v) s)) (run_output m.rows given t (values j) run 0) w (sym (ap (output_value m.rows given t (values j) way n s) e) ∙ h) in
        let zone : NodeOf run = node_of way n s run reached is_run in
        let often : turns_of zone.0 ≡ m.rows.turns run.kind v.0 =
        (λ i. m.rows.turns (zone.2.kind i) (head_right way n s run b zone.0 v.0 e reached zone.2 v.1 i)) in
        let item : IsThere t (at_item way n (turns_of zone.0) s) =
        subst (λ k. IsThere t (at_item way n k s)) (sym often)
        (behind_there m given t task den keeps form (at_output way n s) (at_item way n (m.rows.turns run.kind v.0) s) there (λ wants. a_result run b v.0 wants e (j, v.1))) in
        let link : (link : Link V) × (slice_get (result_links m val zone.0) s ≡ Some link) × Carries given t (plain_read (at_item way n (turns_of zone.0) s)) link =
        result_at way n s run b zone.0 reached e zone.2 (item_below way n (turns_of zone.0) s run b item e) in
        let value : values j (at_item way n (turns_of zone.0) s) ≡ Some w = ap (λ k. values j (at_item way n k s)) often ∙ v.2 in
        let carried : val link.0 ≡ w =
        read_right j right (plain_read (at_item way n (turns_of zone.0) s)) link.0 w item (item_reached way n s run b zone.0 reached e zone.1 zone.2) link.2 (ap (option_map (λ u. converted m.rows u [])) value) in
        ap (λ vs. slice_index_or vs s m.nothing) (ap den (sym (node_path way n s run zone.0 is_run zone.2)) ∙ solves.zones zone.0 zone.1 (is_zone way n run b zone.0 reached e zone.2))
        ∙ index_at (map val (result_links m val zone.0)) s m.nothing w (at_image val (result_links m val zone.0) s link.0 link.1 ∙ ap Some carried)

    own_right : (site : Site) → IsThere t site → Open site → IsOwn t site → (w : V) → values (suc j) site ≡ Some w → (x : Source V) → source_at given site ≡ Some x → source_value m den x ≡ w
    own_right (at_output way n s) there reached (run, e) w h x f = ap (source_value m den) (sym (some_same f)) ∙ elim (part_of_run t way n s run e) [
      | inl plain ↦ node_right way n s run w plain there reached h
      | inr (b, zone) ↦ zone_right way n s run b w zone there reached h
    ]
    own_right (at_input the_tree i) there reached own w h x f =
        let v : (v : V) × (slice_get given.inputs i ≡ Some v) × (a_given v ≡ x) = map_some a_given (slice_get given.inputs i) x f in
        ap (source_value m den) (sym v.2) ∙ some_same (sym v.1 ∙ h)
    own_right (at_input (into way step) i) there reached own w h x f = absurd own
    own_right (at_item way n k i) there reached own w h x f = absurd own
    own_right (at_constant c) there reached own w h x f = ap (source_value m den) (sym (some_same f)) ∙ some_same h
    own_right nowhere there reached own w h x f = absurd own

    found_right : (site : Site) → IsThere t site → Open site → (w : V) → values (suc j) site ≡ Some w → (k : ℕ) (origin : Read) → Found t k site origin → (x : Source V) → source_at given origin.from ≡ Some x → converted m.rows (source_value m den x) origin.through ≡ w
    found_right site there reached w h k origin (leads_on r o l e same) x f =
        let v : (v : V) × (values j r.from ≡ Some v) × (converted m.rows v r.through ≡ w) = led_value t m.rows given j site r w l h in
        let inner : converted m.rows (source_value m den x) o.through ≡ v.0 =
        right r.from (led_there m given t task den keeps form site r l reached there) (led_reached m given t task den site r l reached) v.0 v.1 o (k, e) x (ap (λ q. source_at given q.from) same ∙ f) in
        ap (λ q. converted m.rows (source_value m den x) q.through) (sym same)
        ∙ converted_joined m (source_value m den x) o.through r.through
        ∙ ap (λ u. converted m.rows u r.through) inner
        ∙ v.2
    found_right site there reached w h k origin (itself own same) x f =
        ap (λ q. converted m.rows (source_value m den x) q.through) (sym same)
        ∙ own_right site there reached own w h x (ap (λ q. source_at given q.from) same ∙ f)
    found_right site there reached w h k origin (a_number way step i run b e turn is same) x f =
        let value : values (suc j) (at_input (into way step) zero) ≡ Some w = ap (values (suc j)) is ∙ h in
        let number : given.constant (a_value (int (pos i))) ≡ w =
        some_same (sym (ap (input_value m.rows given t (values j) way step zero) e ∙ ap (λ o. turn_value m.rows given t (values j) way step.node o zero) turn) ∙ value) in
        let from : a_given (given.constant (a_value (int (pos i)))) ≡ x = some_same (ap (λ q. source_at given q.from) same ∙ f) in
        ap (λ q. converted m.rows (source_value m den x) q.through) (sym same) ∙ ap (source_value m den) (sym from) ∙ number

    one_more : Right (suc j)
    one_more site there reached w h origin (zero, e) x f = cc
    one_more site there reached w h origin (suc k, e) x f = found_right site there reached w h k origin (found t k site origin e) x f

  pub right : (j : ℕ) → Right j
  right zero site there reached w h origin from x f = cc
  right (suc j) site there reached w h origin from x f = one_more j (right j) site there reached w h origin from x f
