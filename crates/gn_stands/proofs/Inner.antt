-- In the turns of a zone the lists, runs and origins are those that are found by its kind and path alone.
use Rattle.std.proofs.Common.{◌≡◌, ◌<◌, ◌⊎◌, inl, inr, ℕ, zero, suc, pos, List, [], map, Option, Some, None, codes, refl, sym, ◌∙◌, ap, subst, arith}
use Rattle.std.specs.Prelude.{Bool, true, false, ◌&&◌, bytes_eq, is_some, option_map, option_and_then, if◌then◌else◌}
use Rattle.std.specs.Option.{option_map_or}
use Rattle.std.specs.List.{flat_map}
use Rattle.gn_value.specs.declared.value.Value.TheVariants.{Int as int}
use Rattle.gn_lazy.specs.declared.path.PathStep.{PathStep}
use Rattle.gn_tree.specs.NodeKinds.{Kind}
use Rattle.gn_tree.specs.Trees.{Node, node, Tree}
use Rattle.gn_rules.specs.Sockets.{node_at, is_zone}
use Rattle.gn_rules.specs.Rules.{KeepsRules, graph_of}
use Rattle.gn_node_set.specs.Lists.{all_of}
use Rattle.gn_node_set.specs.Paths.{Path}
use Rattle.gn_node_set.proofs.Lists.{map_equal, append_assoc}
use Rattle.gn_node_set.proofs.Paths.{by_path}
use Rattle.gn_meaning.specs.Sites.{Constant, a_value, Way, the_tree, into, plain_step, turn_step, path_of, Site, at_output, at_input, at_item, at_constant, nowhere, Read, plain_read}
use Rattle.gn_meaning.specs.Bodies.{Body, body_in, body_of, body_at, kind_in}
use Rattle.gn_meaning.specs.Reads.{node_reads, given_out, read_at, Run, Part, a_group, a_repeat, run_in, part_in, part_at, out_of}
use Rattle.gn_meaning.specs.Forms.{HasForm}
use Rattle.gn_meaning.specs.There.{LeadsTo, into_turn}
use Rattle.gn_meaning.specs.Origins.{input_origin, turn_origin, origin_within, ComesFrom}
use Rattle.gn_meaning.proofs.Options.{some_same, map_some}
use Rattle.gn_meaning.proofs.Origins.{one_origin}
use Rattle.gn_meaning.proofs.Paths.{path_names_node, path_of_run}
use Rattle.gn_meaning.proofs.Parts.{node_form, Holds}
use Rattle.gn_meaning.proofs.Opened.{repeat_by, at_way}
use Rattle.gn_stands.specs.Order.{by_rank}
use Rattle.gn_stands.specs.Tasks.{part_by, order_at, part_runs, runs_within}
use Rattle.gn_stands.specs.Zones.{Back, goes_to, stays, bare, zone_inside, is_zone_at, list_in, out_in, output_back, turn_back, input_back, item_back, back, origin_by, inner_within}
use Rattle.gn_stands.proofs.Near.{InList, read_in, out_in as out_near, part_reads_in}
use Rattle.gn_stands.proofs.Leads.{beyond, beyond_nothing, Leads, group_output, group_input, turn_item, first, later, IsOwn, led_equation}
use Rattle.gn_stands.proofs.Raised.{raised_body, LikeParts, nothing, node_like, group_like, zone_like, LikeBodies, no_bodies, bodies, out_same, parts_like, inners_like, zone_alone}

depth : Way → ℕ
depth the_tree = 0
depth (into way step) = suc (depth way)

not_both : (b : Bool) → (b && false) ≡ false
not_both true = refl
not_both false = refl

same_lists : {A B : Type 0} (f g : A → Option B) (xs ys : List A) → xs ≡ ys → ((x : A) → f x ≡ g x) → all_of (map f xs) ≡ all_of (map g ys)
same_lists f g xs ys e h = ap (λ zs. all_of zs) (map_equal f g xs (λ x x_in. h x)) ∙ ap (λ zs. all_of (map g zs)) e

module _ (t : Tree) (keeps : KeepsRules t) (form : HasForm t) (zone_way : Way) (outer : Body) (zone_number : ℕ) (zone_run : Run) (inside : Body) (leads : LeadsTo t zone_way outer) (at : part_at t zone_way zone_number ≡ Some (a_repeat zone_run inside)) where
  abbrev kind : Kind
  kind = zone_run.kind

  abbrev path : Path
  path = zone_run.path

  zone_path : path ≡ path_of zone_way zone_number
  zone_path = path_of_run t zone_way zone_number 0 zone_run (ap (option_and_then run_in) at)

  -- ---- lists

  alone : (x : Node) → node_at outer.scope.nodes zone_number ≡ Some x → part_in outer.scope zone_way zone_number x ≡ a_repeat zone_run inside → zone_inside kind path ≡ Some (raised_body 0 inside)
  alone (node id name set inputs) there same =
      let holds : Holds t outer = (at_way t keeps form leads).1 in
      let own : Run = record { path = path_of zone_way zone_number; kind = kind_in outer.scope (node id name set inputs); reads = node_reads outer.scope zone_way (node id name set inputs) } in
      let body : (body_in outer.scope name set ≡ Some inside) × (bytes_eq name (codes "group") ≡ false) × (own ≡ zone_run) = repeat_by name (body_in outer.scope name set) own zone_run inside same in
      let found : (is_zone set ≡ true) × (body_in (bare outer.scope.groups) name set ≡ Some (raised_body 0 inside)) = zone_alone outer.scope name set inside (node_form t outer.scope.nodes zone_number (node id name set inputs) holds.form there) body.1 body.0 in
      let as_zone : kind_in outer.scope (node id name set inputs) ≡ record { name = name; settings = set; groups = outer.scope.groups } =
      ap (λ b. if b then record { name = name; settings = set; groups = outer.scope.groups } else record { name = name; settings = set; groups = [] }) found.0 in
      let kinds : record { name = name; settings = set; groups = outer.scope.groups } ≡ kind = sym as_zone ∙ ap (λ r. r.kind) body.2 in
      ap (λ k. body_in (bare k.groups) k.name k.settings) (sym kinds) ∙ found.1

  pub inside_found : zone_inside kind path ≡ Some (raised_body 0 inside)
  inside_found =
      let list : body_at t zone_way ≡ Some outer = (at_way t keeps form leads).0 in
      let part : option_map (part_in outer.scope zone_way zone_number) (node_at outer.scope.nodes zone_number) ≡ Some (a_repeat zone_run inside) =
      sym (ap (option_and_then (λ b. option_map (part_in b.scope zone_way zone_number) (node_at b.scope.nodes zone_number))) list) ∙ at in
      let x : (x : Node) × (node_at outer.scope.nodes zone_number ≡ Some x) × (part_in outer.scope zone_way zone_number x ≡ a_repeat zone_run inside) = map_some (part_in outer.scope zone_way zone_number) (node_at outer.scope.nodes zone_number) (a_repeat zone_run inside) part in
      alone x.0 x.1 x.2

  -- the way leads into a turn of the zone
  pub data Under : Way → Type 0 where
    a_turn : (k : ℕ) → Under (into zone_way (turn_step zone_number k))
    deeper : {way : Way} (step : PathStep) → Under way → Under (into way step)

  further : {way : Way} → Under way → depth zone_way < depth way
  unfolding depth
  further (a_turn k) = omega arith
  further (deeper step u) = let less : depth zone_way < depth _ = further u in omega (arith, less)

  apart : {way : Way} → Under way → (n : ℕ) → path_of way n ≡ path → ⊥
  apart {way} u n e =
      let same : (way ≡ zone_way) × (n ≡ zone_number) = path_names_node way zone_way n zone_number (e ∙ zone_path) in
      let less : depth zone_way < depth way = further u in
      let depths : depth zone_way ≡ depth way = ap depth (sym same.0) in
      omega (arith, less, depths)

  elsewhere : {way : Way} → Under way → (n : ℕ) → is_zone_at kind path way n ≡ false
  elsewhere {way} u n = by_path (λ b. b ≡ false) (path_of way n) path (λ e. absurd (apart u n e)) (λ h. refl)

  here : is_zone_at kind path zone_way zone_number ≡ true
  here = by_path (λ b. b ≡ true) (path_of zone_way zone_number) path (λ e. refl) (λ other. absurd (other (sym zone_path)))

  below : Way → PathStep → Option Body → Option Body
  below way step o = option_and_then (λ b. option_and_then (body_of b.scope) (node_at b.scope.nodes step.node)) o

  below_like : (way : Way) (step : PathStep) {o p : Option Body} → LikeBodies o p → LikeBodies (below way step o) (below way step p)
  unfolding below
  below_like way step no_bodies = no_bodies
  below_like way step (bodies c b like) = inners_like c b step.node like

  pub look_like : {way : Way} → Under way → LikeBodies (list_in kind path way) (body_at t way)
  unfolding below
  look_like (a_turn k) =
      let found : list_in kind path (into zone_way (turn_step zone_number k)) ≡ Some (raised_body 0 inside) =
      ap (λ b. if b then zone_inside kind path else option_and_then (λ x. option_and_then (body_of x.scope) (node_at x.scope.nodes zone_number)) (list_in kind path zone_way)) here ∙ inside_found in
      let list : body_at t (into zone_way (turn_step zone_number k)) ≡ Some inside = (at_way t keeps form (into_turn zone_number k zone_run leads at)).0 in
      subst (λ o. LikeBodies o (body_at t (into zone_way (turn_step zone_number k)))) (sym found) (subst (λ o. LikeBodies (Some (raised_body 0 inside)) o) (sym list) (bodies (raised_body 0 inside) inside (0, refl)))
  look_like (deeper {way} step u) =
      let no_turn : (is_some step.turn && is_zone_at kind path way step.node) ≡ false = ap (λ b. is_some step.turn && b) (elsewhere u step.node) ∙ not_both (is_some step.turn) in
      let found : list_in kind path (into way step) ≡ below way step (list_in kind path way) = ap (λ b. if b then zone_inside kind path else below way step (list_in kind path way)) no_turn in
      subst (λ o. LikeBodies o (body_at t (into way step))) (sym found) (below_like way step (look_like u))

  part_in_list : Way → ℕ → Option Body → Option Part
  part_in_list way n o = option_and_then (λ b. option_map (part_in b.scope way n) (node_at b.scope.nodes n)) o

  parts_of_like : (way : Way) (n : ℕ) {o p : Option Body} → LikeBodies o p → LikeParts (part_in_list way n o) (part_in_list way n p)
  unfolding part_in_list
  parts_of_like way n no_bodies = nothing
  parts_of_like way n (bodies c b like) = parts_like c b way n like

  pub part_like : {way : Way} → Under way → (n : ℕ) → LikeParts (part_by (list_in kind path) way n) (part_at t way n)
  unfolding part_in_list
  part_like {way} u n = parts_of_like way n (look_like u)

  out_of_like : (way : Way) (i : ℕ) {o p : Option Body} → LikeBodies o p → option_map_or (λ b. read_at (given_out b way) i) o (plain_read nowhere) ≡ option_map_or (λ b. read_at (given_out b way) i) p (plain_read nowhere)
  out_of_like way i no_bodies = refl
  out_of_like way i (bodies c b like) = ap (λ rs. read_at rs i) (out_same c b way like)

  out_like : {way : Way} → Under way → (i : ℕ) → out_in kind path way i ≡ out_of t way i
  out_like {way} u i = out_of_like way i (look_like u)

  order_of_like : {o p : Option Body} → LikeBodies o p → option_map_or (λ b. by_rank (graph_of b.scope.nodes)) o [] ≡ option_map_or (λ b. by_rank (graph_of b.scope.nodes)) p []
  order_of_like no_bodies = refl
  order_of_like (bodies c b (a, e)) = ap (λ x. by_rank (graph_of x.scope.nodes)) e

  order_like : {way : Way} → Under way → order_at (list_in kind path) way ≡ order_at (body_at t) way
  order_like u = order_of_like (look_like u)

  -- ---- runs

  runs_of_like : (f g : Way → Option (List Run)) (way : Way) (n : ℕ) → ((step : PathStep) → f (into way step) ≡ g (into way step)) → {o p : Option Part} → LikeParts o p → part_runs (list_in kind path) f way n o ≡ part_runs (body_at t) g way n p
  runs_of_like f g way n h nothing = refl
  runs_of_like f g way n h (node_like run) = refl
  runs_of_like f g way n h (group_like c b reads like) = h (plain_step n)
  runs_of_like f g way n h (zone_like run c b like) = refl

  pub runs_like : (k : ℕ) {way : Way} → Under way → runs_within (list_in kind path) k way ≡ runs_within (body_at t) k way
  runs_like zero u = refl
  runs_like (suc k) {way} u =
      ap (option_map (flat_map (λ runs. runs)))
      (same_lists (λ n. part_runs (list_in kind path) (runs_within (list_in kind path) k) way n (part_by (list_in kind path) way n)) (λ n. part_runs (body_at t) (runs_within (body_at t) k) way n (part_at t way n))
      (order_at (list_in kind path) way) (order_at (body_at t) way) (order_like u)
      (λ n. runs_of_like (runs_within (list_in kind path) k) (runs_within (body_at t) k) way n (λ step. runs_like k (deeper step u)) (part_like u n)))

  -- ---- origins

  -- the site is in a turn of the zone, or an item of it
  abbrev pub Inside : Site → Type 0
  Inside (at_output way n s) = Under way
  Inside (at_input way i) = Under way
  Inside (at_item way n k i) = Under way ⊎ ((way ≡ zone_way) × (n ≡ zone_number))
  Inside (at_constant c) = Unit {0}
  Inside nowhere = Unit {0}

  pub near_inside : (way : Way) (site : Site) → Under way → InList way site → Inside site
  near_inside way (at_output w n s) u e = subst Under (sym e) u
  near_inside way (at_input w i) u e = subst Under (sym e) u
  near_inside way (at_item w n k i) u e = absurd e
  near_inside way (at_constant c) u e = tt
  near_inside way nowhere u e = tt

  -- one step back in the zone is one in the tree, but for the items before its first turn
  data Stepped (site : Site) : Option Back → Type 0 where
    no_step : Stepped site None
    led : (r : Read) → Leads t site r → Inside r.from → Stepped site (Some (goes_to r))
    own : IsOwn t site → Stepped site (Some stays)
    item : (i : ℕ) → at_item zone_way zone_number zero i ≡ site → Stepped site (Some stays)
    number : (way : Way) (step : PathStep) (j : ℕ) (run : Run) (b : Body) → part_at t way step.node ≡ Some (a_repeat run b) → step.turn ≡ Some j → at_input (into way step) zero ≡ site → Stepped site (Some (goes_to (plain_read (at_constant (a_value (int (pos j)))))))

  step_output : {way : Way} → Under way → (n s : ℕ) {o p : Option Part} → part_at t way n ≡ p → LikeParts o p → Stepped (at_output way n s) (output_back kind path way n s o)
  step_output u n s e nothing = no_step
  step_output u n s e (node_like run) = own (run, ap (option_and_then run_in) e)
  step_output {way} u n s e (group_like c b reads like) =
      subst (λ r. Stepped (at_output way n s) (Some (goes_to r))) (sym (out_like (deeper (plain_step n) u) s))
      (led (out_of t (into way (plain_step n)) s) (group_output b reads e) (near_inside (into way (plain_step n)) (out_of t (into way (plain_step n)) s).from (deeper (plain_step n) u) (out_near t (into way (plain_step n)) s)))
  step_output u n s e (zone_like run c b like) = own (run, ap (option_and_then run_in) e)

  step_turn : (way : Way) (step : PathStep) (i : ℕ) (turn : Option ℕ) (run : Run) (b : Body) → ((k : ℕ) (j : ℕ) → Inside (at_item way step.node k j)) → part_at t way step.node ≡ Some (a_repeat run b) → step.turn ≡ turn → Stepped (at_input (into way step) i) (turn_back kind path way step.node turn i)
  step_turn way step i None run b items e f = no_step
  step_turn way step zero (Some j) run b items e f = number way step j run b e f refl
  step_turn way step (suc i) (Some j) run b items e f = led (plain_read (at_item way step.node j i)) (turn_item j run b e f) (items j i)

  step_input : {way : Way} → Under way → (step : PathStep) (i : ℕ) {o p : Option Part} → part_at t way step.node ≡ p → LikeParts o p → Stepped (at_input (into way step) i) (input_back kind path way step i o)
  step_input u step i e nothing = no_step
  step_input u step i e (node_like run) = no_step
  step_input {way} u step i e (group_like c b reads like) = led (read_at reads i) (group_input b reads e) (near_inside way (read_at reads i).from u (read_in way reads i (part_reads_in t way step.node (a_group b reads) e)))
  step_input {way} u step i e (zone_like run c b like) = step_turn way step i step.turn run b (λ k j. inl u) e refl

  step_item : {way : Way} → Under way → (n i : ℕ) {o p : Option Part} → part_at t way n ≡ p → LikeParts o p → Stepped (at_item way n zero i) (item_back kind path i o)
  step_item u n i e nothing = no_step
  step_item u n i e (node_like run) = no_step
  step_item u n i e (group_like c b reads like) = no_step
  step_item {way} u n i e (zone_like run c b like) = led (read_at run.reads (suc i)) (first run b e) (near_inside way (read_at run.reads (suc i)).from u (read_in way run.reads (suc i) (part_reads_in t way n (a_repeat run b) e)))

  step_later : (way : Way) (n k i : ℕ) → Under (into way (turn_step n k)) → Stepped (at_item way n (suc k) i) (Some (goes_to (out_in kind path (into way (turn_step n k)) i)))
  step_later way n k i u =
      subst (λ r. Stepped (at_item way n (suc k) i) (Some (goes_to r))) (sym (out_like u i))
      (led (out_of t (into way (turn_step n k)) i) later (near_inside (into way (turn_step n k)) (out_of t (into way (turn_step n k)) i).from u (out_near t (into way (turn_step n k)) i)))

  -- the list around one in a turn
  abbrev Around : Way → Type 0
  Around the_tree = ⊥
  Around (into way step) = ((k : ℕ) × (into zone_way (turn_step zone_number k) ≡ into way step)) ⊎ Under way

  around : {way : Way} → Under way → Around way
  around (a_turn k) = inl (k, refl)
  around (deeper step u) = inr u

  abbrev SteppedBack : Site → Type 0
  SteppedBack site = Stepped site (back kind path site)

  own_turn : (k i : ℕ) → SteppedBack (at_input (into zone_way (turn_step zone_number k)) i)
  own_turn k i =
      subst (λ b. Stepped (at_input (into zone_way (turn_step zone_number k)) i) (if b then turn_back kind path zone_way zone_number (Some k) i else input_back kind path zone_way (turn_step zone_number k) i (part_by (list_in kind path) zone_way zone_number))) (sym here)
      (step_turn zone_way (turn_step zone_number k) i (Some k) zone_run inside (λ j l. inr (refl, refl)) at refl)

  stepped : (site : Site) → Inside site → SteppedBack site
  stepped (at_output way n s) u = step_output u n s refl (part_like u n)
  stepped (at_input the_tree i) u = absurd (around u)
  stepped (at_input (into way step) i) u = elim (around u) [
    | inl (k, e) ↦ subst (λ w. SteppedBack (at_input w i)) e (own_turn k i)
    | inr v ↦ subst (λ b. Stepped (at_input (into way step) i) (if b then turn_back kind path way step.node step.turn i else input_back kind path way step i (part_by (list_in kind path) way step.node))) (sym (elsewhere v step.node)) (step_input v step i refl (part_like v step.node))
  ]
  stepped (at_item way n zero i) (inl u) =
      subst (λ b. Stepped (at_item way n zero i) (if b then Some stays else item_back kind path i (part_by (list_in kind path) way n))) (sym (elsewhere u n)) (step_item u n i refl (part_like u n))
  stepped (at_item way n zero i) (inr (e, f)) =
      subst (λ w. SteppedBack (at_item w n zero i)) (sym e)
      (subst (λ j. SteppedBack (at_item zone_way j zero i)) (sym f)
      (subst (λ b. Stepped (at_item zone_way zone_number zero i) (if b then Some stays else item_back kind path i (part_by (list_in kind path) zone_way zone_number))) (sym here) (item i refl)))
  stepped (at_item way n (suc k) i) (inl u) = step_later way n k i (deeper (turn_step n k) u)
  stepped (at_item way n (suc k) i) (inr (e, f)) = step_later way n k i (subst (λ w. Under (into w (turn_step n k))) (sym e) (subst (λ j. Under (into zone_way (turn_step j k))) (sym f) (a_turn k)))
  stepped (at_constant c) u = own tt
  stepped nowhere u = no_step

  -- what is found in the zone goes back to a site of its own, or to an item of the zone
  abbrev pub IsLast : Site → Type 0
  IsLast site = IsOwn t site ⊎ ((i : ℕ) × (at_item zone_way zone_number zero i ≡ site))

  -- whose origin is that of the site, with the conversions found on the way
  abbrev pub GoesBack : Read → Read → Type 0
  GoesBack o whole = (q : Read) × ComesFrom t o.from q × (beyond q o ≡ whole) × IsLast o.from

  joined : (q o r whole rest : Read) (p : Read) → beyond q o ≡ rest → beyond rest r ≡ whole → beyond o r ≡ p → beyond q p ≡ whole
  joined q o r whole rest p e f g =
      ap (beyond q) (sym g) ∙ (λ i. record { from = q.from; through = sym (append_assoc q.through o.through r.through) i }) ∙ ap (λ x. beyond x r) e ∙ f

  pub goes_back : (k : ℕ) (site : Site) (o : Read) → Inside site → inner_within kind path k site ≡ Some o → (whole : Read) → ComesFrom t site whole → GoesBack o whole
  goes_back zero site o u e whole from = cc
  goes_back (suc k) site o u e whole (j, h) = by_step (λ s p v f w g. goes_back k s p v f w g) (back kind path site) (stepped site u) e
    where
      by_step : ((s : Site) (p : Read) → Inside s → inner_within kind path k s ≡ Some p → (w : Read) → ComesFrom t s w → GoesBack p w) → (b : Option Back) → Stepped site b → origin_by kind path (inner_within kind path k) site b ≡ Some o → GoesBack o whole
      by_step again b no_step f = cc
      by_step again b (own is) f =
          let same : plain_read site ≡ o = some_same f in
          subst (λ x. GoesBack x whole) same (whole, (j, h), sym (beyond_nothing whole site), inl is)
      by_step again b (item i is) f =
          let same : plain_read site ≡ o = some_same f in
          subst (λ x. GoesBack x whole) same (whole, (j, h), sym (beyond_nothing whole site), inr (i, is))
      by_step again b (led r l v) f = by_fuel j h
        where
          p : (p : Read) × (inner_within kind path k r.from ≡ Some p) × (beyond p r ≡ o)
          p = map_some (λ x. beyond x r) (inner_within kind path k r.from) o f

          by_fuel : (j' : ℕ) → origin_within t j' site ≡ Some whole → GoesBack o whole
          by_fuel zero g = cc
          by_fuel (suc j') g =
              let rest : (rest : Read) × (origin_within t j' r.from ≡ Some rest) × (beyond rest r ≡ whole) = map_some (λ x. beyond x r) (origin_within t j' r.from) whole (sym (led_equation t j' site r l) ∙ g) in
              let inner : GoesBack p.0 rest.0 = again r.from p.0 v p.1 rest.0 (j', rest.1) in
              let froms : p.0.from ≡ o.from = ap (λ x. x.from) p.2 in
              (inner.0, subst (λ x. ComesFrom t x inner.0) froms inner.1, joined inner.0 p.0 r whole rest.0 o inner.2 rest.2 p.2, subst IsLast froms inner.3)
      by_step again b (number way step i run c part turn is) f =
          let r : Read = plain_read (at_constant (a_value (int (pos i)))) in
          let p : (p : Read) × (inner_within kind path k (at_constant (a_value (int (pos i)))) ≡ Some p) × (beyond p (plain_read (at_constant (a_value (int (pos i))))) ≡ o) =
          map_some (λ x. beyond x (plain_read (at_constant (a_value (int (pos i)))))) (inner_within kind path k (at_constant (a_value (int (pos i))))) o f in
          let first_one : plain_read (at_constant (a_value (int (pos i)))) ≡ p.0 = constant_found k (a_value (int (pos i))) p.0 p.1 in
          let origin : ComesFrom t (at_input (into way step) zero) (plain_read (at_constant (a_value (int (pos i))))) =
          (1, ap (input_origin t (origin_within t 0) way step zero) part ∙ ap (λ o. turn_origin t (origin_within t 0) way step.node o zero) turn) in
          let same : plain_read (at_constant (a_value (int (pos i)))) ≡ whole = one_origin t site (plain_read (at_constant (a_value (int (pos i))))) whole (subst (λ s. ComesFrom t s (plain_read (at_constant (a_value (int (pos i)))))) is origin) (j, h) in
          let read : plain_read (at_constant (a_value (int (pos i)))) ≡ o = ap (λ x. beyond x (plain_read (at_constant (a_value (int (pos i)))))) first_one ∙ p.2 in
          subst (λ x. GoesBack x whole) read (subst (λ w. GoesBack (plain_read (at_constant (a_value (int (pos i))))) w) same (plain_read (at_constant (a_value (int (pos i)))), (1, refl), refl, inl tt))
        where
          constant_found : (k' : ℕ) (c : Constant) (x : Read) → inner_within kind path k' (at_constant c) ≡ Some x → plain_read (at_constant c) ≡ x
          constant_found zero c x g = cc
          constant_found (suc k') c x g = some_same g
