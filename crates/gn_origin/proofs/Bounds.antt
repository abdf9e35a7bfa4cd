-- How many steps the walks of a search for a plan take at most.
use Rattle.std.proofs.Common.{◌≡◌, ◌≤◌, ◌<◌, ◌+◌, ◌++◌, inl, inr, ℕ, suc, pos, List, [], ◌∷◌, map, Some, codes, refl, sym, ◌∙◌, ap, subst, arith}
use Rattle.std.specs.Prelude.{is_some, option_map}
use Rattle.gn_value.specs.declared.value.Value.TheVariants.{Int as int}
use Rattle.gn_kinds.specs.declared.row.SocketKind.TheVariants.{Truth, Vector, Geometry}
use Rattle.gn_kinds.specs.Row.{Text}
use Rattle.gn_kinds.specs.Table.{row_of_kind, table, values, functions, elsewhere, attributes, geometry_kinds, instance_kinds, groups}
use Rattle.gn_tree.specs.Trees.{Node, node, Settings, Named, Group, Tree}
use Rattle.gn_rules.specs.Sockets.{Declared, one, one_of, chosen, further, inputs_of, inputs_of_kind, input_of_row}
use Rattle.gn_rules.specs.Rules.{KeepsRules}
use Rattle.gn_node_set.specs.Meanings.{Has}
use Rattle.gn_meaning.specs.Sites.{a_value, Way, the_tree, into, plain_step, turn_step, Site, at_output, at_input, at_item, at_constant, Read, plain_read}
use Rattle.gn_meaning.specs.Reads.{default_of, node_reads, reads_of, Run, Part, a_node, a_group, a_repeat, read_at, part_at, out_of}
use Rattle.gn_meaning.specs.Origins.{read_origin, output_origin, input_origin, first_origin, origin_within, IsReadFrom}
use Rattle.gn_meaning.specs.Forms.{HasForm}
use Rattle.gn_meaning.proofs.Grounded.{Grounded, of_constant, of_tree_input, of_node, of_group, of_repeat, of_group_input, of_turn_number, of_turn_item, of_first_item, of_later_item}
use Rattle.gn_meaning.proofs.Grounded.{all_grounded}
use Rattle.gn_meaning.proofs.Origins.{one_origin}
use Rattle.gn_meaning.proofs.Options.{map_some}
use Rattle.gn_meaning.proofs.Found.{Near, constant as near_constant, entry, output}
use Rattle.gn_meaning.proofs.Inputs.{AllSingle, InputsReached, reads_near, has_read}
use Rattle.gn_meaning.proofs.Parts.{singles}
use Rattle.gn_meaning.proofs.Opened.{at_way}
use Rattle.gn_meaning.specs.There.{LeadsTo, to_the_tree, IsThere}
use Rattle.gn_meaning.specs.Demand.{output_read}
use Rattle.gn_meaning.specs.Bodies.{Body, tree_body}
use Rattle.gn_rules.specs.Scopes.{Scope}
use Rattle.gn_tree.specs.Nodes.{kind_in, settings_in, inputs_in}
use Rattle.gn_origin.specs.Frames.{Frames, way_of, AreOpen}
use Rattle.gn_origin.proofs.Ways.{leads_to, node_inputs}
use Rattle.gn_origin.proofs.Steps.{move_part}
use Rattle.gn_origin.specs.Walking.{IsFoundBelow}
use Rattle.gn_origin.specs.Moves.{IsMoveOf, IsBounded}

module _ (t : Tree) where
  abbrev Found : Site → Type 0
  Found site = (k : ℕ) × (o : Read) × (origin_within t k site ≡ Some o) × Grounded t o.from

  abbrev FoundFor : Read → Type 0
  FoundFor r = (k : ℕ) × (o : Read) × (read_origin t (origin_within t k) r ≡ Some o) × Grounded t o.from

  read_on : (r : Read) → Found r.from → FoundFor r
  read_on r (k, o, e, g) = (k, record { from = o.from; through = o.through ++ r.through }, ap (option_map (λ q. record { from = q.from; through = q.through ++ r.through })) e, g)

  -- the origin of a site, with all that it goes back to
  found : {site : Site} → Grounded t site → Found site
  found (of_constant c) = (1, plain_read (at_constant c), refl, of_constant c)
  found (of_tree_input i h) = (1, plain_read (at_input the_tree i), refl, of_tree_input i h)
  found (of_node {way} {n} {s} run e there reads) = (1, plain_read (at_output way n s), ap (output_origin t (origin_within t 0) way n s) e, of_node run e there reads)
  found (of_repeat {way} {n} {s} run b e there reads items) = (1, plain_read (at_output way n s), ap (output_origin t (origin_within t 0) way n s) e, of_repeat run b e there reads items)
  found (of_group {way} {n} {s} b reads e out) =
      let there : FoundFor (out_of t (into way (plain_step n)) s) = read_on (out_of t (into way (plain_step n)) s) (found out) in
      (suc there.0, there.1, ap (output_origin t (origin_within t there.0) way n s) e ∙ there.2, there.3)
  found (of_group_input {way} {n} {i} b reads e read) =
      let there : FoundFor (read_at reads i) = read_on (read_at reads i) (found read) in
      (suc there.0, there.1, ap (input_origin t (origin_within t there.0) way (plain_step n) i) e ∙ there.2, there.3)
  found (of_turn_number {way} {n} {k} run b e) = (1, plain_read (at_constant (a_value (int (pos k)))), ap (input_origin t (origin_within t 0) way (turn_step n k) 0) e, of_constant (a_value (int (pos k))))
  found (of_turn_item {way} {n} {k} {i} run b e item) =
      let there : Found (at_item way n k i) = found item in
      (suc there.0, there.1, ap (input_origin t (origin_within t there.0) way (turn_step n k) (suc i)) e ∙ there.2, there.3)
  found (of_first_item {way} {n} {i} run b e read) =
      let there : FoundFor (read_at run.reads (suc i)) = read_on (read_at run.reads (suc i)) (found read) in
      (suc there.0, there.1, ap (first_origin t (origin_within t there.0) i) e ∙ there.2, there.3)
  found (of_later_item {way} {n} {k} {i} out) =
      let there : FoundFor (out_of t (into way (turn_step n k)) i) = read_on (out_of t (into way (turn_step n k)) i) (found out) in
      (suc there.0, there.1, there.2, there.3)

  abbrev AllGrounded : List Read → Type 0
  AllGrounded rs = (r : Read) → Has rs r → Grounded t r.from

  -- the steps to the origins of all of these
  steps_of : (rs : List Read) → AllGrounded rs → ℕ
  steps_of [] g = 0
  steps_of (r ∷ rs) g = (found (g r (inl refl))).0 + steps_of rs (λ q h. g q (inr h))

  more : (a b : ℕ) (site : Site) → IsFoundBelow t b site → IsFoundBelow t (a + b) site
  more a b site (k, h, e) = (k, omega (arith, h), e)

  below : (rs : List Read) (g : AllGrounded rs) (r : Read) → Has rs r → IsFoundBelow t (steps_of rs g) r.from
  unfolding steps_of
  below [] g r h = absurd h
  below (q ∷ rs) g r (inl same) =
      let there : Found q.from = found (g q (inl refl)) in
      subst (λ p. IsFoundBelow t (steps_of (q ∷ rs) g) p.from) (sym same) (there.0, (let first : there.0 ≤ there.0 + steps_of rs (λ p h. g p (inr h)) = omega arith in first), ap is_some there.2)
  below (q ∷ rs) g r (inr h) = more (found (g q (inl refl))).0 (steps_of rs (λ p k. g p (inr k))) r.from (below rs (λ p k. g p (inr k)) r h)

  -- the steps to the origins of what the run at a site reads
  run_steps : {site : Site} → Grounded t site → ℕ
  run_steps (of_node run e there reads) = steps_of run.reads reads
  run_steps _ = 0

  ways : (way other : Way) (n m s k : ℕ) → at_output way n s ≡ at_output other m k → (way ≡ other) × (n ≡ m)
  ways way other n m s k e = (cc, cc)

  same_part : (way other : Way) (n m : ℕ) → way ≡ other → n ≡ m → (p q : Part) → part_at t way n ≡ Some p → part_at t other m ≡ Some q → Some p ≡ Some q
  same_part way other n m a b p q e f = sym e ∙ ((λ i. part_at t (a i) (b i)) ∙ f)

  same_run : (way other : Way) (n m : ℕ) (p : Part) (run : Run) → way ≡ other → n ≡ m → part_at t way n ≡ Some p → part_at t other m ≡ Some (a_node run) → p ≡ a_node run
  same_run way other n m p run a b e f = let both : Some p ≡ Some (a_node run) = same_part way other n m a b p (a_node run) e f in cc

  run_below : {site : Site} (g : Grounded t site) (way : Way) (n s : ℕ) (run : Run) → site ≡ at_output way n s → part_at t way n ≡ Some (a_node run) → (r : Read) → Has run.reads r → IsFoundBelow t (run_steps g) r.from
  unfolding run_steps
  run_below (of_node {way} {n} {s} run e there reads) other m k another same at r h =
      let node : a_node run ≡ a_node another = same_run way other n m (a_node run) another (ways way other n m s k same).0 (ways way other n m s k same).1 e at in
      let is : run ≡ another = cc in
      below run.reads reads r (subst (λ q. Has q.reads r) (sym is) h)
  run_below (of_constant c) other m k another same at r h = cc
  run_below (of_tree_input i less) other m k another same at r h = cc
  run_below (of_repeat {way} {n} {s} run b e there reads items) other m k another same at r h =
      let bad : Some (a_repeat run b) ≡ Some (a_node another) = same_part way other n m (ways way other n m s k same).0 (ways way other n m s k same).1 (a_repeat run b) (a_node another) e at in
      cc
  run_below (of_group {way} {n} {s} b reads e out) other m k another same at r h =
      let bad : Some (a_group b reads) ≡ Some (a_node another) = same_part way other n m (ways way other n m s k same).0 (ways way other n m s k same).1 (a_group b reads) (a_node another) e at in
      cc
  run_below (of_group_input b reads e read) other m k another same at r h = cc
  run_below (of_turn_number run b e) other m k another same at r h = cc
  run_below (of_turn_item run b e item) other m k another same at r h = cc
  run_below (of_first_item run b e read) other m k another same at r h = cc
  run_below (of_later_item out) other m k another same at r h = cc

move_inputs_in : (gs : List Group) (id kind : Text) (set : Settings) (inputs : List Named) → kind ≡ codes "set_position" → further (λ g. g.inputs) gs set ≡ []
    → inputs_of gs (node id kind set inputs) ≡ one (codes "geometry") Geometry ∷ one (codes "selection") Truth ∷ one (codes "position") Vector ∷ one (codes "offset") Vector ∷ []
unfolding row_of_kind table values functions elsewhere attributes geometry_kinds instance_kinds groups
move_inputs_in gs id kind set inputs e f = λ i. map (input_of_row (chosen set)) (inputs_of_kind (e i)) ++ map one_of (f i)

abbrev pub move_sockets : List Declared
move_sockets = one (codes "geometry") Geometry ∷ one (codes "selection") Truth ∷ one (codes "position") Vector ∷ one (codes "offset") Vector ∷ []

pub move_inputs : (gs : List Group) (x : Node) → kind_in x ≡ codes "set_position" → further (λ g. g.inputs) gs (settings_in x) ≡ [] → inputs_of gs x ≡ move_sockets
move_inputs gs (node id kind set inputs) e f = move_inputs_in gs id kind set inputs e f

pub all_single : AllSingle move_sockets
all_single = (refl, (refl, (refl, (refl, tt))))

pub node_reads_by : (s : Scope) (way : Way) (x : Node) → node_reads s way x ≡ reads_of s way (inputs_in x) (inputs_of s.groups x) (map default_of (inputs_of_kind (kind_in x)))
node_reads_by s way (node id kind set inputs) = refl

module _ (t : Tree) (keeps : KeepsRules t) (form : HasForm t) where
  near_there : {way : Way} {b : Body} {site : Site} → LeadsTo t way b → Near b.scope way (λ _. Unit {0}) site → IsThere t site
  near_there leads (near_constant c) = tt
  near_there {b} leads (entry i h) = (b, leads, h)
  near_there {b} leads (output m k x there h p) = (b, leads, x, there, h)

  -- what the inputs of a Set Position read is there
  move_reads : (fs : Frames) (m : ℕ) (x : Node) (run : Run) → AreOpen t fs → IsMoveOf t fs m x run → (i : ℕ) → i < 4 → Has run.reads (read_at run.reads i)
  move_reads fs m x run ways is i h =
      let mo = is.0 in
      let sc = mo.outer.scope in
      let leads = leads_to t fs mo.outer ways mo.leads in
      let holds = (at_way t keeps form leads).1 in
      let sockets : inputs_of sc.groups x ≡ move_sockets = move_inputs sc.groups x mo.part.0 ((mo.part.1).1 (λ g. g.inputs)) in
      let there : InputsReached t sc move_sockets (inputs_in x) = subst (λ ds. InputsReached t sc ds (inputs_in x)) sockets (node_inputs t sc m x (holds.nodes m x mo.node)) in
      let reads : node_reads sc (way_of fs) x ≡ reads_of sc (way_of fs) (inputs_in x) move_sockets (map default_of (inputs_of_kind (kind_in x))) =
      node_reads_by sc (way_of fs) x ∙ ap (λ ds. reads_of sc (way_of fs) (inputs_in x) ds (map default_of (inputs_of_kind (kind_in x)))) sockets in
      let both : Some (a_node _) ≡ Some (a_node run) = sym (move_part t (way_of fs) m x mo) ∙ is.1 in
      let same : node_reads sc (way_of fs) x ≡ run.reads = cc in
      subst (λ rs. Has rs (read_at rs i)) (sym reads ∙ same)
      (has_read t keeps sc (way_of fs) move_sockets (inputs_in x) there all_single move_sockets (map default_of (inputs_of_kind (kind_in x))) i all_single h)

  output_grounded : Grounded t (output_read t).from
  output_grounded =
      let b = tree_body t in
      let holds = (at_way t keeps form to_the_tree).1 in
      let has = has_read t keeps b.scope the_tree (map one_of b.sockets) b.output holds.out (singles b.sockets) (map one_of b.sockets) [] 0 (singles b.sockets) (let less : 0 < 1 = omega arith in less) in
      all_grounded t keeps form (output_read t).from
      (near_there to_the_tree (reads_near t keeps b.scope the_tree (map one_of b.sockets) b.output holds.out (λ _. Unit {0}) (λ l h m e. tt) (map one_of b.sockets) [] (output_read t) has))

  pub plan_steps : (n : ℕ) × IsBounded t n
  plan_steps =
      let there : Found t (output_read t).from = found t output_grounded in
      let steps = run_steps t there.3 in (
        there.0 + steps,
        record {
          output = (there.0, (let first : there.0 ≤ there.0 + steps = omega arith in first), ap is_some there.2);
          inputs = λ fs ways m x run from is i h.
              more t there.0 steps (read_at run.reads i).from
              (run_below t there.3 (way_of fs) m 0 run (same_origin (way_of fs) m from there.0 there.1 there.2) is.1 (read_at run.reads i) (move_reads fs m x run ways is i h));
        },
      )
    where
      same_origin : (way : Way) (m : ℕ) → IsReadFrom t (output_read t) (plain_read (at_output way m 0)) → (k : ℕ) (o : Read) → origin_within t k (output_read t).from ≡ Some o → o.from ≡ at_output way m 0
      same_origin way m (j, e) k o f =
          let q = map_some (λ p. record { from = p.from; through = p.through ++ (output_read t).through }) (origin_within t j (output_read t).from) (plain_read (at_output way m 0)) e in
          let same : q.0 ≡ o = one_origin t (output_read t).from q.0 o (j, q.1) (k, f) in
          ap (λ p. p.from) (sym same) ∙ ap (λ p. p.from) q.2
