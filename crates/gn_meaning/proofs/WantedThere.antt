-- In a tree that keeps the rules, what is wanted is there, where what is asked for is.
use Rattle.std.proofs.Common.{◌≡◌, ◌<◌, ◌⊎◌, inl, inr, ℕ, suc, List, [], length, map, Some, sym, ◌∙◌, ap, subst, arith}
use Rattle.std.specs.Prelude.{IsTrue}
use Rattle.std.specs.Option.{option_map_or}
use Rattle.std.proofs.lemmas.List.{length-map}
use Rattle.gn_tree.specs.NodeKinds.{Kind}
use Rattle.gn_tree.specs.Trees.{Node, Tree}
use Rattle.gn_cycle.specs.Graph.{has_edge}
use Rattle.gn_rules.specs.Sockets.{one_of, outputs_of, node_at}
use Rattle.gn_rules.specs.Rules.{KeepsRules, graph_of}
use Rattle.gn_node_set.specs.Meanings.{Has, Rows}
use Rattle.gn_meaning.specs.Sites.{Way, the_tree, into, plain_step, turn_step, Site, at_output, at_input, at_item, at_constant, nowhere, Read, plain_read}
use Rattle.gn_meaning.specs.Bodies.{Body, body_at}
use Rattle.gn_meaning.specs.Reads.{given_out, read_at, Run, Part, a_node, a_group, a_repeat, run_in, part_at, out_of, run_of}
use Rattle.gn_meaning.specs.Forms.{HasForm}
use Rattle.gn_meaning.specs.There.{LeadsTo, to_the_tree, into_group, into_turn, IsThere}
use Rattle.gn_meaning.specs.Denotation.{Given}
use Rattle.gn_meaning.specs.Demand.{Wanted, a_root, an_input, a_case, a_group_output, a_group_input, a_result, a_first_item, a_later_item, an_item, output_read}
use Rattle.gn_meaning.proofs.Options.{some_same, then_some}
use Rattle.gn_meaning.proofs.Found.{Near, constant as near_constant, entry, output}
use Rattle.gn_meaning.proofs.Inputs.{reads_near, has_read}
use Rattle.gn_meaning.proofs.Parts.{singles, Holds}
use Rattle.gn_meaning.proofs.Opened.{reads_in, Opens, part_near, group_opens, repeat_opens, at_way}
use Rattle.gn_meaning.proofs.ValuesExist.{has_first_read, has_then_read}

-- the list around, and the part of it that the last step of the way leads into
abbrev Outer : Tree → Way → Body → Type 0
Outer t the_tree b = Unit {0}
Outer t (into way step) b = (outer : Body) × LeadsTo t way outer × (((reads : List Read) × (part_at t way step.node ≡ Some (a_group b reads))) ⊎ ((run : Run) × (part_at t way step.node ≡ Some (a_repeat run b))))

outer_of : (t : Tree) {way : Way} {b : Body} → LeadsTo t way b → Outer t way b
outer_of t to_the_tree = tt
outer_of t (into_group {b = outer} n reads leads e) = (outer, leads, inl (reads, e))
outer_of t (into_turn {b = outer} n k run leads e) = (outer, leads, inr (run, e))

run_among : (p : Part) (run : Run) → run_in p ≡ Some run → reads_in p ≡ run.reads
run_among (a_node run) other e = ap (λ r. r.reads) (some_same e)
run_among (a_group b reads) other e = cc
run_among (a_repeat run b) other e = ap (λ r. r.reads) (some_same e)

module _ (t : Tree) (keeps : KeepsRules t) (form : HasForm t) where
  near_there : (way : Way) (b : Body) (P : ℕ → Type 0) → LeadsTo t way b → {site : Site} → Near b.scope way P site → IsThere t site
  near_there way b P leads (near_constant c) = tt
  near_there way b P leads (entry i h) = (b, leads, h)
  near_there way b P leads (output m k x there h p) = (b, leads, x, there, h)

  -- what a list gives out, and what its nodes read, is there
  pub out_there : {way : Way} {b : Body} → LeadsTo t way b → (i : ℕ) → i < length b.sockets → IsThere t (out_of t way i).from
  out_there {way} {b} leads i h =
      let list : (body_at t way ≡ Some b) × Holds t b = at_way t keeps form leads in
      let has : Has (given_out b way) (read_at (given_out b way) i) =
      has_read t keeps b.scope way (map one_of b.sockets) b.output list.1.out (singles b.sockets) (map one_of b.sockets) [] i (singles b.sockets) (subst (λ n. i < n) (sym (length-map b.sockets one_of)) h) in
      let near : Near b.scope way (λ _. Unit {0}) (read_at (given_out b way) i).from =
      reads_near t keeps b.scope way (map one_of b.sockets) b.output list.1.out (λ _. Unit {0}) (λ l k m e. tt) (map one_of b.sockets) [] (read_at (given_out b way) i) has in
      subst (λ r. IsThere t r.from) (sym (ap (λ o. option_map_or (λ c. read_at (given_out c way) i) o (plain_read nowhere)) list.0)) (near_there way b (λ _. Unit {0}) leads near)

  pub part_there : (way : Way) (b : Body) → LeadsTo t way b → (n : ℕ) (p : Part) → part_at t way n ≡ Some p → (r : Read) → Has (reads_in p) r → IsThere t r.from
  part_there way b leads n p e r has =
      let list : (body_at t way ≡ Some b) × Holds t b = at_way t keeps form leads in
      near_there way b (λ m. IsTrue (has_edge (graph_of b.scope.nodes) n m)) leads (part_near t keeps form way b list.0 n list.1 p e r has)

  run_there : (site : Site) (run : Run) (r : Read) → IsThere t site → run_of t site ≡ Some run → Has run.reads r → IsThere t r.from
  run_there (at_output way n s) run r (b, leads, x, there, h) e has =
      let p : (p : Part) × (part_at t way n ≡ Some p) × (run_in p ≡ Some run) = then_some run_in (part_at t way n) run e in
      part_there way b leads n p.0 p.1 r (subst (λ rs. Has rs r) (sym (run_among p.0 run p.2)) has)
  run_there (at_input way i) run r there e has = cc
  run_there (at_item way n k i) run r there e has = cc
  run_there (at_constant c) run r there e has = cc
  run_there nowhere run r there e has = cc

  -- an output of a node that opens a list is one of the list's
  inner_socket : (way : Way) (b : Body) (n s : ℕ) (x y : Node) (inner : Body) → node_at b.scope.nodes n ≡ Some x → node_at b.scope.nodes n ≡ Some y → length (outputs_of b.scope.groups y) ≡ length inner.sockets → s < length (outputs_of b.scope.groups x) → s < length inner.sockets
  inner_socket way b n s x y inner there too count h =
      let same : y ≡ x = some_same (sym too ∙ there) in
      subst (λ m. s < m) (sym (ap (λ z. length (outputs_of b.scope.groups z)) same) ∙ count) h

  group_out_there : (way : Way) (n s : ℕ) (inner : Body) (reads : List Read) → IsThere t (at_output way n s) → part_at t way n ≡ Some (a_group inner reads) → IsThere t (out_of t (into way (plain_step n)) s).from
  group_out_there way n s inner reads (b, leads, x, there, h) e =
      let list : (body_at t way ≡ Some b) × Holds t b = at_way t keeps form leads in
      let opens : (y : Node) × (node_at b.scope.nodes n ≡ Some y) × Opens t b y inner reads = group_opens t keeps form way b list.0 n list.1 inner reads e in
      out_there (into_group n reads leads e) s (inner_socket way b n s x opens.0 inner there opens.1 opens.2.outs h)

  result_there : (way : Way) (n s k : ℕ) (run : Run) (inner : Body) → IsThere t (at_output way n s) → part_at t way n ≡ Some (a_repeat run inner) → IsThere t (at_item way n k s)
  result_there way n s k run inner (b, leads, x, there, h) e =
      let list : (body_at t way ≡ Some b) × Holds t b = at_way t keeps form leads in
      let opens : (y : Node) × (node_at b.scope.nodes n ≡ Some y) × Opens t b y inner run.reads × (length inner.scope.entries ≡ suc (length inner.sockets)) = repeat_opens t keeps form way b list.0 n list.1 run inner e in
      (b, leads, run, inner, e, inner_socket way b n s x opens.0 inner there opens.1 opens.2.outs h)

  same_group : (b inner : Body) (reads others : List Read) → Some (a_group inner others) ≡ Some (a_group b reads) → (inner ≡ b) × (others ≡ reads)
  same_group b inner reads others e = (cc, cc)

  same_repeat : (b inner : Body) (run other : Run) → Some (a_repeat other inner) ≡ Some (a_repeat run b) → (inner ≡ b) × (other ≡ run)
  same_repeat b inner run other e = (cc, cc)

  group_input_there : (way : Way) (n i : ℕ) (b : Body) (reads : List Read) → IsThere t (at_input (into way (plain_step n)) i) → part_at t way n ≡ Some (a_group b reads) → IsThere t (read_at reads i).from
  group_input_there way n i b reads (inner, leads, h) e = by_outer (outer_of t leads)
    where
      by_outer : Outer t (into way (plain_step n)) inner → IsThere t (read_at reads i).from
      by_outer (outer, around, inl (others, f)) =
          let same : (inner ≡ b) × (others ≡ reads) = same_group b inner reads others (sym f ∙ e) in
          let list : (body_at t way ≡ Some outer) × Holds t outer = at_way t keeps form around in
          let opens : (y : Node) × (node_at outer.scope.nodes n ≡ Some y) × Opens t outer y b reads = group_opens t keeps form way outer list.0 n list.1 b reads e in
          part_there way outer around n (a_group b reads) e (read_at reads i) (opens.2.has i (subst (λ x. i < length x.scope.entries) same.0 h))
      by_outer (outer, around, inr (run, f)) = let bad : Some (a_repeat run inner) ≡ Some (a_group b reads) = sym f ∙ e in cc

  turn_item_there : (way : Way) (n k i : ℕ) (run : Run) (b : Body) → IsThere t (at_input (into way (turn_step n k)) (suc i)) → part_at t way n ≡ Some (a_repeat run b) → IsThere t (at_item way n k i)
  turn_item_there way n k i run b (inner, leads, h) e = by_outer (outer_of t leads)
    where
      by_outer : Outer t (into way (turn_step n k)) inner → IsThere t (at_item way n k i)
      by_outer (outer, around, inr (other, f)) =
          let same : (inner ≡ b) × (other ≡ run) = same_repeat b inner run other (sym f ∙ e) in
          let list : (body_at t way ≡ Some outer) × Holds t outer = at_way t keeps form around in
          let opens : (y : Node) × (node_at outer.scope.nodes n ≡ Some y) × Opens t outer y b run.reads × (length b.scope.entries ≡ suc (length b.sockets)) = repeat_opens t keeps form way outer list.0 n list.1 run b e in
          let less : suc i < length b.scope.entries = subst (λ x. suc i < length x.scope.entries) same.0 h in
          let count : length b.scope.entries ≡ suc (length b.sockets) = opens.3 in
          (outer, around, run, b, e, omega (arith, less, count))
      by_outer (outer, around, inl (reads, f)) = let bad : Some (a_group inner reads) ≡ Some (a_repeat run b) = sym f ∙ e in cc

  first_there : (way : Way) (n i : ℕ) (run : Run) (b : Body) → IsThere t (at_item way n 0 i) → part_at t way n ≡ Some (a_repeat run b) → IsThere t (read_at run.reads (suc i)).from
  first_there way n i run b (outer, around, other, inner, f, h) e =
      let same : (inner ≡ b) × (other ≡ run) = same_repeat b inner run other (sym f ∙ e) in
      let list : (body_at t way ≡ Some outer) × Holds t outer = at_way t keeps form around in
      let opens : (y : Node) × (node_at outer.scope.nodes n ≡ Some y) × Opens t outer y b run.reads × (length b.scope.entries ≡ suc (length b.sockets)) = repeat_opens t keeps form way outer list.0 n list.1 run b e in
      let less : i < length b.sockets = subst (λ x. i < length x.sockets) same.0 h in
      let count : length b.scope.entries ≡ suc (length b.sockets) = opens.3 in
      part_there way outer around n (a_repeat run b) e (read_at run.reads (suc i)) (opens.2.has (suc i) (omega (arith, less, count)))

  later_there : (way : Way) (n k i : ℕ) → IsThere t (at_item way n (suc k) i) → IsThere t (out_of t (into way (turn_step n k)) i).from
  later_there way n k i (outer, around, run, inner, e, h) = out_there (into_turn n k run around e) i h

  pub output_there : IsThere t (output_read t).from
  output_there = out_there to_the_tree 0 (omega arith)

  module _ {V : Type 0} (rows : Rows Kind V) (given : Given V) (roots : List Read) (roots_there : (r : Read) → Has roots r → IsThere t r.from) where
    pub wanted_there : {site : Site} → Wanted rows given t roots site → IsThere t site
    wanted_there (a_root r h) = roots_there r h
    wanted_there (an_input {site} run r w e h) = run_there site run r (wanted_there w) e (has_first_read (rows.role run.kind) run.reads r h)
    wanted_there (a_case {site} run choice r w e c h) = run_there site run r (wanted_there w) e (has_then_read (rows.role run.kind) choice run.reads r h)
    wanted_there (a_group_output {way} {n} {s} b reads w e) = group_out_there way n s b reads (wanted_there w) e
    wanted_there (a_group_input {way} {n} {i} b reads w e) = group_input_there way n i b reads (wanted_there w) e
    wanted_there (a_result {way} {n} {s} run b v w e g) = result_there way n s (rows.turns run.kind v) run b (wanted_there w) e
    wanted_there (a_first_item {way} {n} {i} run b w e) = first_there way n i run b (wanted_there w) e
    wanted_there (a_later_item {way} {n} {k} {i} w) = later_there way n k i (wanted_there w)
    wanted_there (an_item {way} {n} {k} {i} run b w e) = turn_item_there way n k i run b (wanted_there w) e
