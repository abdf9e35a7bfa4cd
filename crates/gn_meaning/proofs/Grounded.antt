-- In a tree that keeps the rules, each site that is there goes back to constants and inputs of the tree.
use Rattle.std.proofs.Common.{◌≡◌, ◌<◌, inl, inr, ℕ, zero, suc, List, [], length, map, Some, sym, ◌∙◌, ap, subst, arith}
use Rattle.std.specs.Prelude.{IsTrue}
use Rattle.std.specs.Option.{option_map_or}
use Rattle.std.proofs.lemmas.List.{length-map}
use Rattle.gn_lazy.specs.declared.path.PathStep.{PathStep}
use Rattle.gn_tree.specs.Trees.{Node, Tree, nodes_size}
use Rattle.gn_cycle.specs.Graph.{has_edge, Leads}
use Rattle.gn_rules.specs.declared.rule.Rule.TheVariants as rule
use Rattle.gn_rules.specs.Sockets.{one_of, outputs_of, node_at}
use Rattle.gn_rules.specs.Scopes.{tree_entries}
use Rattle.gn_rules.specs.Rules.{KeepsRules, graph_of}
use Rattle.gn_node_set.specs.Meanings.{Has}
use Rattle.gn_meaning.specs.Sites.{Constant, Way, the_tree, into, plain_step, turn_step, Site, at_output, at_input, at_item, at_constant, nowhere, Read, plain_read}
use Rattle.gn_meaning.specs.Bodies.{Body, body_at}
use Rattle.gn_meaning.specs.Reads.{given_out, read_at, Run, Part, a_node, a_group, a_repeat, part_in, part_at, out_of}
use Rattle.gn_meaning.specs.Forms.{HasForm}
use Rattle.gn_meaning.specs.There.{LeadsTo, to_the_tree, into_group, into_turn, IsThere}
use Rattle.gn_meaning.proofs.Options.{some_same}
use Rattle.gn_meaning.proofs.Found.{Near, constant as near_constant, entry, output}
use Rattle.gn_meaning.proofs.Reached.{keeps_rule}
use Rattle.gn_meaning.proofs.Inputs.{reads_near, has_read}
use Rattle.gn_meaning.proofs.Order.{Ends, ends, walks_end, node_leading}
use Rattle.gn_meaning.proofs.Parts.{singles, Holds}
use Rattle.gn_meaning.proofs.Opened.{reads_in, Smaller, Opens, part_of, part_near, group_opens, repeat_opens, at_way}

-- the sites that each class holds that has the constants and the inputs of the tree, and a site with all that it goes back to
pub data Grounded (t : Tree) : Site → Type 0 where
  of_constant : (c : Constant) → Grounded t (at_constant c)
  of_tree_input : (i : ℕ) → i < length tree_entries → Grounded t (at_input the_tree i)
  of_node : {way : Way} {n s : ℕ} (run : Run) → part_at t way n ≡ Some (a_node run) → IsThere t (at_output way n s) → ((r : Read) → Has run.reads r → Grounded t r.from) → Grounded t (at_output way n s)
  of_group : {way : Way} {n s : ℕ} (b : Body) (reads : List Read) → part_at t way n ≡ Some (a_group b reads) → Grounded t (out_of t (into way (plain_step n)) s).from → Grounded t (at_output way n s)
  of_repeat : {way : Way} {n s : ℕ} (run : Run) (b : Body) → part_at t way n ≡ Some (a_repeat run b) → IsThere t (at_output way n s) → ((r : Read) → Has run.reads r → Grounded t r.from) → ((k : ℕ) → Grounded t (at_item way n k s)) → Grounded t (at_output way n s)
  of_group_input : {way : Way} {n i : ℕ} (b : Body) (reads : List Read) → part_at t way n ≡ Some (a_group b reads) → Grounded t (read_at reads i).from → Grounded t (at_input (into way (plain_step n)) i)
  of_turn_number : {way : Way} {n k : ℕ} (run : Run) (b : Body) → part_at t way n ≡ Some (a_repeat run b) → Grounded t (at_input (into way (turn_step n k)) 0)
  of_turn_item : {way : Way} {n k i : ℕ} (run : Run) (b : Body) → part_at t way n ≡ Some (a_repeat run b) → Grounded t (at_item way n k i) → Grounded t (at_input (into way (turn_step n k)) (suc i))
  of_first_item : {way : Way} {n i : ℕ} (run : Run) (b : Body) → part_at t way n ≡ Some (a_repeat run b) → Grounded t (read_at run.reads (suc i)).from → Grounded t (at_item way n 0 i)
  of_later_item : {way : Way} {n k i : ℕ} → Grounded t (out_of t (into way (turn_step n k)) i).from → Grounded t (at_item way n (suc k) i)

module _ (t : Tree) where
  abbrev Entries : Way → Body → Type 0
  Entries way b = (i : ℕ) → i < length b.scope.entries → Grounded t (at_input way i)

  abbrev Outputs : Way → Body → Type 0
  Outputs way b = (n s : ℕ) (x : Node) → node_at b.scope.nodes n ≡ Some x → s < length (outputs_of b.scope.groups x) → Grounded t (at_output way n s)

  -- what is near in a list is grounded where its inputs are, and the outputs of these nodes
  near_grounded : (way : Way) (b : Body) (P : ℕ → Type 0) → Entries way b → ((m k : ℕ) (x : Node) → node_at b.scope.nodes m ≡ Some x → k < length (outputs_of b.scope.groups x) → P m → Grounded t (at_output way m k)) → {site : Site} → Near b.scope way P site → Grounded t site
  near_grounded way b P entries outputs (near_constant c) = of_constant c
  near_grounded way b P entries outputs (entry i h) = entries i h
  near_grounded way b P entries outputs (output m k x there h p) = outputs m k x there h p

  module _ (keeps : KeepsRules t) (form : HasForm t) where
    -- what a list gives out
    out_grounded : (way : Way) (b : Body) → LeadsTo t way b → Entries way b → Outputs way b → (i : ℕ) → i < length b.sockets → Grounded t (out_of t way i).from
    out_grounded way b leads entries outputs i h =
        let list : (body_at t way ≡ Some b) × Holds t b = at_way t keeps form leads in
        let has : Has (given_out b way) (read_at (given_out b way) i) =
        has_read t keeps b.scope way (map one_of b.sockets) b.output list.1.out (singles b.sockets) (map one_of b.sockets) [] i (singles b.sockets) (subst (λ n. i < n) (sym (length-map b.sockets one_of)) h) in
        let near : Near b.scope way (λ _. Unit {0}) (read_at (given_out b way) i).from =
        reads_near t keeps b.scope way (map one_of b.sockets) b.output list.1.out (λ _. Unit {0}) (λ l k m e. tt) (map one_of b.sockets) [] (read_at (given_out b way) i) has in
        subst (λ r. Grounded t r.from) (sym (ap (λ o. option_map_or (λ c. read_at (given_out c way) i) o (plain_read nowhere)) list.0))
        (near_grounded way b (λ _. Unit {0}) entries (λ m k x there less _. outputs m k x there less) near)

    -- ---- a list, where the smaller ones that its nodes open are done

    module _ (way : Way) (b : Body) (leads : LeadsTo t way b) (entries : Entries way b) where
      abbrev list : (body_at t way ≡ Some b) × Holds t b
      list = at_way t keeps form leads

      abbrev ReadsGrounded : List Read → Type 0
      ReadsGrounded reads = (r : Read) → Has reads r → Grounded t r.from

      group_entries : (n : ℕ) (inner : Body) (reads : List Read) → part_at t way n ≡ Some (a_group inner reads) → ReadsGrounded reads → Entries (into way (plain_step n)) inner
      group_entries n inner reads e grounded i h =
          let there : (x : Node) × (node_at b.scope.nodes n ≡ Some x) × Opens t b x inner reads = group_opens t keeps form way b list.0 n list.1 inner reads e in
          of_group_input inner reads e (grounded (read_at reads i) (there.2.has i h))

      module _ (n : ℕ) (run : Run) (inner : Body) (e : part_at t way n ≡ Some (a_repeat run inner)) (grounded : ReadsGrounded run.reads)
          (below : (k : ℕ) → Entries (into way (turn_step n k)) inner → Outputs (into way (turn_step n k)) inner) where
        abbrev opened : (x : Node) × (node_at b.scope.nodes n ≡ Some x) × Opens t b x inner run.reads × (length inner.scope.entries ≡ suc (length inner.sockets))
        opened = repeat_opens t keeps form way b list.0 n list.1 run inner e

        abbrev Items : ℕ → Type 0
        Items k = (i : ℕ) → i < length inner.sockets → Grounded t (at_item way n k i)

        turn_entries : (k : ℕ) → Items k → Entries (into way (turn_step n k)) inner
        turn_entries k items zero h = of_turn_number run inner e
        turn_entries k items (suc i) h =
            let count : length inner.scope.entries ≡ suc (length inner.sockets) = opened.3 in
            of_turn_item run inner e (items i (omega (arith, count, h)))

        items_grounded : (k : ℕ) → Items k
        items_grounded zero i h =
            let count : length inner.scope.entries ≡ suc (length inner.sockets) = opened.3 in
            of_first_item run inner e (grounded (read_at run.reads (suc i)) (opened.2.has (suc i) (omega (arith, count, h))))
        items_grounded (suc k) i h =
            let entries_there : Entries (into way (turn_step n k)) inner = turn_entries k (items_grounded k) in
            of_later_item (out_grounded (into way (turn_step n k)) inner (into_turn n k run leads e) entries_there (below k entries_there) i h)

      -- an output that a node declares is one of the list that the node opens
      as_many : (n s : ℕ) (x y : Node) (inner : Body) → node_at b.scope.nodes n ≡ Some x → node_at b.scope.nodes n ≡ Some y → length (outputs_of b.scope.groups y) ≡ length inner.sockets → s < length (outputs_of b.scope.groups x) → s < length inner.sockets
      as_many n s x y inner there too count h =
          let same : y ≡ x = some_same (sym too ∙ there) in
          subst (λ m. s < m) (sym (ap (λ z. length (outputs_of b.scope.groups z)) same) ∙ count) h

      module _ (below : (step : PathStep) (inner : Body) → LeadsTo t (into way step) inner → Smaller inner b → Entries (into way step) inner → Outputs (into way step) inner) where
        one_node : (n s : ℕ) (x : Node) → node_at b.scope.nodes n ≡ Some x → s < length (outputs_of b.scope.groups x) → (p : Part) → part_at t way n ≡ Some p → ReadsGrounded (reads_in p) → Grounded t (at_output way n s)
        one_node n s x there h (a_node run) e grounded = of_node run e (b, leads, x, there, h) grounded
        one_node n s x there h (a_group inner reads) e grounded =
            let opens : (y : Node) × (node_at b.scope.nodes n ≡ Some y) × Opens t b y inner reads = group_opens t keeps form way b list.0 n list.1 inner reads e in
            let leads_in : LeadsTo t (into way (plain_step n)) inner = into_group n reads leads e in
            let entries_there : Entries (into way (plain_step n)) inner = group_entries n inner reads e grounded in
            of_group inner reads e
            (out_grounded (into way (plain_step n)) inner leads_in entries_there (below (plain_step n) inner leads_in opens.2.smaller entries_there) s (as_many n s x opens.0 inner there opens.1 opens.2.outs h))
        one_node n s x there h (a_repeat run inner) e grounded =
            let opens : (y : Node) × (node_at b.scope.nodes n ≡ Some y) × Opens t b y inner run.reads × (length inner.scope.entries ≡ suc (length inner.sockets)) = repeat_opens t keeps form way b list.0 n list.1 run inner e in
            of_repeat run inner e (b, leads, x, there, h) grounded
            (λ k. items_grounded n run inner e grounded (λ j entries_there. below (turn_step n j) inner (into_turn n j run leads e) opens.2.smaller entries_there) k s (as_many n s x opens.0 inner there opens.1 opens.2.outs h))

        -- nodes, from those that lead to no other on
        node_by_node : (n : ℕ) → Ends (graph_of b.scope.nodes) n → (s : ℕ) (x : Node) → node_at b.scope.nodes n ≡ Some x → s < length (outputs_of b.scope.groups x) → Grounded t (at_output way n s)
        node_by_node n (ends next) s x there h =
            let at : part_at t way n ≡ Some (part_in b.scope way n x) = part_of t keeps form way b list.0 n x there in
            one_node n s x there h (part_in b.scope way n x) at
            (λ r has. near_grounded way b (λ m. IsTrue (has_edge (graph_of b.scope.nodes) n m)) entries (λ m k y y_there less edge. node_by_node m (next m edge) k y y_there less)
            (part_near t keeps form way b list.0 n list.1 (part_in b.scope way n x) at r has))

        no_cycle : (n : ℕ) → ¬ Leads (graph_of b.scope.nodes) n n
        no_cycle n l =
            let x : (x : Node) × (node_at b.scope.nodes n ≡ Some x) = node_leading b.scope.nodes n n l in
            keeps_rule t rule.Order keeps (list.1.nodes n x.0 x.1) l

        list_done : Outputs way b
        list_done n s x there h = node_by_node n (walks_end (graph_of b.scope.nodes) no_cycle n) s x there h

    -- ---- lists by the groups above them, and then by their size

    abbrev Done : ℕ → ℕ → Type 0
    Done above size = (way : Way) (b : Body) → LeadsTo t way b → b.scope.above < above → nodes_size b.scope.nodes < size → Entries way b → Outputs way b

    by_size : (above : ℕ) → ((size : ℕ) → Done above size) → (size : ℕ) → Done (suc above) size
    by_size above lower zero way b leads a z entries = absurd (omega (arith, z))
    by_size above lower (suc size) way b leads a z entries =
        list_done way b leads entries (λ step inner leads_in smaller entries_there. elim smaller as (λ _. Outputs (into way step) inner) [
          | inl up ↦ lower (suc (nodes_size inner.scope.nodes)) (into way step) inner leads_in (omega (arith, a, up)) (omega arith) entries_there
          | inr both ↦
              let same : inner.scope.above ≡ b.scope.above = both.0 in
              let less : nodes_size inner.scope.nodes < nodes_size b.scope.nodes = both.1 in
              by_size above lower size (into way step) inner leads_in (omega (arith, a, same)) (omega (arith, z, less)) entries_there
        ])

    by_groups : (above size : ℕ) → Done above size
    by_groups zero size = λ way b leads a z entries. absurd (omega (arith, a))
    by_groups (suc above) size = by_size above (by_groups above) size

    outputs : (way : Way) (b : Body) → LeadsTo t way b → Entries way b → Outputs way b
    outputs way b leads = by_groups (suc b.scope.above) (suc (nodes_size b.scope.nodes)) way b leads (omega arith) (omega arith)

    -- ---- lists from the outside in

    part_reads : (way : Way) (b : Body) → LeadsTo t way b → Entries way b → (n : ℕ) (p : Part) → part_at t way n ≡ Some p → (r : Read) → Has (reads_in p) r → Grounded t r.from
    part_reads way b leads entries n p e r has =
        let list : (body_at t way ≡ Some b) × Holds t b = at_way t keeps form leads in
        near_grounded way b (λ m. IsTrue (has_edge (graph_of b.scope.nodes) n m)) entries (λ m k y y_there less edge. outputs way b leads entries m k y y_there less) (part_near t keeps form way b list.0 n list.1 p e r has)

    turns : (way : Way) (b : Body) (leads : LeadsTo t way b) (n : ℕ) (run : Run) (inner : Body) → part_at t way n ≡ Some (a_repeat run inner) → (k : ℕ) → Entries (into way (turn_step n k)) inner → Outputs (into way (turn_step n k)) inner
    turns way b leads n run inner e k = outputs (into way (turn_step n k)) inner (into_turn n k run leads e)

    items_of : (way : Way) (b : Body) → LeadsTo t way b → Entries way b → (n : ℕ) (run : Run) (inner : Body) → part_at t way n ≡ Some (a_repeat run inner) → (k i : ℕ) → i < length inner.sockets → Grounded t (at_item way n k i)
    items_of way b leads entries n run inner e = items_grounded way b leads entries n run inner e (part_reads way b leads entries n (a_repeat run inner) e) (turns way b leads n run inner e)

    entries_of : {way : Way} {b : Body} → LeadsTo t way b → Entries way b
    entries_of to_the_tree = λ i h. of_tree_input i h
    entries_of (into_group {way} {b} {inner} n reads leads e) = group_entries way b leads (entries_of leads) n inner reads e (part_reads way b leads (entries_of leads) n (a_group inner reads) e)
    entries_of (into_turn {way} {b} {inner} n k run leads e) = turn_entries way b leads (entries_of leads) n run inner e (part_reads way b leads (entries_of leads) n (a_repeat run inner) e) (turns way b leads n run inner e) k (items_of way b leads (entries_of leads) n run inner e k)

    pub all_grounded : (site : Site) → IsThere t site → Grounded t site
    all_grounded (at_output way n s) (b, leads, x, there, h) = outputs way b leads (entries_of leads) n s x there h
    all_grounded (at_input way i) (b, leads, h) = entries_of leads i h
    all_grounded (at_item way n k i) (b, leads, run, inner, e, h) = items_of way b leads (entries_of leads) n run inner e k i h
    all_grounded (at_constant c) h = of_constant c
    all_grounded nowhere h = absurd h
