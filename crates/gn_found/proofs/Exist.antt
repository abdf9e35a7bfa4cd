-- A graph is found for each tree that keeps the rules.
use Rattle.std.proofs.Common.{◌≡◌, ◌<◌, ◌≤◌, ◌+◌, inl, inr, ℕ, zero, suc, pos, List, [], ◌∷◌, ◌++◌, map, Option, Some, None, refl, sym, ◌∙◌, ap, subst, arith}
use Rattle.std.specs.Prelude.{option_map, option_and_then}
use Rattle.std.specs.List.{flat_map}
use Rattle.gn_value.specs.declared.value.Value.TheVariants.{Int as int}
use Rattle.gn_lazy.specs.declared.path.PathStep.{PathStep}
use Rattle.gn_tree.specs.NodeKinds.{Kind}
use Rattle.gn_tree.specs.Trees.{Node as TreeNode, Tree, nodes_size}
use Rattle.gn_rules.specs.Sockets.{node_at}
use Rattle.gn_rules.specs.Rules.{KeepsRules}
use Rattle.gn_node_set.specs.Lists.{all_of}
use Rattle.gn_node_set.specs.Meanings.{Has, Source, a_value as a_given, an_output, Link, Node}
use Rattle.gn_exec_laws.specs.Graphs.{Task}
use Rattle.gn_meaning.specs.Sites.{Constant, a_value, Way, the_tree, into, plain_step, turn_step, path_of, Site, at_output, at_input, at_item, at_constant, Read, plain_read}
use Rattle.gn_meaning.specs.Bodies.{Body, tree_body, body_at}
use Rattle.gn_meaning.specs.Reads.{read_at, Run, Part, a_node, a_group, a_repeat, part_at, out_of}
use Rattle.gn_meaning.specs.Origins.{read_origin, output_origin, input_origin, first_origin, origin_within}
use Rattle.gn_meaning.specs.Forms.{HasForm}
use Rattle.gn_meaning.specs.There.{LeadsTo, to_the_tree, into_group, IsThere}
use Rattle.gn_meaning.specs.Demand.{output_read}
use Rattle.gn_meaning.proofs.Grounded.{Grounded, of_constant, of_tree_input, of_node, of_group, of_repeat, of_group_input, of_turn_number, of_turn_item, of_first_item, of_later_item, all_grounded}
use Rattle.gn_meaning.proofs.Parts.{Holds}
use Rattle.gn_meaning.proofs.Opened.{reads_in, Smaller, Opens, group_opens, at_way}
use Rattle.gn_meaning.proofs.WantedThere.{part_there, output_there}
use Rattle.gn_stands.specs.Sources.{source_at, link_at, read_within}
use Rattle.gn_stands.specs.Tasks.{order_at, part_runs, runs_within, links_within, node_within, task_within}
use Rattle.gn_stands.proofs.Ranked.{flat_has}
use Rattle.gn_found.specs.Filled.{by_name}

-- ---- what is found from some number of steps on

one_later : {A : Type 0} (f : ℕ → Option A) (v : A) (k : ℕ) → ((j : ℕ) → k ≤ j → f (suc j) ≡ Some v) → (j : ℕ) → suc k ≤ j → f j ≡ Some v
one_later f v k h zero less = absurd (omega (arith, less))
one_later f v k h (suc j) less = h j (omega (arith, less))

module _ {A B : Type 0} (f : ℕ → A → Option B) (P : B → Type 0) where
  all_settled : (xs : List A) → ((x : A) → Has xs x → (y : B) × (k : ℕ) × ((j : ℕ) → k ≤ j → f j x ≡ Some y) × P y) → (ys : List B) × (k : ℕ) × ((j : ℕ) → k ≤ j → all_of (map (f j) xs) ≡ Some ys) × ((y : B) → Has ys y → P y)
  all_settled [] h = ([], 0, λ j less. refl, λ y m. absurd m)
  all_settled (x ∷ xs) h =
      let first : (y : B) × (k : ℕ) × ((j : ℕ) → k ≤ j → f j x ≡ Some y) × P y = h x (inl refl) in
      let rest : (ys : List B) × (k : ℕ) × ((j : ℕ) → k ≤ j → all_of (map (f j) xs) ≡ Some ys) × ((y : B) → Has ys y → P y) = all_settled xs (λ y m. h y (inr m)) in (
        first.0 ∷ rest.0,
        first.1 + rest.1,
        λ j less.
            ap (option_and_then (λ v. option_map (λ vs. v ∷ vs) (all_of (map (f j) xs)))) (first.2 j (omega (arith, less)))
            ∙ ap (option_map (λ vs. first.0 ∷ vs)) (rest.2 j (omega (arith, less))),
        λ y m. elim m as (λ _. P y) [ inl same ↦ subst P (sym same) first.3 | inr k ↦ rest.3 y k ],
      )

module _ (t : Tree) where
  -- the origin of the site, and its source
  record Settled (site : Site) : Type 0 where
    origin : Read
    first : ℕ
    found : (j : ℕ) → first ≤ j → origin_within t j site ≡ Some origin
    source : Source (Option Constant)
    is : source_at by_name origin.from ≡ Some source

  abbrev beyond : Read → Read → Read
  beyond r o = record { from = o.from; through = o.through ++ r.through }

  own : (site : Site) (origin : Read) (source : Source (Option Constant)) → source_at by_name origin.from ≡ Some source → ((j : ℕ) → origin_within t (suc j) site ≡ Some origin) → Settled site
  own site origin source is e = record { origin = origin; first = 1; found = one_later (λ j. origin_within t j site) origin 0 (λ j less. e j); source = source; is = is }

  led : (site : Site) (r : Read) → Settled r.from → ((j : ℕ) → origin_within t (suc j) site ≡ read_origin t (origin_within t j) r) → Settled site
  led site r s e = record {
    origin = beyond r s.origin;
    first = suc s.first;
    found = one_later (λ j. origin_within t j site) (beyond r s.origin) s.first (λ j less. e j ∙ ap (option_map (beyond r)) (s.found j less));
    source = s.source;
    is = s.is;
  }

  same : (site other : Site) → Settled other → ((j : ℕ) → origin_within t (suc j) site ≡ origin_within t j other) → Settled site
  same site other s e = record { origin = s.origin; first = suc s.first; found = one_later (λ j. origin_within t j site) s.origin s.first (λ j less. e j ∙ s.found j less); source = s.source; is = s.is }

  settled : {site : Site} → Grounded t site → Settled site
  settled (of_constant c) = own (at_constant c) (plain_read (at_constant c)) (a_given (Some c)) refl (λ j. refl)
  settled (of_tree_input zero h) = own (at_input the_tree zero) (plain_read (at_input the_tree zero)) (a_given None) refl (λ j. refl)
  settled (of_tree_input (suc i) h) = absurd (omega (arith, h))
  settled (of_node {way} {n} {s} run e there reads) = own (at_output way n s) (plain_read (at_output way n s)) (an_output (path_of way n) s) refl (λ j. ap (output_origin t (origin_within t j) way n s) e)
  settled (of_repeat {way} {n} {s} run b e there reads items) = own (at_output way n s) (plain_read (at_output way n s)) (an_output (path_of way n) s) refl (λ j. ap (output_origin t (origin_within t j) way n s) e)
  settled (of_group {way} {n} {s} b reads e out) = led (at_output way n s) (out_of t (into way (plain_step n)) s) (settled out) (λ j. ap (output_origin t (origin_within t j) way n s) e)
  settled (of_group_input {way} {n} {i} b reads e read) = led (at_input (into way (plain_step n)) i) (read_at reads i) (settled read) (λ j. ap (input_origin t (origin_within t j) way (plain_step n) i) e)
  settled (of_turn_number {way} {n} {k} run b e) =
      own (at_input (into way (turn_step n k)) 0) (plain_read (at_constant (a_value (int (pos k))))) (a_given (Some (a_value (int (pos k))))) refl (λ j. ap (input_origin t (origin_within t j) way (turn_step n k) 0) e)
  settled (of_turn_item {way} {n} {k} {i} run b e item) = same (at_input (into way (turn_step n k)) (suc i)) (at_item way n k i) (settled item) (λ j. ap (input_origin t (origin_within t j) way (turn_step n k) (suc i)) e)
  settled (of_first_item {way} {n} {i} run b e read) = led (at_item way n 0 i) (read_at run.reads (suc i)) (settled read) (λ j. ap (first_origin t (origin_within t j) i) e)
  settled (of_later_item {way} {n} {k} {i} out) = led (at_item way n (suc k) i) (out_of t (into way (turn_step n k)) i) (settled out) (λ j. refl)

  module _ (keeps : KeepsRules t) (form : HasForm t) where
    abbrev AllThere : List Read → Type 0
    AllThere reads = (r : Read) → Has reads r → IsThere t r.from

    -- ---- links

    read_settled : (r : Read) → IsThere t r.from → (link : Link (Option Constant)) × (k : ℕ) × ((j : ℕ) → k ≤ j → read_within by_name t j r ≡ Some link) × Unit {0}
    read_settled r there =
        let s : Settled r.from = settled (all_grounded t keeps form r.from there) in (
          record { from = s.source; through = s.origin.through ++ r.through },
          s.first,
          λ j less.
              ap (option_and_then (link_at by_name)) (ap (option_map (beyond r)) (s.found j less))
              ∙ ap (option_map (λ x. record { from = x; through = s.origin.through ++ r.through })) s.is,
          tt,
        )

    links_settled : (reads : List Read) → AllThere reads → (links : List (Link (Option Constant))) × (k : ℕ) × ((j : ℕ) → k ≤ j → links_within by_name t j reads ≡ Some links) × ((link : Link (Option Constant)) → Has links link → Unit {0})
    links_settled reads there = all_settled (λ j r. read_within by_name t j r) (λ link. Unit {0}) reads (λ r h. read_settled r (there r h))

    node_settled : (run : Run) → AllThere run.reads → (node : Node Kind (Option Constant)) × (k : ℕ) × ((j : ℕ) → k ≤ j → node_within by_name t j run ≡ Some node) × Unit {0}
    node_settled run there =
        let links : (links : List (Link (Option Constant))) × (k : ℕ) × ((j : ℕ) → k ≤ j → links_within by_name t j run.reads ≡ Some links) × ((link : Link (Option Constant)) → Has links link → Unit {0}) = links_settled run.reads there in (
          record { path = run.path; kind = run.kind; links = links.0 },
          links.1,
          λ j less. ap (option_map (λ ls. record { path = run.path; kind = run.kind; links = ls })) (links.2 j less),
          tt,
        )

    -- ---- runs

    abbrev RunsThere : List Run → Type 0
    RunsThere runs = (run : Run) → Has runs run → AllThere run.reads

    abbrev RunsSettled : Way → Type 0
    RunsSettled way = (runs : List Run) × (k : ℕ) × ((j : ℕ) → k ≤ j → runs_within (body_at t) j way ≡ Some runs) × RunsThere runs

    module _ (way : Way) (b : Body) (leads : LeadsTo t way b) (below : (step : PathStep) (inner : Body) → LeadsTo t (into way step) inner → Smaller inner b → RunsSettled (into way step)) where
      abbrev OneSettled : ℕ → Option Part → Type 0
      OneSettled n p = (runs : List Run) × (k : ℕ) × ((j : ℕ) → k ≤ j → part_runs (body_at t) (runs_within (body_at t) j) way n p ≡ Some runs) × RunsThere runs

      own_there : (n : ℕ) (p : Part) (run : Run) → part_at t way n ≡ Some p → reads_in p ≡ run.reads → RunsThere (run ∷ [])
      own_there n p run at reads other (inl e) = subst (λ x. AllThere x.reads) (sym e) (subst AllThere reads (part_there t keeps form way b leads n p at))
      own_there n p run at reads other (inr h) = absurd h

      one_settled : (n : ℕ) (p : Option Part) → part_at t way n ≡ p → OneSettled n p
      one_settled n None at = ([], 0, λ j less. refl, λ run h. absurd h)
      one_settled n (Some (a_node run)) at = (run ∷ [], 0, λ j less. refl, own_there n (a_node run) run at refl)
      one_settled n (Some (a_group inner reads)) at =
          let list : (body_at t way ≡ Some b) × Holds t b = at_way t keeps form leads in
          let opens : (y : TreeNode) × (node_at b.scope.nodes n ≡ Some y) × Opens t b y inner reads = group_opens t keeps form way b list.0 n list.1 inner reads at in
          below (plain_step n) inner (into_group n reads leads at) opens.2.smaller
      one_settled n (Some (a_repeat run inner)) at = (run ∷ [], 0, λ j less. refl, own_there n (a_repeat run inner) run at refl)

      list_settled : RunsSettled way
      list_settled =
          let lists = all_settled (λ j n. part_runs (body_at t) (runs_within (body_at t) j) way n (part_at t way n)) RunsThere (order_at (body_at t) way) (λ n m. one_settled n (part_at t way n) refl) in (
            flat_map (λ runs. runs) lists.0,
            suc lists.1,
            one_later (λ j. runs_within (body_at t) j way) (flat_map (λ runs. runs) lists.0) lists.1 (λ j less. ap (option_map (flat_map (λ runs. runs))) (lists.2 j less)),
            λ run h. let runs : (runs : List Run) × Has lists.0 runs × Has runs run = flat_has (λ runs. runs) lists.0 run h in lists.3 runs.0 runs.1 run runs.2,
          )

    -- lists by the groups above them, and then by their size
    abbrev Below : ℕ → ℕ → Type 0
    Below above size = (way : Way) (b : Body) → LeadsTo t way b → b.scope.above < above → nodes_size b.scope.nodes < size → RunsSettled way

    by_size : (above : ℕ) → ((size : ℕ) → Below above size) → (size : ℕ) → Below (suc above) size
    by_size above lower zero way b leads a z = absurd (omega (arith, z))
    by_size above lower (suc size) way b leads a z =
        list_settled way b leads (λ step inner leads_in smaller. elim smaller as (λ _. RunsSettled (into way step)) [
          | inl up ↦ lower (suc (nodes_size inner.scope.nodes)) (into way step) inner leads_in (omega (arith, a, up)) (omega arith)
          | inr both ↦
              let level : inner.scope.above ≡ b.scope.above = both.0 in
              let less : nodes_size inner.scope.nodes < nodes_size b.scope.nodes = both.1 in
              by_size above lower size (into way step) inner leads_in (omega (arith, a, level)) (omega (arith, z, less))
        ])

    by_groups : (above size : ℕ) → Below above size
    by_groups zero size way b leads a z = absurd (omega (arith, a))
    by_groups (suc above) size way b leads a z = by_size above (by_groups above) size way b leads a z

    only_output : AllThere (output_read t ∷ [])
    only_output r (inl e) = subst (λ x. IsThere t x.from) (sym e) (output_there t keeps form)
    only_output r (inr h) = absurd h

    pub task_exists : (k : ℕ) × (task : Task Kind (Option Constant)) × (task_within by_name t k ≡ Some task)
    task_exists =
        let runs : RunsSettled the_tree = by_groups (suc (tree_body t).scope.above) (suc (nodes_size (tree_body t).scope.nodes)) the_tree (tree_body t) to_the_tree (omega arith) (omega arith) in
        let nodes = all_settled (λ j run. node_within by_name t j run) (λ node. Unit {0}) runs.0 (λ run h. node_settled run (runs.3 run h)) in
        let roots = links_settled (output_read t ∷ []) only_output in (
          runs.1 + (nodes.1 + roots.1),
          record { nodes = nodes.0; roots = roots.0 },
          ap (option_and_then (λ ns. option_map (λ rs. record { nodes = ns; roots = rs }) (links_within by_name t (runs.1 + (nodes.1 + roots.1)) (output_read t ∷ []))))
              (ap (option_and_then (λ rs. all_of (map (node_within by_name t (runs.1 + (nodes.1 + roots.1))) rs))) (runs.2 (runs.1 + (nodes.1 + roots.1)) (omega arith)) ∙ nodes.2 (runs.1 + (nodes.1 + roots.1)) (omega arith))
              ∙ ap (option_map (λ rs. record { nodes = nodes.0; roots = rs })) (roots.2 (runs.1 + (nodes.1 + roots.1)) (omega arith)),
        )
