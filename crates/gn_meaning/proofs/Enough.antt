-- Rows that fit the table of kinds give all that the sites of a tree ask for.
use Rattle.std.proofs.Common.{◌≡◌, ◌<◌, ◌≤◌, ◌+◌, ℕ, suc, List, [], ◌∷◌, ◌++◌, length, map, Option, Some, None, codes, refl, sym, ◌∙◌, ap, subst, arith}
use Rattle.std.specs.Prelude.{Bool, true, false, bytes_eq, nat_lt, slice_get, option_map, option_and_then, if◌then◌else◌}
use Rattle.std.specs.Option.{option_map_or}
use Rattle.std.specs.List.{position_from}
use Rattle.std.proofs.lemmas.List.{length-append, length-map}
use Rattle.gn_kinds.specs.Row as row
use Rattle.gn_kinds.specs.Row.{Text}
use Rattle.gn_names.specs.First.{first_of}
use Rattle.gn_pointers.specs.Pointers.{key}
use Rattle.gn_tree.specs.NodeKinds.{Kind}
use Rattle.gn_tree.specs.Trees.{Named, Node, node, Settings, no_settings, and_setting, and_zone, Group, Tree, of_group}
use Rattle.gn_rules.specs.declared.rule.Rule.TheVariants as rule
use Rattle.gn_rules.specs.Sockets.{Declared, one_of, chosen, group_in, items_in, further, inputs_of, outputs_of, inputs_of_kind, outputs_of_kind, input_of_row, output_of_row, group_names, node_at}
use Rattle.gn_rules.specs.Scopes.{Scope, tree_entries, is_above}
use Rattle.gn_rules.specs.Things.{the_settings, a_group_name}
use Rattle.gn_rules.specs.Rules.{KeepsRules}
use Rattle.gn_node_set.specs.Meanings.{Switch, Choice, Done, Rows, selected, answer_for}
use Rattle.gn_meaning.specs.Sites.{Way, at_output, path_of}
use Rattle.gn_meaning.specs.Bodies.{Body, group_body, body_in, body_at, kind_in}
use Rattle.gn_meaning.specs.Reads.{default_of, node_reads, reads_of, Run, Part, a_node, a_group, a_repeat, part_by, part_in, part_at, run_in, run_of}
use Rattle.gn_meaning.specs.Forms.{HasForm}
use Rattle.gn_meaning.specs.There.{IsThere}
use Rattle.gn_meaning.specs.Denotation.{Given, read_values, choice_in, done_for, value_within, Ends}
use Rattle.gn_meaning.specs.Enough.{GivesAll, StartsSingle, FitTheTable}
use Rattle.gn_meaning.proofs.Options.{some_same, then_some, map_some, none_some}
use Rattle.gn_meaning.proofs.Lists.{get_below}
use Rattle.gn_meaning.proofs.Reached.{part, keeps_rule}
use Rattle.gn_meaning.proofs.Inputs.{first_reads}
use Rattle.gn_meaning.proofs.Parts.{further_zone, Holds, Under, not_false}
use Rattle.gn_meaning.proofs.Opened.{kind_name, node_of, inputs_there, repeat_kind, at_way}

-- ---- a node that is run and opens nothing declares what its kind does

position_below : (p : Text → Bool) (i k : ℕ) (xs : List Text) → position_from p i xs ≡ Some k → k < i + length xs
position_below p i k [] e = cc
position_below p i k (x ∷ xs) e = by_test (p x) (position_below p (i + 1) k xs) e
  where
    by_test : (b : Bool) → (position_from p (i + 1) xs ≡ Some k → k < (i + 1) + length xs) → (if b then Some i else position_from p (i + 1) xs) ≡ Some k → k < i + suc (length xs)
    by_test true rest h = let same : i ≡ k = cc in omega (arith, same)
    by_test false rest h = let less : k < (i + 1) + length xs = rest h in omega (arith, less)

there_is_first : (o : Option ℕ) (n : ℕ) → option_map_or (λ i. nat_lt i n) o false ≡ true → (i : ℕ) × (o ≡ Some i)
there_is_first None n e = cc
there_is_first (Some i) n e = (i, refl)

module _ (t : Tree) (keeps : KeepsRules t) (s : Scope) (kind : Text) where
  no_inner : (set : Settings) → Under t keeps s kind set → body_in s kind set ≡ None → (group_in set ≡ None) × (items_in set ≡ [])
  no_inner no_settings under e = (refl, refl)
  no_inner (and_setting (of_group name) rest) under e =
      let above : is_above s name ≡ true = not_false (is_above s name) (keeps_rule t rule.Links keeps (under (key (codes "group")) (a_group_name s name) refl)) in
      let number : (i : ℕ) × (first_of (group_names s.groups) name ≡ Some i) = there_is_first (first_of (group_names s.groups) name) s.above above in
      let below : number.0 < 0 + length (group_names s.groups) = position_below (bytes_eq name) 0 number.0 (group_names s.groups) number.1 in
      let count : length (group_names s.groups) ≡ length s.groups = length-map s.groups (λ g. g.name) in
      let group : (g : Group) × (slice_get s.groups number.0 ≡ Some g) = get_below s.groups number.0 (omega (arith, below, count)) in
      absurd (none_some e (ap (option_and_then (λ i. option_map (group_body s.groups i) (slice_get s.groups i))) number.1 ∙ ap (option_map (group_body s.groups number.0)) group.1))
  no_inner (and_setting x rest) under e = no_inner rest under e
  no_inner (and_zone items nodes output rest) under e = cc

node_by : (kind : Text) (o : Option Body) (run other : Run) → part_by kind o run ≡ a_node other → (o ≡ None) × (run ≡ other)
node_by kind None run other e = (refl, cc)
node_by kind (Some b) run other e = by_name (bytes_eq kind (codes "group")) e
  where
    by_name : (group : Bool) → (if group then a_group b run.reads else a_repeat run b) ≡ a_node other → (Some b ≡ None) × (run ≡ other)
    by_name true h = cc
    by_name false h = cc

run_by : (kind : Text) (o : Option Body) (run other : Run) → run_in (part_by kind o run) ≡ Some other → run ≡ other
run_by kind None run other e = some_same e
run_by kind (Some b) run other e = by_name (bytes_eq kind (codes "group")) e
  where
    by_name : (group : Bool) → run_in (if group then a_group b run.reads else a_repeat run b) ≡ Some other → run ≡ other
    by_name true h = cc
    by_name false h = some_same h

count_of : (gs : List Group) (id kind : Text) (set : Settings) (inputs : List Named) → further (λ g. g.outputs) gs set ≡ [] → length (outputs_of gs (node id kind set inputs)) ≡ length (outputs_of_kind kind)
count_of gs id kind set inputs e =
    ap (λ xs. length (map (output_of_row (chosen set)) (outputs_of_kind kind) ++ map one_of xs)) e
    ∙ length-append (map (output_of_row (chosen set)) (outputs_of_kind kind)) []
    ∙ (let sum : length (map (output_of_row (chosen set)) (outputs_of_kind kind)) + 0 ≡ length (map (output_of_row (chosen set)) (outputs_of_kind kind)) = omega arith in sum)
    ∙ length-map (outputs_of_kind kind) (output_of_row (chosen set))

single_first : (set : Settings) (x : row.Input) (rest : List row.Input) → StartsSingle (x ∷ rest) → (input_of_row (chosen set) x).shape.many ≡ false
single_first set (row.field_in name kind default) rest h = refl
single_first set (row.single_in name kind default) rest h = refl
single_first set (row.geometry_in name) rest h = refl
single_first set (row.geometries_in name) rest h = absurd h
single_first set (row.chosen_in name default) rest h = refl

module _ {V : Type 0} (rows : Rows Kind V) (fit : FitTheTable rows) (given : Given V) (t : Tree) (form : HasForm t) (keeps : KeepsRules t) where
  -- what a run ends with is what its row gives
  end_is : (run : Run) (done : Done V) → Ends rows given t run done → (vs : List V) × (done_for rows given t run vs ≡ done)
  end_is run done (k, e) =
      let choice : (c : Choice) × (choice_in rows given t (value_within rows given t k) run ≡ Some c) × (option_map (done_for rows given t run) (read_values rows given t (value_within rows given t k) (selected (rows.role run.kind) c run.reads)) ≡ Some done) =
      then_some (λ c. option_map (done_for rows given t run) (read_values rows given t (value_within rows given t k) (selected (rows.role run.kind) c run.reads))) (choice_in rows given t (value_within rows given t k) run) done e in
      let got : (vs : List V) × (read_values rows given t (value_within rows given t k) (selected (rows.role run.kind) choice.0 run.reads) ≡ Some vs) × (done_for rows given t run vs ≡ done) =
      map_some (done_for rows given t run) (read_values rows given t (value_within rows given t k) (selected (rows.role run.kind) choice.0 run.reads)) done choice.2 in
      (got.0, got.2)

  -- a node with its run
  abbrev own : Way → Body → ℕ → Text → Text → Settings → List Named → Run
  own way b n id kind set inputs = record { path = path_of way n; kind = kind_in b.scope (node id kind set inputs); reads = node_reads b.scope way (node id kind set inputs) }

  module _ (way : Way) (b : Body) (holds : Holds t b) (n : ℕ) (id kind : Text) (set : Settings) (inputs : List Named) (there : node_at b.scope.nodes n ≡ Some (node id kind set inputs)) where
    reads_one : (xs : List row.Input) → inputs_of_kind kind ≡ xs → StartsSingle xs → 0 < length (node_reads b.scope way (node id kind set inputs))
    reads_one [] at h = absurd h
    reads_one (x ∷ xs) at h =
        let first : Declared = input_of_row (chosen set) x in
        let rest : List Declared = map (input_of_row (chosen set)) xs ++ map one_of (further (λ g. g.inputs) b.scope.groups set) in
        let same : inputs_of b.scope.groups (node id kind set inputs) ≡ first ∷ rest = ap (λ ys. map (input_of_row (chosen set)) ys ++ map one_of (further (λ g. g.inputs) b.scope.groups set)) at in
        let some : 0 < length (reads_of b.scope way inputs (first ∷ rest) (map default_of (inputs_of_kind kind))) =
        first_reads t keeps b.scope way (inputs_of b.scope.groups (node id kind set inputs)) inputs (inputs_there t keeps form way b holds n id kind set inputs there) first rest (map default_of (inputs_of_kind kind)) same (single_first set x xs h) in
        subst (λ ds. 0 < length (reads_of b.scope way inputs ds (map default_of (inputs_of_kind kind)))) (sym same) some

    index : (run : Run) → own way b n id kind set inputs ≡ run → rows.role run.kind ≡ Switch → 0 < length run.reads
    index run is switch =
        let starts : StartsSingle (inputs_of_kind kind) = subst (λ name. StartsSingle (inputs_of_kind name)) (kind_name b.scope id kind set inputs) (fit.switches (own way b n id kind set inputs).kind (ap (λ r. rows.role r.kind) is ∙ switch)) in
        subst (λ r. 0 < length r.reads) is (reads_one (inputs_of_kind kind) refl starts)

    gives : (run : Run) (done : Done V) → own way b n id kind set inputs ≡ run → body_in b.scope kind set ≡ None → Ends rows given t run done → (s : ℕ) → s < length (outputs_of b.scope.groups (node id kind set inputs)) → s < length done.outputs
    gives run done is none ends s h =
        let nothing : (group_in set ≡ None) × (items_in set ≡ []) = no_inner t keeps b.scope kind set (λ step y e. part step y (part (key (codes "set")) (the_settings b.scope set) (holds.nodes n (node id kind set inputs) there) refl) e) none in
        let count : length (outputs_of b.scope.groups (node id kind set inputs)) ≡ length (outputs_of_kind kind) = count_of b.scope.groups id kind set inputs (further_zone (λ g. g.outputs) b.scope.groups set nothing.0 ∙ nothing.1) in
        let name : run.kind.name ≡ kind = ap (λ r. r.kind.name) (sym is) ∙ kind_name b.scope id kind set inputs in
        let end : (vs : List V) × (done_for rows given t run vs ≡ done) = end_is run done ends in
        let many : length (outputs_of_kind run.kind.name) ≤ length (done_for rows given t run end.0).outputs = fit.outputs run.path run.kind end.0 (answer_for (rows.role run.kind) (given.files (rows.file run.kind))) in
        let kinds : length (outputs_of_kind run.kind.name) ≡ length (outputs_of_kind kind) = ap (λ k. length (outputs_of_kind k)) name in
        let dones : length (done_for rows given t run end.0).outputs ≡ length done.outputs = ap (λ d. length d.outputs) end.1 in
        omega (arith, h, count, many, kinds, dones)

  index_there : (way : Way) (n s : ℕ) (run : Run) → IsThere t (at_output way n s) → run_of t (at_output way n s) ≡ Some run → rows.role run.kind ≡ Switch → 0 < length run.reads
  index_there way n s run (b, leads, x, there, h) e switch =
      let list : (body_at t way ≡ Some b) × Holds t b = at_way t keeps form leads in
      let p : (p : Part) × (part_at t way n ≡ Some p) × (run_in p ≡ Some run) = then_some run_in (part_at t way n) run e in
      by_node list.1 p.0 p.2 (node_of t keeps form way b list.0 n p.0 p.1)
    where
      by_node : Holds t b → (p : Part) → run_in p ≡ Some run → (x : Node) × (node_at b.scope.nodes n ≡ Some x) × (part_in b.scope way n x ≡ p) → 0 < length run.reads
      by_node holds p f (node id kind set inputs, at, same) = index way b holds n id kind set inputs at run (run_by kind (body_in b.scope kind set) (own way b n id kind set inputs) run (ap run_in same ∙ f)) switch

  output_there : (way : Way) (n s : ℕ) (run : Run) (done : Done V) → IsThere t (at_output way n s) → part_at t way n ≡ Some (a_node run) → Ends rows given t run done → s < length done.outputs
  output_there way n s run done (b, leads, x, there, h) e ends =
      let list : (body_at t way ≡ Some b) × Holds t b = at_way t keeps form leads in
      by_node list.1 (node_of t keeps form way b list.0 n (a_node run) e)
    where
      by_node : Holds t b → (y : Node) × (node_at b.scope.nodes n ≡ Some y) × (part_in b.scope way n y ≡ a_node run) → s < length done.outputs
      by_node holds (node id kind set inputs, at, same) =
          let is : (body_in b.scope kind set ≡ None) × (own way b n id kind set inputs ≡ run) = node_by kind (body_in b.scope kind set) (own way b n id kind set inputs) run same in
          let same_node : x ≡ node id kind set inputs = some_same (sym there ∙ at) in
          gives way b holds n id kind set inputs at run done is.1 is.0 ends s (subst (λ y. s < length (outputs_of b.scope.groups y)) same_node h)

  head_there : (way : Way) (n s : ℕ) (run : Run) (inner : Body) (done : Done V) → IsThere t (at_output way n s) → part_at t way n ≡ Some (a_repeat run inner) → Ends rows given t run done → 0 < length done.outputs
  head_there way n s run inner done (b, leads, x, there, h) e ends =
      let list : (body_at t way ≡ Some b) × Holds t b = at_way t keeps form leads in
      let end : (vs : List V) × (done_for rows given t run vs ≡ done) = end_is run done ends in
      subst (λ d. 0 < length d.outputs) end.1 (fit.heads run.path run.kind end.0 (answer_for (rows.role run.kind) (given.files (rows.file run.kind))) (repeat_kind t keeps form way b list.0 n list.1 run inner e))

  pub gives_all : length tree_entries ≤ length given.inputs → GivesAll rows given t
  gives_all inputs = record { inputs = inputs; indices = index_there; outputs = output_there; heads = head_there }
