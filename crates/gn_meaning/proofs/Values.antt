-- A site has one value, and a run chooses one thing and ends in one way.
use Rattle.std.proofs.Common.{◌≡◌, ◌≤◌, ℕ, zero, suc, List, [], ◌∷◌, Option, Some, None}
use Rattle.std.specs.Prelude.{option_map, slice_get}
use Rattle.gn_lazy.specs.declared.path.PathStep.{PathStep}
use Rattle.gn_tree.specs.NodeKinds.{Kind}
use Rattle.gn_tree.specs.Trees.{Tree}
use Rattle.gn_node_set.specs.Meanings.{Role, Plain, Switch, File, Zone, Choice, Done, Rows, converted, selected}
use Rattle.gn_meaning.specs.Sites.{Way, the_tree, into, plain_step, turn_step, Site, at_output, at_input, at_item, at_constant, nowhere, Read}
use Rattle.gn_meaning.specs.Reads.{read_at, Run, Part, a_node, a_group, a_repeat, part_at, out_of}
use Rattle.gn_meaning.specs.Denotation.{Given, read_value, read_values, choice_by, choice_in, done_for, run_done, run_output, output_value, turn_value, input_value, first_item, next, value_within, StandsAt, Chooses, Ends}
use Rattle.gn_meaning.proofs.Options.{Kept, then_kept, map_kept, stays, found_once}

same : {A : Type 0} (o : Option A) → Kept o o
same o v e = e

module _ {V : Type 0} (rows : Rows Kind V) (given : Given V) (t : Tree) where
  -- where more sites have values, what goes back to them keeps its own
  module _ (f g : Site → Option V) (kept : (site : Site) → Kept (f site) (g site)) where
    pub read_kept : (r : Read) → Kept (read_value rows given t f r) (read_value rows given t g r)
    read_kept r = map_kept (λ v. converted rows v r.through) (f r.from) (g r.from) (kept r.from)

    pub reads_kept : (rs : List Read) → Kept (read_values rows given t f rs) (read_values rows given t g rs)
    reads_kept [] = same (Some [])
    reads_kept (r ∷ rs) =
        let rest_of : (Site → Option V) → V → Option (List V) = λ h v. option_map (λ vs. v ∷ vs) (read_values rows given t h rs) in
        then_kept (rest_of f) (rest_of g) (read_value rows given t f r) (read_value rows given t g r) (read_kept r)
        (λ v. map_kept (λ vs. v ∷ vs) (read_values rows given t f rs) (read_values rows given t g rs) (reads_kept rs))

    by_role : (role : Role) (kind : Kind) (o p : Option V) → Kept o p → Kept (choice_by rows given t role kind o) (choice_by rows given t role kind p)
    by_role Switch kind o p h = map_kept (rows.choice kind) o p h
    by_role Plain kind o p h = λ v e. e
    by_role File kind o p h = λ v e. e
    by_role Zone kind o p h = λ v e. e

    pub choice_kept : (run : Run) → Kept (choice_in rows given t f run) (choice_in rows given t g run)
    choice_kept run = by_role (rows.role run.kind) run.kind (read_value rows given t f (read_at run.reads 0)) (read_value rows given t g (read_at run.reads 0)) (read_kept (read_at run.reads 0))

    pub done_kept : (run : Run) → Kept (run_done rows given t f run) (run_done rows given t g run)
    done_kept run =
        let got : (Site → Option V) → Choice → Option (List V) = λ h choice. read_values rows given t h (selected (rows.role run.kind) choice run.reads) in
        then_kept (λ choice. option_map (done_for rows given t run) (got f choice)) (λ choice. option_map (done_for rows given t run) (got g choice))
        (choice_in rows given t f run) (choice_in rows given t g run) (choice_kept run)
        (λ choice. map_kept (done_for rows given t run) (got f choice) (got g choice) (reads_kept (selected (rows.role run.kind) choice run.reads)))

    pub output_kept : (run : Run) (s : ℕ) → Kept (run_output rows given t f run s) (run_output rows given t g run s)
    output_kept run s =
        then_kept (λ done. slice_get done.outputs s) (λ done. slice_get done.outputs s) (run_done rows given t f run) (run_done rows given t g run) (done_kept run) (λ done. same (slice_get done.outputs s))

    part_kept : (way : Way) (n s : ℕ) (part : Option Part) → Kept (output_value rows given t f way n s part) (output_value rows given t g way n s part)
    part_kept way n s None = same None
    part_kept way n s (Some (a_node run)) = output_kept run s
    part_kept way n s (Some (a_group b reads)) = read_kept (out_of t (into way (plain_step n)) s)
    part_kept way n s (Some (a_repeat run b)) =
        then_kept (λ v. f (at_item way n (rows.turns run.kind v) s)) (λ v. g (at_item way n (rows.turns run.kind v) s))
        (run_output rows given t f run 0) (run_output rows given t g run 0) (output_kept run 0) (λ v. kept (at_item way n (rows.turns run.kind v) s))

    turn_kept : (way : Way) (n : ℕ) (turn : Option ℕ) (i : ℕ) → Kept (turn_value rows given t f way n turn i) (turn_value rows given t g way n turn i)
    turn_kept way n None i = same None
    turn_kept way n (Some k) zero = λ v e. e
    turn_kept way n (Some k) (suc i) = kept (at_item way n k i)

    input_kept : (way : Way) (step : PathStep) (i : ℕ) (part : Option Part) → Kept (input_value rows given t f way step i part) (input_value rows given t g way step i part)
    input_kept way step i None = same None
    input_kept way step i (Some (a_node run)) = same None
    input_kept way step i (Some (a_group b reads)) = read_kept (read_at reads i)
    input_kept way step i (Some (a_repeat run b)) = turn_kept way step.node step.turn i

    first_kept : (i : ℕ) (part : Option Part) → Kept (first_item rows given t f i part) (first_item rows given t g i part)
    first_kept i None = same None
    first_kept i (Some (a_node run)) = same None
    first_kept i (Some (a_group b reads)) = same None
    first_kept i (Some (a_repeat run b)) = read_kept (read_at run.reads (suc i))

    next_kept : (site : Site) → Kept (next rows given t f site) (next rows given t g site)
    next_kept (at_output way n s) = part_kept way n s (part_at t way n)
    next_kept (at_input the_tree i) = same (slice_get given.inputs i)
    next_kept (at_input (into way step) i) = input_kept way step i (part_at t way step.node)
    next_kept (at_item way n zero i) = first_kept i (part_at t way n)
    next_kept (at_item way n (suc k) i) = read_kept (out_of t (into way (turn_step n k)) i)
    next_kept (at_constant c) = λ v e. e
    next_kept nowhere = same None

  -- a value that is found is found along more steps too
  one_more : (k : ℕ) (site : Site) → Kept (value_within rows given t k site) (value_within rows given t (suc k) site)
  one_more zero site = λ v e. cc
  one_more (suc k) site = next_kept (value_within rows given t k) (value_within rows given t (suc k)) (one_more k) site

  pub value_stays : (j k : ℕ) → j ≤ k → (site : Site) → Kept (value_within rows given t j site) (value_within rows given t k site)
  value_stays j k h site = stays (λ n. value_within rows given t n site) (λ n. one_more n site) j k h

  pub one_value : (site : Site) (v w : V) → StandsAt rows given t site v → StandsAt rows given t site w → v ≡ w
  one_value site v w d e = found_once (λ n. value_within rows given t n site) (λ n. one_more n site) v w d e

  pub one_choice : (run : Run) (c d : Choice) → Chooses rows given t run c → Chooses rows given t run d → c ≡ d
  one_choice run c d h k =
      found_once (λ n. choice_in rows given t (value_within rows given t n) run) (λ n. choice_kept (value_within rows given t n) (value_within rows given t (suc n)) (one_more n) run) c d h k

  pub one_end : (run : Run) (c d : Done V) → Ends rows given t run c → Ends rows given t run d → c ≡ d
  one_end run c d h k =
      found_once (λ n. run_done rows given t (value_within rows given t n) run) (λ n. done_kept (value_within rows given t n) (value_within rows given t (suc n)) (one_more n) run) c d h k
