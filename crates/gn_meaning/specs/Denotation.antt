-- The value at each site of a tree.
use Rattle.std.specs.Prelude.{◌≡◌, ℕ, zero, suc, pos, List, map, Option, Some, None, slice_get, option_map, option_and_then}
use Rattle.gn_value.specs.declared.value.Value.TheVariants.{Int as int}
use Rattle.gn_node_set.specs.Lists.{all_of}
use Rattle.gn_lazy.specs.declared.path.PathStep.{PathStep}
use Rattle.gn_tree.specs.NodeKinds.{Kind}
use Rattle.gn_tree.specs.Trees.{Tree}
use Rattle.gn_node_set.specs.Meanings.{Role, Switch, Choice, no_case, Answer, Done, Rows, converted, selected, answer_for}
use Rattle.gn_meaning.specs.Sites.{Constant, a_value, Way, the_tree, into, plain_step, turn_step, Site, at_output, at_input, at_item, at_constant, nowhere, Read}
use Rattle.gn_meaning.specs.Reads.{read_at, Run, Part, a_node, a_group, a_repeat, part_at, out_of}

-- what is given with a tree: the value of each constant, the values of the tree's own inputs, and the answer to each file name
pub record Given (V : Type 0) : Type 0 where
  pub constant : Constant → V
  pub inputs : List V
  pub files : List ℕ → Answer

module _ {V : Type 0} (rows : Rows Kind V) (given : Given V) (t : Tree) where
  -- the values at some sites so far
  abbrev pub Values : Type 0
  Values = Site → Option V

  abbrev pub read_value : Values → Read → Option V
  read_value value r = option_map (λ v. converted rows v r.through) (value r.from)

  abbrev pub read_values : Values → List Read → Option (List V)
  read_values value reads = all_of (map (read_value value) reads)

  -- a switch chooses by the value of its first input; no other node chooses
  abbrev pub choice_by : Role → Kind → Option V → Option Choice
  choice_by Switch kind value = option_map (rows.choice kind) value
  choice_by _ kind value = Some no_case

  abbrev pub choice_in : Values → Run → Option Choice
  choice_in value run = choice_by (rows.role run.kind) run.kind (read_value value (read_at run.reads 0))

  -- what its kind's row gives for the values that a run gets
  abbrev pub done_for : Run → List V → Done V
  done_for run inputs = rows.row run.path run.kind inputs (answer_for (rows.role run.kind) (given.files (rows.file run.kind)))

  -- a run gets the inputs that its role and its choice select
  abbrev pub run_done : Values → Run → Option (Done V)
  run_done value run =
      option_and_then (λ choice. option_map (done_for run) (read_values value (selected (rows.role run.kind) choice run.reads))) (choice_in value run)

  abbrev pub run_output : Values → Run → ℕ → Option V
  run_output value run s = option_and_then (λ done. slice_get done.outputs s) (run_done value run)

  abbrev pub output_value : Values → Way → ℕ → ℕ → Option Part → Option V
  output_value value way n s None = None
  output_value value way n s (Some (a_node run)) = run_output value run s
  output_value value way n s (Some (a_group b reads)) = read_value value (out_of t (into way (plain_step n)) s)
  output_value value way n s (Some (a_repeat run b)) = option_and_then (λ v. value (at_item way n (rows.turns run.kind v) s)) (run_output value run 0)

  -- an input of a zone's body: the turn's number, or an item
  abbrev pub turn_value : Values → Way → ℕ → Option ℕ → ℕ → Option V
  turn_value value way n None i = None
  turn_value value way n (Some k) zero = Some (given.constant (a_value (int (pos k))))
  turn_value value way n (Some k) (suc i) = value (at_item way n k i)

  -- an input of the list in a group node or in a turn of a zone
  abbrev pub input_value : Values → Way → PathStep → ℕ → Option Part → Option V
  input_value value way step i None = None
  input_value value way step i (Some (a_node run)) = None
  input_value value way step i (Some (a_group b reads)) = read_value value (read_at reads i)
  input_value value way step i (Some (a_repeat run b)) = turn_value value way step.node step.turn i

  -- an item before the first turn; the head stands before the items
  abbrev pub first_item : Values → ℕ → Option Part → Option V
  first_item value i (Some (a_repeat run b)) = read_value value (read_at run.reads (suc i))
  first_item value i _ = None

  -- the value of a site, from those of the sites that it goes back to
  abbrev pub next : Values → Values
  next value (at_output way n s) = output_value value way n s (part_at t way n)
  next value (at_input the_tree i) = slice_get given.inputs i
  next value (at_input (into way step) i) = input_value value way step i (part_at t way step.node)
  next value (at_item way n zero i) = first_item value i (part_at t way n)
  next value (at_item way n (suc k) i) = read_value value (out_of t (into way (turn_step n k)) i)
  next value (at_constant c) = Some (given.constant c)
  next value nowhere = None

  -- a value that is found along at most k steps
  abbrev pub value_within : ℕ → Values
  value_within zero site = None
  value_within (suc k) site = next (value_within k) site

  -- v stands at the site
  abbrev pub StandsAt : Site → V → Type 0
  StandsAt site v = (k : ℕ) × (value_within k site ≡ Some v)

  -- what a run chooses, what it gives with its warnings, and one of its outputs
  abbrev pub Chooses : Run → Choice → Type 0
  Chooses run choice = (k : ℕ) × (choice_in (value_within k) run ≡ Some choice)

  abbrev pub Ends : Run → Done V → Type 0
  Ends run done = (k : ℕ) × (run_done (value_within k) run ≡ Some done)

  abbrev pub Gives : Run → ℕ → V → Type 0
  Gives run s v = (k : ℕ) × (run_output (value_within k) run s ≡ Some v)
