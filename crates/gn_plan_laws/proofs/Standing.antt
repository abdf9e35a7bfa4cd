-- What stands at the output of a run that reads values which are known.
use Rattle.std.proofs.Common.{◌≡◌, ℕ, suc, List, [], ◌∷◌, length, Some, refl, ◌∙◌, ap, arith}
use Rattle.std.specs.Prelude.{option_map, option_and_then, slice_get}
use Rattle.gn_tree.specs.NodeKinds.{Kind}
use Rattle.gn_tree.specs.Trees.{Tree}
use Rattle.gn_node_set.specs.Meanings.{Plain, no_case, Rows}
use Rattle.gn_meaning.specs.Sites.{Way, at_output, Read}
use Rattle.gn_meaning.specs.Reads.{read_at, Run, a_node, part_at}
use Rattle.gn_meaning.specs.Denotation.{Given, read_values, choice_in, done_for, run_done, output_value, value_within, StandsAt}
use Rattle.gn_plan_laws.proofs.Reading.{AllRead, all_read}

-- ---- four reads

pub four_reads : (reads : List Read) → length reads ≡ 4 → reads ≡ read_at reads 0 ∷ read_at reads 1 ∷ read_at reads 2 ∷ read_at reads 3 ∷ []
four_reads [] e = cc
four_reads (a ∷ []) e = cc
four_reads (a ∷ b ∷ []) e = cc
four_reads (a ∷ b ∷ c ∷ []) e = cc
four_reads (a ∷ b ∷ c ∷ d ∷ []) e = refl
four_reads (a ∷ b ∷ c ∷ d ∷ x ∷ more) e = absurd (omega (arith, e))

-- ---- the run of a plain node

module _ {V : Type 0} (rows : Rows Kind V) (given : Given V) (t : Tree) (run : Run) (plain : rows.role run.kind ≡ Plain) where
  no_choice : (value : _) → choice_in rows given t value run ≡ Some no_case
  no_choice value = rw plain refl

  plain_done : (value : _) (vs : List V) → read_values rows given t value run.reads ≡ Some vs → run_done rows given t value run ≡ Some (done_for rows given t run vs)
  plain_done value vs e = rw plain (ap (option_map (done_for rows given t run)) e)

  pub output_stands : (way : Way) (n : ℕ) (vs : List V) (v : V) → part_at t way n ≡ Some (a_node run) → AllRead rows given t run.reads vs → slice_get (done_for rows given t run vs).outputs 0 ≡ Some v → StandsAt rows given t (at_output way n 0) v
  output_stands way n vs v at read e =
      let found = all_read rows given t run.reads vs read in
      (suc found.0, ap (output_value rows given t (value_within rows given t found.0) way n 0) at ∙ ap (option_and_then (λ done. slice_get done.outputs 0)) (plain_done (value_within rows given t found.0) vs found.1) ∙ e)
