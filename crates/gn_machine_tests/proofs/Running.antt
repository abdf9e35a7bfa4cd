-- What a run of a taken node of numbers gives may be handed in.
use Rattle.std.proofs.Common.{◌≡◌, ◌≢◌, inl, ℕ, List, [], ◌∷◌, map, Option, option_map, refl, sym, ap, ◌∙◌, subst}
use Rattle.gn_node_set.specs.Meanings.{Node, Zone, Answer, Done as Given}
use Rattle.gn_node_set.proofs.Lists.{some_same}
use Rattle.gn_exec_laws.specs.Machine.{Take, World, HasNumber, inputs_now, run_now}
use Rattle.gn_nodes.specs.declared.values.Done.{Done}
use Rattle.gn_nodes.specs.Values.{done_of, answer_of}
use Rattle.gn_exec_core.specs.declared.jobs.Job.{Job}
use Rattle.gn_exec_core.specs.declared.jobs.Taken.TheVariants as taken
use Rattle.gn_exec_core.specs.States.{State, now}
use Rattle.gn_exec_core.specs.Jobs.{IsJob, Takes}
use Rattle.gn_exec_core.specs.Finishes.{MayFinish}
use Rattle.gn_machine_tests.specs.declared.numbers.NumberKind.{NumberKind}
use Rattle.gn_machine_tests.specs.declared.numbers.NumberKind.TheVariants.{Add, Choose, Measure, Repeat}
use Rattle.gn_machine_tests.specs.Numbers.{numbers, role_of, number_of}

not_zone : (kind : NumberKind) → kind ≢ Repeat → role_of kind ≢ Zone
not_zone Add other e = cc
not_zone Choose other e = cc
not_zone Measure other e = cc
not_zone Repeat other e = absurd (other refl)

same_values : (values : List ℕ) → map (λ value. value) values ≡ values
same_values [] = refl
same_values (value ∷ values) = ap (λ vs. value ∷ vs) (same_values values)

-- what a run gives
abbrev pub given : NumberKind → List ℕ → Option Answer → Given ℕ
given kind inputs answer = record { outputs = number_of kind inputs answer ∷ []; warnings = [] }

module _ (s : State NumberKind ℕ) (worker : ℕ) (j : Job NumberKind ℕ) (is : IsJob numbers (λ kind. kind) (λ value. value) s worker j) where
  abbrev w : World NumberKind ℕ
  w = now numbers (λ kind. kind) (λ value. value) s

  same_node : (node : Node NumberKind ℕ) → HasNumber w j.node node → is.node ≡ node
  same_node node number = some_same (sym is.number ∙ number)

  inputs_are : j.inputs.items ≡ (map (λ value. value) j.inputs.items)
  inputs_are = sym (same_values j.inputs.items)

  row_of_job : given j.kind j.inputs.items (option_map answer_of j.answer) ≡ run_now numbers w is.node
  row_of_job =
      ap (λ xs. given j.kind xs (option_map answer_of j.answer)) (inputs_are ∙ is.inputs)
      ∙ ap (given j.kind (inputs_now numbers w is.node)) is.answer
      ∙ ap (λ k. given k (inputs_now numbers w is.node) (w.answers is.node.path)) is.kind

  may_finish : (done : Done ℕ) → j.kind ≢ Repeat → done_of (λ value. value) done ≡ given j.kind j.inputs.items (option_map answer_of j.answer) → MayFinish numbers (λ kind. kind) (λ value. value) (record s { events = Take worker j.node ∷ s.events }) worker j.node done
  may_finish done other row = record {
    taken = inl refl;
    no_zone = λ node number. subst (λ (x : Node NumberKind ℕ). role_of x.kind ≢ Zone) (same_node node number) (subst (λ k. role_of k ≢ Zone) is.kind (not_zone j.kind other));
    row = λ node number. subst (λ x. done_of (λ value. value) done ≡ run_now numbers w x) (same_node node number) (row ∙ row_of_job);
  }

-- a job that was taken
pub handed_in : (s s' : State NumberKind ℕ) (worker : ℕ) (j : Job NumberKind ℕ) → Takes numbers (λ kind. kind) (λ value. value) s worker (taken.Job j) s' → j.kind ≢ Repeat
    → (done : Done ℕ) → done_of (λ value. value) done ≡ record { outputs = number_of j.kind j.inputs.items (option_map answer_of j.answer) ∷ []; warnings = [] } → MayFinish numbers (λ kind. kind) (λ value. value) s' worker j.node done
handed_in s s' worker j takes other done row = subst (λ x. MayFinish numbers (λ kind. kind) (λ value. value) x worker j.node done) (sym takes.1) (may_finish s worker j takes.0 done other row)
