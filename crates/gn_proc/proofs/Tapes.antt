-- The steps of fields that are few enough are those of a tape.
use Rattle.std.proofs.Common.{ℕ, ◌≤◌, List, length, sym, ap, ◌∙◌}
use Rattle.gn_value.specs.declared.value.ValueKind.{ValueKind}
use Rattle.gn_plain.specs.Fields.{Expr, Sources}
use Rattle.gn_plain.specs.Subtrees.{count_different}
use Rattle.gn_field.specs.declared.step.FieldStep.{FieldStep}
use Rattle.gn_field.specs.Together.{AreTogether}
use Rattle.gn_schedule.specs.declared.plan.Plan.{Plan}
use Rattle.gn_schedule.specs.Plans.{IsPlan}
use Rattle.gn_proc.specs.Tapes.{AreSteps, IsTape}

module _ {S : Type 0} where
  pub are_steps : (sources : Sources S) (taken : S → ValueKind) (es : List (Expr S)) (xs : List (FieldStep S)) (roots : List ℕ) → AreTogether sources taken es xs roots → length xs ≤ 4096 → AreSteps sources taken xs roots
  are_steps sources taken es xs roots t few = record {
    back = t.merged.back;
    within = t.within;
    kinds = t.kinds;
    few = few;
    count = t.count ∙ ap count_different (sym t.fields);
  }

  pub is_tape : (sources : Sources S) (taken : S → ValueKind) (xs : List (FieldStep S)) (roots : List ℕ) (p : Plan) → AreSteps sources taken xs roots → IsPlan sources xs roots p → IsTape sources taken xs roots p
  is_tape sources taken xs roots p s plan = record { steps = s; plan = plan }
