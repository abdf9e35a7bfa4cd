-- What a tape needs to be run in a context.
use Rattle.std.specs.Prelude.{ℕ, List}
use Rattle.gn_value.specs.declared.value.ValueKind.{ValueKind}
use Rattle.gn_plain.specs.Contexts.{Context}
use Rattle.gn_plain.specs.Fields.{Sources}
use Rattle.gn_field.specs.declared.step.FieldStep.{FieldStep}
use Rattle.gn_field.specs.Steps.{built}
use Rattle.gn_schedule.specs.declared.plan.Plan.{Plan}
use Rattle.gn_slots.specs.declared.whole.Whole.{Whole}
use Rattle.gn_slots.specs.Registers.{AreWhole, AreCovered}
use Rattle.gn_proc.specs.Tapes.{IsTape}

-- steps and a plan are those of a tape, and the values of the steps that read elsewhere and that the plan runs are there
pub record IsPrepared {S : Type 0} (sources : Sources S) (taken : S → ValueKind) (c : Context) (xs : List (FieldStep S)) (roots : List ℕ) (p : Plan) (ws : List Whole) : Type 0 where
  pub tape : IsTape sources taken xs roots p
  pub whole : AreWhole sources (built xs) c ws
  pub covered : AreCovered c ws xs p.instructions.items
