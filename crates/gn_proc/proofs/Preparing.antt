-- Tapes in contexts.
use Rattle.std.proofs.Common.{ℕ, List}
use Rattle.gn_value.specs.declared.value.ValueKind.{ValueKind}
use Rattle.gn_plain.specs.Contexts.{Context}
use Rattle.gn_plain.specs.Fields.{Sources}
use Rattle.gn_field.specs.declared.step.FieldStep.{FieldStep}
use Rattle.gn_field.specs.Steps.{built}
use Rattle.gn_schedule.specs.declared.plan.Plan.{Plan}
use Rattle.gn_slots.specs.declared.whole.Whole.{Whole}
use Rattle.gn_slots.specs.Registers.{AreWhole}
use Rattle.gn_wholes.specs.Covers.{AreRunnable, CoversRoots}
use Rattle.gn_proc.specs.Tapes.{IsTape}
use Rattle.gn_proc.specs.Prepared.{IsPrepared}

module _ {S : Type 0} (sources : Sources S) (taken : S → ValueKind) (xs : List (FieldStep S)) (roots : List ℕ) (p : Plan) (t : IsTape sources taken xs roots p) where
  pub runnable : AreRunnable sources taken xs
  runnable = record { back = t.steps.back; kinds = t.steps.kinds; few = t.steps.few }

  pub prepared : (c : Context) (ws : List Whole) → AreWhole sources (built xs) c ws → CoversRoots c xs roots ws → IsPrepared sources taken c xs roots p ws
  prepared c ws whole covers = record { tape = t; whole = whole; covered = covers p.instructions.items t.plan.only }
