-- Several fields as one list of steps.
use Rattle.std.specs.Prelude.{◌≡◌, ℕ, ◌≤◌, List, length, map}
use Rattle.gn_value.specs.declared.value.ValueKind.{ValueKind}
use Rattle.gn_plain.specs.Fields.{Sources}
use Rattle.gn_plain.specs.Subtrees.{count_different}
use Rattle.gn_field.specs.declared.step.FieldStep.{FieldStep}
use Rattle.gn_field.specs.Steps.{AreBelow, LeadBack, named, built, keys}
use Rattle.gn_field.specs.Kinds.{HasKinds}
use Rattle.gn_schedule.specs.declared.plan.Plan.{Plan}
use Rattle.gn_schedule.specs.Plans.{IsPlan}

-- steps lead back, their arguments have the kinds that are taken, and there is one for each different subtree of the fields at some places
pub record AreSteps {S : Type 0} (sources : Sources S) (taken : S → ValueKind) (xs : List (FieldStep S)) (roots : List ℕ) : Type 0 where
  pub back : LeadBack (keys xs)
  pub within : AreBelow (length xs) roots
  pub kinds : (k : ℕ) → HasKinds sources taken (named (built xs) k)
  pub few : length xs ≤ 4096
  pub count : length xs ≡ count_different (map (named (built xs)) roots)

pub record IsTape {S : Type 0} (sources : Sources S) (taken : S → ValueKind) (xs : List (FieldStep S)) (roots : List ℕ) (p : Plan) : Type 0 where
  pub steps : AreSteps sources taken xs roots
  pub plan : IsPlan sources xs roots p
