use Rattle.std.proofs.Common.{◌≡◌, ℕ, Result, Ok, Err, List, ◌∙◌}
use Rattle.std.specs.Result.{IfOk}
use Rattle.gn_value.specs.declared.value.Place.TheVariants.{Point, Edge}
use Rattle.gn_interp.specs.Takings.{topology_of, unplaced}
use Rattle.gn_interp.proofs.Pairs.{by_corners}
use Rattle.gn_interp.proofs.takings.takings.Goals as goal
use Rattle.gn_interp.proofs.takings.takings.Goals.{in_default-via-in-Point+in_default, in_default-via-in-Edge+in_default, in_default-via-in_default}

if_ok : {A E : Type 0} (P Q : A → Type 0) (r : Result A E) → IfOk r P → ((a : A) → P a → Q a) → IfOk r Q
if_ok P Q (Ok a) p all = all a p
if_ok P Q (Err e) p all = tt

pub returns-in_default : goal.returns-in_default
returns-in_default c =
    let from = c.args.from in
    let to = c.args.to in
    let down : (from ≡ Point) × (to ≡ Edge) → ⊥ =
    λ p. elim c.in_default.branch [
      | in_default-via-in-Point+in_default w ↦ w.in_default.not-Edge-1 p.1
      | in_default-via-in-Edge+in_default w ↦ cc (p.0, w.in_default.is-0)
      | in_default-via-in_default w ↦ w.in_default.not-Point-0 p.0
    ] in
    let up : (from ≡ Edge) × (to ≡ Point) → ⊥ =
    λ p. elim c.in_default.branch [
      | in_default-via-in-Point+in_default w ↦ cc (p.0, w.in_default.is-0)
      | in_default-via-in-Edge+in_default w ↦ w.in_default.not-Point-1 p.1
      | in_default-via-in_default w ↦ w.in_default.not-Edge-0 p.0
    ] in
    if_ok _ _ c.at_corners.result c.at_corners.ensures (λ a is. is ∙ by_corners from to (unplaced (topology_of c.args.topology.now)) down up)
