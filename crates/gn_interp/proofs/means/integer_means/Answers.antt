use Rattle.std.proofs.Common.{ℤ, List, map, ap, sym, subst, ◌∙◌}
use Rattle.gn_value.specs.Arithmetic.{sat_int}
use Rattle.gn_interp.specs.Gathered.{AreGathered, integer_over, mean_over}
use Rattle.gn_interp.proofs.Gathering.{gathered_mapped, if_ok}
use Rattle.gn_interp.proofs.means.integer_means.Goals as goal

pub returns-clause-means : goal.returns-clause-means
returns-clause-means c =
    let values = c.args.values.now in
    let takings = c.args.takings.now in
    let means = c.in_ok-means.means.items in
    let gathered : AreGathered (mean_over values) takings means = subst (λ (vs : List ℤ). AreGathered (mean_over vs) takings means) (c.deref.ensures.value ∙ c.in_ok-wide.ensures) c.in_ok-means.ensures.means in
    if_ok _ _ c.integers.result c.integers.ensures (λ integers is.
    subst (λ (xs : List ℤ). AreGathered (integer_over values) takings xs) (sym (is ∙ ap (map sat_int) c.deref-2.ensures.value)) (gathered_mapped sat_int (mean_over values) takings means gathered))
