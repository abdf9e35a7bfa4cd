use Rattle.std.proofs.Common.{List, map, ap, sym, subst, ◌∙◌}
use Rattle.gn_value.specs.declared.fixed.Fx.{Fx}
use Rattle.gn_interp.specs.Numbers.{fixed_number}
use Rattle.gn_interp.specs.Gathered.{AreGathered, fixed_over, mean_over}
use Rattle.gn_interp.proofs.Gathering.{gathered_mapped, if_ok}
use Rattle.gn_interp.proofs.means.means_of_raw.Goals as goal

pub returns-clause-means : goal.returns-clause-means
returns-clause-means c =
    let values = c.args.values.now in
    let takings = c.args.takings.now in
    if_ok _ _ c.fixed_numbers.result c.fixed_numbers.ensures (λ fixed is.
    subst (λ (xs : List Fx). AreGathered (fixed_over values) takings xs) (sym (is ∙ ap (map fixed_number) c.deref.ensures.value))
    (gathered_mapped fixed_number (mean_over values) takings c.in_ok-means.means.items c.in_ok-means.ensures.means))
