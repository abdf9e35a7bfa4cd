use Rattle.serde_json.specs.View.{view}
use Rattle.gn_form.proofs.Exact.{misfit_is_first}
use Rattle.gn_form.proofs.walk.first_misfit.Goals as goal

pub returns-clause-first : goal.returns-clause-first
returns-clause-first c = λ h. misfit_is_first (view c.args.tree.now) c.first_in.result h c.first_in.ensures
