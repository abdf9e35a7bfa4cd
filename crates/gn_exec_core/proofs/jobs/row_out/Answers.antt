use Rattle.gn_exec_core.proofs.Adding.{other_row}
use Rattle.gn_exec_core.proofs.jobs.row_out.Goals as goal

pub returns-clause-others : goal.returns-clause-others
returns-clause-others g c k differs = other_row c.args.rows.now.items c.args.node k _ differs
