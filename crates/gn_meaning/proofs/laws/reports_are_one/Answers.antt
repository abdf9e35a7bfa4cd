use Rattle.gn_meaning.proofs.Reports.{one_report}
use Rattle.gn_meaning.proofs.laws.reports_are_one.Goals as goal

pub returns : goal.returns
returns g c given t = one_report g.K.KindRows.rows given t
