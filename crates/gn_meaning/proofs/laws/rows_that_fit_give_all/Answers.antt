use Rattle.gn_meaning.proofs.Enough.{gives_all}
use Rattle.gn_meaning.proofs.laws.rows_that_fit_give_all.Goals as goal

pub returns : goal.returns
returns g c fit given t form keeps inputs = gives_all g.K.KindRows.rows fit given t form keeps inputs
