use Rattle.gn_meaning.proofs.Values.{one_value, one_choice, one_end}
use Rattle.gn_meaning.proofs.laws.meanings_are_one.Goals as goal

pub returns : goal.returns
returns g c given t =
    (one_value g.K.KindRows.rows given t, one_choice g.K.KindRows.rows given t, one_end g.K.KindRows.rows given t)
