use Rattle.gn_meaning.proofs.Meanings.{wanted_is_there, one_there, ends_there}
use Rattle.gn_meaning.proofs.laws.wanted_sites_have_one_value.Goals as goal

pub returns : goal.returns
returns g c given t form keeps all =
    (wanted_is_there g.K.KindRows.rows given t form keeps all, one_there g.K.KindRows.rows given t form keeps all, ends_there g.K.KindRows.rows given t form keeps all)
