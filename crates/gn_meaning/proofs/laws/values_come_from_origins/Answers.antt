use Rattle.gn_meaning.proofs.Origins.{origin_carries, value_from_origin}
use Rattle.gn_meaning.proofs.laws.values_come_from_origins.Goals as goal

pub returns : goal.returns
returns g c given t site origin (k, e) =
    (origin_carries g.K.KindRows.rows given t k site origin e, λ w stands. value_from_origin g.K.KindRows.rows given t k site origin e stands.0 w stands.1)
