use Rattle.gn_stands.proofs.Opens.{zone_opens}
use Rattle.gn_stands.proofs.laws.found_zones_open.Goals as goal

pub returns : goal.returns
returns g c given t form keeps as_found way outer n run b zone head leads at is =
    let found : _ = as_found way outer n run b head leads at in
    zone_opens g.N.TreeMeanings.meanings given t keeps form way outer n run b leads at zone is head found.0 found.1
