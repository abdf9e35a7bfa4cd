use Rattle.gn_zone.proofs.Found.{zone_found}
use Rattle.gn_zone.proofs.laws.found_zones_are_filled_in.Goals as goal

pub returns : goal.returns
returns g c given nothing kind path k turns opened e = zone_found given nothing kind path k turns opened e
