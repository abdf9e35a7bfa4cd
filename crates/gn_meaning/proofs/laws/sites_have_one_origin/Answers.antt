use Rattle.gn_meaning.proofs.Origins.{one_origin}
use Rattle.gn_meaning.proofs.OriginsExist.{origin_exists}
use Rattle.gn_meaning.proofs.laws.sites_have_one_origin.Goals as goal

pub returns : goal.returns
returns c = (origin_exists, one_origin)
