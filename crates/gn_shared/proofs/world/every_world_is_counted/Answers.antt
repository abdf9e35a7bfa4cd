use Rattle.gn_shared.proofs.Kept.{reached}
use Rattle.gn_shared.proofs.world.every_world_is_counted.Goals as goal

pub returns : goal.returns
returns c = reached
