use Rattle.gn_shared.proofs.Laws.{ends_at_its_last_go}
use Rattle.gn_shared.proofs.world.a_block_ends_at_its_last_go.Goals as goal

pub returns : goal.returns
returns c = ends_at_its_last_go
