use Rattle.gn_shared.proofs.Laws.{never_comes_back}
use Rattle.gn_shared.proofs.world.an_ended_block_never_comes_back.Goals as goal

pub returns : goal.returns
returns c = never_comes_back
