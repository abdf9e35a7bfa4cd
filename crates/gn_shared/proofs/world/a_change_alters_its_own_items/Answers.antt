use Rattle.gn_shared.proofs.Laws.{changes_its_own}
use Rattle.gn_shared.proofs.world.a_change_alters_its_own_items.Goals as goal

pub returns : goal.returns
returns c = changes_its_own
