use Rattle.gn_obj.proofs.PageLemmas.{kept}
use Rattle.gn_obj.proofs.page.make_room.Goals as goal

pub returns-then-len-le-ROOM-clause-writes : goal.returns-then-len-le-ROOM-clause-writes
returns-then-len-le-ROOM-clause-writes g c = kept _
