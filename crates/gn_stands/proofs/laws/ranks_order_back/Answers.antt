use Rattle.gn_stands.proofs.Walks.{orders_back}
use Rattle.gn_stands.proofs.laws.ranks_order_back.Goals as goal

pub returns : goal.returns
returns c graph no_cycle there = orders_back graph no_cycle there
