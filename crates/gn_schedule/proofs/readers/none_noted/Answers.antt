use Rattle.gn_schedule.proofs.Reading.{zero_at}
use Rattle.gn_schedule.proofs.readers.none_noted.Goals as goal

pub returns-clause-none : goal.returns-clause-none
returns-clause-none c k = zero_at c.args.count c.in_ok-readers.readers.items k (c.in_ok-readers.ensures.items_if_clones_equal (λ y h. h))
