use Rattle.std.proofs.Common.{◌≡◌, map}
use Rattle.std.specs.VecDeque.{deque_len}
use Rattle.gn_meaning.specs.Reads.{kind_number}
use Rattle.gn_rows.specs.Carried as carried
use Rattle.gn_origin.proofs.plans.value_through.Given as goal

abbrev pub invariant-loop-kind : goal.invariant-loop-kind
invariant-loop-kind l = carried.value_through l.value (map kind_number l.conversions.items) ≡ carried.value_through l.initial.value (map kind_number l.initial.conversions.items)

abbrev pub decreases-loop-kind : goal.decreases-loop-kind
decreases-loop-kind l = deque_len l.conversions
