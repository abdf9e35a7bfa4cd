use Rattle.std.proofs.Common.{map}
use Rattle.gn_attr.specs.Members.{entry_of}
use Rattle.gn_attr.proofs.Twins.{IsOn}
use Rattle.gn_attr.proofs.columns.Columns.second.Given as goal

-- the columns that were gone over have twins, and are noted
abbrev pub invariant-loop-at : goal.invariant-loop-at
invariant-loop-at g l = IsOn l.fn.self (map entry_of l.self-inside.members.entries) (map entry_of l.members.entries) l.at l.fn.meter l.meter
