use Rattle.std.proofs.Common.{◌≡◌, ◌++◌, take, drop}
use Rattle.gn_attr.specs.Writing.{chosen}
use Rattle.gn_attr.proofs.array.put_selected.Given as goal

-- what was written so far, and what is still to be written, are all that is to be there
abbrev pub invariant-loop-at : goal.invariant-loop-at
invariant-loop-at g l = take l.at l.items ++ chosen (drop l.at l.selected) (drop l.at l.values) (drop l.at l.items) ≡ chosen l.selected l.values l.fn.items
