use Rattle.std.proofs.Common.{take}
use Rattle.std.specs.List.{AllZip}
use Rattle.gn_run.specs.Putting.{IsZeroOf}
use Rattle.gn_run.proofs.columns.zeros_like.Given as goal

abbrev pub invariant-loop-register : goal.invariant-loop-register
invariant-loop-register l = AllZip (IsZeroOf l.count) (take l.register-index l.registers) l.list.items
