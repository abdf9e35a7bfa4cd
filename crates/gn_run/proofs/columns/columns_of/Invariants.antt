use Rattle.std.specs.List.{AllZip}
use Rattle.gn_run.specs.Evaluated.{Holds}
use Rattle.gn_run.proofs.columns.columns_of.Given as goal

abbrev pub invariant-loop-register : goal.invariant-loop-register
invariant-loop-register l = AllZip Holds l.yielded l.columns.items
