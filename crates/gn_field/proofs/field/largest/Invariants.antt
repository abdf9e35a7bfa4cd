use Rattle.std.proofs.Common.{◌<◌, length}
use Rattle.gn_field.proofs.field.largest.Given as goal

abbrev pub invariant-loop-at : goal.invariant-loop-at
invariant-loop-at g l = l.largest < length l.fields
