use Rattle.std.proofs.Common.{◌≡◌, take}
use Rattle.gn_field_nodes.proofs.operate.seconds.Given as goal

-- the first fields are there again
abbrev pub invariant-loop-field : goal.invariant-loop-field
invariant-loop-field g l = l.seconds.items ≡ take l.field-index l.fields
