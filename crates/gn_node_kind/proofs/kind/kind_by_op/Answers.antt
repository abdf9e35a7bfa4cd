use Rattle.std.proofs.Common.{ap}
use Rattle.std.specs.Prelude.{option_and_then}
use Rattle.gn_node_kind.specs.Kinds.{readers_of_op}
use Rattle.gn_node_kind.proofs.Others.{none_named}
use Rattle.gn_node_kind.proofs.kind.kind_by_op.Goals as goal

pub returns-in_default : goal.returns-in_default
returns-in_default c = ap (option_and_then (λ read. read c.args.op.now)) (none_named readers_of_op c.args.name.now (c.in_default.not-math, (c.in_default.not-integer_math, (c.in_default.not-vector_math, (c.in_default.not-boolean_math, (c.in_default.not-float_to_integer, tt))))))
