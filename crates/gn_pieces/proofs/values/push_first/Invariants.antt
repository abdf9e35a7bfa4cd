use Rattle.std.proofs.Common.{◌≡◌}
use Rattle.gn_attr.specs.Columns as attr
use Rattle.gn_pieces.specs.Behind.{first_values, values_behind, values_of}
use Rattle.gn_pieces.proofs.values.push_first.Given as goal

abbrev pub invariant-loop-element : goal.invariant-loop-element
invariant-loop-element l = values_of l.values ≡ values_behind (values_of l.fn.values) (first_values (attr.values_of l.column) l.element)
