use Rattle.std.proofs.Common.{◌≡◌, drop, map}
use Rattle.gn_kinds.specs.Seen.{output_of}
use Rattle.gn_rules.specs.Sockets.{declared, output_of_row, outputs_of_kind}
use Rattle.gn_scopes.proofs.sockets.find_output.Given as goal

abbrev pub invariant-loop-row : goal.invariant-loop-row
invariant-loop-row l = declared (map (output_of_row l.chosen) (map output_of (drop l.row-index l.outputs))) l.fn.name ≡ declared (map (output_of_row l.chosen) (outputs_of_kind l.fn.kind)) l.fn.name
