use Rattle.std.proofs.Common.{◌≡◌, drop, map}
use Rattle.gn_kinds.specs.Seen.{input_of}
use Rattle.gn_rules.specs.Sockets.{declared, input_of_row}
use Rattle.gn_scopes.proofs.sockets.find_input.Given as goal

abbrev pub invariant-loop-row : goal.invariant-loop-row
invariant-loop-row l = declared (map (input_of_row l.chosen) (map input_of (drop l.row-index l.inputs))) l.fn.name ≡ declared (map (input_of_row l.chosen) (map input_of l.inputs)) l.fn.name
