use Rattle.gn_registers.proofs.Positions.{argument_there}
use Rattle.gn_registers.proofs.arguments.Arguments.list.Goals as goal

pub get-requires : goal.get-requires
get-requires g c = argument_there _ _ _ c.requires.kind
