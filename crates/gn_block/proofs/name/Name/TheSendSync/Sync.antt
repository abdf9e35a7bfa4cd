use denote.Param.Send.{IsSync}
use Rattle.gn_block.specs.contracts.name.Name.{the_row}

pub sync : IsSync the_row
sync = record { shared = λ d b o κ. ((tt, λ q. tt), λ c q. tt) }
