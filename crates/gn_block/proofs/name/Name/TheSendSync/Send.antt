use denote.Param.Send.{IsSend}
use Rattle.gn_block.specs.contracts.name.Name.{the_row}

pub send : IsSend the_row
send = record { owned = λ d vs. ((λ vss. (tt, tt)), λ c. tt); leaving = λ k f vs. tt }
