use Rattle.gn_exec_laws.proofs.Events.{came_of_events, events_left}
use Rattle.gn_exec_laws.proofs.laws.worlds_come_of_events.Goals as goal

pub returns : goal.returns
returns g c task start es r = (
  came_of_events g.N.NodeMeanings.meanings g.N.NodeMeanings.lawful task start es r,
  events_left g.N.NodeMeanings.meanings g.N.NodeMeanings.lawful task start es r,
)
