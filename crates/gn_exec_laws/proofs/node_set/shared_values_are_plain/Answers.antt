use Rattle.gn_exec_laws.proofs.Shared.{are_plain}
use Rattle.gn_exec_laws.proofs.node_set.shared_values_are_plain.Goals as goal

pub returns : goal.returns
returns g c task start es r =
    are_plain g.N.NodeSet.meanings g.N.NodeSet.lawful g.N.NodeSet.shareable g.N.NodeSet.shared_stay task start es r
