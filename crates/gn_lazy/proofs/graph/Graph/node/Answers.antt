use Rattle.std.proofs.Common.{subst}
use Rattle.gn_lazy.specs.Graphs.{LinksLeadBack}
use Rattle.gn_lazy.proofs.graph.Graph.node.Goals as goal

pub returns-clause-back : goal.returns-clause-back
returns-clause-back g c = subst LinksLeadBack c.self.view_is c.self.invariant.0
