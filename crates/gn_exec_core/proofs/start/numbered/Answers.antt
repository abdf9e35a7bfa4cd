use Rattle.std.proofs.Common.{sym, subst}
use Rattle.gn_lazy.specs.Graphs.{AreThere}
use Rattle.gn_exec_core.proofs.Adding.{links_in}
use Rattle.gn_exec_core.proofs.start.numbered.Goals as goal

pub want_all-requires : goal.want_all-requires
want_all-requires g c =
    links_in c.args.graph.now.nodes c.args.graph.now.constants c.roots.result.now c.in_ok-uses.uses.nodes.sizes c.in_ok-uses.ensures.nodes.sizes
    (subst (AreThere c.args.graph.now.nodes c.args.graph.now.constants) (sym c.roots.ensures.links) c.roots.ensures.there)
