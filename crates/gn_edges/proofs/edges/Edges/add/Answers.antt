use Rattle.std.proofs.Common.{◌∙◌, not, sym, ap, map}
use Rattle.std.proofs.lemmas.List.Sums.{prefix_len-le-length}
use Rattle.std.specs.List.{position_or_len}
use Rattle.gn_plain.specs.Edges.{is_edge, with_edge}
use Rattle.gn_plain.specs.Topology.{edge_of}
use Rattle.gn_edges.specs.Kept.{is_pair}
use Rattle.gn_edges.proofs.Lists.{edges_with, edge_number}
use Rattle.gn_edges.proofs.edges.Edges.add.Goals as goal

pub returns-clause-edges : goal.returns-clause-edges
returns-clause-edges c =
    rw (← c.self.view_is)
    (ap (map edge_of) c.in_ok-number.ensures.pairs ∙ edges_with c.self.inside.pairs.items c.edge_between-edge.result
    ∙ ap (with_edge (map edge_of c.self.inside.pairs.items)) c.edge_between-edge.ensures)

pub returns-clause-number : goal.returns-clause-number
returns-clause-number c =
    rw (← c.self.view_is)
    (c.in_ok-number.ensures.number ∙ sym (edge_number c.self.inside.pairs.items c.edge_between-edge.result)
    ∙ ap (λ e. position_or_len (is_edge e) (map edge_of c.self.inside.pairs.items)) c.edge_between-edge.ensures)

pub returns-clause-within : goal.returns-clause-within
returns-clause-within c =
    let bound = prefix_len-le-length (λ x. not (is_pair c.edge_between-edge.result x)) c.self.inside.pairs.items in
    rw (← c.self.view_is, c.in_ok-number.ensures.number) bound
