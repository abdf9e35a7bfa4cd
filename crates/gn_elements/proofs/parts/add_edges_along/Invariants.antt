use Rattle.std.proofs.Common.{◌≡◌, ◌∷◌, fold, drop, filter}
use Rattle.gn_plain.specs.Edges.{edges_along, with_edge}
use Rattle.gn_elements.specs.Read.{is_proper}
use Rattle.gn_edges.specs.Added.{edges_in}
use Rattle.gn_elements.proofs.parts.add_edges_along.Given as goal

abbrev pub invariant-loop-to : goal.invariant-loop-to
invariant-loop-to l =
    fold with_edge (edges_in l.edges) (filter is_proper (edges_along (l.from ∷ drop l.to-index l.others))) ≡ fold with_edge (edges_in l.fn.edges) (filter is_proper (edges_along l.row))
