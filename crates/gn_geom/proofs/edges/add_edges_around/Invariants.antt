use Rattle.std.proofs.Common.{◌≡◌, [], ◌∷◌, ◌++◌, fold, drop}
use Rattle.gn_plain.specs.Edges.{edges_along, edges_around, with_edge}
use Rattle.gn_edges.specs.Added.{edges_in}
use Rattle.gn_geom.proofs.edges.add_edges_around.Given as goal

abbrev pub invariant-loop-to : goal.invariant-loop-to
invariant-loop-to l =
    fold with_edge (edges_in l.edges) (edges_along (l.from ∷ (drop l.to-index l.others ++ l.first ∷ []))) ≡ fold with_edge (edges_in l.fn.edges) (edges_around l.face)
