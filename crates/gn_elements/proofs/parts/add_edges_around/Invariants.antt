use Rattle.std.proofs.Common.{◌≡◌, ◌+◌, ◌≤◌, [], ◌∷◌, ◌++◌, fold, drop, length}
use Rattle.gn_plain.specs.Edges.{edges_along, edges_around, with_edge}
use Rattle.gn_elements.specs.Growing.{numbers_among}
use Rattle.gn_edges.specs.Added.{edges_in}
use Rattle.gn_elements.proofs.parts.add_edges_around.Given as goal

abbrev pub invariant-loop-to : goal.invariant-loop-to
invariant-loop-to l =
    let left = edges_along (l.from ∷ (drop l.to-index l.others ++ l.first ∷ [])) in
    record {
      edges : fold with_edge (edges_in l.edges) left ≡ fold with_edge (edges_in l.fn.edges) (edges_around l.face);
      numbers : l.numbers.items ++ numbers_among (edges_in l.edges) left ≡ l.fn.numbers.items ++ numbers_among (edges_in l.fn.edges) (edges_around l.face);
      few : length (edges_in l.edges) ≤ length (edges_in l.fn.edges) + l.to-index;
    }
