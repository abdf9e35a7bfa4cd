use Rattle.std.proofs.Common.{length, ap, sym, subst, ◌∙◌}
use Rattle.gn_plain.specs.Topology.{IsValid}
use Rattle.gn_prim.proofs.Boxes.{box_of, valid_box}
use Rattle.gn_prim.proofs.cuboids.cuboid.Goals as goal

pub from_valid_parts-requires-clause-valid : goal.from_valid_parts-requires-clause-valid
from_valid_parts-requires-clause-valid c =
    let points = c.in_ok-points.ensures.items_if_clones_equal (λ x y h. h) ∙ c.points.ensures in
    subst IsValid (sym (box_of _ _ _ _ _ (ap length points) (c.in_ok-to_vec.ensures.items_if_clones_equal (λ x y h. λ i. (h.0 i, h.1 i))) (c.in_ok-to_vec-2.ensures.items_if_clones_equal (λ x y h. h)) (c.in_ok-to_vec-3.ensures.items_if_clones_equal (λ x y h. h)) (c.in_ok-to_vec-4.ensures.items_if_clones_equal (λ x y h. h)))) valid_box
