-- A part is smaller than a geometry whose instances place it.
use Rattle.std.proofs.Common.{◌≡◌, ℕ, zero, suc, ◌+◌, ◌<◌, ◌≤◌, List, length, get_or, ap, subst, ◌∙◌, arith}
use Rattle.gn_geometry.specs.Geometries.{GeometryView, geometry, instances, Parts, no_parts, part, instances_in, list_of, node_count, parts_in, sizes}

size_at : (ps : Parts) (k : ℕ) (q : GeometryView) → k < length (list_of ps) → q ≡ get_or (list_of ps) k q → node_count q ≤ sizes ps
size_at no_parts k q below at = absurd (omega (arith, below))
size_at (part g gs) zero q below at = let same : node_count q ≡ node_count g = ap node_count at in omega (arith, same)
size_at (part g gs) (suc k) q below at = omega (arith, size_at gs k q (omega (arith, below)) at)

size_in : (g : GeometryView) (k : ℕ) (q : GeometryView) → k < length (parts_in (instances_in g)) → q ≡ get_or (parts_in (instances_in g)) k q → node_count q + 1 < node_count g
size_in (geometry m c (instances ps items columns)) k q below at = omega (arith, size_at ps k q below at)

pub part_smaller : (g : GeometryView) (ps : List GeometryView) (k : ℕ) (q : GeometryView) → ps ≡ parts_in (instances_in g) → k < length ps → q ≡ get_or ps k q → node_count q + 1 < node_count g
part_smaller g ps k q same below at = size_in g k q (subst (λ (xs : List GeometryView). k < length xs) same below) (at ∙ ap (λ (xs : List GeometryView). get_or xs k q) same)
