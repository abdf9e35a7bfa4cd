use Rattle.std.proofs.Common.{◌≡◌, List, [], ◌∷◌, Option, map, false, refl, ap}
use Rattle.gn_value.specs.declared.vector.V3.{V3}
use Rattle.gn_geom.specs.Meshes.{plain_of}
use Rattle.gn_plain.specs.Geometry.{Shape, of_shape}
use Rattle.gn_rows.specs.Moves.{moved_point}
use Rattle.gn_app.proofs.moving.made.Goals as goal

-- where nothing is selected, each point stays
unmoved : (to : Option V3) (by : V3) (points : List V3) → points ≡ map (moved_point false to by) points
unmoved to by [] = refl
unmoved to by (p ∷ points) = ap (λ ps. p ∷ ps) (unmoved to by points)

stays : (s : Shape) (to : Option V3) (by : V3) → of_shape s ≡ of_shape (record s { points = map (moved_point false to by) s.points })
stays s to by = ap (λ points. of_shape (record s { points = points })) (unmoved to by s.points)

pub returns-in-Move-false-default-default : goal.returns-in-Move-false-default-default
returns-in-Move-false-default-default c =
    let m = c.in-Move-false-default-default in
    rw (m.is, ← m.selected-is, m.selected-test) (stays (plain_of c.args.prepared.mesh) m.to m.by)
