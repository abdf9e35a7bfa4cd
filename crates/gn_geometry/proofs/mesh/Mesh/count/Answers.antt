use Rattle.std.proofs.Common.{◌≡◌, ℕ, ◌-◌, List, length, ap, sym, subst, ◌∙◌}
use Rattle.gn_value.specs.declared.value.Place.{Place}
use Rattle.gn_value.specs.declared.value.Place.TheVariants.{Face, Corner}
use Rattle.gn_plain.specs.Geometry.{count_in}
use Rattle.gn_geom.specs.Meshes.{plain_of, topology_of}
use Rattle.gn_geometry.specs.Meshes.{MeshView, arrays_of}
use Rattle.gn_geometry.proofs.Counts.{face_count, corner_count}
use Rattle.gn_geometry.proofs.mesh.Mesh.count.Goals as goal

pub returns-in-Face : goal.returns-in-Face
returns-in-Face c =
    let arrays = c.self.inside.arrays in
    let many : c.saturating_sub.result ≡ length arrays.faces.items - 1 = c.saturating_sub.ensures ∙ ap (λ (xs : List ℕ). length xs - 1) c.items-in-Face.ensures in
    subst (λ (p : Place). c.saturating_sub.result ≡ count_in (plain_of c.args.self.now.shape) p) (sym c.in-Face.is)
    (subst (λ (m : MeshView). c.saturating_sub.result ≡ count_in (plain_of m.shape) Face) c.self.view_is (many ∙ sym (face_count arrays.points.items (topology_of (arrays_of arrays)) c.self.invariant.shape.valid)))

pub returns-in-Corner : goal.returns-in-Corner
returns-in-Corner c =
    let arrays = c.self.inside.arrays in
    let many : length c.items-in-Corner.result.now ≡ length arrays.corner_points.items = ap length c.items-in-Corner.ensures in
    subst (λ (p : Place). length c.items-in-Corner.result.now ≡ count_in (plain_of c.args.self.now.shape) p) (sym c.in-Corner.is)
    (subst (λ (m : MeshView). length c.items-in-Corner.result.now ≡ count_in (plain_of m.shape) Corner) c.self.view_is (many ∙ sym (corner_count arrays.points.items (topology_of (arrays_of arrays)) c.self.invariant.shape.valid)))
