use Rattle.std.proofs.Common.{◌<◌, ◌∙◌, sym, subst, length, false, []}
use Rattle.gn_plain.proofs.TopologyLemmas.{is_loose-shape_of}
use Rattle.gn_geometry.specs.Meshes.{MeshView}
use Rattle.gn_geometry.proofs.mesh.Mesh.loose.Goals as goal

pub returns : goal.returns
returns c =
    let IsEdge : MeshView → Type 0 = λ m. c.args.edge < length m.shape.edges.items in
    let within = subst IsEdge (sym c.self.view_is) c.requires in
    rw c.items.ensures (rw (← c.self.view_is) (c.self.invariant.shape.loose.1 c.args.edge false within ∙ sym (is_loose-shape_of [] _ c.args.edge c.self.invariant.shape.valid)))
