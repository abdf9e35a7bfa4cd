use Rattle.std.proofs.Common.{◌<◌, ◌∙◌, sym, subst, length, false, []}
use Rattle.gn_plain.proofs.TopologyLemmas.{is_loose-shape_of}
use Rattle.gn_geom.specs.Meshes.{MeshArrays}
use Rattle.gn_geom.proofs.mesh.Mesh.loose.Goals as goal

pub returns : goal.returns
returns c =
    let IsEdge : MeshArrays → Type 0 = λ m. c.args.edge < length m.edges.items in
    let within = subst IsEdge (sym c.self.view_is) c.requires in
    rw c.items.ensures (rw (← c.self.view_is) (c.self.invariant.loose.1 c.args.edge false within ∙ sym (is_loose-shape_of [] _ c.args.edge c.self.invariant.valid)))
