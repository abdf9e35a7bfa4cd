use Rattle.std.proofs.Common.{◌≡◌, false, ap, sym, ◌∙◌}
use Rattle.gn_attr.specs.Columns as attr
use Rattle.gn_geom.specs.Meshes.{topology_of}
use Rattle.gn_interp.specs.Takings as code
use Rattle.gn_pieces.specs.Behind.{values_behind, values_of}
use Rattle.gn_pieces.specs.Views.{has_one_place}
use Rattle.gn_pieces.proofs.Found.{on_ok}
use Rattle.gn_pieces.proofs.Reading.{adapted_values, fits_adapted}
use Rattle.gn_pieces.proofs.columns.push_on.Goals as goal

pub adapt-requires-clause-count : goal.adapt-requires-clause-count
adapt-requires-clause-count c =
    let is = c.topology.ensures in
    let here : code.topology_of c.topology.result ≡ topology_of c.mesh.result.now.shape = λ i. record { points = is.points i; edges = is.edges i; corner_points = is.corner_points i; corner_edges = is.corner_edges i; faces = is.faces i } in
    let many : has_one_place c.args.component ≡ false = sym c.has_one_place.ensures ∙ c.if-has_one_place.false in
    fits_adapted c.args.component c.args.view.now.geometry.now c.mesh.result.now (code.topology_of c.topology.result) c.args.from c.args.column.now many c.mesh.ensures here is.valid c.requires

pub returns : goal.returns
returns c =
    let is = c.topology.ensures in
    let here : code.topology_of c.topology.result ≡ topology_of c.mesh.result.now.shape = λ i. record { points = is.points i; edges = is.edges i; corner_points = is.corner_points i; corner_edges = is.corner_edges i; faces = is.faces i } in
    let many : has_one_place c.args.component ≡ false = sym c.has_one_place.ensures ∙ c.if-has_one_place.false in
    on_ok c.push_first-2.result _ _ c.push_first-2.ensures (λ pushed.
    pushed ∙ ap (values_behind (values_of c.args.values.now))
    (adapted_values c.args.component c.args.view.now.geometry.now c.args.view.now.placing c.mesh.result.now (code.topology_of c.topology.result) c.args.from c.args.to (attr.values_of c.args.column.now)
    (attr.values_of c.in_ok-adapted.adapted) c.count-count.result many c.mesh.ensures here is.valid c.in_ok-adapted.ensures.values c.count-count.ensures))
