use Rattle.std.proofs.Common.{sym, subst}
use Rattle.gn_geom.specs.Meshes.{plain_of}
use Rattle.gn_attr.specs.Names.{plain_name}
use Rattle.gn_plain.specs.Columns.{Entry}
use Rattle.gn_attr.specs.declared.column.Column.{Column}
use Rattle.gn_geometry.specs.Fits.{Fits, mesh_count}
use Rattle.gn_geometry.specs.Meshes.{MeshView, arrays_of}
use Rattle.gn_geometry.proofs.Fitting.{fit_set}
use Rattle.gn_geometry.proofs.mesh.Mesh.set_column.Goals as goal

pub invariant_of-self : goal.invariant_of-self
invariant_of-self c =
    let count = mesh_count (plain_of (arrays_of c.self.inside.arrays)) in
    let x : Entry Column = record { name = plain_name c.args.name; place = c.args.place; column = c.args.column } in
    let fits : Fits count c.args.place c.args.column = subst (λ (m : MeshView). Fits (mesh_count (plain_of m.shape)) c.args.place c.args.column) (sym c.self.view_is) c.requires in
    record { shape = c.self.invariant.shape; fit = fit_set count x c.self.inside.columns c.set.new.self c.set.result c.set.ensures.ok c.set.ensures.refused c.self.invariant.fit fits }
