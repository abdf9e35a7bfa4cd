use Rattle.std.proofs.Common.{◌≡◌, Result, Ok, Err, OnErr, ap, sym, subst, ◌∙◌}
use Rattle.gn_attr.proofs.Twins.{keeps_all}
use Rattle.gn_geometry.specs.Notes.{noted_each, NotesFirst}
use Rattle.gn_geometry.specs.Meshes.{MeshView, KeepsMesh, arrays_of, shape_copies, column_copies, mesh_copies}
use Rattle.gn_geometry.proofs.Moved.{is_mesh_kept, is_mesh_twin}
use Rattle.gn_geometry.proofs.Noted.{first_of, then_first, some_columns, noted_append, noted_columns}
use Rattle.gn_geometry.proofs.mesh.Mesh.second.Goals as goal

on_err : {A E : Type 0} (P : Type 0) (r : Result A E) → P → OnErr r P
on_err P (Ok x) h = tt
on_err P (Err e) h = h

pub returns-in_err-arrays-clause-kept : goal.returns-in_err-arrays-clause-kept
returns-in_err-arrays-clause-kept g c =
    let after : MeshView = record { shape = arrays_of c.second.new.self; columns = c.self.inside.columns } in
    subst (λ (m : MeshView). KeepsMesh m after) c.self.view_is (record { shape = c.second.ensures.kept; columns = keeps_all c.self.inside.columns })

pub returns-in_err-arrays-clause-refused : goal.returns-in_err-arrays-clause-refused
returns-in_err-arrays-clause-refused g c =
    let Stops : MeshView → Type 0 = λ m. NotesFirst (mesh_copies m) c.args.meter.now c.second.new.meter in
    on_err (Stops c.args.self.now) c.from_residual.result
    (subst Stops c.self.view_is (first_of (shape_copies (arrays_of c.self.inside.arrays)) (column_copies c.self.inside.columns) c.args.meter.now c.second.new.meter c.in_err-arrays.ensures.refused))

pub invariant_of-self-in_err-columns : goal.invariant_of-self-in_err-columns
invariant_of-self-in_err-columns g c = is_mesh_kept _ _ c.second.ensures.kept c.second-2.ensures.kept c.self.invariant

pub returns-in_err-columns-clause-refused : goal.returns-in_err-columns-clause-refused
returns-in_err-columns-clause-refused g c =
    let Stops : MeshView → Type 0 = λ m. NotesFirst (mesh_copies m) c.args.meter.now c.second-2.new.meter in
    on_err (Stops c.args.self.now) c.from_residual-in_err-columns.result
    (subst Stops c.self.view_is
    (then_first (shape_copies (arrays_of c.self.inside.arrays)) (column_copies c.self.inside.columns) c.args.meter.now c.second.new.meter c.second-2.new.meter c.in_ok-arrays.ensures.noted
    (some_columns c.self.inside.columns c.second.new.meter c.second-2.new.meter c.in_err-columns.ensures.refused)))

pub invariant_of-result : goal.invariant_of-result
invariant_of-result g c = is_mesh_twin _ _ c.in_ok-arrays.ensures.twin c.in_ok-columns.ensures.twins c.self.invariant

pub invariant_of-self-2 : goal.invariant_of-self-2
invariant_of-self-2 g c = is_mesh_kept _ _ c.second.ensures.kept c.second-2.ensures.kept c.self.invariant

pub returns-clause-noted : goal.returns-clause-noted
returns-clause-noted g c =
    let shape = shape_copies (arrays_of c.self.inside.arrays) in
    let columns = column_copies c.self.inside.columns in
    subst (λ (m : MeshView). c.second-2.new.meter ≡ noted_each (mesh_copies m) c.args.meter.now) c.self.view_is
    (c.in_ok-columns.ensures.noted
    ∙ (noted_columns c.self.inside.columns c.second.new.meter ∙ (ap (noted_each columns) c.in_ok-arrays.ensures.noted ∙ sym (noted_append shape columns c.args.meter.now))))
