use Rattle.std.proofs.Common.{Result, Ok, Err, OnErr, ap, ◌∙◌}
use Rattle.gn_attr.specs.Handles.{has_one_part, noted_if}
use Rattle.gn_geometry.specs.Notes.{NotesFirst}
use Rattle.gn_geometry.specs.Meshes.{arrays_of, shape_copies}
use Rattle.gn_geometry.proofs.arrays.Arrays.second.Goals as goal

on_err : {A E : Type 0} (P : Type 0) (r : Result A E) → P → OnErr r P
on_err P (Ok x) h = tt
on_err P (Err e) h = h

pub returns-in_err-faces-clause-refused : goal.returns-in_err-faces-clause-refused
returns-in_err-faces-clause-refused g c =
    on_err (NotesFirst (shape_copies (arrays_of c.args.self.now)) c.args.meter.now c.second-3.new.meter) c.from_residual-in_err-faces.result
    (2, c.in_err-faces.ensures.refused ∙ (c.in_ok-edges.ensures.noted ∙ ap (noted_if (has_one_part c.args.self.now.edges)) c.in_ok-points.ensures.noted))

pub returns-in_err-corner_points-clause-refused : goal.returns-in_err-corner_points-clause-refused
returns-in_err-corner_points-clause-refused g c =
    on_err (NotesFirst (shape_copies (arrays_of c.args.self.now)) c.args.meter.now c.second-4.new.meter) c.from_residual-in_err-corner_points.result
    (3, c.in_err-corner_points.ensures.refused ∙ (c.in_ok-faces.ensures.noted ∙ ap (noted_if (has_one_part c.args.self.now.faces)) (c.in_ok-edges.ensures.noted ∙ ap (noted_if (has_one_part c.args.self.now.edges)) c.in_ok-points.ensures.noted)))

pub returns-in_err-corner_edges-clause-refused : goal.returns-in_err-corner_edges-clause-refused
returns-in_err-corner_edges-clause-refused g c =
    on_err (NotesFirst (shape_copies (arrays_of c.args.self.now)) c.args.meter.now c.second-5.new.meter) c.from_residual-in_err-corner_edges.result
    (4, c.in_err-corner_edges.ensures.refused ∙ (c.in_ok-corner_points.ensures.noted ∙ ap (noted_if (has_one_part c.args.self.now.corner_points)) (c.in_ok-faces.ensures.noted ∙ ap (noted_if (has_one_part c.args.self.now.faces)) (c.in_ok-edges.ensures.noted ∙ ap (noted_if (has_one_part c.args.self.now.edges)) c.in_ok-points.ensures.noted))))

pub returns-in_err-loose-clause-refused : goal.returns-in_err-loose-clause-refused
returns-in_err-loose-clause-refused g c =
    on_err (NotesFirst (shape_copies (arrays_of c.args.self.now)) c.args.meter.now c.second-6.new.meter) c.from_residual-in_err-loose.result
    (5, c.in_err-loose.ensures.refused ∙ (c.in_ok-corner_edges.ensures.noted ∙ ap (noted_if (has_one_part c.args.self.now.corner_edges)) (c.in_ok-corner_points.ensures.noted ∙ ap (noted_if (has_one_part c.args.self.now.corner_points)) (c.in_ok-faces.ensures.noted ∙ ap (noted_if (has_one_part c.args.self.now.faces)) (c.in_ok-edges.ensures.noted ∙ ap (noted_if (has_one_part c.args.self.now.edges)) c.in_ok-points.ensures.noted)))))
