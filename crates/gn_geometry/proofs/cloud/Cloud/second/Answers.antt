use Rattle.std.proofs.Common.{◌≡◌, Result, Ok, Err, OnErr, [], ◌∷◌, ap, subst, ◌∙◌}
use Rattle.gn_attr.specs.Handles.{has_one_part}
use Rattle.gn_attr.proofs.Twins.{keeps_all}
use Rattle.gn_geometry.specs.Notes.{noted_each, NotesFirst}
use Rattle.gn_geometry.specs.Meshes.{column_copies}
use Rattle.gn_geometry.specs.Clouds.{CloudView, KeepsCloud, cloud_copies}
use Rattle.gn_geometry.proofs.Moved.{is_cloud_kept, is_cloud_twin}
use Rattle.gn_geometry.proofs.Noted.{then_first, some_columns, noted_columns}
use Rattle.gn_geometry.proofs.cloud.Cloud.second.Goals as goal

on_err : {A E : Type 0} (P : Type 0) (r : Result A E) → P → OnErr r P
on_err P (Ok x) h = tt
on_err P (Err e) h = h

pub returns-in_err-points-clause-kept : goal.returns-in_err-points-clause-kept
returns-in_err-points-clause-kept g c =
    let after : CloudView = record { points = c.second.new.array; columns = c.self.inside.columns } in
    subst (λ (d : CloudView). KeepsCloud d after) c.self.view_is (record { points = c.second.ensures.kept; columns = keeps_all c.self.inside.columns })

pub invariant_of-self-in_err-columns : goal.invariant_of-self-in_err-columns
invariant_of-self-in_err-columns g c = is_cloud_kept _ _ c.second.ensures.kept.0 c.second-2.ensures.kept c.self.invariant

pub returns-in_err-columns-clause-refused : goal.returns-in_err-columns-clause-refused
returns-in_err-columns-clause-refused g c =
    let Stops : CloudView → Type 0 = λ d. NotesFirst (cloud_copies d) c.args.meter.now c.second-2.new.meter in
    on_err (Stops c.args.self.now) c.from_residual-in_err-columns.result
    (subst Stops c.self.view_is
    (then_first (has_one_part c.self.inside.points ∷ []) (column_copies c.self.inside.columns) c.args.meter.now c.second.new.meter c.second-2.new.meter c.in_ok-points.ensures.noted
    (some_columns c.self.inside.columns c.second.new.meter c.second-2.new.meter c.in_err-columns.ensures.refused)))

pub invariant_of-result : goal.invariant_of-result
invariant_of-result g c = is_cloud_twin _ _ c.in_ok-points.ensures.twin.0 c.in_ok-columns.ensures.twins c.self.invariant

pub invariant_of-self-2 : goal.invariant_of-self-2
invariant_of-self-2 g c = is_cloud_kept _ _ c.second.ensures.kept.0 c.second-2.ensures.kept c.self.invariant

pub returns-clause-noted : goal.returns-clause-noted
returns-clause-noted g c =
    subst (λ (d : CloudView). c.second-2.new.meter ≡ noted_each (cloud_copies d) c.args.meter.now) c.self.view_is
    (c.in_ok-columns.ensures.noted ∙ (noted_columns c.self.inside.columns c.second.new.meter ∙ ap (noted_each (column_copies c.self.inside.columns)) c.in_ok-points.ensures.noted))
