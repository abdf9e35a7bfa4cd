use Rattle.std.proofs.Common.{◌≡◌, ◌+◌, ◌*◌, ◌<◌, ◌++◌, length, refl, ap, sym, subst, ◌∙◌, arith, rules, Result, Ok, Err, OnErr}
use Rattle.std.proofs.lemmas.List.Elements.{length_all_zip}
use Rattle.gn_attr.proofs.Twins.{keeps_all}
use Rattle.gn_geometry.specs.Notes.{noted_each, NotesFirst}
use Rattle.gn_geometry.specs.Meshes.{mesh_copies, column_copies}
use Rattle.gn_geometry.specs.Clouds.{cloud_copies}
use Rattle.gn_geometry.specs.Geometries.{GeometryView, geometry, InstancesView, instances, geometry_copies, instance_copies, parts_of, node_count, sizes, IsTwinGeometry, AreTwinInstances, KeepsGeometry, KeepsInstances}
use Rattle.gn_geometry.proofs.Noted.{first_of, then_first, some_columns, noted_append, noted_columns}
use Rattle.gn_geometry.proofs.PartTwins.{all_copies, copies, keeps_parts, twin_parts, part_before, part_le, still_kept, one_more, stopped, stopped_behind, all_made, all_counted}
use Rattle.gn_geometry.proofs.GeometryTwins.{all_kept, all_noted, keeps_cloud, keeps_instances, placed_kept, placed_twin, stopped_second, stopped_third}
use Rattle.gn_geometry.proofs.twins.+twins.Goals as goal

on_err : {A E : Type 0} (P : Type 0) (r : Result A E) → P → OnErr r P
on_err P (Ok x) h = tt
on_err P (Err e) h = h

-- ---- a geometry

pub second_geometry-returns-in_err-mesh-clause-kept : goal.second_geometry-returns-in_err-mesh-clause-kept
second_geometry-returns-in_err-mesh-clause-kept g t c =
    let inside = c.geometry.inside in
    let after : GeometryView = geometry c.second.new.self inside.cloud inside.instances in
    subst (λ (v : GeometryView). KeepsGeometry v after) c.geometry.view_is (c.second.ensures.kept, keeps_cloud inside.cloud, keeps_instances inside.instances)

pub second_geometry-returns-in_err-mesh-clause-refused : goal.second_geometry-returns-in_err-mesh-clause-refused
second_geometry-returns-in_err-mesh-clause-refused g t c =
    let inside = c.geometry.inside in
    let Stops : GeometryView → Type 0 = λ v. NotesFirst (geometry_copies v) c.args.meter.now c.second.new.meter in
    on_err (Stops c.args.geometry.now) c.from_residual.result
    (subst Stops c.geometry.view_is (first_of (mesh_copies inside.mesh) (cloud_copies inside.cloud ++ instance_copies inside.instances) c.args.meter.now c.second.new.meter c.in_err-mesh.ensures.refused))

pub second_geometry-returns-in_err-cloud-clause-kept : goal.second_geometry-returns-in_err-cloud-clause-kept
second_geometry-returns-in_err-cloud-clause-kept g t c =
    let after : GeometryView = geometry c.second.new.self c.second-2.new.self c.geometry.inside.instances in
    subst (λ (v : GeometryView). KeepsGeometry v after) c.geometry.view_is (c.second.ensures.kept, c.second-2.ensures.kept, keeps_instances c.geometry.inside.instances)

pub second_geometry-returns-in_err-cloud-clause-refused : goal.second_geometry-returns-in_err-cloud-clause-refused
second_geometry-returns-in_err-cloud-clause-refused g t c =
    let inside = c.geometry.inside in
    let last = c.second-2.new.meter in
    let Stops : GeometryView → Type 0 = λ v. NotesFirst (geometry_copies v) c.args.meter.now last in
    on_err (Stops c.args.geometry.now) c.from_residual-in_err-cloud.result
    (subst Stops c.geometry.view_is
    (stopped_second (mesh_copies inside.mesh) (cloud_copies inside.cloud) (instance_copies inside.instances) c.args.meter.now c.second.new.meter last last c.in_ok-mesh.ensures.noted c.in_err-cloud.ensures.refused))

pub second_geometry-returns-in_err-instances-clause-kept : goal.second_geometry-returns-in_err-instances-clause-kept
second_geometry-returns-in_err-instances-clause-kept g t c =
    let after : GeometryView = geometry c.second.new.self c.second-2.new.self c.second_instances.new.instances in
    subst (λ (v : GeometryView). KeepsGeometry v after) c.geometry.view_is (c.second.ensures.kept, c.second-2.ensures.kept, c.second_instances.ensures.kept)

pub second_geometry-returns-in_err-instances-clause-refused : goal.second_geometry-returns-in_err-instances-clause-refused
second_geometry-returns-in_err-instances-clause-refused g t c =
    let inside = c.geometry.inside in
    let last = c.second_instances.new.meter in
    let Stops : GeometryView → Type 0 = λ v. NotesFirst (geometry_copies v) c.args.meter.now last in
    on_err (Stops c.args.geometry.now) c.from_residual-in_err-instances.result
    (subst Stops c.geometry.view_is
    (stopped_third (mesh_copies inside.mesh) (cloud_copies inside.cloud) (instance_copies inside.instances) c.args.meter.now c.second.new.meter c.second-2.new.meter last c.in_ok-mesh.ensures.noted c.in_ok-cloud.ensures.noted c.in_err-instances.ensures.refused))

pub second_geometry-returns-clause-kept : goal.second_geometry-returns-clause-kept
second_geometry-returns-clause-kept g t c =
    let after : GeometryView = geometry c.second.new.self c.second-2.new.self c.second_instances.new.instances in
    subst (λ (v : GeometryView). KeepsGeometry v after) c.geometry.view_is (c.second.ensures.kept, c.second-2.ensures.kept, c.second_instances.ensures.kept)

pub second_geometry-returns-clause-twin : goal.second_geometry-returns-clause-twin
second_geometry-returns-clause-twin g t c =
    let twin : GeometryView = geometry c.in_ok-mesh.mesh c.in_ok-cloud.cloud c.in_ok-instances.instances in
    subst (λ (v : GeometryView). IsTwinGeometry v twin) c.geometry.view_is (c.in_ok-mesh.ensures.twin, c.in_ok-cloud.ensures.twin, c.in_ok-instances.ensures.twin)

pub second_geometry-returns-clause-noted : goal.second_geometry-returns-clause-noted
second_geometry-returns-clause-noted g t c =
    let inside = c.geometry.inside in
    let last = c.second_instances.new.meter in
    subst (λ (v : GeometryView). last ≡ noted_each (geometry_copies v) c.args.meter.now) c.geometry.view_is
    (all_noted (mesh_copies inside.mesh) (cloud_copies inside.cloud) (instance_copies inside.instances) c.args.meter.now c.second.new.meter c.second-2.new.meter last c.in_ok-mesh.ensures.noted c.in_ok-cloud.ensures.noted c.in_ok-instances.ensures.noted)

-- ---- instances

pub second_instances-returns-in_err-items-clause-kept : goal.second_instances-returns-in_err-items-clause-kept
second_instances-returns-in_err-items-clause-kept g t c = keeps_instances _

pub second_instances-returns-in_err-parts-clause-kept : goal.second_instances-returns-in_err-parts-clause-kept
second_instances-returns-in_err-parts-clause-kept g t c =
    let inside = c.instances.inside in
    let after : InstancesView = instances (parts_of c.second_parts.new.parts.items) inside.items.items inside.columns in
    subst (λ (v : InstancesView). KeepsInstances v after) c.instances.view_is (keeps_parts _ _ c.second_parts.ensures.kept, refl, keeps_all inside.columns)

pub second_instances-invariant_of-instances : goal.second_instances-invariant_of-instances
second_instances-invariant_of-instances g t c =
    let inside = c.instances.inside in
    placed_kept _ _ inside.items.items inside.columns inside.columns (length_all_zip KeepsGeometry _ _ c.second_parts.ensures.kept) (keeps_all inside.columns) c.instances.invariant

pub second_instances-returns-in_err-parts-clause-refused : goal.second_instances-returns-in_err-parts-clause-refused
second_instances-returns-in_err-parts-clause-refused g t c =
    let inside = c.instances.inside in
    let columns = column_copies inside.columns in
    let last = c.second_parts.new.meter in
    let Stops : InstancesView → Type 0 = λ v. NotesFirst (instance_copies v) c.args.meter.now last in
    on_err (Stops c.args.instances.now) c.from_residual-in_err-parts.result
    (subst Stops c.instances.view_is
    (subst (λ l. NotesFirst (l ++ columns) c.args.meter.now last) (sym (all_copies inside.parts.items)) (first_of (copies inside.parts.items) columns c.args.meter.now last c.in_err-parts.ensures.refused)))

pub second_instances-returns-in_err-columns-clause-kept : goal.second_instances-returns-in_err-columns-clause-kept
second_instances-returns-in_err-columns-clause-kept g t c =
    let after : InstancesView = instances (parts_of c.second_parts.new.parts.items) c.instances.inside.items.items c.second.new.self in
    subst (λ (v : InstancesView). KeepsInstances v after) c.instances.view_is (keeps_parts _ _ c.second_parts.ensures.kept, refl, c.second.ensures.kept)

pub second_instances-invariant_of-instances-in_err-columns : goal.second_instances-invariant_of-instances-in_err-columns
second_instances-invariant_of-instances-in_err-columns g t c =
    placed_kept _ _ c.instances.inside.items.items c.instances.inside.columns c.second.new.self (length_all_zip KeepsGeometry _ _ c.second_parts.ensures.kept) c.second.ensures.kept c.instances.invariant

pub second_instances-returns-in_err-columns-clause-refused : goal.second_instances-returns-in_err-columns-clause-refused
second_instances-returns-in_err-columns-clause-refused g t c =
    let inside = c.instances.inside in
    let columns = column_copies inside.columns in
    let last = c.second.new.meter in
    let Stops : InstancesView → Type 0 = λ v. NotesFirst (instance_copies v) c.args.meter.now last in
    on_err (Stops c.args.instances.now) c.from_residual-in_err-columns.result
    (subst Stops c.instances.view_is
    (subst (λ l. NotesFirst (l ++ columns) c.args.meter.now last) (sym (all_copies inside.parts.items))
    (then_first (copies inside.parts.items) columns c.args.meter.now c.second_parts.new.meter last c.in_ok-parts.ensures.noted (some_columns inside.columns c.second_parts.new.meter last c.in_err-columns.ensures.refused))))

pub second_instances-invariant_of-instances-2 : goal.second_instances-invariant_of-instances-2
second_instances-invariant_of-instances-2 g t c =
    placed_kept _ _ c.instances.inside.items.items c.instances.inside.columns c.second.new.self (length_all_zip KeepsGeometry _ _ c.second_parts.ensures.kept) c.second.ensures.kept c.instances.invariant

pub second_instances-invariant_of-result : goal.second_instances-invariant_of-result
second_instances-invariant_of-result g t c =
    rw c.in_ok-items.ensures (placed_twin _ _ _ c.instances.inside.columns c.in_ok-columns.columns (length_all_zip IsTwinGeometry _ _ c.in_ok-parts.ensures.twins) c.in_ok-columns.ensures.twins c.instances.invariant)

pub second_instances-returns-clause-kept : goal.second_instances-returns-clause-kept
second_instances-returns-clause-kept g t c =
    let after : InstancesView = instances (parts_of c.second_parts.new.parts.items) c.instances.inside.items.items c.second.new.self in
    subst (λ (v : InstancesView). KeepsInstances v after) c.instances.view_is (keeps_parts _ _ c.second_parts.ensures.kept, refl, c.second.ensures.kept)

pub second_instances-returns-clause-twin : goal.second_instances-returns-clause-twin
second_instances-returns-clause-twin g t c =
    let twin : InstancesView = instances (parts_of c.in_ok-parts.parts.items) c.in_ok-items.items.items c.in_ok-columns.columns in
    subst (λ (v : InstancesView). AreTwinInstances v twin) c.instances.view_is (twin_parts _ _ c.in_ok-parts.ensures.twins, c.in_ok-items.ensures, c.in_ok-columns.ensures.twins)

pub second_instances-returns-clause-noted : goal.second_instances-returns-clause-noted
second_instances-returns-clause-noted g t c =
    let inside = c.instances.inside in
    let columns = column_copies inside.columns in
    let last = c.second.new.meter in
    subst (λ (v : InstancesView). last ≡ noted_each (instance_copies v) c.args.meter.now) c.instances.view_is
    (subst (λ l. last ≡ noted_each (l ++ columns) c.args.meter.now) (sym (all_copies inside.parts.items))
    (c.in_ok-columns.ensures.noted
    ∙ (noted_columns inside.columns c.second_parts.new.meter ∙ (ap (noted_each columns) c.in_ok-parts.ensures.noted ∙ sym (noted_append (copies inside.parts.items) columns c.args.meter.now)))))

-- ---- parts

pub second_parts-returns-in_err-twins-clause-kept : goal.second_parts-returns-in_err-twins-clause-kept
second_parts-returns-in_err-twins-clause-kept g t c = all_kept c.args.parts.now.items

pub second_parts-loop-at-init : goal.second_parts-loop-at-init
second_parts-loop-at-init g t c = rw c.in_ok-twins.ensures.items (record { kept = all_kept _; left = refl; made = tt; counts = refl })

-- the part is no larger than all together
pub second_parts-second_geometry-requires : goal.second_parts-second_geometry-requires
second_parts-second_geometry-requires g t c =
    let same = length_all_zip KeepsGeometry _ _ c.loop-at.invariant.kept in
    let within : c.loop-at.at < length c.args.parts.now.items = omega (arith, same, c.loop-at-test.true) in
    let below = part_le c.args.parts.now.items c.loop-at.at c.index_mut.result.now within (part_before _ _ _ _ _ _ _ c.loop-at.invariant c.index_mut.ensures.value) in
    let smaller : node_count c.index_mut.result.now * 2 < sizes (parts_of c.args.parts.now.items) * 2 + 1 = omega (arith, below) in
    search rules

pub second_parts-loop-at-preserved : goal.second_parts-loop-at-preserved
second_parts-loop-at-preserved g t c =
    let same = length_all_zip KeepsGeometry _ _ c.loop-at.invariant.kept in
    let within : c.loop-at.at < length c.args.parts.now.items = omega (arith, same, c.loop-at-test.true) in
    rw c.in_ok-push.ensures.items
    (one_more _ _ _ _ _ _ _ _ c.loop-at.invariant within c.index_mut.ensures.value c.second_geometry.ensures.kept _ _ c.in_ok-twin.ensures.twin c.in_ok-twin.ensures.noted)

pub second_parts-returns-in_err-twin-clause-kept : goal.second_parts-returns-in_err-twin-clause-kept
second_parts-returns-in_err-twin-clause-kept g t c =
    let same = length_all_zip KeepsGeometry _ _ c.loop-at.invariant.kept in
    let within : c.loop-at.at < length c.args.parts.now.items = omega (arith, same, c.loop-at-test.true) in
    still_kept _ _ _ _ _ _ _ _ c.loop-at.invariant within c.index_mut.ensures.value c.second_geometry.ensures.kept

pub second_parts-returns-in_err-twin-clause-refused : goal.second_parts-returns-in_err-twin-clause-refused
second_parts-returns-in_err-twin-clause-refused g t c =
    let same = length_all_zip KeepsGeometry _ _ c.loop-at.invariant.kept in
    let within : c.loop-at.at < length c.args.parts.now.items = omega (arith, same, c.loop-at-test.true) in
    on_err _ _ (stopped _ _ _ _ _ _ _ _ c.loop-at.invariant within c.index_mut.ensures.value c.second_geometry.ensures.kept _ c.in_err-twin.ensures.refused)

pub second_parts-returns-in_err-push-clause-kept : goal.second_parts-returns-in_err-push-clause-kept
second_parts-returns-in_err-push-clause-kept g t c =
    let same = length_all_zip KeepsGeometry _ _ c.loop-at.invariant.kept in
    let within : c.loop-at.at < length c.args.parts.now.items = omega (arith, same, c.loop-at-test.true) in
    still_kept _ _ _ _ _ _ _ _ c.loop-at.invariant within c.index_mut.ensures.value c.second_geometry.ensures.kept

pub second_parts-returns-in_err-push-clause-refused : goal.second_parts-returns-in_err-push-clause-refused
second_parts-returns-in_err-push-clause-refused g t c =
    let same = length_all_zip KeepsGeometry _ _ c.loop-at.invariant.kept in
    let within : c.loop-at.at < length c.args.parts.now.items = omega (arith, same, c.loop-at-test.true) in
    on_err _ _ (stopped_behind _ _ _ _ _ _ _ _ c.loop-at.invariant within c.index_mut.ensures.value c.second_geometry.ensures.kept _ c.in_ok-twin.ensures.noted)

pub second_parts-returns-clause-twins : goal.second_parts-returns-clause-twins
second_parts-returns-clause-twins g t c = all_made _ _ _ _ _ _ c.loop-at.invariant (omega (arith, c.loop-at-test.false))

pub second_parts-returns-clause-noted : goal.second_parts-returns-clause-noted
second_parts-returns-clause-noted g t c = all_counted _ _ _ _ _ _ c.loop-at.invariant (omega (arith, c.loop-at-test.false))
