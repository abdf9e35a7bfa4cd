use Rattle.std.proofs.Common.{ℕ, ◌<◌, length, subst}
use Rattle.std.specs.List.{All}
use Rattle.gn_geometry.specs.declared.geometry.Transform.{Transform}
use Rattle.gn_geometry.specs.Geometries.{InstancesView, parts_in}
use Rattle.gn_inst.proofs.placed.items_of.Goals as goal

pub returns-clause-named : goal.returns-clause-named
returns-clause-named c =
    subst (λ (is : InstancesView). All (λ (i : Transform × ℕ). i.1 < length (parts_in is)) c.items.result.now) c.instances_of.ensures c.items.ensures.named
