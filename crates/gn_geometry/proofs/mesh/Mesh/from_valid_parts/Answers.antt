use Rattle.gn_geometry.proofs.Moved.{is_mesh_made}
use Rattle.gn_geometry.proofs.mesh.Mesh.from_valid_parts.Goals as goal

pub invariant_of-result : goal.invariant_of-result
invariant_of-result c = is_mesh_made _ _ c.in_ok-arrays.ensures.topology c.in_ok-arrays.ensures.loose c.new.ensures c.requires.valid c.requires.numbered
