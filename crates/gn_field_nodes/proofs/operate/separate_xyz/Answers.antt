use Rattle.gn_value.specs.declared.op.Axis.TheVariants.{X, Y, Z}
use Rattle.gn_field_nodes.proofs.operate.separate_xyz.Goals as goal

pub push_operation-requires-after_bounds : goal.push_operation-requires-after_bounds
push_operation-requires-after_bounds g c κs within = c.requires X

pub push_operation-requires-2-after_bounds : goal.push_operation-requires-2-after_bounds
push_operation-requires-2-after_bounds g c κs within = c.requires Y

pub push_operation-requires-3-after_bounds : goal.push_operation-requires-3-after_bounds
push_operation-requires-3-after_bounds g c κs within = c.requires Z
