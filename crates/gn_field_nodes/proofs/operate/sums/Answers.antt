use Rattle.gn_field.specs.declared.input.Part.TheVariants.{Leading, Trailing, Total}
use Rattle.gn_field_nodes.proofs.operate.sums.Goals as goal

pub push_step-requires-after_bounds : goal.push_step-requires-after_bounds
push_step-requires-after_bounds g c κs within = rw c.sum.ensures (c.requires Leading)

pub push_step-requires-2-after_bounds : goal.push_step-requires-2-after_bounds
push_step-requires-2-after_bounds g c κs within = rw c.sum-2.ensures (c.requires Trailing)

pub push_step-requires-3-after_bounds : goal.push_step-requires-3-after_bounds
push_step-requires-3-after_bounds g c κs within = rw c.sum-3.ensures (c.requires Total)
