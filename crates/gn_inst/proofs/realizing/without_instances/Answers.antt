use Rattle.gn_inst.proofs.RealizedSteps.{nothing_placed, nothing_shared}
use Rattle.gn_inst.proofs.realizing.without_instances.Goals as goal

pub returns-clause-geometry : goal.returns-clause-geometry
returns-clause-geometry c = nothing_placed c.args.mesh c.args.cloud c.from_parts.result c.new.result.items c.new-2.result.items c.from_parts.ensures c.new.ensures.items c.new-2.ensures.items

pub returns-clause-sole : goal.returns-clause-sole
returns-clause-sole c = nothing_shared c.args.mesh c.args.cloud c.from_parts.result c.new.result.items c.new-2.result.items c.from_parts.ensures c.new.ensures.items c.new-2.ensures.items
