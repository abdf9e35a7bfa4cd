use Rattle.std.proofs.Common.{arith}
use Rattle.std.proofs.lemmas.Grind.{common_steps}
use Rattle.gn_shared.specs.Machine.{World}
use Rattle.gn_shared.proofs.Kept.{make_closes}
use Rattle.gn_shared.proofs.world.Tables.make.Goals as goal

pub invariant_of-self-2 : goal.invariant_of-self-2
invariant_of-self-2 c =
    let w : World = record { blocks = c.self.inside.blocks.items; handles = c.self.inside.handles.items; used = c.self.inside.used.items } in
    make_closes w c.args.holder c.len-block.result c.args.items.items c.push_within-3.new.items.items c.push_within.new.items.items c.push_within-2.new.items.items c.self.invariant (grind (arith, common_steps)) (grind (arith, common_steps)) (grind (arith, common_steps)) (grind (arith, common_steps))
