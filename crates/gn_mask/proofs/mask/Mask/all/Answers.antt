use Rattle.std.proofs.Common.{◌^◌, ◌+◌, max, arith}
use Rattle.gn_mask.proofs.Segments.{raise}
use Rattle.gn_mask.proofs.mask.Mask.all.Goals as goal

pub invariant_of-result : goal.invariant_of-result
invariant_of-result c = raise 0 (max 0 c.args.count + 1) (2 ^ 32) c.append.new.segments.items (omega arith) c.in_ok-append.ensures.rises
