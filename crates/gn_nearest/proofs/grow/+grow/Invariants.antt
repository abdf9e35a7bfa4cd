use Rattle.std.proofs.Common.{◌+◌, ◌*◌, length}
use Rattle.gn_nearest.proofs.grow.+grow.Given as goal

abbrev pub decreases-grow : goal.decreases-grow
decreases-grow l = 2 * length l.entries.now + 1

abbrev pub decreases-grow_halves : goal.decreases-grow_halves
decreases-grow_halves l = 2 * length l.entries.now
