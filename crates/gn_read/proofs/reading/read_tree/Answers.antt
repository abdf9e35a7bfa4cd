use Rattle.gn_read.proofs.Passing.{passed}
use Rattle.gn_read.proofs.reading.read_tree.Goals as goal

pub returns-in-Ok : goal.returns-in-Ok
returns-in-Ok c = passed c.args.bytes.now c.in-Ok.tree c.check.result c.pass.result c.in-Ok.ensures.answers c.check.ensures c.pass.ensures
