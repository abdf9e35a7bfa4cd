use Rattle.std.proofs.Common.{subst}
use Rattle.gn_uses.specs.Uses.{IsExact}
use Rattle.gn_uses.proofs.Keeping.{exact}
use Rattle.gn_uses.proofs.uses.Uses.ready.Goals as goal

pub returns-clause-exact : goal.returns-clause-exact
returns-clause-exact c = subst IsExact c.self.view_is (exact c.self.inside.parts c.self.inside.progress c.self.inside.taken c.self.invariant)
