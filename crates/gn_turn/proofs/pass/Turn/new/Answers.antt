use Rattle.std.proofs.Common.{sym, ap}
use Rattle.gn_turn.proofs.Steps.{starts}
use Rattle.gn_turn.proofs.pass.Turn.new.Goals as goal

pub new-requires : goal.new-requires
new-requires g c = rw (c.in_ok-slots.ensures.ok) (starts g.S.Guarded.job g.S.Guarded.journal g.S.Guarded.good _ c.args.state c.requires.good (ap g.S.Guarded.job (sym c.of-about.ensures)) c.requires.fresh)
