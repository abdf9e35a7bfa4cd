use Rattle.std.proofs.Common.{rules}
use Rattle.gn_turn.proofs.Steps.{joins}
use Rattle.gn_turn.proofs.pass.Turn.join.Goals as goal

pub join_seat-requires : goal.join_seat-requires
join_seat-requires g c = (search rules, search rules, search rules, search rules, joins g.S.Guarded.job g.S.Guarded.journal g.S.Guarded.good _ _ _ _ _ (search rules) (search rules) c.requires.free.0 c.requires.free.1)
