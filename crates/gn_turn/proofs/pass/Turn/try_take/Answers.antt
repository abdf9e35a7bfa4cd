use Rattle.std.proofs.Common.{rules, Some}
use Rattle.gn_turn.proofs.Steps.{claims, with_rest}
use Rattle.gn_turn.proofs.pass.Turn.try_take.Goals as goal

pub compare_exchange-found-requires : goal.compare_exchange-found-requires
compare_exchange-found-requires g c = (search rules, search rules, claims g.S.Guarded.job g.S.Guarded.journal g.S.Guarded.good _ _ _ _ (search rules) c.requires.free (search rules))

pub exchange-requires : goal.exchange-requires
exchange-requires g c = let gains = c.compare_exchange-found.ensures.2.0 c.if-found-ne-FREE.false in (search rules, (Some gains.state, with_rest _ _ _ gains.out))
