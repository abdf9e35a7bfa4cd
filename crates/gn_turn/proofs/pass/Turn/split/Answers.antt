use Rattle.std.proofs.Common.{rules}
use Rattle.gn_turn.proofs.Steps.{splits}
use Rattle.gn_turn.proofs.pass.Turn.split.Goals as goal

pub split_seat-seat-requires : goal.split_seat-seat-requires
split_seat-seat-requires g c = (search rules, search rules, splits g.S.Guarded.job g.S.Guarded.journal g.S.Guarded.good _ _ _ c.requires.parts c.requires.free)
