use Rattle.std.proofs.Common.{rules, ◌≢◌, length, sym, ◌∙◌}
use Rattle.gn_turn.proofs.Steps.{counts, adds_if}
use Rattle.gn_turn.proofs.pass.Turn.count.Goals as goal

pub load-known-requires : goal.load-known-requires
load-known-requires g c = (search rules, search rules, counts g.S.Guarded.job g.S.Guarded.journal g.S.Guarded.good _ _ _ _ c.requires.lives c.requires.holds)

pub fetch_add-requires : goal.fetch_add-requires
fetch_add-requires g c =
    let same = c.load-known.ensures.2.0 in
    let found = c.load-known.ensures.2.1 in
    let may = c.requires.state in
    let differ : length (g.S.Guarded.journal c.args.state.now.value) ≢ length c.args.seat.now.me.0.known = λ e. c.if-events-known.true (c.requires.events ∙ (e ∙ sym found)) in (
      search rules,
      search rules,
      rw same (adds_if g.S.Guarded.job g.S.Guarded.journal g.S.Guarded.good _ _ _ _ c.args.state.now.value c.requires.lives c.requires.holds c.requires.out may.one_more differ may.short),
    )
