use Rattle.std.proofs.Common.{rules, ◌≡◌, ◌<◌, [], ◌∷◌, Some, None, ap, sym, ◌∙◌, arith}
use Rattle.gn_turn.proofs.Steps.{releases, after_count, alone}
use Rattle.gn_turn.proofs.pass.Turn.give.Goals as goal

pub swap-requires : goal.swap-requires
swap-requires g c =
    let put = c.exchange-none.ensures.3 in
    let now = after_count c.count.new.seat.me.0 c.args.pass.now.seat.me.0 c.exchange-none.new.seat.me _ _ _ _ c.count.ensures.view put (ap g.S.Guarded.journal c.of-given.ensures) in
    let lives : 0 < c.args.pass.now.seat.me.0.parts = search rules in
    let empty : c.args.pass.now.seat.me.1 ≡ (0, None) ∷ [] = search rules in
    let out : c.count.new.seat.me.1 ≡ (0, Some c.args.state) ∷ [] = c.count.ensures.same.1 ∙ alone _ _ _ _ _ _ put empty in (
      search rules,
      search rules,
      releases g.S.Guarded.job g.S.Guarded.journal g.S.Guarded.good _ _ _ _ c.args.state (omega (arith, lives, now.parts)) now.holds out c.requires.state.is_good (c.requires.state.same_job ∙ sym now.job) (sym now.known),
    )
