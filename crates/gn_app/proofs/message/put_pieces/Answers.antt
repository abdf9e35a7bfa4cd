use Rattle.std.proofs.Common.{inr, arith}
use Rattle.gn_app.proofs.Preparing.{rose_since}
use Rattle.gn_app.proofs.Saying.{more_said, part_said}
use Rattle.gn_app.proofs.message.put_pieces.Goals as goal

pub returns-in-Failed : goal.returns-in-Failed
returns-in-Failed g c =
    let done = c.loop-piece.invariant.0 in
    inr (
      part_said (λ p. p.now) c.args.pieces.now c.loop-piece.piece-index _ done.0 _ c.in-Failed.taken _ _ _ c.loop-piece-test.true done.2 c.as_bytes.ensures.value c.in-Failed.ensures.takes.0 done.1 c.in-Failed.ensures.takes.1,
      rose_since _ _ _ c.loop-piece.invariant.1 c.in-Failed.ensures.failed,
    )

pub loop-piece-preserved : goal.loop-piece-preserved
loop-piece-preserved g c =
    let done = c.loop-piece.invariant.0 in (
      more_said (λ p. p.now) c.args.pieces.now c.loop-piece.piece-index _ done.0 _ _ _ _ c.loop-piece-test.true done.2 c.as_bytes.ensures.value done.1 c.in-All.ensures.takes,
      omega (arith, c.loop-piece.invariant.1, c.put.ensures.faults),
    )
