use Rattle.std.proofs.Common.{◌≡◌, ◌≤◌, ◌++◌, ℕ, List, drop, flat_map}
use Rattle.gn_io.specs.Outside.{with_bytes}
use Rattle.gn_app.proofs.message.put_pieces.Given as goal

-- what is written so far, and the pieces that are left, are the whole line
abbrev pub invariant-loop-piece : goal.invariant-loop-piece
invariant-loop-piece g l =
    ((written : List ℕ) × (g.E.Sink.held l.err ≡ with_bytes (g.E.Sink.held l.initial.err) written) × (written ++ flat_map (λ p. p.now) (drop l.piece-index l.pieces) ≡ flat_map (λ p. p.now) l.pieces)) × (g.E.Sink.faults l.initial.err ≤ g.E.Sink.faults l.err)
