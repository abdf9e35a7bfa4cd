use Rattle.std.proofs.Common.{◌≡◌}
use Rattle.gn_turn.proofs.pass.Turn.take.Given as goal

-- a lost try leaves the pass as it was
abbrev pub invariant-loop : goal.invariant-loop
invariant-loop g l = record {
  same_turn : l.pass.seat.table_id ≡ l.initial.pass.seat.table_id;
  same_seat : l.pass.seat.me ≡ l.initial.pass.seat.me;
}
