-- The bytes taken so far are those that the writer has gained.
use Rattle.std.proofs.Common.{◌≤◌, length, take}
use Rattle.std.specs.Io.KnownBytes.{Appends}
use Rattle.gn_io.proofs.std_sink.write_until_fault.Given as goal

abbrev pub invariant-loop : goal.invariant-loop
invariant-loop g l = record {
  bound : l.taken ≤ length l.bytes;
  writes : Appends (g.W.Write.contents l.initial.to) (g.W.Write.contents l.to) (take l.taken l.bytes);
}
