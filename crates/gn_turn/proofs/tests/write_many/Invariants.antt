use Rattle.std.proofs.Common.{◌≡◌, false}
use Rattle.gn_turn.specs.Passes.{view_of, IsSame}
use Rattle.gn_turn.proofs.tests.write_many.Given as goal

-- between two turns the pass is of the same turn, has its parts, and holds nothing
abbrev pub invariant-loop : goal.invariant-loop
invariant-loop g l = record {
  own : IsSame l.initial.pass l.pass;
  free : (view_of l.pass).holds ≡ false;
  parts : (view_of l.pass).parts ≡ (view_of l.initial.pass).parts;
}
