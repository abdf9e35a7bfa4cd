use Rattle.std.proofs.Common.{◌≡◌, ◌+◌, ◌≤◌, ◌++◌, take, drop}
use Rattle.gn_decimal.specs.Padded.{padded}
use Rattle.gn_decimal.proofs.printer.write_digits.Given as goal

abbrev pub invariant-loop-place : goal.invariant-loop-place
invariant-loop-place l = record {
  digits : padded l.place l.left ++ drop (l.at + l.place) l.into ≡ padded l.count l.number ++ drop (l.at + l.count) l.fn.into;
  before : take (l.at + l.place) l.into ≡ take (l.at + l.place) l.fn.into;
  within : l.place ≤ l.count;
}

abbrev pub decreases-loop-place : goal.decreases-loop-place
decreases-loop-place l = l.place
