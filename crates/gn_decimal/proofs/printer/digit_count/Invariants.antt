use Rattle.std.proofs.Common.{◌≡◌, ◌-◌, ◌^◌, ◌<◌, ◌≤◌}
use Rattle.gn_decimal.proofs.printer.digit_count.Given as goal

abbrev pub invariant-loop-power : goal.invariant-loop-power
invariant-loop-power l = record {
  positive : 0 < l.count;
  short : l.count ≤ 10;
  power : l.power ≡ 10 ^ l.count;
  least : 1 < l.count → 10 ^ (l.count - 1) ≤ l.number;
}

abbrev pub decreases-loop-power : goal.decreases-loop-power
decreases-loop-power l = 11 - l.count
