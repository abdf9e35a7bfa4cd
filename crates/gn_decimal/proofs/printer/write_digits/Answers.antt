use Rattle.std.proofs.Common.{arith, set, ◌+◌, ◌-◌, ◌/◌, ◌%◌, ◌∙◌}
use Rattle.std.proofs.lemmas.List.{take-set}
use Rattle.gn_decimal.proofs.Padding.{take_less, write_end, write_last, write_two}
use Rattle.gn_decimal.proofs.printer.write_digits.Goals as goal

pub loop-place-preserved : goal.loop-place-preserved
loop-place-preserved c =
    let l = c.loop-place in
    let k = c.args.at + (l.place - 2) in
    let ones = set l.into (k + 1) (48 + l.left % 100 % 10) in
    let behind = take_less k (k + 1) ones l.into (omega arith) (take-set l.into (k + 1) (48 + l.left % 100 % 10)) in
    record {
      digits = rw c.write_pair.ensures (write_two l.place l.left c.args.at l.into _ c.loop-place-test.true (omega arith) l.invariant.digits);
      before = rw c.write_pair.ensures (take-set ones k (48 + l.left % 100 / 10) ∙ behind ∙ take_less k (c.args.at + l.place) l.into c.args.into.now (omega arith) l.invariant.before);
      within = omega arith;
    }

pub returns-then-place-gt0 : goal.returns-then-place-gt0
returns-then-place-gt0 c =
    let l = c.loop-place in
    write_last l.place l.left c.args.at l.into c.args.into.now _ c.if-place-gt0.true c.loop-place-test.false (omega arith) l.invariant.digits l.invariant.before

pub returns-else-place-gt0 : goal.returns-else-place-gt0
returns-else-place-gt0 c =
    let l = c.loop-place in
    write_end l.place l.left c.args.at l.into c.args.into.now _ (omega arith) l.invariant.digits l.invariant.before
