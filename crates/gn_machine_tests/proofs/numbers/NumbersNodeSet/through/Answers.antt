use Rattle.std.proofs.Common.{◌≡◌, ◌+◌, ◌≤◌, drop, get_or, length, sym, subst, arith, rules}
use Rattle.gn_node_set.specs.Meanings.{converted}
use Rattle.gn_machine_tests.specs.Numbers.{rows, sum}
use Rattle.gn_machine_tests.proofs.Counting.{one_more, all_made}
use Rattle.gn_machine_tests.proofs.numbers.NumbersNodeSet.through.Goals as goal

pub loop-kind-preserved : goal.loop-kind-preserved
loop-kind-preserved c =
    let is : c.saturating_add-number.result ≡ sum c.loop-kind.number (get_or c.args.kinds.now c.loop-kind.kind-index 0) = search rules in
    record {
      left = subst (λ number. converted rows number (drop (c.loop-kind.kind-index + 1) c.args.kinds.now) ≡ converted rows c.args.value c.args.kinds.now) (sym is)
          (one_more c.loop-kind.number (converted rows c.args.value c.args.kinds.now) c.args.kinds.now c.loop-kind.kind-index c.loop-kind-test.true c.loop-kind.invariant.left);
    }

pub returns-clause-converts : goal.returns-clause-converts
returns-clause-converts c =
    let past : length c.args.kinds.now ≤ c.loop-kind.kind-index = omega (arith, c.loop-kind-test.false) in
    all_made c.loop-kind.number (converted rows c.args.value c.args.kinds.now) c.args.kinds.now c.loop-kind.kind-index past c.loop-kind.invariant.left
