use Rattle.std.proofs.Common.{map, Bool, false, Option, unwrap_or}
use Rattle.gn_interp.specs.Gathered.{some_truth_over, truth_over, truth_at}
use Rattle.gn_interp.proofs.Gathering.{gathered_over, gathered_as, some_or_false}
use Rattle.gn_interp.proofs.gather.truths.Goals as goal

pub returns-clause-truths : goal.returns-clause-truths
returns-clause-truths c =
    let one = c.args.one_suffices in
    let values = c.args.values.now in
    gathered_as (λ js. unwrap_or (some_truth_over one values js) false) (truth_over one values) c.args.takings.now c.loop-truth.truths.items (λ js. some_or_false one (map (truth_at values) js))
    (gathered_over (λ (o : Option Bool). unwrap_or o false) (some_truth_over one values) c.args.takings.now c.in_ok-taken.taken.items c.deref-truth-items.result.now c.loop-truth.truths.items c.loop-truth.truth-index
    c.loop-truth.invariant c.loop-truth-test.false c.deref-truth-items.ensures.value c.in_ok-taken.ensures.taken)
