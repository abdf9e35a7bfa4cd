use Rattle.gn_value.specs.Arithmetic.{mean_of}
use Rattle.gn_interp.specs.declared.gather.Total.{Total}
use Rattle.gn_interp.specs.Gathered.{total_of}
use Rattle.gn_interp.proofs.Gathering.{gathered_over}
use Rattle.gn_interp.proofs.gather.means.Goals as goal

pub returns-clause-means : goal.returns-clause-means
returns-clause-means c =
    gathered_over (λ (t : Total). mean_of t.sum t.count) (total_of c.args.values.now) c.args.takings.now c.in_ok-totals.totals.items c.deref-total-items.result.now c.loop-total.means.items c.loop-total.total-index
    c.loop-total.invariant c.loop-total-test.false c.deref-total-items.ensures.value c.in_ok-totals.ensures.totals
