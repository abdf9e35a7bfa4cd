use Rattle.std.proofs.Common.{sym, ◌∙◌}
use Rattle.gn_table.proofs.Finding.{next_outputs}
use Rattle.gn_table.proofs.sockets.find_output.Goals as goal

pub loop-number-preserved : goal.loop-number-preserved
loop-number-preserved c =
    c.loop-number.invariant ∙ next_outputs c.args.chosen c.args.rows.now c.args.name.now c.name.result.now c.loop-number.number _ c.loop-number-test.true c.name.ensures (sym c.eq.ensures ∙ c.if-eq.false)
