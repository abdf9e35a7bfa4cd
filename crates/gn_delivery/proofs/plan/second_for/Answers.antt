use Rattle.std.proofs.Common.{ap, ◌∙◌}
use Rattle.gn_delivery.proofs.Marking.{same_contents}
use Rattle.gn_delivery.proofs.plan.second_for.Goals as goal

pub returns-in_err-value-clause-same : goal.returns-in_err-value-clause-same
returns-in_err-value-clause-same g c =
    same_contents g.N.NodeSet.content c.args.outputs.now.items c.args.reader.now.output c.handed.new.value c.index_mut.result.now (c.handed.ensures.same ∙ ap g.N.NodeSet.content c.index_mut.ensures.value)

pub returns-clause-same : goal.returns-clause-same
returns-clause-same g c =
    same_contents g.N.NodeSet.content c.args.outputs.now.items c.args.reader.now.output c.handed.new.value c.index_mut.result.now (c.handed.ensures.same ∙ ap g.N.NodeSet.content c.index_mut.ensures.value)
