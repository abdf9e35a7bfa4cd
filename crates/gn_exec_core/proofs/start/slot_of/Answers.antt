use Rattle.std.proofs.Common.{◌+◌, ap, ◌∙◌}
use Rattle.gn_exec_core.proofs.Adding.{same_contents}
use Rattle.gn_exec_core.proofs.start.slot_of.Goals as goal

pub returns-in_err-handed-in-Constant-clause-same : goal.returns-in_err-handed-in-Constant-clause-same
returns-in_err-handed-in-Constant-clause-same g c =
    same_contents g.N.NodeSet.content c.args.given.now.items (c.in-Constant.slot + 1) c.handed-in-Constant.new.value c.index_mut-in-Constant.result.now (c.handed-in-Constant.ensures.same ∙ ap g.N.NodeSet.content c.index_mut-in-Constant.ensures.value)

pub returns-in_ok-handed-in-Constant-clause-same : goal.returns-in_ok-handed-in-Constant-clause-same
returns-in_ok-handed-in-Constant-clause-same g c =
    same_contents g.N.NodeSet.content c.args.given.now.items (c.in-Constant.slot + 1) c.handed-in-Constant.new.value c.index_mut-in-Constant.result.now (c.handed-in-Constant.ensures.same ∙ ap g.N.NodeSet.content c.index_mut-in-Constant.ensures.value)
