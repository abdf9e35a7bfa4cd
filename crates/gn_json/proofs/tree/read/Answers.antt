use Rattle.serde_json.specs.View.{view}
use Rattle.gn_json.proofs.Top.{judged_answers, is_tree_where_fit}
use Rattle.gn_json.proofs.Formed.{read_is_formed}
use Rattle.gn_json.proofs.tree.read.Goals as goal

pub returns-in-Ok-clause-answers : goal.returns-in-Ok-clause-answers
returns-in-Ok-clause-answers c =
    judged_answers c.args.bytes.now (view c.in-Ok.value) c.first_misfit.result c.judge.result c.in-Ok.ensures.ok.0 c.in-Ok.ensures.ok.1 c.first_misfit.ensures.first c.judge.ensures

pub returns-in-Ok-clause-formed : goal.returns-in-Ok-clause-formed
returns-in-Ok-clause-formed c = read_is_formed c.args.bytes.now c.judge.result (returns-in-Ok-clause-answers c)

pub returns-in-Ok-clause-whole : goal.returns-in-Ok-clause-whole
returns-in-Ok-clause-whole c = is_tree_where_fit c.args.bytes.now
