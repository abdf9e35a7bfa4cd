use Rattle.std.proofs.Common.{subst}
use Rattle.gn_check.specs.Answers.{tree_in}
use Rattle.gn_plans.specs.Answers.{Answers}
use Rattle.gn_app.proofs.files.load_plan.Goals as goal

pub returns-in-Ok-None-clause-reads : goal.returns-in-Ok-None-clause-reads
returns-in-Ok-None-clause-reads g c =
    let read = c.in-Ok.ensures.reads in
    (c.in-Ok.loaded.bytes.items, read.0, (tree_in c.in-Ok.loaded.tree, read.1, subst (Answers (tree_in c.in-Ok.loaded.tree)) c.in-Ok-None.field-0-is c.in-Ok-None.ensures))

pub returns-in-Ok-Some-clause-reads : goal.returns-in-Ok-Some-clause-reads
returns-in-Ok-Some-clause-reads g c =
    let read = c.in-Ok.ensures.reads in
    record {
      had = read.0;
      tree = tree_in c.in-Ok.loaded.tree;
      is = read.1;
      plan = subst (Answers (tree_in c.in-Ok.loaded.tree)) c.in-Ok-Some.field-0-is c.in-Ok-Some.ensures;
    }
