use Rattle.gn_origin.proofs.plans.plan_at.Given as goal

abbrev pub ghost-moved : goal.ghost-moved
ghost-moved g a = g.steps
