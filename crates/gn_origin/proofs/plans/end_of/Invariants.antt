use Rattle.gn_origin.proofs.plans.end_of.Given as goal

abbrev pub ghost-follow : goal.ghost-follow
ghost-follow g a = g.steps
