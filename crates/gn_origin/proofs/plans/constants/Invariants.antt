use Rattle.gn_origin.proofs.plans.constants.Given as goal

abbrev pub ghost-end_of : goal.ghost-end_of
ghost-end_of g a = g.steps
