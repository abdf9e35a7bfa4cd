use Rattle.gn_origin.proofs.plans.moved.Given as goal

abbrev pub ghost-end_of : goal.ghost-end_of
ghost-end_of g a = g.steps

abbrev pub ghost-constants : goal.ghost-constants
ghost-constants g a = g.steps
