use Rattle.gn_nearest.proofs.search.+descend.Given as goal

abbrev pub decreases-descend : goal.decreases-descend
decreases-descend l = l.number
