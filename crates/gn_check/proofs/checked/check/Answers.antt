use Rattle.gn_tree.specs.Seen.{tree_of}
use Rattle.gn_check.proofs.Naming.{tells}
use Rattle.gn_check.proofs.checked.check.Goals as goal

pub judge-requires-clause-named : goal.judge-requires-clause-named
judge-requires-clause-named c = tells (tree_of c.args.tree) c.first_broken-found.result c.requires.1 c.first_broken-found.ensures
