use Rattle.gn_tree.specs.Seen.{tree_of}
use Rattle.gn_meaning.proofs.Formed.{has_form}
use Rattle.gn_graph_tests.proofs.tables.made.Goals as goal

pub tables_of-requires : goal.tables_of-requires
tables_of-requires c = (c.tree.ensures.kept, has_form (tree_of c.tree.result.now) c.tree.ensures.formed)
