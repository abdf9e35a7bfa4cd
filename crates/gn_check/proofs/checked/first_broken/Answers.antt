use Rattle.std.proofs.Common.{sym, ◌∙◌}
use Rattle.gn_tree.specs.Seen.{tree_of}
use Rattle.gn_check.proofs.Naming.{least_named}
use Rattle.gn_check.proofs.checked.first_broken.Goals as goal

pub returns-then-is_some : goal.returns-then-is_some
returns-then-is_some c = least_named (tree_of c.args.tree.now) c.in_ok-found.found c.first_of.result (sym c.is_some.ensures ∙ c.if-is_some.true) c.in_ok-found.ensures c.first_of.ensures
