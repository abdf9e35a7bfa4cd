use Rattle.std.proofs.Common.{◌≡◌, drop}
use Rattle.gn_tree.specs.Seen.{tree_of}
use Rattle.gn_rules.specs.Walk.{named_from}
use Rattle.gn_check.proofs.checked.first_of.Given as goal

abbrev pub invariant-loop-rule : goal.invariant-loop-rule
invariant-loop-rule l = named_from (tree_of l.tree) (drop l.rule-index l.rules) ≡ named_from (tree_of l.tree) l.rules
