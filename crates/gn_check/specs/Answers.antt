-- What `check` returns.
use Rattle.std.specs.Prelude.{◌≡◌, Result, Ok, Err, string_bytes}
use Rattle.gn_pointers.specs.Pointers.{Pointer}
use Rattle.gn_pointers.specs.Texts.{pointer_text}
use Rattle.gn_tree.specs.Trees as trees
use Rattle.gn_tree.specs.Seen.{tree_of}
use Rattle.gn_rules.specs.declared.rule.Rule.{Rule}
use Rattle.gn_rules.specs.Number.{number_of}
use Rattle.gn_rules.specs.Rules.{IsNamed, KeepsRules}
use Rattle.gn_check.specs.declared.good.GoodTree.{GoodTree}
use Rattle.gn_check.specs.declared.fault.CheckFault.{CheckFault}
use Rattle.gn_check.specs.declared.fault.CheckFault.TheVariants as fault

abbrev pub tree_in : GoodTree → trees.Tree
tree_in good = tree_of good.tree

-- the tree keeps the rules; or the fault names the least one that it breaks, with the first pointer where it does
abbrev pub Answers : trees.Tree → Result GoodTree CheckFault → Type 0
Answers tree (Ok good) = (tree_in good ≡ tree) × KeepsRules tree
Answers tree (Err (fault.Form text number)) = (r : Rule) × (pointer : Pointer) × (number ≡ number_of r) × (string_bytes text ≡ pointer_text pointer) × IsNamed tree r pointer
Answers tree (Err fault.Memory) = Unit {0}
