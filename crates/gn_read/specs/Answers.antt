-- What reading a tree and checking it says of the bytes.
use Rattle.std.specs.Prelude.{◌≡◌, ℕ, ◌⊎◌, List, Some, None, Result, Ok, Err, string_bytes}
use Rattle.serde_json.specs.Data.{Data}
use Rattle.gn_pointers.specs.Pointers.{Pointer}
use Rattle.gn_pointers.specs.Texts.{pointer_text}
use Rattle.gn_tree.specs.Trees.{Tree}
use Rattle.gn_json.specs.Exact.{tree_from}
use Rattle.gn_json.specs.Answers.{json, FirstMisfit}
use Rattle.gn_rules.specs.declared.rule.Rule.{Rule}
use Rattle.gn_rules.specs.Number.{number_of}
use Rattle.gn_rules.specs.Rules.{IsNamed, KeepsRules}
use Rattle.gn_check.specs.Answers.{tree_in}
use Rattle.gn_check.specs.declared.good.GoodTree.{GoodTree}
use Rattle.gn_check.specs.declared.fault.CheckFault.{CheckFault}
use Rattle.gn_check.specs.declared.fault.CheckFault.TheVariants as check
use Rattle.gn_read.specs.declared.fault.TreeFault.{TreeFault}
use Rattle.gn_read.specs.declared.fault.TreeFault.TheVariants as fault

-- the value is not of a tree's form, first at the pointer
abbrev pub IsMisfitAt : List ℕ → ℕ → Pointer → Type 0
IsMisfitAt bytes number pointer = (d : Data) × FirstMisfit bytes d (Some pointer) × (number ≡ 1)

-- the value is of the form, and of the other rules this is the least that its tree breaks, first at the pointer
abbrev pub IsRuleAt : List ℕ → ℕ → Pointer → Type 0
IsRuleAt bytes number pointer = (d : Data) × (t : Tree) × (r : Rule) × FirstMisfit bytes d None × (tree_from d ≡ Some t) × (number ≡ number_of r) × IsNamed t r pointer

abbrev pub Answers : List ℕ → Result GoodTree TreeFault → Type 0
Answers bytes (Ok good) = (d : Data) × FirstMisfit bytes d None × (tree_from d ≡ Some (tree_in good)) × KeepsRules (tree_in good)
Answers bytes (Err fault.Text) = json bytes ≡ None
Answers bytes (Err (fault.Form text number)) = (pointer : Pointer) × (string_bytes text ≡ pointer_text pointer) × (IsMisfitAt bytes number pointer ⊎ IsRuleAt bytes number pointer)
Answers bytes (Err fault.Memory) = Unit {0}

abbrev pub Passes : Result GoodTree CheckFault → Result GoodTree TreeFault → Type 0
Passes (Ok good) (Ok same) = good ≡ same
Passes (Err (check.Form text number)) (Err (fault.Form same also)) = (text ≡ same) × (number ≡ also)
Passes _ (Err fault.Memory) = Unit {0}
Passes _ _ = ⊥
