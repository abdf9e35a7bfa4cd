-- What the check says of the tree, as what is said of the bytes.
use Rattle.std.proofs.Common.{◌≡◌, ℕ, List, Some, Result, Ok, Err, string_bytes, inr, sym, ap, ◌∙◌, subst}
use Rattle.gn_tree.specs.Seen.{tree_of}
use Rattle.gn_tree.specs.declared.tree.Tree.{Tree}
use Rattle.gn_json.specs.Answers as json
use Rattle.std.specs.Prelude.{String}
use Rattle.std.specs.declared.alloc.Global.{Global}
use Rattle.gn_rules.specs.Rules.{KeepsRules}
use Rattle.gn_check.specs.Answers as checked
use Rattle.gn_check.specs.Answers.{tree_in}
use Rattle.gn_check.specs.declared.good.GoodTree.{GoodTree}
use Rattle.gn_check.specs.declared.fault.CheckFault.{CheckFault}
use Rattle.gn_check.specs.declared.fault.CheckFault.TheVariants as check
use Rattle.gn_read.specs.Answers.{Answers, Passes}
use Rattle.gn_read.specs.declared.fault.TreeFault.{TreeFault}
use Rattle.gn_read.specs.declared.fault.TreeFault.TheVariants as fault

same_tree : (t : Tree) (good same : GoodTree) → tree_in good ≡ tree_of t → good ≡ same → tree_of t ≡ tree_in same
same_tree t good same a e = sym a ∙ ap tree_in e

good_answer : (bytes : List ℕ) (t : Tree) (good same : GoodTree) → json.Answers bytes (Ok t) → checked.Answers (tree_of t) (Ok good) → good ≡ same → Answers bytes (Ok same)
good_answer bytes t good same j a e = (j.0, j.1, j.2 ∙ ap (λ x. Some x) (same_tree t good same a.0 e), subst KeepsRules (same_tree t good same a.0 e) a.1)

named_answer : (bytes : List ℕ) (t : Tree) (text other : String Global) (number also : ℕ) → json.Answers bytes (Ok t) → checked.Answers (tree_of t) (Err (check.Form text number)) → text ≡ other → number ≡ also → Answers bytes (Err (fault.Form other also))
named_answer bytes t text other number also j a e f =
    (a.1, ap string_bytes (sym e) ∙ a.3, inr (j.0, tree_of t, a.0, j.1, j.2, sym f ∙ a.2, a.4))

pub passed : (bytes : List ℕ) (t : Tree) (c : Result GoodTree CheckFault) (r : Result GoodTree TreeFault) → json.Answers bytes (Ok t) → checked.Answers (tree_of t) c → Passes c r → Answers bytes r
passed bytes t (Ok good) (Ok same) j a p = good_answer bytes t good same j a p
passed bytes t (Err (check.Form text number)) (Err (fault.Form other also)) j a p = named_answer bytes t text other number also j a p.0 p.1
passed bytes t c (Err fault.Memory) j a p = tt
passed bytes t (Ok good) (Err fault.Text) j a p = elim p [ ]
passed bytes t (Ok good) (Err (fault.Form text number)) j a p = elim p [ ]
passed bytes t (Err x) (Ok good) j a p = absurd (not_passed x good p)
  where
    not_passed : (x : CheckFault) (good : GoodTree) → Passes (Err x) (Ok good) → ⊥
    not_passed (check.Form text number) good p = p
    not_passed check.Memory good p = p
passed bytes t (Err (check.Form text number)) (Err fault.Text) j a p = elim p [ ]
passed bytes t (Err check.Memory) (Err fault.Text) j a p = elim p [ ]
passed bytes t (Err check.Memory) (Err (fault.Form text number)) j a p = elim p [ ]
