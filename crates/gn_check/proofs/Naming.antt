-- Rule by rule to the one that is named.
use Rattle.std.proofs.Common.{◌≡◌, ℕ, ◌+◌, ◌<◌, List, length, get_or, drop, Option, Some, None, is_some, true, Result, Ok, Err, IfOk, option_map, sym, ap, ◌∙◌, subst}
use Rattle.std.specs.declared.alloc.Global.{Global}
use Rattle.std.specs.declared.collections.VecDeque.{VecDeque}
use Rattle.std.proofs.lemmas.List.{drop_more}
use Rattle.gn_memory.specs.declared.Memory.{Memory}
use Rattle.gn_pointers.specs.Pointers.{Pointer}
use Rattle.gn_pointers.specs.Seen.{pointer_of}
use Rattle.gn_pointers.specs.declared.step.Step.{Step}
use Rattle.gn_tree.specs.Trees.{Tree}
use Rattle.gn_tree.specs.Rising.{NamesRiseInTree}
use Rattle.gn_rules.specs.declared.rule.Rule.{Rule}
use Rattle.gn_rules.specs.declared.sought.Sought.TheVariants.{Any, Only}
use Rattle.gn_rules.specs.Walk.{first_pointer, named_or, named_from, named_if, all_rules, named, Tells}
use Rattle.gn_rules.proofs.Named.{named_tells}

pub rule_found : (t : Tree) (rules : List Rule) (i : ℕ) (d : Rule) (pointer : Option Pointer) → i < length rules → pointer ≡ first_pointer t (Only (get_or rules i d))
    → named_from t (drop i rules) ≡ named_or (get_or rules i d) pointer (named_from t (drop (i + 1) rules))
rule_found t rules i d pointer h e = ap (named_from t) (drop_more rules i d h) ∙ ap (λ p. named_or (get_or rules i d) p (named_from t (drop (i + 1) rules))) (sym e)

abbrev pub named_in : Option (Rule × VecDeque Step Global) → Option (Rule × Pointer)
named_in found = option_map (λ x. (x.0, pointer_of x.1)) found

-- where some rule is broken, the least one is the first of those that are gone through
pub least_named : (t : Tree) (found : Option (VecDeque Step Global)) (r : Result (Option (Rule × VecDeque Step Global)) Memory) → is_some found ≡ true → option_map pointer_of found ≡ first_pointer t Any
    → IfOk r (λ x. named_in x ≡ named_from t all_rules) → IfOk r (λ x. named_in x ≡ named t)
least_named t None r e f h = absurd (cc)
least_named t (Some pointer) (Ok x) e f h = h ∙ ap (named_if t) f
least_named t (Some pointer) (Err m) e f h = tt

pub tells : (t : Tree) (r : Result (Option (Rule × VecDeque Step Global)) Memory) → NamesRiseInTree t → IfOk r (λ found. named_in found ≡ named t) → IfOk r (λ found. Tells t (named_in found))
tells t (Ok found) h e = subst (Tells t) (sym e) (named_tells t h)
tells t (Err m) h e = tt
