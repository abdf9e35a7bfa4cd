-- The numbers that links lead to, list by list.
use Rattle.std.proofs.Common.{◌≡◌, ℕ, ◌+◌, ◌<◌, List, [], ◌∷◌, ◌++◌, map, drop, length, get_or, Option, Some, None, refl, sym, ap, ◌∙◌}
use Rattle.gn_tree.specs.Seen.{Text as CodeText, input_of, named_of}
use Rattle.gn_tree.specs.declared.tree.TreeInput.{TreeInput}
use Rattle.std.specs.Option.{option_map_or}
use Rattle.std.proofs.lemmas.List.{drop_more}
use Rattle.gn_kinds.specs.Row.{Text}
use Rattle.gn_names.specs.First.{first_of}
use Rattle.gn_tree.specs.Trees.{Link, Node, node, Nodes, and_node}
use Rattle.gn_rules.specs.Rules.{graph_from, links_of, links_of_input, numbers_of}
use Rattle.gn_tree.specs.Nodes.{inputs_in}

then_at : (names : List Text) (o : Option ℕ) (more : List ℕ) → option_map_or (λ i. i ∷ more) o more ≡ option_map_or (λ i. i ∷ []) o [] ++ more
then_at names None more = refl
then_at names (Some i) more = refl

pub numbers_then : (names : List Text) (l : Link) (ls : List Link) → numbers_of names (l ∷ ls) ≡ numbers_of names (l ∷ []) ++ numbers_of names ls
numbers_then names l ls = then_at names (first_of names l.from) (numbers_of names ls)

append_at : (o : Option ℕ) (xs ys : List ℕ) → option_map_or (λ i. i ∷ (xs ++ ys)) o (xs ++ ys) ≡ option_map_or (λ i. i ∷ xs) o xs ++ ys
append_at None xs ys = refl
append_at (Some i) xs ys = refl

pub numbers_append : (names : List Text) (ks ls : List Link) → numbers_of names (ks ++ ls) ≡ numbers_of names ks ++ numbers_of names ls
numbers_append names [] ls = refl
numbers_append names (k ∷ ks) ls = rw (numbers_append names ks ls) (append_at (first_of names k.from) (numbers_of names ks) (numbers_of names ls))

pub graph_then : (names : List Text) (n : Node) (ns : Nodes) → graph_from names (and_node n ns) ≡ numbers_of names (links_of (inputs_in n)) ∷ graph_from names ns
graph_then names (node _ _ _ _) ns = refl

pub inputs_next : (names : List Text) (xs : List (CodeText × TreeInput)) (i : ℕ) (x : CodeText × TreeInput) → i < length xs → x ≡ get_or xs i x
    → numbers_of names (links_of (map named_of (drop i xs))) ≡ numbers_of names (links_of_input (input_of x.1)) ++ numbers_of names (links_of (map named_of (drop (i + 1) xs)))
inputs_next names xs i x h e =
    ap (λ ys. numbers_of names (links_of (map named_of ys))) (drop_more xs i x h)
    ∙ (ap (λ y. numbers_of names (links_of_input (input_of y.1) ++ links_of (map named_of (drop (i + 1) xs)))) (sym e)
    ∙ numbers_append names (links_of_input (input_of x.1)) (links_of (map named_of (drop (i + 1) xs))))
