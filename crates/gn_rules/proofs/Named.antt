-- The rule and the pointer that are named are the least broken rule and the first pointer where it is.
use Rattle.std.proofs.Common.{◌≡◌, ℕ, suc, ◌<◌, ◌==◌, Bool, true, false, not, ◌&&◌, ◌||◌, nat_lt, is_none, [], ◌∷◌, Option, Some, None, IsTrue, ◌⊎◌, inl, inr, refl, sym, ap, ◌∙◌, subst, arith, if◌then◌else◌}
use Rattle.gn_pointers.specs.Pointers.{Pointer, IsFirst, IsBadAt, Holds, part_at}
use Rattle.gn_pointers.proofs.First.{first_same}
use Rattle.gn_tree.specs.Trees.{Tree}
use Rattle.gn_tree.specs.Nodes.{id_in}
use Rattle.gn_tree.specs.Rising.{NamesRiseInTree}
use Rattle.gn_cycle.specs.Ways.{is_on_cycle}
use Rattle.gn_cycle.proofs.Ways.{tells_cycle}
use Rattle.gn_rules.specs.declared.rule.Rule.{Rule}
use Rattle.gn_rules.specs.declared.rule.Rule.TheVariants as rule
use Rattle.gn_rules.specs.declared.sought.Sought.TheVariants.{Any, Only}
use Rattle.gn_rules.specs.Sought.{has}
use Rattle.gn_rules.specs.Sockets.{group_names, ids}
use Rattle.gn_rules.specs.Scopes.{source, is_above}
use Rattle.std.specs.Option.{option_map_or}
use Rattle.gn_rules.specs.Number.{number_of}
use Rattle.gn_rules.specs.Things.{Thing, the_tree, a_group, a_socket, all_nodes, a_node, a_group_name, an_input, a_link, parts}
use Rattle.gn_rules.specs.Rules.{is_taken, is_loose, is_unfit, is_too_high, graph_of, node_count, breaks_names, breaks_links, breaks_kinds, breaks_height, breaks_count, Breaks, BreaksOrder, IsBrokenAt, Keeps, KeepsRules}
use Rattle.gn_rules.specs.Walk.{breaks, first_pointer, named_or, named_from, named_if, all_rules, named, Tells}
use Rattle.gn_rules.proofs.Exact.{tree_first}

-- ---- a thing breaks a rule exactly where the test says so

or_none : (a : Bool) → a ≡ (a || false)
or_none true = refl
or_none false = refl

names_same : (x : Thing) → breaks_names x ≡ breaks (Only rule.Names) x
names_same (a_group gs i g) = refl
names_same (a_node s i n) = or_none (breaks_names (a_node s i n))
names_same _ = refl

links_same : (x : Thing) → breaks_links x ≡ breaks (Only rule.Links) x
links_same (an_input s shape x) = or_none (breaks_links (an_input s shape x))
links_same _ = refl

kinds_same : (x : Thing) → breaks_kinds x ≡ breaks (Only rule.Kinds) x
kinds_same (an_input s shape x) = refl
kinds_same _ = refl

height_same : (x : Thing) → breaks_height x ≡ breaks (Only rule.Height) x
height_same (a_node s i n) = or_none (breaks_height (a_node s i n))
height_same _ = refl

count_same : (x : Thing) → breaks_count x ≡ breaks (Only rule.Count) x
count_same (all_nodes t) = refl
count_same _ = refl

order_to : (x : Thing) → BreaksOrder x → IsTrue (breaks (Only rule.Order) x)
order_to (a_node s i n) b = (tells_cycle (graph_of s.nodes) i).1 b
order_to _ b = absurd b

order_from : (x : Thing) → IsTrue (breaks (Only rule.Order) x) → BreaksOrder x
order_from (a_node s i n) b = (tells_cycle (graph_of s.nodes) i).0 b
order_from _ b = absurd (cc)

breaks_to : (r : Rule) (x : Thing) → Breaks r x → IsTrue (breaks (Only r) x)
breaks_to rule.Names x b = sym (names_same x) ∙ b
breaks_to rule.Links x b = sym (links_same x) ∙ b
breaks_to rule.Kinds x b = sym (kinds_same x) ∙ b
breaks_to rule.Order x b = order_to x b
breaks_to rule.Height x b = sym (height_same x) ∙ b
breaks_to rule.Count x b = sym (count_same x) ∙ b

breaks_from : (r : Rule) (x : Thing) → IsTrue (breaks (Only r) x) → Breaks r x
breaks_from rule.Names x b = names_same x ∙ b
breaks_from rule.Links x b = links_same x ∙ b
breaks_from rule.Kinds x b = kinds_same x ∙ b
breaks_from rule.Order x b = order_from x b
breaks_from rule.Height x b = height_same x ∙ b
breaks_from rule.Count x b = count_same x ∙ b

module _ (P Q : Thing → Type 0) (to : (x : Thing) → P x → Q x) where
  part_to : (o : Option Thing) (p : Pointer) → Holds (λ y. IsBadAt parts P y p) o → Holds (λ y. IsBadAt parts Q y p) o
  part_to None p b = b
  part_to (Some y) [] b = to y b
  part_to (Some y) (s ∷ p) b = part_to (part_at s (parts y)) p b

  pub bad_to : (x : Thing) (p : Pointer) → IsBadAt parts P x p → IsBadAt parts Q x p
  bad_to x [] b = to x b
  bad_to x (s ∷ p) b = part_to (part_at s (parts x)) p b

pub rule_first : (t : Tree) (r : Rule) → NamesRiseInTree t → IsFirst (IsBrokenAt t r) (first_pointer t (Only r))
rule_first t r h =
    first_same (IsBrokenAt t r) (IsBadAt parts (λ x. IsTrue (breaks (Only r) x)) (the_tree t)) (bad_to (Breaks r) (λ x. IsTrue (breaks (Only r) x)) (breaks_to r) (the_tree t))
    (bad_to (λ x. IsTrue (breaks (Only r) x)) (Breaks r) (breaks_from r) (the_tree t)) (first_pointer t (Only r)) (tree_first (breaks (Only r)) t h)

-- ---- the rules in turn

rule_of : ℕ → Rule
rule_of n = if n == 2 then rule.Names else (if n == 3 then rule.Links else (if n == 4 then rule.Kinds else (if n == 5 then rule.Order else (if n == 6 then rule.Height else rule.Count))))

rule_back : (r : Rule) → rule_of (number_of r) ≡ r
unfolding rule_of
rule_back rule.Names = refl
rule_back rule.Links = refl
rule_back rule.Kinds = refl
rule_back rule.Order = refl
rule_back rule.Height = refl
rule_back rule.Count = refl

same_rule : (q r : Rule) → number_of q ≡ number_of r → q ≡ r
same_rule q r e = sym (rule_back q) ∙ (ap rule_of e ∙ rule_back r)

abbrev KeepsBelow : Tree → ℕ → Type 0
KeepsBelow t n = (q : Rule) → number_of q < n → Keeps t q

below_or_same : (m n : ℕ) → m < suc n → (m < n) ⊎ (m ≡ n)
below_or_same m n h = grind arith

from_two : (q : Rule) → number_of q < 2 → ⊥
from_two rule.Names h = absurd (omega arith)
from_two rule.Links h = absurd (omega arith)
from_two rule.Kinds h = absurd (omega arith)
from_two rule.Order h = absurd (omega arith)
from_two rule.Height h = absurd (omega arith)
from_two rule.Count h = absurd (omega arith)

below_eight : (q : Rule) → number_of q < 8
below_eight rule.Names = omega arith
below_eight rule.Links = omega arith
below_eight rule.Kinds = omega arith
below_eight rule.Order = omega arith
below_eight rule.Height = omega arith
below_eight rule.Count = omega arith

keeps_next : (t : Tree) (r : Rule) → KeepsBelow t (number_of r) → Keeps t r → KeepsBelow t (suc (number_of r))
keeps_next t r b k q h = elim (below_or_same (number_of q) (number_of r) h) as (λ _. Keeps t q) [
  | inl lower ↦ b q lower
  | inr e ↦ subst (λ x. Keeps t x) (sym (same_rule q r e)) k
]

tell : (t : Tree) (r : Rule) (found : Option Pointer) (later : Option (Rule × Pointer)) → KeepsBelow t (number_of r) → IsFirst (IsBrokenAt t r) found
    → (KeepsBelow t (suc (number_of r)) → Tells t later) → Tells t (named_or r found later)
tell t r None later b f go = go (keeps_next t r b f)
tell t r (Some pointer) later b f go = record { least = b; first = f }

named_from_tells : (t : Tree) → NamesRiseInTree t → Tells t (named_from t all_rules)
named_from_tells t h =
    tell t rule.Names (first_pointer t (Only rule.Names)) _ (λ q l. absurd (from_two q l)) (rule_first t rule.Names h) (λ b.
    tell t rule.Links (first_pointer t (Only rule.Links)) _ b (rule_first t rule.Links h) (λ b.
    tell t rule.Kinds (first_pointer t (Only rule.Kinds)) _ b (rule_first t rule.Kinds h) (λ b.
    tell t rule.Order (first_pointer t (Only rule.Order)) _ b (rule_first t rule.Order h) (λ b.
    tell t rule.Height (first_pointer t (Only rule.Height)) _ b (rule_first t rule.Height h) (λ b.
    tell t rule.Count (first_pointer t (Only rule.Count)) _ b (rule_first t rule.Count h) (λ b. λ q. b q (below_eight q)))))))

-- ---- where no rule is broken anywhere

second : (a b : Bool) → (a && b) ≡ true → b ≡ true
second true b h = h
second false b h = absurd (cc)

any_of_two : (p a q b : Bool) → ((p && a) || (q && b)) ≡ true → (a || b) ≡ true
any_of_two true true q b h = refl
any_of_two true false q b h = second q b h
any_of_two false true q b h = refl
any_of_two false false q b h = second q b h

any_of_three : (p a q b r c : Bool) → ((p && a) || ((q && b) || (r && c))) ≡ true → (a || (b || c)) ≡ true
any_of_three p true q b r c h = refl
any_of_three true false q b r c h = any_of_two q b r c h
any_of_three false false q b r c h = any_of_two q b r c h

any_breaks : (r : Rule) (x : Thing) → IsTrue (breaks (Only r) x) → IsTrue (breaks Any x)
any_breaks r (a_group gs i g) b = second (has (Only r) rule.Names) (is_taken (group_names gs) i g.name) b
any_breaks r (a_socket names i name) b = second (has (Only r) rule.Names) (is_taken names i name) b
any_breaks r (a_node s i n) b = any_of_three (has (Only r) rule.Names) (is_taken (ids s.nodes) i (id_in n)) (has (Only r) rule.Height) (is_too_high s n) (has (Only r) rule.Order) (is_on_cycle (graph_of s.nodes) i) b
any_breaks r (a_group_name s name) b = second (has (Only r) rule.Links) (not (is_above s name)) b
any_breaks r (an_input s shape x) b = any_of_two (has (Only r) rule.Links) (is_none shape || is_loose s x) (has (Only r) rule.Kinds) (option_map_or (λ there. is_unfit s there x) shape false) b
any_breaks r (a_link s l) b = second (has (Only r) rule.Links) (is_none (source s l)) b
any_breaks r (all_nodes t) b = second (has (Only r) rule.Count) (nat_lt 16384 (node_count t)) b
any_breaks r _ b = absurd (cc)

keeps_all : (t : Tree) → IsFirst (IsBadAt parts (λ x. IsTrue (breaks Any x)) (the_tree t)) None → KeepsRules t
keeps_all t f r pointer b = f pointer (bad_to (Breaks r) (λ x. IsTrue (breaks Any x)) (λ x h. any_breaks r x (breaks_to r x h)) (the_tree t) pointer b)

tells_if : (t : Tree) (found : Option Pointer) → NamesRiseInTree t → IsFirst (IsBadAt parts (λ x. IsTrue (breaks Any x)) (the_tree t)) found → Tells t (named_if t found)
tells_if t None h f = keeps_all t f
tells_if t (Some pointer) h f = named_from_tells t h

pub named_tells : (t : Tree) → NamesRiseInTree t → Tells t (named t)
named_tells t h = tells_if t (first_pointer t Any) h (tree_first (breaks Any) t h)
