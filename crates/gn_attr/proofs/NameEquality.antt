-- Names are equal where their plain names are the same.
use Rattle.std.proofs.Common.{◌≡◌, ℕ, Bool, true, false, ◌&&◌, List, [], ◌∷◌, Option, Some, None, nat_eq, refl, ap, ap₂, ◌∙◌}
use Rattle.std.specs.Cmp.{nat_eq_equiv}
use Rattle.std.specs.Cmp.Lexicographic.{pointwise, nat_list_eq_equiv}
use Rattle.std.specs.Option.{option_eq}
use Rattle.gn_lazy.specs.declared.path.PathStep.{PathStep}
use Rattle.gn_lazy.specs.contracts.path.PathStepPartialEq.TheImpl as step_equality
use Rattle.gn_node_set.specs.Paths.{same_turn, same_path}
use Rattle.gn_plain.specs.Columns as plain
use Rattle.gn_plain.specs.Columns.{same_name}
use Rattle.gn_attr.specs.Names.{plain_name}
use Rattle.gn_attr.specs.declared.name.Name.{Name}
use Rattle.gn_attr.specs.declared.name.Name.TheVariants.{Named, Anonymous}
use Rattle.gn_attr.specs.contracts.name.NamePartialEq.TheImpl as name_equality

abbrev pub equal : Name → Name → Bool
equal = name_equality.ghosts.eq

same_turns : (a b : Option ℕ) → option_eq nat_eq a b ≡ same_turn a b
same_turns None None = refl
same_turns None (Some k) = refl
same_turns (Some j) None = refl
same_turns (Some j) (Some k) = refl

regrouped : (a b c : Bool) → a && b && c ≡ (a && (b && c))
regrouped true b c = refl
regrouped false b c = refl

same_step : (s t : PathStep) (rest : Bool) → step_equality.ghosts.eq s t && rest ≡ (nat_eq s.node t.node && (same_turn s.turn t.turn && rest))
same_step s t rest = ap (λ b. nat_eq s.node t.node && b && rest) (same_turns s.turn t.turn) ∙ regrouped (nat_eq s.node t.node) (same_turn s.turn t.turn) rest

same_steps : (p q : List PathStep) → pointwise step_equality.ghosts.eq p q ≡ same_path p q
same_steps [] [] = refl
same_steps [] (t ∷ q) = refl
same_steps (s ∷ p) [] = refl
same_steps (s ∷ p) (t ∷ q) = same_step s t (pointwise step_equality.ghosts.eq p q) ∙ ap (λ b. nat_eq s.node t.node && (same_turn s.turn t.turn && b)) (same_steps p q)

pub equal_is : (a b : Name) → equal a b ≡ same_name (plain_name a) (plain_name b)
equal_is (Named a) (Named b) = refl
equal_is (Named a) (Anonymous q t) = refl
equal_is (Anonymous p s) (Named b) = refl
equal_is (Anonymous p s) (Anonymous q t) = ap (λ b. b && nat_eq s t) (same_steps p.steps.items q.steps.items)

turned_turn : (a b : Option ℕ) → same_turn a b ≡ same_turn b a
turned_turn None None = refl
turned_turn None (Some k) = refl
turned_turn (Some j) None = refl
turned_turn (Some j) (Some k) = nat_eq_equiv.symm j k

turned_path : (p q : List PathStep) → same_path p q ≡ same_path q p
turned_path [] [] = refl
turned_path [] (t ∷ q) = refl
turned_path (s ∷ p) [] = refl
turned_path (s ∷ p) (t ∷ q) = ap₂ (λ a b. a && b) (nat_eq_equiv.symm s.node t.node) (ap₂ (λ a b. a && b) (turned_turn s.turn t.turn) (turned_path p q))

turned : (a b : plain.Name) → same_name a b ≡ same_name b a
turned (plain.named a) (plain.named b) = nat_list_eq_equiv.symm a b
turned (plain.named a) (plain.anonymous q t) = refl
turned (plain.anonymous p s) (plain.named b) = refl
turned (plain.anonymous p s) (plain.anonymous q t) = ap₂ (λ a b. a && b) (turned_path p q) (nat_eq_equiv.symm s t)

-- a look-up by a name tests for its plain name
pub tests : (key name : Name) → equal key name ≡ same_name (plain_name name) (plain_name key)
tests key name = equal_is key name ∙ turned (plain_name key) (plain_name name)
