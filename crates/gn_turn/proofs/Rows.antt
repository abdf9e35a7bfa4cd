-- Worked rows: the definitions on small journals of numbers, for the job 5.
use Rattle.std.proofs.Common.{◌≡◌, ℕ, zero, suc, Bool, true, false, List, [], ◌∷◌, Option, Some, refl, sym, subst, inl, inr, arith}
use mathlib.Core.Option.{none, some, some-injective, some-ne-none}
use lib.ListN.{get_elem?}
use Rattle.atomic_table.specs.Table.{State}
use Rattle.gn_turn.specs.declared.view.View.{View}
use Rattle.gn_turn.specs.Views.{view, opened, spent, longer, gave_part, got_part, joined}
use Rattle.gn_turn.specs.Rule.{Fits, Kept}
use Rattle.gn_turn.specs.Holds.{OneMore, gave}

abbrev none_yet : List ℕ
none_yet = []

abbrev one : List ℕ
one = 7 ∷ []

abbrev two : List ℕ
two = 7 ∷ 8 ∷ []

-- of the job 5
abbrev knows : List ℕ → ℕ → ℕ → Bool → View ℕ ℕ
knows known parts own holds = view (Some 5) known parts own holds

-- the first pass of a turn is split, and the new pass joined again
keeps_the_rest : gave_part (opened 5) ≡ knows none_yet 127 0 false
keeps_the_rest = refl

gets_one_part : got_part (opened 5) ≡ knows none_yet 1 0 false
gets_one_part = refl

is_whole_again : joined (gave_part (knows one 128 1 false)) (got_part (knows one 128 1 false)) ≡ knows one 128 1 false
is_whole_again = refl

-- the longer of two beginnings, wherever it stands
second_is_longer : longer one two ≡ two
second_is_longer = refl

first_is_longer : longer two one ≡ two
first_is_longer = refl

adds_up : joined (knows one 100 1 false) (knows two 28 1 false) ≡ knows two 128 2 false
adds_up = refl

-- a turn with the event 8, and one with no event
gives_one : gave two (knows one 127 1 true) ≡ knows two 127 2 false
gives_one = refl

gives_none : gave one (knows one 127 1 true) ≡ knows one 127 1 false
gives_none = refl

is_one_more : OneMore one two
is_one_more = inr (8, refl)

-- The rule, where a state is its journal. The event 7 was given by the second pass. The first holds the turn, and the third was joined into the second.
abbrev views : List (View ℕ ℕ)
views = knows one 127 0 true ∷ knows none_yet 1 1 false ∷ spent ∷ []

each_fits : (id : ℕ) (v : View ℕ ℕ) → get_elem? views id ≡ some v → Fits 5 one v
each_fits zero v e = subst (Fits 5 one) (some-injective _ v e) (inr (record { has_parts = omega arith; same_job = refl; begins = (none_yet, refl); holder_knows = λ _. refl }))
each_fits (suc zero) v e = subst (Fits 5 one) (some-injective _ v e) (inr (record { has_parts = omega arith; same_job = refl; begins = (one, refl); holder_knows = λ (held : false ≡ true). absurd cc }))
each_fits (suc (suc zero)) v e = subst (Fits 5 one) (some-injective _ v e) (inl refl)
each_fits (suc (suc (suc k))) v e = absurd (some-ne-none v (sym e))

abbrev table : State (Option (List ℕ)) (View ℕ ℕ)
table = record { words = 1 ∷ 1 ∷ []; homes = none ∷ []; views = views }

is_kept : Kept (λ (x : List ℕ). 5) (λ x. x) (λ x. Unit {0}) 5 table
is_kept = record { log = one; held = true; words = refl; slot = refl; all_parts = refl; all_own = refl; one_turn = refl; each = each_fits; short = omega arith }
