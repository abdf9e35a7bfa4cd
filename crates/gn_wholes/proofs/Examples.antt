-- Values on places of a component, by computation.
use Rattle.std.proofs.Common.{◌≡◌, ℕ, ◌+◌, true, pos, [], ◌∷◌, refl}
use Rattle.gn_value.specs.Values.{position_of_place, zero_of}
use Rattle.gn_value.specs.declared.value.Place.TheVariants.{Point, Face}
use Rattle.gn_value.specs.declared.value.Value.{Value}
use Rattle.gn_value.specs.declared.value.Value.TheVariants.{Int as int}
use Rattle.gn_value.specs.declared.value.ValueKind.TheVariants.{Int}
use Rattle.gn_plain.specs.Contexts.{Component, nowhere, on, length_of}
use Rattle.gn_wholes.specs.Contexts.{brought, moved}

-- each place has one element more than the one before it, and values are those of the element behind
abbrev shifted : Component
shifted = record { has = λ p. true; count = λ p. 3 + position_of_place p; input = λ p x i. int (pos 0); interpolated = λ kind from to value i. value (i + 1) }

abbrev number : ℕ → Value
number i = int (pos i)

elements_of_places : length_of (on shifted Point) ∷ length_of (moved (on shifted Point) Face) ∷ length_of (moved nowhere Face) ∷ [] ≡ 3 ∷ 5 ∷ 1 ∷ []
elements_of_places = refl

values_of_another_place : brought (on shifted Point) Int Face number 4 ∷ brought nowhere Int Face number 4 ∷ [] ≡ int (pos 5) ∷ zero_of Int ∷ []
values_of_another_place = refl
