-- Places that contexts are on and reach.
use Rattle.std.proofs.Common.{◌≡◌, inl, inr, ℕ, ◌<◌, Bool, true, false, List, length, get_or, Some, None, refl, ap, sym, ◌∙◌, subst, arith}
use Rattle.std.specs.Prelude.{if◌then◌else◌}
use Rattle.std.specs.Option.{option_eq}
use Rattle.std.proofs.lemmas.List.{get_or_read}
use Rattle.gn_value.specs.Values.{position_of_place}
use Rattle.gn_value.specs.declared.value.Place.{Place}
use Rattle.gn_value.specs.declared.value.Place.TheVariants.{Point, Edge, Face, Corner, Cloud, Instance}
use Rattle.gn_plain.specs.Equality.{same_place}
use Rattle.gn_plain.specs.Contexts.{Context, nowhere, on}
use Rattle.gn_field.specs.Contexts.{place_of, on_place}
use Rattle.gn_field.specs.declared.step.FieldStep.{FieldStep}
use Rattle.gn_schedule.specs.declared.places.Places.{Places}
use Rattle.gn_schedule.specs.Asked.{has_place, no_places, asked}
use Rattle.gn_slots.specs.declared.whole.Whole.{Whole}
use Rattle.gn_slots.specs.Registers.{IsCovered}
use Rattle.gn_wholes.specs.Contexts.{HasPlace, moved}
use Rattle.gn_wholes.specs.Covers.{Reaches, CoversRoots}

-- ---- places of a context

pub reaches_here : (c : Context) (p : Place) → place_of c ≡ Some p → Reaches c p
reaches_here nowhere p e = cc
reaches_here (on c q) p e = inl (let s : q ≡ p = cc in sym s)

pub covers_here : {S : Type 0} (c : Context) (p : Place) (xs : List (FieldStep S)) (roots : List ℕ) (ws : List Whole) → place_of c ≡ Some p → CoversRoots (moved c p) xs roots ws → CoversRoots c xs roots ws
covers_here nowhere p xs roots ws e h = cc
covers_here (on c q) p xs roots ws e h = let s : q ≡ p = cc in subst (λ r. CoversRoots (on c r) xs roots ws) (sym s) h

if_some : (b : Bool) (d e : Context) → Some d ≡ (if b then Some e else None) → (b ≡ true) × (d ≡ e)
if_some true d e h = (refl, cc)
if_some false d e h = cc

-- another context is that of the component on a place that it has
pub other_is : (c : Context) (p : Place) (d : Context) → Some d ≡ on_place c p → HasPlace c p × (d ≡ moved c p)
other_is nowhere p d e = cc
other_is (on c q) p d e = if_some (c.has p) d (on c p) e

-- it is on that place
pub place_moved : (c : Context) (p : Place) → HasPlace c p → place_of (moved c p) ≡ Some p
place_moved nowhere p has = absurd has
place_moved (on c q) p has = refl

if_none : (b : Bool) (e : Context) → None ≡ (if b then Some e else None) → ¬ (b ≡ true)
if_none true e h is = cc
if_none false e h is = cc

pub none_is : (c : Context) (p : Place) → None ≡ on_place c p → ¬ HasPlace c p
none_is nowhere p e has = has
none_is (on c q) p e has = if_none (c.has p) (on c p) e has

pub same_position : (p q : Place) → position_of_place p ≡ position_of_place q → p ≡ q
same_position Point Point e = refl
same_position Edge Edge e = refl
same_position Face Face e = refl
same_position Corner Corner e = refl
same_position Cloud Cloud e = refl
same_position Instance Instance e = refl
same_position _ _ e = absurd (omega (arith, e))

pub false-true : false ≡ true → ⊥
false-true e = cc

same_self : (p : Place) → same_place p p ≡ true
same_self Point = refl
same_self Edge = refl
same_self Face = refl
same_self Corner = refl
same_self Cloud = refl
same_self Instance = refl

-- a context that has no place, or another
pub not_on : (c : Context) (p : Place) → option_eq same_place (place_of c) (Some p) ≡ false → ¬ (place_of c ≡ Some p)
not_on nowhere p e is = cc
not_on (on c q) p e is =
    let s : q ≡ p = cc in
    let differ : same_place p p ≡ false = subst (λ r. same_place r p ≡ false) s e in
    false-true (sym differ ∙ same_self p)

pub position_below : (p : Place) → position_of_place p < 6
position_below Point = omega arith
position_below Edge = omega arith
position_below Face = omega arith
position_below Corner = omega arith
position_below Cloud = omega arith
position_below Instance = omega arith

pub has_reaches : (c : Context) (p : Place) → HasPlace c p → Reaches c p
has_reaches nowhere p has = absurd has
has_reaches (on c q) p has = inr has

-- a context reaches no place but its own and those that it has another context for
pub reaches_none : (c : Context) (p : Place) → ¬ (place_of c ≡ Some p) → ¬ HasPlace c p → ¬ Reaches c p
reaches_none nowhere p other without reaches = reaches
reaches_none (on c q) p other without reaches = elim reaches [ inl e ↦ other (ap Some (sym e)) | inr h ↦ without h ]

pub covered_here : {S : Type 0} (c : Context) (p : Place) (ws : List Whole) (k : ℕ) (x : FieldStep S) → place_of c ≡ Some p → IsCovered c ws k x → IsCovered (moved c p) ws k x
covered_here nowhere p ws k x e h = cc
covered_here (on c q) p ws k x e h = let s : q ≡ p = cc in subst (λ r. IsCovered (on c r) ws k x) s h

-- the places that a step is asked for on are those at its number in a table
pub asked_is : (table : List Places) (p : Place) (k : ℕ) (here : Places) → k < length table → here ≡ get_or table k here → has_place here p ≡ asked table p k
asked_is table p k here within is = ap (λ s. has_place s p) (get_or_read table k here within is no_places)
