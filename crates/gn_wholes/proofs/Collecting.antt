-- The values of steps that read elsewhere, on the places that they are read on.
use Rattle.std.proofs.Common.{◌≡◌, inl, inr, ℕ, ◌+◌, ◌<◌, true, List, [], ◌∷◌, ◌++◌, length, Some, None, Result, Ok, Err, OnOk, refl, sym, ◌∙◌, subst, arith}
use Rattle.std.specs.Prelude.{slice_get}
use Rattle.std.specs.List.{range_with_len}
use Rattle.std.specs.Global.{Vec}
use Rattle.gn_value.specs.Values.{position_of_place}
use Rattle.gn_value.specs.declared.value.Place.{Place}
use Rattle.gn_plain.specs.Contexts.{Context, nowhere, on}
use Rattle.gn_plain.specs.Fields.{Expr, Sources}
use Rattle.gn_field.specs.Contexts.{place_of}
use Rattle.gn_field.specs.declared.input.Step as code
use Rattle.gn_field.specs.declared.step.FieldStep.{FieldStep}
use Rattle.gn_field.specs.declared.step.FieldStep.TheVariants.{Constant, Input as Read, Apply, Elsewhere, Sampled}
use Rattle.gn_field.specs.Steps.{named, built}
use Rattle.gn_schedule.specs.declared.places.Places.{Places}
use Rattle.gn_schedule.specs.Asked.{asked}
use Rattle.gn_schedule.proofs.Reading.{one_of}
use Rattle.gn_schedule.proofs.Planning.{get_first, get_end, pushed}
use Rattle.gn_slots.specs.declared.whole.Whole.{Whole}
use Rattle.gn_slots.specs.Registers.{Gives, IsWhole, AreWhole, IsThere, IsCovered}
use Rattle.gn_wholes.specs.Contexts.{HasPlace, moved}
use Rattle.gn_wholes.specs.Covers.{GivesWhole, Reaches, AreThere, CoversRoots, Grows, IsThereOnPlace, AreSoFar}
use Rattle.gn_wholes.proofs.Places.{same_position, covered_here, reaches_none}

-- ---- without a place nothing is needed

pub none_whole : {S : Type 0} (sources : Sources S) (es : List (Expr S)) (c : Context) (ws : List Whole) → None ≡ place_of c → AreWhole sources es c ws
none_whole sources es nowhere ws e = tt
none_whole sources es (on c q) ws e = cc

pub none_covers : {S : Type 0} (c : Context) (xs : List (FieldStep S)) (roots : List ℕ) (ws : List Whole) → None ≡ place_of c → CoversRoots c xs roots ws
none_covers nowhere xs roots ws e = λ is only i x does at here. tt
none_covers (on c q) xs roots ws e = cc

-- ---- values are added

pub grown_covered : {S : Type 0} (c : Context) (ws more : List Whole) (k : ℕ) (x : FieldStep S) → Grows ws more → IsCovered c ws k x → IsCovered c more k x
grown_covered nowhere ws more k x grows h = tt
grown_covered (on c p) ws more k (Elsewhere x args) grows h =
    let f = h.1 in
    (h.0, record { index = f.index; whole = f.whole; is = grows f.index f.whole f.is; of_step = f.of_step; on_place = f.on_place; values = f.values })
grown_covered (on c p) ws more k (Constant v) grows h = tt
grown_covered (on c p) ws more k (Read x) grows h = tt
grown_covered (on c p) ws more k (Apply op args) grows h = tt
grown_covered (on c p) ws more k (Sampled tag source arg) grows h = tt

pub grown_there : {S : Type 0} (c : Context) (table : List Places) (xs : List (FieldStep S)) (ws more : List Whole) (k : ℕ) → Grows ws more → AreThere c table xs ws k → AreThere c table xs more k
grown_there c table xs ws more k grows there j x p before here is reaches = grown_covered (moved c p) ws more j x grows (there j x p before here is reaches)

pub grows_more : (ws : List Whole) (w : Whole) → Grows ws (ws ++ w ∷ [])
grows_more ws w i v h = get_first ws w v i h

module _ {S : Type 0} (sources : Sources S) (xs : List (FieldStep S)) (ws : List Whole) (w : Whole) where
  pub whole_more : (c : Context) → place_of c ≡ Some w.place → GivesWhole sources c (named (built xs) w.step) w.values → AreWhole sources (built xs) c ws → AreWhole sources (built xs) c (ws ++ w ∷ [])
  whole_more nowhere e gives old = cc
  whole_more (on c q) e gives old = λ i v h. elim (pushed ws w v i h) [
    | inl t ↦ old i v t.0
    | inr t ↦ (let s : q ≡ w.place = cc in
        subst (IsWhole sources (built xs) c) t.0 (subst (λ p. Gives sources (on c p) (range_with_len 0 (c.count p)) (named (built xs) w.step) w.values) s gives))
  ]

  is_there : IsThere (ws ++ w ∷ []) w.step w.place
  is_there = (w.values, record { index = length ws; whole = w; is = get_end ws w; of_step = refl; on_place = refl; values = refl })

  pub covered_more : (c : Context) (x : FieldStep S) → place_of c ≡ Some w.place → IsCovered c (ws ++ w ∷ []) w.step x
  covered_more nowhere x e = tt
  covered_more (on c q) (Elsewhere x args) e = let s : q ≡ w.place = cc in subst (λ p. IsThere (ws ++ w ∷ []) w.step p) (sym s) is_there
  covered_more (on c q) (Constant v) e = tt
  covered_more (on c q) (Read x) e = tt
  covered_more (on c q) (Apply op args) e = tt
  covered_more (on c q) (Sampled tag source arg) e = tt

-- a step that reads its arguments at its own elements needs nothing
pub not_elsewhere : {S : Type 0} (c : Context) (ws : List Whole) (k : ℕ) (x : FieldStep S) → ((step : code.Step) (args : Vec ℕ) → ¬ (x ≡ Elsewhere step args)) → IsCovered c ws k x
not_elsewhere nowhere ws k x other = tt
not_elsewhere (on c p) ws k (Elsewhere step args) other = absurd (other step args refl)
not_elsewhere (on c p) ws k (Constant v) other = tt
not_elsewhere (on c p) ws k (Read x) other = tt
not_elsewhere (on c p) ws k (Apply op args) other = tt
not_elsewhere (on c p) ws k (Sampled tag source arg) other = tt

-- ---- the same on another place

module _ {S : Type 0} (sources : Sources S) (es : List (Expr S)) (ws : List Whole) where
  pub whole_moved : (c : Context) (p : Place) → AreWhole sources es c ws → AreWhole sources es (moved c p) ws
  whole_moved nowhere p h = tt
  whole_moved (on c q) p h = h

  pub whole_back : (c : Context) (p : Place) → AreWhole sources es (moved c p) ws → AreWhole sources es c ws
  whole_back nowhere p h = tt
  whole_back (on c q) p h = h

there_moved : {S : Type 0} (c : Context) (q : Place) (table : List Places) (xs : List (FieldStep S)) (ws : List Whole) (k : ℕ) → HasPlace c q → AreThere c table xs ws k → AreThere (moved c q) table xs ws k
there_moved nowhere q table xs ws k has there = absurd has
there_moved (on c r) q table xs ws k has there = λ j x p before here is reaches. there j x p before here is (elim reaches [ inl e ↦ inr (subst (λ o. c.has o ≡ true) (sym e) has) | inr h ↦ inr h ])

pub so_far_moved : {S : Type 0} (sources : Sources S) (c : Context) (q : Place) (table : List Places) (xs : List (FieldStep S)) (k : ℕ) (ws : List Whole) → HasPlace c q → AreSoFar sources c table xs k ws → AreSoFar sources (moved c q) table xs k ws
so_far_moved sources c q table xs k ws has s = record { whole = whole_moved sources (built xs) ws c q s.whole; there = there_moved c q table xs ws k has s.there }

-- ---- one step more

pub none_so_far : {S : Type 0} (sources : Sources S) (c : Context) (table : List Places) (xs : List (FieldStep S)) → AreSoFar sources c table xs 0 []
none_so_far sources nowhere table xs = record { whole = tt; there = λ j x p before here is reaches. absurd (omega (arith, before)) }
none_so_far sources (on c q) table xs = record { whole = λ i w h. cc; there = λ j x p before here is reaches. absurd (omega (arith, before)) }

-- where the step at a number is there on each place that it is asked for on
pub step_more : {S : Type 0} (sources : Sources S) (c : Context) (table : List Places) (xs : List (FieldStep S)) (k : ℕ) (ws : List Whole) → AreSoFar sources c table xs k ws → ((p : Place) → asked table p k ≡ true → IsThereOnPlace c p xs k ws) → AreSoFar sources c table xs (k + 1) ws
step_more sources c table xs k ws s now = record {
  whole = s.whole;
  there = λ j x p before here is reaches. elim (one_of j k) [
    | inl e ↦ subst (λ i. IsCovered (moved c p) ws i x) (sym e) (now p (subst (λ i. asked table p i ≡ true) e is) x (subst (λ i. slice_get xs i ≡ Some x) e here) reaches)
    | inr n ↦ s.there j x p (omega (arith, before, n)) here is reaches
  ];
}

-- one place more
pub place_more : {S : Type 0} (c : Context) (table : List Places) (xs : List (FieldStep S)) (k n : ℕ) (q : Place) (ws more : List Whole) → position_of_place q ≡ n → Grows ws more → (asked table q k ≡ true → IsThereOnPlace c q xs k more)
    → ((p : Place) → position_of_place p < n → asked table p k ≡ true → IsThereOnPlace c p xs k ws) → (p : Place) → position_of_place p < n + 1 → asked table p k ≡ true → IsThereOnPlace c p xs k more
place_more c table xs k n q ws more at grows now old p below is x here reaches = elim (one_of (position_of_place p) n) [
  | inl e ↦ (let same : p ≡ q = same_position p q (e ∙ sym at) in
      subst (λ r. IsCovered (moved c r) more k x) (sym same) (now (subst (λ r. asked table r k ≡ true) same is) x here (subst (Reaches c) same reaches)))
  | inr m ↦ grown_covered (moved c p) ws more k x grows (old p (omega (arith, below, m)) is x here reaches)
]

-- ---- one place, in the forms that the code needs

module _ {S : Type 0} (sources : Sources S) (c : Context) (table : List Places) (xs : List (FieldStep S)) (k : ℕ) (ws more : List Whole) (so_far : AreSoFar sources c table xs k ws) where
  -- values of the same component are added
  pub added : AreWhole sources (built xs) c more → Grows ws more → AreSoFar sources c table xs k more
  added whole grows = record { whole = whole; there = grown_there c table xs ws more k grows so_far.there }

  pub there_here : (p : Place) → place_of c ≡ Some p → ((x : FieldStep S) → slice_get xs k ≡ Some x → IsCovered c more k x) → IsThereOnPlace c p xs k more
  there_here p at there x here reaches = covered_here c p more k x at (there x here)

  -- those on another place of it
  pub added_moved : (p : Place) (d : Context) → d ≡ moved c p → AreWhole sources (built xs) d more → Grows ws more → AreSoFar sources c table xs k more
  added_moved p d other whole grows = added (whole_back sources (built xs) more c p (subst (λ e. AreWhole sources (built xs) e more) other whole)) grows

  pub there_moved_on : (p : Place) (d : Context) → d ≡ moved c p → ((x : FieldStep S) → slice_get xs k ≡ Some x → IsCovered d more k x) → IsThereOnPlace c p xs k more
  there_moved_on p d other there x here reaches = subst (λ e. IsCovered e more k x) other (there x here)

pub there_not : {S : Type 0} (c : Context) (p : Place) (xs : List (FieldStep S)) (k : ℕ) (ws : List Whole) → ¬ (place_of c ≡ Some p) → ¬ HasPlace c p → IsThereOnPlace c p xs k ws
there_not c p xs k ws other without x here reaches = absurd (reaches_none c p other without reaches)

pub grows_none : (ws : List Whole) → Grows ws ws
grows_none ws i w h = h

-- ---- what holds after a call that may be refused

pub on_ok : {A E : Type 0} (r : Result A E) (P Q : Type 0) → (P → Q) → OnOk r P → OnOk r Q
on_ok (Ok x) P Q f p = f p
on_ok (Err e) P Q f p = tt

pub on_ok_both : {A E : Type 0} (r : Result A E) (P Q R : Type 0) → (P → Q → R) → OnOk r P → OnOk r Q → OnOk r R
on_ok_both (Ok x) P Q R f p q = f p q
on_ok_both (Err e) P Q R f p q = tt
