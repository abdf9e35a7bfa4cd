-- What values over whole places have to be there.
use Rattle.std.specs.Prelude.{◌≡◌, ◌⊎◌, ℕ, ◌+◌, ◌*◌, ◌<◌, ◌≤◌, true, List, length, take, drop, Some, slice_get}
use Rattle.std.specs.List.{range_with_len}
use Rattle.gn_value.specs.Values.{position_of_place, zero_of}
use Rattle.gn_value.specs.Registers.{register_kind, register_len, register_value}
use Rattle.gn_value.specs.declared.op.Register.{Register}
use Rattle.gn_value.specs.declared.value.Place.{Place}
use Rattle.gn_value.specs.declared.value.ValueKind.{ValueKind}
use Rattle.gn_plain.specs.Contexts.{Context, nowhere, on, length_of}
use Rattle.gn_plain.specs.Fields.{Step, accumulate, at_index, on_domain, Expr, Sources}
use Rattle.gn_field.specs.declared.step.FieldStep.{FieldStep}
use Rattle.gn_field.specs.Steps.{LeadBack, named, built, keys}
use Rattle.gn_field.specs.Kinds.{HasKinds}
use Rattle.gn_schedule.specs.declared.places.Places.{Places}
use Rattle.gn_schedule.specs.declared.plan.Instruction.{Instruction}
use Rattle.gn_schedule.specs.Asked.{asked}
use Rattle.gn_schedule.specs.Plans.{RunsOnly}
use Rattle.gn_slots.specs.declared.whole.Whole.{Whole}
use Rattle.gn_slots.specs.Registers.{Gives, AreWhole, IsCovered, AreCovered}
use Rattle.gn_wholes.specs.Contexts.{HasPlace, moved}

-- ---- registers over whole places

-- a register has one value of a kind, zero, at each position
pub record IsConstant (kind : ValueKind) (n : ℕ) (r : Register) : Type 0 where
  pub of_kind : register_kind r ≡ kind
  pub len : register_len r ≡ n
  pub zero : (k : ℕ) → k < n → register_value k r ≡ zero_of kind

-- a register has the values of a field at all elements of a context
abbrev pub GivesWhole : {S : Type 0} → Sources S → Context → Expr S → Register → Type 0
GivesWhole sources c e r = Gives sources c (range_with_len 0 (length_of c)) e r

-- ---- what plans need

-- steps lead back and have the kinds that are taken, and there are few
pub record AreRunnable {S : Type 0} (sources : Sources S) (taken : S → ValueKind) (xs : List (FieldStep S)) : Type 0 where
  pub back : LeadBack (keys xs)
  pub kinds : (k : ℕ) → HasKinds sources taken (named (built xs) k)
  pub few : length xs ≤ 4096

-- what plans of some roots need is there
abbrev pub CoversRoots : {S : Type 0} → Context → List (FieldStep S) → List ℕ → List Whole → Type 0
CoversRoots c xs roots ws = (is : List Instruction) → RunsOnly xs roots is → AreCovered c ws xs is

-- what plans of a step's arguments need is there, on the places that they are read on
abbrev pub CoversArguments : {S : Type 0} → Context → List (FieldStep S) → Step → List ℕ → List Whole → Type 0
CoversArguments c xs (accumulate kind q part) args ws = HasPlace c q → CoversRoots (moved c q) xs args ws
CoversArguments c xs (on_domain kind q) args ws = HasPlace c q → CoversRoots (moved c q) xs args ws
CoversArguments c xs (at_index kind q) args ws = HasPlace c q → CoversRoots (moved c q) xs (take 1 args) ws × CoversRoots c xs (drop 1 args) ws

-- ---- values of steps on places

-- is a place the context's own, or one of its component?
abbrev pub Reaches : Context → Place → Type 0
Reaches nowhere p = ⊥
Reaches (on c q) p = (p ≡ q) ⊎ (c.has p ≡ true)

-- of the steps before one, those that read elsewhere have values on each place that they are asked for on
abbrev pub AreThere : {S : Type 0} → Context → List Places → List (FieldStep S) → List Whole → ℕ → Type 0
AreThere {S} c table xs ws k = (j : ℕ) (x : FieldStep S) (p : Place) → j < k → slice_get xs j ≡ Some x → asked table p j ≡ true → Reaches c p → IsCovered (moved c p) ws j x

-- values are added behind others
abbrev pub Grows : List Whole → List Whole → Type 0
Grows before after = (i : ℕ) (w : Whole) → slice_get before i ≡ Some w → slice_get after i ≡ Some w

-- the values of a step are there on a place, if the context reaches it
abbrev pub IsThereOnPlace : {S : Type 0} → Context → Place → List (FieldStep S) → ℕ → List Whole → Type 0
IsThereOnPlace {S} c p xs k ws = (x : FieldStep S) → slice_get xs k ≡ Some x → Reaches c p → IsCovered (moved c p) ws k x

-- the values of the steps before one
pub record AreSoFar {S : Type 0} (sources : Sources S) (c : Context) (table : List Places) (xs : List (FieldStep S)) (k : ℕ) (ws : List Whole) : Type 0 where
  pub whole : AreWhole sources (built xs) c ws
  pub there : AreThere c table xs ws k

-- ---- values in order

-- by their steps, and those of one step by their places
abbrev pub rank : Whole → ℕ
rank w = 6 * w.step + position_of_place w.place

-- values rise to a bound
pub record AreInOrder (n : ℕ) (ws : List Whole) : Type 0 where
  pub rise : (i j : ℕ) (v w : Whole) → i < j → slice_get ws i ≡ Some v → slice_get ws j ≡ Some w → rank v < rank w
  pub below : (i : ℕ) (w : Whole) → slice_get ws i ≡ Some w → rank w < n

-- no two are of one step and one place
abbrev pub AreOnce : List Whole → Type 0
AreOnce ws = (i j : ℕ) (v w : Whole) → slice_get ws i ≡ Some v → slice_get ws j ≡ Some w → v.step ≡ w.step → v.place ≡ w.place → i ≡ j
