-- On which places steps are read.
use Rattle.std.specs.Prelude.{◌≡◌, ℕ, ◌≤◌, Bool, true, false, List, [], ◌∷◌, length, Some, slice_get, slice_index_or}
use Rattle.gn_node_set.specs.Meanings.{Has}
use Rattle.gn_value.specs.declared.value.Place.{Place}
use Rattle.gn_value.specs.declared.value.Place.TheVariants.{Point, Edge, Face, Corner, Cloud, Instance}
use Rattle.gn_plain.specs.Fields.{Step, accumulate, at_index, on_domain}
use Rattle.gn_field.specs.declared.step.FieldStep.{FieldStep}
use Rattle.gn_field.specs.Steps.{Key, of_elsewhere, names, key_of}
use Rattle.gn_schedule.specs.declared.places.Places.{Places}
use Rattle.gn_schedule.specs.Plans.{operands, AllAre}

abbrev pub has_place : Places → Place → Bool
has_place s Point = s.point
has_place s Edge = s.edge
has_place s Face = s.face
has_place s Corner = s.corner
has_place s Cloud = s.cloud
has_place s Instance = s.instance

abbrev pub no_places : Places
no_places = record { point = false; edge = false; face = false; corner = false; cloud = false; instance = false }

-- is a step read on a place?
abbrev pub asked : List Places → Place → ℕ → Bool
asked table p k = has_place (slice_index_or table k no_places) p

-- what a step that is read on a place reads elsewhere: the arguments on the step's own place, but for an index
abbrev pub AsksElsewhere : List Places → Place → Step → List ℕ → Type 0
AsksElsewhere table p (accumulate kind q part) args = AllAre (asked table q) args
AsksElsewhere table p (at_index kind q) [] = Unit {0}
AsksElsewhere table p (at_index kind q) (value ∷ index) = (asked table q value ≡ true) × AllAre (asked table p) index
AsksElsewhere table p (on_domain kind q) args = AllAre (asked table q) args

-- what a step that is read on a place reads
abbrev pub Asks : List Places → Place → Key → Type 0
Asks table p (of_elsewhere x args) = AsksElsewhere table p x args
Asks table p key = AllAre (asked table p) (operands key)

-- steps are asked for on some places
pub record AsksFor (places : Places) (args : List ℕ) (before after : List Places) : Type 0 where
  pub long : length after ≡ length before
  pub asks : (p : Place) → has_place places p ≡ true → AllAre (asked after p) args
  pub more : (p : Place) (k : ℕ) → asked before p k ≡ true → asked after p k ≡ true
  pub others : (k : ℕ) → ¬ Has args k → slice_index_or after k no_places ≡ slice_index_or before k no_places

-- what a step reads is asked for, where the step is read on some places
pub record AsksAll (places : Places) (key : Key) (before after : List Places) : Type 0 where
  pub long : length after ≡ length before
  pub asks : (p : Place) → has_place places p ≡ true → Asks after p key
  pub more : (p : Place) (k : ℕ) → asked before p k ≡ true → asked after p k ≡ true
  pub others : (k : ℕ) → ¬ Has (names key) k → slice_index_or after k no_places ≡ slice_index_or before k no_places

-- what the steps from one on read is asked for
pub record IsAsking {S : Type 0} (xs : List (FieldStep S)) (roots : List ℕ) (place : Place) (k : ℕ) (table : List Places) : Type 0 where
  pub long : length table ≡ length xs
  pub roots_asked : AllAre (asked table place) roots
  pub each : (j : ℕ) (x : FieldStep S) (p : Place) → k ≤ j → slice_get xs j ≡ Some x → asked table p j ≡ true → Asks table p (key_of x)

-- what each step reads is asked for on each place that the step is asked for on
abbrev pub AreAsked : {S : Type 0} → List (FieldStep S) → List Places → Type 0
AreAsked {S} xs table = (j : ℕ) (x : FieldStep S) (p : Place) → slice_get xs j ≡ Some x → asked table p j ≡ true → Asks table p (key_of x)
