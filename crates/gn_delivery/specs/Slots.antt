-- Slots of values, and values that are put into them.
use Rattle.std.specs.Prelude.{◌≡◌, List, [], ◌∷◌, map, Option, Some, None, option_map, slice_get, slice_set, slice_index_or}
use Rattle.std.specs.declared.alloc.Global.{Global}
use Rattle.std.specs.declared.vec.Vec.{Vec}
use Rattle.gn_readers.specs.declared.place.Place.{Place}
use Rattle.gn_readers.specs.declared.place.Place.TheVariants.{Input, Root}
use Rattle.gn_delivery.specs.declared.plan.Second.{Second}

-- those of the inputs of each node, and those of the roots
pub record Slots (V : Type 0) : Type 0 where
  pub rows : List (List (Option V))
  pub roots : List (Option V)

module _ {V : Type 0} where
  abbrev pub slots_of : List (Vec (Option V) Global) → List (Option V) → Slots V
  slots_of rows roots = record { rows = map (λ row. row.items) rows; roots = roots }

  -- the slot at a place, where there is one
  abbrev pub slot_at : Slots V → Place → Option (Option V)
  slot_at s (Input node input) = slice_get (slice_index_or s.rows node []) input
  slot_at s (Root root) = slice_get s.roots root

  -- a value in its slot, where there is one
  abbrev pub with_value : Slots V → Place → V → Slots V
  with_value s (Input node input) v = record s { rows = slice_set s.rows node (slice_set (slice_index_or s.rows node []) input (Some v)) }
  with_value s (Root root) v = record s { roots = slice_set s.roots root (Some v) }

  -- each second in the slot of its place
  abbrev pub with_seconds : Slots V → List (Second V) → Slots V
  with_seconds s [] = s
  with_seconds s (second ∷ seconds) = with_seconds (with_value s second.place second.value) seconds

  -- an output in the slot that it is for, if it is for one
  abbrev pub with_itself : Slots V → Option Place → V → Slots V
  with_itself s None v = s
  with_itself s (Some place) v = with_value s place v

  -- each output in the slot that it is for
  abbrev pub with_outputs : Slots V → List (Option Place) → List V → Slots V
  with_outputs s (place ∷ places) (v ∷ vs) = with_outputs (with_itself s place v) places vs
  with_outputs s _ _ = s

-- a value where one is due, and else what was there
abbrev pub or_as_before : {W : Type 0} → Option W → Option W → Option W
or_as_before None before = before
or_as_before (Some due) before = Some due

-- each slot at whose place a value is due has that value, and each other slot stays
abbrev pub Delivers : {V W : Type 0} → (V → W) → (Place → Option W) → Slots V → Slots V → Type 0
Delivers content due s s' = (p : Place) → option_map (option_map content) (slot_at s' p) ≡ option_map (or_as_before (due p)) (option_map (option_map content) (slot_at s p))
