-- What a pass knows, and how that is split and joined.
use Rattle.std.specs.Prelude.{ℕ, ◌+◌, ◌-◌, Bool, true, false, List, [], ◌∷◌, length, ltb, if◌then◌else◌, Option, Some, None}
use Rattle.gn_turn.specs.declared.view.View.{View}

-- 1 where it is so, else 0
abbrev pub bit : Bool → ℕ
bit true = 1
bit false = 0

-- the slots that a pass carries: the one slot, empty, where it holds the turn
abbrev pub carried : {S : Type 0} → Bool → List (ℕ × Option S)
carried true = (0, None) ∷ []
carried false = []

module _ {E : Type 0} where
  -- the longer of two beginnings of one journal
  abbrev pub longer : List E → List E → List E
  longer a b = if ltb (length a) (length b) then b else a

module _ {J E : Type 0} where
  abbrev pub view : Option J → List E → ℕ → ℕ → Bool → View J E
  view job known parts own holds = record { job = job; known = known; parts = parts; own = own; holds = holds }

  -- the view of the first pass
  abbrev pub opened : J → View J E
  opened job = view (Some job) [] 128 0 false

  -- the view of a pass that was joined into another
  abbrev pub spent : View J E
  spent = view None [] 0 0 false

  -- `split` takes one part from a pass, and the new pass has it
  abbrev pub gave_part : View J E → View J E
  gave_part v = view v.job v.known (v.parts - 1) v.own v.holds

  abbrev pub got_part : View J E → View J E
  got_part v = view v.job v.known 1 0 false

  -- `join` adds the numbers, and keeps the longer list
  abbrev pub joined : View J E → View J E → View J E
  joined v w = view v.job (longer v.known w.known) (v.parts + w.parts) (v.own + w.own) v.holds

  abbrev pub parts_of : View J E → ℕ
  parts_of v = v.parts

  abbrev pub own_of : View J E → ℕ
  own_of v = v.own

  -- 1 where the pass holds the turn
  abbrev pub turn_of : View J E → ℕ
  turn_of v = bit v.holds
