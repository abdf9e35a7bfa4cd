-- What holds of a turn's table between any two atomic steps.
use Rattle.std.specs.Prelude.{◌≡◌, ℕ, ◌<◌, ◌^◌, ◌⊎◌, Bool, true, false, List, [], ◌∷◌, length, sum_by, Option, Some}
use mathlib.Core.List.{IsPrefix}
use mathlib.Core.Option as maybe
use lib.ListN.{get_elem?}
use Rattle.atomic_table.specs.Table.{State}
use Rattle.gn_turn.specs.declared.view.View.{View}
use Rattle.gn_turn.specs.Views.{bit, spent, parts_of, own_of, turn_of}

module _ {J E : Type 0} where
  -- a pass has a part, knows the job and a beginning of the log, and the holder of the turn knows the whole log
  pub record IsLive (j : J) (log : List E) (v : View J E) : Type 0 where
    pub has_parts : 0 < v.parts
    pub same_job : v.job ≡ Some j
    pub begins : IsPrefix v.known log
    pub holder_knows : v.holds ≡ true → v.known ≡ log

  abbrev pub Fits : J → List E → View J E → Type 0
  Fits j log v = (v ≡ spent) ⊎ IsLive j log v

module _ {S J E : Type 0} (job : S → J) (journal : S → List E) (good : S → Type 0) where
  -- the state is good for the job, and the log is its journal
  pub record IsAt (j : J) (log : List E) (x : S) : Type 0 where
    pub is_good : good x
    pub same_job : job x ≡ j
    pub journal_is : journal x ≡ log

  -- the slot is empty while a pass holds the turn, and else has such a state
  abbrev pub SlotIs : J → List E → List (maybe.Option (Option S)) → Bool → Type 0
  SlotIs j log homes true = homes ≡ maybe.none ∷ []
  SlotIs j log homes false = (x : S) × (homes ≡ maybe.some (Some x) ∷ []) × IsAt j log x

  -- The rule. The log is the list of the events given back so far; the first word is `held`, the second `events`.
  pub record Kept (j : J) (s : State (Option S) (View J E)) : Type 0 where
    pub log : List E
    pub held : Bool
    pub words : s.words ≡ bit held ∷ length log ∷ []
    pub slot : SlotIs j log s.homes held
    pub all_parts : sum_by parts_of s.views ≡ 128
    pub all_own : sum_by own_of s.views ≡ length log
    pub one_turn : sum_by turn_of s.views ≡ bit held
    pub each : (id : ℕ) (v : View J E) → get_elem? s.views id ≡ maybe.some v → Fits j log v
    pub short : length log < 2 ^ 62
