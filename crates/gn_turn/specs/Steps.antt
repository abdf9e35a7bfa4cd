-- What each atomic step tells the pass that does it, by what it knew and carried before and after.
use Rattle.std.specs.Prelude.{◌≡◌, ◌≢◌, ℕ, ◌+◌, ◌<◌, ◌^◌, true, false, List, [], ◌∷◌, length, Option, Some}
use mathlib.Core.List.{IsPrefix}
use Rattle.atomic_table.specs.Table.{Me}
use Rattle.gn_turn.specs.declared.view.View.{View}
use Rattle.gn_turn.specs.Views.{view}

abbrev pub Seated : Type 0 → Type 0 → Type 0 → Type 0
Seated S J E = Me (Option S) (View J E)

module _ {S J E : Type 0} (job : S → J) (journal : S → List E) (good : S → Type 0) where
  -- the pass has the turn, and the state is out with it
  pub record Gains (m w : Seated S J E) : Type 0 where
    pub state : S
    pub is_good : good state
    pub same_job : Some (job state) ≡ m.0.job
    pub begins : IsPrefix m.0.known (journal state)
    pub view_is : w.0 ≡ view m.0.job (journal state) m.0.parts m.0.own true
    pub out : w.1 ≡ (0, Some state) ∷ []
    pub whole : m.0.parts ≡ 128 → m.0.own ≡ length (journal state)
    pub short : length (journal state) < 2 ^ 62

  -- the compare-exchange: a lost try teaches nothing
  abbrev pub claimed : Seated S J E → ℕ → Seated S J E → Type 0
  claimed m found w = (found ≡ 0 → Gains m w) × (found ≢ 0 → w ≡ m)

module _ {S J E : Type 0} where
  -- the load: the holder knows the whole log
  abbrev pub counted : Seated S J E → ℕ → Seated S J E → Type 0
  counted m found w = (w ≡ m) × (found ≡ length m.0.known)

  -- the swap: the holder gives up the turn and the slot
  abbrev pub released : Seated S J E → ℕ → Seated S J E → Type 0
  released m found w = w ≡ (view m.0.job m.0.known m.0.parts m.0.own false, [])

module _ {S J E : Type 0} (journal : S → List E) where
  -- the fetch-add: the log is now the journal of the state in the slot
  abbrev pub added : Seated S J E → ℕ → Seated S J E → Type 0
  added m found w = (x : S) → m.1 ≡ (0, Some x) ∷ [] → w ≡ (view m.0.job (journal x) m.0.parts (m.0.own + 1) m.0.holds, m.1)
