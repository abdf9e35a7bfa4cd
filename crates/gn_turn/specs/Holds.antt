-- What the calls on a turn say of a state, by what the pass knows.
use Rattle.std.specs.Prelude.{◌≡◌, ◌⊎◌, ◌+◌, ◌-◌, ◌<◌, ◌^◌, true, false, List, [], ◌∷◌, ◌++◌, length, Some}
use mathlib.Core.List.{IsPrefix}
use Rattle.gn_turn.specs.declared.view.View.{View}
use Rattle.gn_turn.specs.Views.{view}

module _ {E : Type 0} where
  -- the journal is the known one, or has one event more
  abbrev pub OneMore : List E → List E → Type 0
  OneMore known now = (now ≡ known) ⊎ ((e : E) × (now ≡ known ++ e ∷ []))

module _ {J E : Type 0} where
  -- what a pass knows after it gave back a state with this journal
  abbrev pub gave : List E → View J E → View J E
  gave now v = view v.job now v.parts (v.own + (length now - length v.known)) false

module _ {S J E : Type 0} (job : S → J) (journal : S → List E) (good : S → Type 0) where
  -- `take`: the pass that knew v has the state x, and knows w
  pub record Took (v w : View J E) (x : S) : Type 0 where
    pub is_good : good x
    pub same_job : Some (job x) ≡ v.job
    pub begins : IsPrefix v.known (journal x)
    pub view_is : w ≡ view v.job (journal x) v.parts v.own true
    pub whole : v.parts ≡ 128 → v.own ≡ length (journal x)
    pub short : length (journal x) < 2 ^ 62

  -- `give`: the pass that knows v may give back the state x
  pub record MayGive (v : View J E) (x : S) : Type 0 where
    pub is_good : good x
    pub same_job : Some (job x) ≡ v.job
    pub one_more : OneMore v.known (journal x)
    pub short : length (journal x) < 2 ^ 62

  -- `close`: the last pass knew v, and x is the state
  pub record Last (v : View J E) (x : S) : Type 0 where
    pub is_good : good x
    pub same_job : Some (job x) ≡ v.job
    pub begins : IsPrefix v.known (journal x)
    pub own_is : v.own ≡ length (journal x)
