-- What the program does for the words that it is called with.
use Rattle.std.specs.Prelude.{◌≡◌, ℕ, List, Option, Some, None}
use Rattle.gn_kinds.specs.Row.{Text}
use Rattle.gn_app.specs.declared.status.Status.{Status}
use Rattle.gn_app.specs.Status.{code_of}
use Rattle.gn_app.specs.Outcome.{Taken, Outside}
use Rattle.gn_app.specs.Run.{IsCall, TellsStray}

-- the words are run, and the exit status is that of the call
pub record IsRun (words : List Text) (code : ℕ) (told told' : Taken) (before now : Outside) : Type 0 where
  pub status : Status
  pub code_is : code ≡ code_of status
  pub call : IsCall words status told told' before now

-- words are run, and where one that is no text stands behind them, nothing is touched and the first misfit is reported
abbrev pub Runs : List Text → Option Text → ℕ → Taken → Taken → Outside → Outside → Type 0
Runs words None code told told' before now = IsRun words code told told' before now
Runs words (Some stray) code told told' before now = (code ≡ 2) × (now ≡ before) × TellsStray words stray told told'
