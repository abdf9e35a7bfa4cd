-- A run of a command: all that is known of its end.
use Rattle.std.specs.Prelude.{◌≡◌, ℕ, List, Option, Some, None, Result, Ok, Err}
use Rattle.gn_io.specs.Outside.{Files, Names, Rose}
use Rattle.gn_io.specs.Files.{file_answer, gained}
use Rattle.gn_shared.specs.Count.{Count}
use Rattle.gn_kinds.specs.Row.{Text}
use Rattle.gn_app.specs.declared.status.Status.{Status}
use Rattle.gn_app.specs.Command.{Command, eval, check, Spells, SpellsNone, Misfits, StrayMisfit}
use Rattle.gn_app.specs.Ending.{Ending, done, misused, status_of, said_of, line_of}
use Rattle.gn_app.specs.Job.{Job, Giving, Leads, TreeDecides}
use Rattle.gn_app.specs.Outcome.{Seen, Taken, Outside, AsksFor, StopsAtTree, Misses, HasCause, EndsAs, WritesLate, RunsLate, Ends, Says}

-- what is known of a shelf, by the meanings of its kind
abbrev pub shelf_by : {S : Type 0} → (S → Option Files) → (S → Option Names) → (S → Option Names) → (S → ℕ) → (S → ℕ) → S → Seen
shelf_by holds asked missed faults misses s =
    record { holds = holds s; asked = asked s; missed = missed s; faults = faults s; misses = misses s }

-- what is known of a sink, by the meanings of its kind
abbrev pub sink_by : {S : Type 0} → (S → Option (List ℕ)) → (S → ℕ) → S → Taken
sink_by held faults s = record { held = held s; faults = faults s }

-- what is known of a shelf, an output and the meter together
abbrev pub outside_of : {S K : Type 0} → (S → Seen) → (K → Taken) → S × K × Count → Outside
outside_of shelf sink (s, k, meter) =
    record { shelf = shelf s; output = sink k; runs = meter.runs; copies = meter.copies }

-- from one moment to another a fact holds of what is known
abbrev pub Between : {X K : Type 0} → (X → K) → X → X → (K → K → Type 0) → Type 0
Between known before now fact = fact (known before) (known now)

-- `fact` holds of what fetching returns, if the shelf shows what it holds and what it missed in this call
abbrev pub WhereTold : Option Files → Option Names → Option Names → (Giving → Type 0) → Type 0
WhereTold (Some files) (Some before) (Some after) fact = fact (file_answer files (gained before after))
WhereTold _ _ _ fact = Unit {0}

-- a command that asks for no file needs no shelf that tells
abbrev pub Told : Command → Seen → Seen → (Giving → Type 0) → Type 0
Told (eval tree obj) before now fact = WhereTold before.holds before.missed now.missed fact
Told (check tree) before now fact = WhereTold before.holds before.missed now.missed fact
Told _ before now fact = (files : Giving) → fact files

-- the end that the files lead to
abbrev pub ending_for : Result Job Ending → Ending
ending_for (Ok j) = done
ending_for (Err ending) = ending

-- how a run of a command ends
pub record IsRunOf (c : Command) (ending : Ending) (before now : Outside) : Type 0 where
  -- the files lead to that end; and where the run is done, to a job whose text is written, with a node run for each node demanded
  pub ends : Told c before.shelf now.shelf (λ files. Ends files c before now ending)
  -- no other end than the one that the files lead to, unless memory is refused, or a count of faults rose
  pub exact : Told c before.shelf now.shelf (λ files. (r : Result Job Ending) → Leads files c r → EndsAs (ending_for r) (Rose before.shelf.faults now.shelf.faults) (Rose before.output.faults now.output.faults) ending)
  pub cause : HasCause c before.shelf now.shelf ending
  -- the files asked for, and those missed
  pub asked : AsksFor c ending before.shelf.asked now.shelf.asked
  pub missed : Misses ending before.shelf.missed now.shelf.missed
  -- where the tree decides, the input isn't asked for, whatever the end is
  pub order : Told c before.shelf now.shelf (λ files. TreeDecides files c → StopsAtTree c ending before.shelf.asked now.shelf.asked)
  -- nothing is written and no node runs but where the run came to its output
  pub writes_late : WritesLate ending before.output now.output
  pub runs_late : RunsLate ending before.runs now.runs
  -- the meter notes no copy, and what is held stays
  pub copies : now.copies ≡ before.copies
  pub holds : now.shelf.holds ≡ before.shelf.holds

-- words that spell no command touch nothing
pub record IsRefusedUse (words : List Text) (ending : Ending) (before now : Outside) : Type 0 where
  pub word : Option Text
  pub misfit : Misfits words word
  pub ending_is : ending ≡ misused word
  pub untouched : now ≡ before

-- how a run of words ends
pub record IsRunOfWords (words : List Text) (ending : Ending) (before now : Outside) : Type 0 where
  pub command : (c : Command) → Spells words c → IsRunOf c ending before now
  pub no_command : SpellsNone words → IsRefusedUse words ending before now

-- the message of an end: nothing where the run is done, and else its line
abbrev pub Tells : Option Text → Taken → Taken → Type 0
Tells None before now = now ≡ before
Tells (Some said) before now = Says (line_of said) before.held now.held (Rose before.faults now.faults)

-- how a call ends: the status is that of the run's end, and the message is written
pub record IsCall (words : List Text) (status : Status) (told told' : Taken) (before now : Outside) : Type 0 where
  pub ending : Ending
  pub status_is : status ≡ status_of ending
  pub run : IsRunOfWords words ending before now
  pub message : Tells (said_of ending) told told'

-- the message where a word that is no text stands behind words
pub record TellsStray (words : List Text) (stray : Text) (told told' : Taken) : Type 0 where
  pub word : Text
  pub misfit : StrayMisfit words stray word
  pub message : Tells (said_of (misused (Some word))) told told'
