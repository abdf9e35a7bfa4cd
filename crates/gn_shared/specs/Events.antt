-- The events of the machine that the program's events stand for, and what a step leaves.
use Rattle.std.specs.Prelude.{◌≡◌, ℕ, Result, Ok, Err, Option, Some, None}
use Rattle.gn_shared.specs.declared.world.ShareEvent.{ShareEvent}
use Rattle.gn_shared.specs.declared.world.ShareEvent.TheVariants as by
use Rattle.gn_shared.specs.declared.world.StepFault.{StepFault}
use Rattle.gn_shared.specs.declared.world.StepFault.TheVariants.{NotAllowed, Memory}
use Rattle.gn_shared.specs.declared.world.Handle.{Handle}
use Rattle.gn_shared.specs.Machine.{Event, Make, Add, Go, Look, Change, World, IsLive, place_of, handle_of, Allows, after}

abbrev pub event_of : ShareEvent → Event
event_of (by.Make holder items) = Make holder items.items
event_of (by.Add holder from) = Add holder from
event_of (by.Go holder) = Go holder
event_of (by.Look holder) = Look holder
event_of (by.Change holder at value) = Change holder at value

-- The event takes the world from old to new, or is refused: as not allowed exactly where the machine does not allow it. A refusal changes nothing.
abbrev pub Steps : World → Event → {X : Type 0} → Result X StepFault → World → Type 0
Steps old e (Ok done) new = Allows old e × (new ≡ after old e)
Steps old e (Err NotAllowed) new = (¬ Allows old e) × (new ≡ old)
Steps old e (Err Memory) new = Allows old e × (new ≡ old)

-- what is found of a holder: where its handle stands, and the handle
abbrev pub IsFoundAs : World → ℕ → Option (ℕ × Handle) → Type 0
IsFoundAs w holder None = ¬ IsLive w holder
IsFoundAs w holder (Some found) = IsLive w holder × (found.0 ≡ place_of w holder) × (found.1 ≡ handle_of w holder)
