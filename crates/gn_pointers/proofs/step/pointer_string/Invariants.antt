use Rattle.std.proofs.Common.{◌≡◌, ◌++◌, map, string_bytes}
use Rattle.gn_pointers.specs.Texts.{steps_text}
use Rattle.gn_pointers.specs.Seen.{step_of, pointer_of}
use Rattle.gn_pointers.proofs.step.pointer_string.Given as goal

abbrev pub invariant-loop-step : goal.invariant-loop-step
invariant-loop-step l =
    string_bytes l.text ++ steps_text (map step_of (l.step-iterator.head.now ++ l.step-iterator.wrapped.now)) ≡ steps_text (pointer_of l.pointer)
