-- What the way through a tree returns.
use Rattle.std.specs.Prelude.{◌≡◌, Bool, Option, Result, IfOk, option_map}
use Rattle.std.specs.declared.alloc.Global.{Global}
use Rattle.std.specs.declared.collections.VecDeque.{VecDeque}
use Rattle.gn_memory.specs.declared.Memory.{Memory}
use Rattle.gn_pointers.specs.Pointers.{Pointer}
use Rattle.gn_pointers.specs.Seen.{pointer_of}
use Rattle.gn_pointers.specs.declared.step.Step.{Step}
use Rattle.gn_rules.specs.Scopes as rules
use Rattle.gn_rules.specs.Things.{Thing}
use Rattle.gn_rules.specs.Walk.{breaks}
use Rattle.gn_scopes.specs.Seen.{scope_of}
use Rattle.gn_scopes.specs.declared.scope.Scope.{Scope}

-- the pointer is returned, where there is memory for an answer
abbrev pub Finds : Result (Option (VecDeque Step Global)) Memory → Option Pointer → Type 0
Finds result pointer = IfOk result (λ found. option_map pointer_of found ≡ pointer)

-- a way by what breaks the rules that a scope of the code looks for, in that scope
abbrev pub in_scope : {A : Type 0} → ((Thing → Bool) → rules.Scope → A) → Scope → A
in_scope way s = way (breaks s.sought) (scope_of s)
