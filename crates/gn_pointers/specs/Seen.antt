-- The code's steps as those of the definitions.
use Rattle.std.specs.Prelude.{map, string_bytes}
use Rattle.std.specs.declared.alloc.Global.{Global}
use Rattle.std.specs.declared.collections.VecDeque.{VecDeque}
use Rattle.gn_pointers.specs.Pointers as pointers
use Rattle.gn_pointers.specs.declared.step.Step.{Step}
use Rattle.gn_pointers.specs.declared.step.Step.TheVariants.{Index, Key}

abbrev pub step_of : Step → pointers.Step
step_of (Index i) = pointers.index i
step_of (Key k) = pointers.key (string_bytes k)

abbrev pub pointer_of : VecDeque Step Global → pointers.Pointer
pointer_of steps = map step_of steps.items
