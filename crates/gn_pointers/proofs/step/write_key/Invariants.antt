use Rattle.std.proofs.Common.{◌≡◌, ◌++◌, encode_utf8_all, string_bytes}
use Rattle.gn_pointers.specs.Texts.{escaped}
use Rattle.gn_pointers.proofs.step.write_key.Given as goal

abbrev pub invariant-loop-c : goal.invariant-loop-c
invariant-loop-c l = string_bytes l.text ≡ string_bytes l.initial.text ++ escaped (encode_utf8_all l.yielded)
