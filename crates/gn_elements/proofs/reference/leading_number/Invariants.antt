use Rattle.std.proofs.Common.{◌≡◌, drop}
use Rattle.gn_elements.specs.Digits.{number_capped, behind_digits}
use Rattle.gn_elements.proofs.reference.leading_number.Given as goal

abbrev pub invariant-loop-i : goal.invariant-loop-i
invariant-loop-i l =
    (number_capped l.number (drop l.i l.text) ≡ number_capped 0 l.text) × (behind_digits (drop l.i l.text) ≡ behind_digits l.text)
