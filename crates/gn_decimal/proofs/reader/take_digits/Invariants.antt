use Rattle.std.proofs.Common.{◌≡◌, ◌+◌, ◌≤◌, ℕ, true, take}
use Rattle.std.specs.Char.{is_ascii_digit}
use Rattle.std.specs.List.{list_all}
use Rattle.std.specs.Str.Parse.{digits_value_after}
use Rattle.gn_decimal.specs.Kept.{Keeps, dropped_of}
use Rattle.gn_decimal.proofs.reader.take_digits.Given as goal

abbrev pub invariant-loop-i : goal.invariant-loop-i
invariant-loop-i l = record {
  all_digits : list_all is_ascii_digit (take l.i l.text) ≡ true;
  keeps : (n : ℕ) → Keeps l.fn.start n → Keeps l.significand (digits_value_after 10 n (take l.i l.text));
  drops : dropped_of l.significand ≤ dropped_of l.fn.start + l.i;
}
