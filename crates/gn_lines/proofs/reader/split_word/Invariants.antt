use Rattle.std.proofs.Common.{◌≡◌, ◌-◌, ◌≤◌, ◌++◌, length, take, drop}
use Rattle.gn_lines.specs.Parts.{word_at, after_word}
use Rattle.gn_lines.proofs.reader.split_word.Given as goal

abbrev pub invariant-loop-len : goal.invariant-loop-len
invariant-loop-len l = record {
  within : l.len ≤ length l.text;
  word : take l.len l.text ++ word_at (drop l.len l.text) ≡ word_at l.text;
  behind : after_word (drop l.len l.text) ≡ after_word l.text;
}

abbrev pub decreases-loop-len : goal.decreases-loop-len
decreases-loop-len l = length l.text - l.len
