use Rattle.std.proofs.Common.{◌≡◌, drop, map}
use Rattle.gn_kinds.specs.Text as is
use Rattle.gn_atom.proofs.text.is_word.Given as goal

abbrev pub invariant-loop-word : goal.invariant-loop-word
invariant-loop-word l = is.is_word (map (λ w. w.now) (drop l.word-index l.words)) l.fn.text ≡ is.is_word (map (λ w. w.now) l.words) l.fn.text
