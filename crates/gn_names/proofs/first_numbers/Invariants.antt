use Rattle.std.proofs.Common.{◌≡◌, ◌≤◌, List, ℕ, length}
use Rattle.gn_names.specs.First.{number_in}
use Rattle.gn_names.proofs.Added.{first_from}
use Rattle.gn_names.proofs.first_numbers.Given as goal

abbrev pub invariant-loop-number : goal.invariant-loop-number
invariant-loop-number l = record {
  bound : l.number ≤ length l.list;
  first : (q : List ℕ) → number_in l.numbers q ≡ first_from l.list l.number q;
}

abbrev pub decreases-loop-number : goal.decreases-loop-number
decreases-loop-number l = l.number
