use Rattle.std.proofs.Common.{◌≡◌, drop, map}
use Rattle.std.specs.Prelude.{find, bytes_eq}
use Rattle.gn_tree.specs.Seen.{named_of}
use Rattle.gn_origin.proofs.list.written.Given as goal

abbrev pub invariant-loop-key : goal.invariant-loop-key
invariant-loop-key l = find (λ x. bytes_eq l.name x.name) (map named_of (drop l.key-index l.inputs)) ≡ find (λ x. bytes_eq l.name x.name) (map named_of l.inputs)
