use Rattle.std.proofs.Common.{◌≡◌, ◌++◌, drop, map}
use Rattle.gn_tree.specs.Seen.{named_of}
use Rattle.gn_table.proofs.inputs.keys_of.Given as goal

abbrev pub invariant-loop-name : goal.invariant-loop-name
invariant-loop-name l = map (λ text. text.now) l.texts.items ++ map (λ x. x.name) (map named_of (drop l.name-index l.list)) ≡ map (λ x. x.name) (map named_of l.list)
