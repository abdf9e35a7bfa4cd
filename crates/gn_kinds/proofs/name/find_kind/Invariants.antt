use Rattle.std.proofs.Common.{◌≡◌, drop}
use Rattle.gn_kinds.specs.Names.{kind_named}
use Rattle.gn_kinds.proofs.name.find_kind.Given as goal

abbrev pub invariant-loop-kind : goal.invariant-loop-kind
invariant-loop-kind l = kind_named (drop l.kind-index l.kinds) l.fn.name ≡ kind_named l.kinds l.fn.name
