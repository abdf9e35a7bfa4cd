use Rattle.std.proofs.Common.{◌≡◌, drop, map}
use Rattle.gn_tree.specs.Seen.{named_of}
use Rattle.gn_rules.specs.Walk as walk
use Rattle.gn_rules.specs.Walk.{breaks}
use Rattle.gn_scopes.specs.Scopes.{declared_by}
use Rattle.gn_scopes.specs.Seen.{scope_of}
use Rattle.gn_check.proofs.walk.first_input.Given as goal

abbrev pub invariant-loop-name : goal.invariant-loop-name
invariant-loop-name l =
    walk.first_input (breaks l.scope.sought) (scope_of l.scope) (declared_by l.declared) (map named_of (drop l.name-index l.inputs)) ≡ walk.first_input (breaks l.scope.sought) (scope_of l.scope) (declared_by l.declared) (map named_of l.inputs)
