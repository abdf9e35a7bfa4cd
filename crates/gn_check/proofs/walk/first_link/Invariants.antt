use Rattle.std.proofs.Common.{◌≡◌, drop, map}
use Rattle.gn_tree.specs.Seen.{link_of}
use Rattle.gn_rules.specs.Walk as walk
use Rattle.gn_rules.specs.Walk.{breaks}
use Rattle.gn_scopes.specs.Seen.{scope_of}
use Rattle.gn_check.proofs.walk.first_link.Given as goal

abbrev pub invariant-loop-link : goal.invariant-loop-link
invariant-loop-link l =
    (l.number ≡ l.link-index)
    × (walk.first_link (breaks l.scope.sought) (scope_of l.scope) l.link-index (map link_of (drop l.link-index l.links)) ≡ walk.first_link (breaks l.scope.sought) (scope_of l.scope) 0 (map link_of l.links))
