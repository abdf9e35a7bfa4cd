use Rattle.std.proofs.Common.{◌≡◌, ◌++◌, drop, map}
use Rattle.gn_tree.specs.Seen.{link_of}
use Rattle.gn_rules.specs.Rules.{numbers_of}
use Rattle.gn_scopes.proofs.edges.add_links.Given as goal

abbrev pub invariant-loop-link : goal.invariant-loop-link
invariant-loop-link l = l.numbers.items ++ numbers_of l.names (map link_of (drop l.link-index l.links)) ≡ l.fn.numbers.items ++ numbers_of l.names (map link_of l.links)
