use Rattle.std.proofs.Common.{◌≡◌, ◌≤◌, ◌+◌}
use Rattle.gn_prim.specs.Links.{links}
use Rattle.gn_prim.proofs.lines.edges.Given as goal

-- the links to the vertices so far
abbrev pub invariant-loop-next : goal.invariant-loop-next
invariant-loop-next l = record {
  edges : l.edges.items ≡ links l.next;
  near : l.next ≤ l.count + 1;
}
