use Rattle.gn_cycle.specs.Graph.{lists}
use Rattle.gn_order.specs.Walk.{Found, AreOpen, Keeps, BeganAt, left}
use Rattle.gn_order.proofs.heights.find_from.Given as goal

abbrev pub invariant-walk : goal.invariant-walk
invariant-walk l = record {
  found : Found (lists l.targets) l.heights;
  way : AreOpen (lists l.targets) l.heights 0 l.way.items;
  keeps : Keeps l.initial.heights l.heights;
  began : BeganAt (lists l.targets) l.start l.heights l.way.items;
}

abbrev pub decreases-walk : goal.decreases-walk
decreases-walk l = left (lists l.targets) l.heights l.way.items
