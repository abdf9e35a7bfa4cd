use Rattle.std.proofs.Common.{◌≡◌, ℕ, true, eqb, take}
use Rattle.std.specs.List.{list_any}
use Rattle.std.specs.Ordering.{nat_cmp}
use Rattle.std.specs.BTreeSet.{contains}
use Rattle.gn_elements.specs.Read.{all_differ}
use Rattle.gn_elements.proofs.different.many_differ.Given as goal

abbrev pub invariant-loop-vertex : goal.invariant-loop-vertex
invariant-loop-vertex l = record {
  keys : (q : ℕ) → contains nat_cmp l.seen q ≡ list_any (eqb q) (take l.vertex-index l.vertices);
  differ : all_differ (take l.vertex-index l.vertices) ≡ true;
}
