use Rattle.std.proofs.Common.{◌≡◌, ◌<◌, ◌+◌, ◌*◌, true}
use Rattle.gn_value.specs.Values.{position_of_place}
use Rattle.gn_value.specs.declared.value.Place.{Place}
use Rattle.gn_schedule.specs.Asked.{asked}
use Rattle.gn_wholes.specs.Covers.{AreSoFar, AreInOrder, IsThereOnPlace}
use Rattle.gn_wholes.proofs.collect.add_wholes.Given as goal

abbrev pub invariant-loop-number : goal.invariant-loop-number
invariant-loop-number g l = record {
  so_far : AreSoFar g.S.Source.sources (g.C.Context.meaning l.context) l.table l.steps l.at l.wholes.items;
  order : AreInOrder (6 * l.at + l.number) l.wholes.items;
  there : (p : Place) → position_of_place p < l.number → asked l.table p l.at ≡ true → IsThereOnPlace (g.C.Context.meaning l.context) p l.steps l.at l.wholes.items;
}
