use Rattle.std.proofs.Common.{◌≡◌, take}
use Rattle.gn_delivery.specs.Marks.{Chooses}
use Rattle.gn_delivery.proofs.marks.choose_all.Given as goal

abbrev pub invariant-loop-one : goal.invariant-loop-one
invariant-loop-one l = record {
  nodes : Chooses l.fn.uses.nodes (take l.one-index l.chosen) l.uses.nodes;
  taken : l.uses.taken ≡ l.fn.uses.taken;
  choices : l.choices.items ≡ l.uses.nodes.choices;
}
