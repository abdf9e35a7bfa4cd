use Rattle.gn_origin.specs.Walking.{tree_by, read_by, AreSame, IsFoundBelow, Stands}
use Rattle.std.proofs.Common.{◌≡◌}
use Rattle.gn_origin.proofs.Back.{steps_left}
use Rattle.gn_origin.proofs.walk.follow.Given as goal

abbrev pub invariant-back : goal.invariant-back
invariant-back g l = record {
  stands : Stands l.walk;
  lists : l.walk.lists ≡ l.initial.walk.lists;
  same : AreSame (tree_by l.initial.walk) (read_by l.initial.walk) (read_by l.walk);
  found : IsFoundBelow (tree_by l.initial.walk) g.steps (read_by l.walk).from;
}

abbrev pub decreases-back : goal.decreases-back
decreases-back g l = steps_left (tree_by l.walk) g.steps (read_by l.walk).from
