use Rattle.std.proofs.Common.{take}
use Rattle.gn_pieces.specs.Lists.{AreJoined}
use Rattle.gn_pieces.proofs.JoinedLists.{shapes_of}
use Rattle.gn_pieces.proofs.shapes.joined_lists.Given as goal

-- the lists are the join of the meshes that were gone over
abbrev pub invariant-loop-view : goal.invariant-loop-view
invariant-loop-view l = AreJoined l.lists (shapes_of (take l.view-index l.views))
