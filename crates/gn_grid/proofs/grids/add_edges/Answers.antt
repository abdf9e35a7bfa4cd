use Rattle.std.proofs.Common.{◌++◌, flat_map, ap, sym, ◌∙◌, arith}
use Rattle.std.specs.List.{range_with_len}
use Rattle.std.proofs.lemmas.List.{append-nil}
use Rattle.gn_grid.specs.GridLists.{four_edges}
use Rattle.gn_grid.proofs.Growing.{extend_step}
use Rattle.gn_grid.proofs.grids.add_edges.Goals as goal

pub loop-y-init : goal.loop-y-init
loop-y-init c = record { corners = sym (append-nil c.args.corners.now.items) }

pub loop-y-preserved : goal.loop-y-preserved
loop-y-preserved c = record { corners = extend_step (four_edges c.args.below c.args.right c.args.left) c.loop-y.y c.args.corners.now.items c.loop-y.corners.items c.extend_from_slice.new.self.items c.loop-y.invariant.corners c.in_ok-extend_from_slice.ensures.items }

pub returns : goal.returns
returns c = c.loop-y.invariant.corners ∙ ap (λ k. c.args.corners.now.items ++ flat_map (four_edges c.args.below c.args.right c.args.left) (range_with_len 0 k)) (omega (arith, c.loop-y-test.false, c.loop-y.auto.y-end))
