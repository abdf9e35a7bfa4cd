use Rattle.std.proofs.Common.{◌++◌, map, ap, sym, ◌∙◌, arith}
use Rattle.std.specs.List.{range_with_len}
use Rattle.std.proofs.lemmas.List.{append-nil}
use Rattle.gn_grid.specs.GridLists.{across_from_first}
use Rattle.gn_grid.proofs.Growing.{push_step}
use Rattle.gn_grid.proofs.grids.add_across.Goals as goal

pub loop-y-init : goal.loop-y-init
loop-y-init c = record { edges = sym (append-nil c.args.edges.now.items) }

pub loop-y-preserved : goal.loop-y-preserved
loop-y-preserved c = record { edges = push_step (across_from_first c.args.first c.args.next) c.loop-y.y c.args.edges.now.items c.loop-y.edges.items c.push.new.self.items c.loop-y.invariant.edges c.in_ok-push.ensures.items }

pub returns : goal.returns
returns c = c.loop-y.invariant.edges ∙ ap (λ k. c.args.edges.now.items ++ map (across_from_first c.args.first c.args.next) (range_with_len 0 k)) (omega (arith, c.loop-y-test.false, c.loop-y.auto.y-end))
