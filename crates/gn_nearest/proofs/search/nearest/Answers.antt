use Rattle.std.proofs.Common.{◌-◌, length, arith}
use Rattle.gn_nearest.specs.Boxes.{part_at}
use Rattle.gn_nearest.proofs.Parts.{none_before}
use Rattle.gn_nearest.proofs.Listed.{is_nearest}
use Rattle.gn_nearest.proofs.search.nearest.Goals as goal

pub descend-requires-clause-bound : goal.descend-requires-clause-bound
descend-requires-clause-bound c =
    let some = c.requires.tree.root c.requires.some in
    let k = length c.args.parts.now - 1 in
    none_before c.args.entries.now c.args.parts.now k (part_at c.args.parts.now k) c.args.to c.nearest-bound.result (c.requires.tree.boxes k (omega arith) (omega (arith, some))) c.nearest-bound.ensures

pub returns : goal.returns
returns c =
    let whole = c.requires.tree.whole c.requires.some in
    is_nearest c.args.entries.now c.descend.result c.args.to c.requires.tree.short c.requires.tree.listed c.requires.tree.all c.descend.ensures.of (λ p d h. c.descend.ensures.first p d (omega (arith, whole.begin)) (omega (arith, whole.end)))
