use Rattle.std.proofs.Common.{◌∙◌, ap, map, arith}
use Rattle.gn_pieces.proofs.Steps.{take_whole}
use Rattle.gn_inst.specs.Realizing.{capped_count}
use Rattle.gn_inst.proofs.Counted.{all_named, count_is}
use Rattle.gn_inst.proofs.Smaller.{part_smaller}
use Rattle.gn_inst.proofs.counts.+counts.Goals as goal

pub part_counts-realized_count-requires : goal.part_counts-realized_count-requires
part_counts-realized_count-requires t c =
    (omega (arith, c.decreases, part_smaller c.args.geometry.now c.parts_of-parts.result.now c.loop-part.part-index c.part-item.result c.parts_of-parts.ensures c.loop-part-test.true c.part-item.is), tt)

pub part_counts-returns : goal.part_counts-returns
part_counts-returns t c =
    c.loop-part.invariant ∙ ap (map (capped_count c.args.place)) (take_whole c.parts_of-parts.result.now c.loop-part.part-index c.loop-part-test.false ∙ c.parts_of-parts.ensures)

pub realized_count-total-requires : goal.realized_count-total-requires
realized_count-total-requires t c =
    all_named c.args.geometry.now c.args.place c.deref.result.now c.items_of.result.now c.items_of.ensures.named (c.deref.ensures.value ∙ c.in_ok-counts.ensures)

pub realized_count-returns : goal.realized_count-returns
realized_count-returns t c =
    count_is c.args.geometry.now c.args.place c.items_of.result.now c.deref.result.now c.own_count-own.result c.total.result c.items_of.ensures.items c.items_of.ensures.named (c.deref.ensures.value ∙ c.in_ok-counts.ensures) c.own_count-own.ensures c.total.ensures
