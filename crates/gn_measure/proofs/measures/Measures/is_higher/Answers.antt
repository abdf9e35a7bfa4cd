use Rattle.std.proofs.Common.{◌<◌, ◌-◌, ◌^◌, map, ◌∙◌, arith}
use Rattle.gn_tree.specs.Seen.{group_of}
use Rattle.gn_measure.proofs.Alike.{higher_seen}
use Rattle.gn_measure.proofs.measures.Measures.is_higher.Goals as goal

pub returns : goal.returns
returns c =
    let self = c.args.self.now in
    let small : c.args.limit < 2 ^ 64 - 1 = omega (arith, c.ranges.limit) in
    higher_seen (map group_of self.groups.now) c.args.above c.args.node.now c.args.limit c.height.result self.names c.as_slice.result.now small self.measured.named (c.as_slice.ensures.value ∙ self.measured.high) c.height.ensures
