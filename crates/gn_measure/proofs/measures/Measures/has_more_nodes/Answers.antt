use Rattle.std.proofs.Common.{◌≡◌, ◌<◌, ◌-◌, ◌^◌, length, map, ◌∙◌, arith}
use Rattle.std.proofs.lemmas.List.{length-map}
use Rattle.gn_tree.specs.Seen.{group_of, nodes_of}
use Rattle.gn_measure.proofs.Alike.{more_seen}
use Rattle.gn_measure.proofs.measures.Measures.has_more_nodes.Goals as goal

pub returns : goal.returns
returns c =
    let self = c.args.self.now in
    let groups = map group_of self.groups.now in
    let size : length self.groups.now ≡ length groups = simp length-map in
    let small : c.args.limit < 2 ^ 64 - 1 = omega (arith, c.ranges.limit) in
    more_seen groups (map group_of c.args.tree.now.groups.items) (length self.groups.now) (nodes_of c.args.tree.now.nodes.items) c.args.limit c.counts.result self.names c.as_slice.result.now
    small self.measured.named (c.as_slice.ensures.value ∙ self.measured.many) c.requires size c.counts.ensures
