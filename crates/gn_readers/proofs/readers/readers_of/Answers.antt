use Rattle.std.proofs.Common.{◌≤◌, [], length, replicate, ap, ◌∙◌, arith}
use Rattle.gn_readers.specs.Readers.{lists_of}
use Rattle.gn_readers.proofs.Places.{none_yet, inputs_noted}
use Rattle.gn_readers.proofs.readers.readers_of.Goals as goal

pub loop-node-init : goal.loop-node-init
loop-node-init g c = record { noted = none_yet c.args.graph.now (lists_of c.in_ok-readers.readers.items) (c.in_ok-readers.ensures ∙ ap (λ k. replicate k []) c.len.ensures) }

pub note_roots-requires : goal.note_roots-requires
note_roots-requires g c =
    let past : length c.args.graph.now.nodes ≤ c.loop-node.node = omega (arith, c.len.ensures, c.loop-node-test.false) in
    inputs_noted c.args.graph.now c.loop-node.node (lists_of c.loop-node.readers.items) past c.loop-node.invariant.noted
