use Rattle.std.proofs.Common.{◌≡◌, ◌≤◌, ◌+◌, length, sym, ap, ◌∙◌, arith}
use Rattle.std.specs.Prelude.{option_map}
use Rattle.gn_readers.specs.Readers.{lists_of, before_input}
use Rattle.gn_readers.proofs.Places.{no_place, node_at, input_link, input_more, node_noted}
use Rattle.gn_readers.proofs.readers.note_inputs.Goals as goal

pub unreachable-requires : goal.unreachable-requires
unreachable-requires g c = no_place c.args.graph.now.nodes c.args.node c.requires.there (sym c.node.ensures.node ∙ ap (option_map (λ x. x.now)) c.in_default.is)

pub note-requires : goal.note-requires
note-requires g c =
    let at = node_at (λ x. x.now) c.args.graph.now.nodes c.args.node c.node.result c.in-Some.at c.in-Some.is c.node.ensures.node in
    input_link c.args.graph.now c.args.node c.loop-input.input c.in-Some.at.now c.deref-link-items.result.now c.link-item.result at c.deref-link-items.ensures.value c.loop-input-test.true c.link-item.is

pub loop-input-preserved : goal.loop-input-preserved
loop-input-preserved g c = record {
  noted = c.in_ok-note.ensures (before_input c.args.node c.loop-input.input) (before_input c.args.node (c.loop-input.input + 1)) (input_more c.args.node c.loop-input.input) c.loop-input.invariant.noted;
}

pub returns : goal.returns
returns g c =
    let at = node_at (λ x. x.now) c.args.graph.now.nodes c.args.node c.node.result c.in-Some.at c.in-Some.is c.node.ensures.node in
    let same : length c.deref-link-items.result.now ≡ length c.in-Some.at.now.inputs.items = ap length c.deref-link-items.ensures.value in
    let past : length c.in-Some.at.now.inputs.items ≤ c.loop-input.input = omega (arith, same, c.loop-input-test.false) in
    node_noted c.args.graph.now c.args.node c.loop-input.input c.in-Some.at.now (lists_of c.loop-input.readers.items) at past c.loop-input.invariant.noted
