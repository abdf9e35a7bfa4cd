use Rattle.std.proofs.Common.{[], sym, subst}
use Rattle.gn_uses.specs.Nodes.{with_choice}
use Rattle.gn_uses.specs.Parts.{nodes_of}
use Rattle.gn_uses.specs.Marks.{fed_again}
use Rattle.gn_uses.specs.Progress.{marks_of}
use Rattle.gn_uses.specs.Uses.{Changes, IsUnchosen}
use Rattle.gn_uses.specs.Inside.{seen}
use Rattle.gn_uses.proofs.Calls.{choice_event}
use Rattle.gn_uses.proofs.Keeping.{so_far_later, settled_changes}
use Rattle.gn_uses.proofs.uses.Uses.choose.Goals as goal

pub settle-requires-clause-right : goal.settle-requires-clause-right
settle-requires-clause-right c =
    let before = c.self.inside in
    let marks = fed_again (nodes_of c.set_choice.new.self []) (marks_of before.progress) c.args.node in
    let is = subst (λ u. IsUnchosen u.nodes c.args.node) (sym c.self.view_is) c.requires in
    let event = choice_event before.parts c.set_choice.new.self before.progress before.taken c.self.invariant c.args.node c.args.choice is c.set_choice.ensures in
    so_far_later before.parts c.set_choice.new.self before.progress before.taken c.self.invariant event.whole event.passed marks event.next c.feed_again.new.self c.feed_again.ensures

pub returns : goal.returns
returns c =
    let before = c.self.inside in
    let marks = fed_again (nodes_of c.set_choice.new.self []) (marks_of before.progress) c.args.node in
    let is = subst (λ u. IsUnchosen u.nodes c.args.node) (sym c.self.view_is) c.requires in
    let event = choice_event before.parts c.set_choice.new.self before.progress before.taken c.self.invariant c.args.node c.args.choice is c.set_choice.ensures in
    subst (λ u. Changes u (with_choice u.nodes c.args.node c.args.choice) (seen c.set_choice.new.self c.settle.new.self before.taken)) c.self.view_is
    (settled_changes before.parts c.set_choice.new.self before.progress before.taken c.self.invariant event.whole event.passed marks event.next c.feed_again.new.self c.feed_again.ensures
    c.settle.new.self c.settle.ensures (with_choice (nodes_of before.parts before.progress.wanted.sizes) c.args.node c.args.choice) event.nodes)
