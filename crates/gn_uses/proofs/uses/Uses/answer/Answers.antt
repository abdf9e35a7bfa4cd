use Rattle.std.proofs.Common.{◌≡◌, ◌<◌, [], length, ap, subst, arith}
use Rattle.gn_uses.specs.Nodes.{with_answer}
use Rattle.gn_uses.specs.Parts.{nodes_of}
use Rattle.gn_uses.specs.Marks.{looked_at}
use Rattle.gn_uses.specs.Progress.{marks_of}
use Rattle.gn_uses.specs.Uses.{Changes}
use Rattle.gn_uses.specs.Inside.{seen}
use Rattle.gn_uses.proofs.Calls.{answer_event}
use Rattle.gn_uses.proofs.Keeping.{at_rest, rest_changes}
use Rattle.gn_uses.proofs.Steps.{looked_wanted}
use Rattle.gn_uses.proofs.uses.Uses.answer.Goals as goal

pub invariant_of-self : goal.invariant_of-self
invariant_of-self c =
    let before = c.self.inside in
    let marks = looked_at (nodes_of c.set_answer.new.self []) (marks_of before.progress) c.args.node in
    let there : c.args.node < length before.progress.wanted.sizes = let e = ap (λ u. length u.nodes.sizes) c.self.view_is in omega (arith, e, c.requires) in
    let event = answer_event before.parts c.set_answer.new.self before.progress before.taken c.self.invariant c.args.node there c.set_answer.ensures in
    at_rest before.parts c.set_answer.new.self before.progress before.taken c.self.invariant event.whole event.passed marks event.next c.look_at_used.new.self c.look_at_used.ensures
    (looked_wanted (nodes_of c.set_answer.new.self []) (marks_of before.progress) c.args.node)

pub returns : goal.returns
returns c =
    let before = c.self.inside in
    let marks = looked_at (nodes_of c.set_answer.new.self []) (marks_of before.progress) c.args.node in
    let there : c.args.node < length before.progress.wanted.sizes = let e = ap (λ u. length u.nodes.sizes) c.self.view_is in omega (arith, e, c.requires) in
    let event = answer_event before.parts c.set_answer.new.self before.progress before.taken c.self.invariant c.args.node there c.set_answer.ensures in
    subst (λ u. Changes u (with_answer u.nodes c.args.node) (seen c.set_answer.new.self c.look_at_used.new.self before.taken)) c.self.view_is
    (rest_changes before.parts c.set_answer.new.self before.progress before.taken c.self.invariant event.whole event.passed marks event.next c.look_at_used.new.self c.look_at_used.ensures
    (with_answer (nodes_of before.parts before.progress.wanted.sizes) c.args.node) event.nodes)
