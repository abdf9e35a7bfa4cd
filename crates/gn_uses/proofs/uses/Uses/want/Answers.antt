use Rattle.std.proofs.Common.{[], sym, subst}
use Rattle.gn_uses.specs.Sets.{IsIn}
use Rattle.gn_uses.specs.Nodes.{with_root}
use Rattle.gn_uses.specs.Parts.{nodes_of}
use Rattle.gn_uses.specs.Marks.{rooted}
use Rattle.gn_uses.specs.Progress.{marks_of}
use Rattle.gn_uses.specs.Uses.{Changes}
use Rattle.gn_uses.specs.Inside.{seen}
use Rattle.gn_uses.proofs.Calls.{root_event}
use Rattle.gn_uses.proofs.Keeping.{can_then, can_later, so_far_later, settled_changes}
use Rattle.gn_uses.proofs.uses.Uses.want.Goals as goal

pub want-requires-clause-can : goal.want-requires-clause-can
want-requires-clause-can c =
    let before = c.self.inside in
    let inside = subst (λ u. IsIn u.nodes.sizes c.args.root) (sym c.self.view_is) c.requires in
    let event = root_event before.parts c.add_root.new.self before.progress before.taken c.self.invariant c.args.root inside c.in_ok-add_root.ensures.ok in
    can_then before.parts c.add_root.new.self before.progress before.taken c.self.invariant event.whole event.passed

pub settle-requires-clause-can : goal.settle-requires-clause-can
settle-requires-clause-can c =
    let before = c.self.inside in
    let marks = rooted (marks_of before.progress) c.args.root in
    let inside = subst (λ u. IsIn u.nodes.sizes c.args.root) (sym c.self.view_is) c.requires in
    let event = root_event before.parts c.add_root.new.self before.progress before.taken c.self.invariant c.args.root inside c.in_ok-add_root.ensures.ok in
    can_later before.parts c.add_root.new.self before.progress before.taken c.self.invariant event.whole event.passed marks event.next c.want.new.self c.want.ensures

pub settle-requires-clause-right : goal.settle-requires-clause-right
settle-requires-clause-right c =
    let before = c.self.inside in
    let marks = rooted (marks_of before.progress) c.args.root in
    let inside = subst (λ u. IsIn u.nodes.sizes c.args.root) (sym c.self.view_is) c.requires in
    let event = root_event before.parts c.add_root.new.self before.progress before.taken c.self.invariant c.args.root inside c.in_ok-add_root.ensures.ok in
    so_far_later before.parts c.add_root.new.self before.progress before.taken c.self.invariant event.whole event.passed marks event.next c.want.new.self c.want.ensures

pub returns-clause-ok : goal.returns-clause-ok
returns-clause-ok c =
    let before = c.self.inside in
    let marks = rooted (marks_of before.progress) c.args.root in
    let inside = subst (λ u. IsIn u.nodes.sizes c.args.root) (sym c.self.view_is) c.requires in
    let event = root_event before.parts c.add_root.new.self before.progress before.taken c.self.invariant c.args.root inside c.in_ok-add_root.ensures.ok in
    subst (λ u. Changes u (with_root u.nodes c.args.root) (seen c.add_root.new.self c.settle.new.self before.taken)) c.self.view_is
    (settled_changes before.parts c.add_root.new.self before.progress before.taken c.self.invariant event.whole event.passed marks event.next c.want.new.self c.want.ensures
    c.settle.new.self c.settle.ensures (with_root (nodes_of before.parts before.progress.wanted.sizes) c.args.root) event.nodes)
