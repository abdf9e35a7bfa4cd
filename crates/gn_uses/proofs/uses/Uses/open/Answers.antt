use Rattle.std.proofs.Common.{[], sym, subst}
use Rattle.gn_uses.specs.Nodes.{with_results, HasRoom}
use Rattle.gn_uses.specs.Parts.{nodes_of}
use Rattle.gn_uses.specs.Marks.{opened}
use Rattle.gn_uses.specs.Progress.{marks_of}
use Rattle.gn_uses.specs.Uses.{Changes, HasNoResults}
use Rattle.gn_uses.specs.Inside.{seen}
use Rattle.gn_uses.proofs.Calls.{results_event}
use Rattle.gn_uses.proofs.Keeping.{can_then, can_later, so_far_later, settled_changes}
use Rattle.gn_uses.proofs.uses.Uses.open.Goals as goal

pub want_results-requires-clause-can : goal.want_results-requires-clause-can
want_results-requires-clause-can c =
    let before = c.self.inside in
    let none = subst (λ u. HasNoResults u.nodes c.args.zone) (sym c.self.view_is) c.requires.there in
    let room = subst (λ u. HasRoom u.nodes.sizes c.args.results.items) (sym c.self.view_is) c.requires.results in
    let event = results_event before.parts c.set_results.new.self before.progress before.taken c.self.invariant c.args.zone c.args.results.items none room c.set_results.ensures in
    can_then before.parts c.set_results.new.self before.progress before.taken c.self.invariant event.whole event.passed

pub settle-requires-clause-can : goal.settle-requires-clause-can
settle-requires-clause-can c =
    let before = c.self.inside in
    let marks = opened (nodes_of c.set_results.new.self []) (marks_of before.progress) c.args.zone in
    let none = subst (λ u. HasNoResults u.nodes c.args.zone) (sym c.self.view_is) c.requires.there in
    let room = subst (λ u. HasRoom u.nodes.sizes c.args.results.items) (sym c.self.view_is) c.requires.results in
    let event = results_event before.parts c.set_results.new.self before.progress before.taken c.self.invariant c.args.zone c.args.results.items none room c.set_results.ensures in
    can_later before.parts c.set_results.new.self before.progress before.taken c.self.invariant event.whole event.passed marks event.next c.want_results.new.self c.want_results.ensures

pub settle-requires-clause-right : goal.settle-requires-clause-right
settle-requires-clause-right c =
    let before = c.self.inside in
    let marks = opened (nodes_of c.set_results.new.self []) (marks_of before.progress) c.args.zone in
    let none = subst (λ u. HasNoResults u.nodes c.args.zone) (sym c.self.view_is) c.requires.there in
    let room = subst (λ u. HasRoom u.nodes.sizes c.args.results.items) (sym c.self.view_is) c.requires.results in
    let event = results_event before.parts c.set_results.new.self before.progress before.taken c.self.invariant c.args.zone c.args.results.items none room c.set_results.ensures in
    so_far_later before.parts c.set_results.new.self before.progress before.taken c.self.invariant event.whole event.passed marks event.next c.want_results.new.self c.want_results.ensures

pub returns : goal.returns
returns c =
    let before = c.self.inside in
    let marks = opened (nodes_of c.set_results.new.self []) (marks_of before.progress) c.args.zone in
    let none = subst (λ u. HasNoResults u.nodes c.args.zone) (sym c.self.view_is) c.requires.there in
    let room = subst (λ u. HasRoom u.nodes.sizes c.args.results.items) (sym c.self.view_is) c.requires.results in
    let event = results_event before.parts c.set_results.new.self before.progress before.taken c.self.invariant c.args.zone c.args.results.items none room c.set_results.ensures in
    subst (λ u. Changes u (with_results u.nodes c.args.zone c.args.results.items) (seen c.set_results.new.self c.settle.new.self before.taken)) c.self.view_is
    (settled_changes before.parts c.set_results.new.self before.progress before.taken c.self.invariant event.whole event.passed marks event.next c.want_results.new.self c.want_results.ensures
    c.settle.new.self c.settle.ensures (with_results (nodes_of before.parts before.progress.wanted.sizes) c.args.zone c.args.results.items) event.nodes)
