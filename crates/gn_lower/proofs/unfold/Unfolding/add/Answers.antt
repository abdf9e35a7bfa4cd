use Rattle.std.proofs.Common.{◌<◌, ◌∙◌, ◌++◌, ◌∷◌, [], All, length, refl, sym, ap, subst}
use Rattle.gn_lazy.specs.declared.graph.GraphNode.{GraphNode}
use Rattle.gn_tree.specs.declared.kind.Kind.{Kind}
use Rattle.gn_meaning.specs.Sites.{plain_step}
use Rattle.gn_lower.specs.declared.visit.Made.TheVariants as made
use Rattle.gn_lower.specs.Carried.{IsRead, Makes}
use Rattle.gn_lower.specs.Events.{Links}
use Rattle.gn_lower.proofs.Granted.{groups_here, row_fits, row_inside, row_read, row_runs}
use Rattle.gn_lower.proofs.Steps.{goes_on_adding}
use Rattle.gn_lower.proofs.unfold.Unfolding.add.Goals as goal

pub kind-requires-clause-fits : goal.kind-requires-clause-fits
kind-requires-clause-fits c = row_fits c.args.self.now c.requires.stands c.args.number c.args.row.now c.requires.next.0

pub kind-requires-clause-run : goal.kind-requires-clause-run
kind-requires-clause-run c = row_runs c.args.self.now c.requires.stands c.args.number c.args.row.now c.requires.next.0 c.args.outputs c.requires.next.1

pub links-requires : goal.links-requires
links-requires c = subst (λ rs. All (IsRead c.args.self.now.nodes.items c.args.self.now.visit) rs) (sym c.deref-2.ensures.value) (row_read c.args.self.now c.requires.stands c.args.number c.args.row.now c.requires.next.0)

pub make-requires : goal.make-requires
make-requires c =
    subst (λ x. (c.args.number < length x.made.items) × (x.next < length x.table.now.order.items)) (sym (ap (λ u. u.visit) c.in_ok-inputs.ensures.others))
    (row_inside c.args.self.now c.requires.stands c.args.number c.args.row.now c.requires.next.0)

pub returns : goal.returns
returns c =
    let old = c.args.self.now in
    let mid = c.links.new.self in
    let node : GraphNode Kind = record { path = c.in_ok-path.path; kind = c.in_ok-kind.kind; inputs = c.in_ok-inputs.inputs; outputs = c.in_ok-outputs.outputs } in
    let links : Links c.args.self.now c.args.row.now.reads.items c.in_ok-inputs.inputs.items c.links.new.self = subst (λ rs. Links c.args.self.now rs c.in_ok-inputs.inputs.items c.links.new.self) c.deref-2.ensures.value c.in_ok-inputs.ensures in
    let makes : Makes c.links.new.self.visit c.args.number (made.Node (length c.links.new.self.nodes.items)) c.make.new.self = subst (λ k. Makes c.links.new.self.visit c.args.number (made.Node k) c.make.new.self) (c.len.ensures ∙ c.links.new.self.nodes.ok.0) c.make.ensures in
    goes_on_adding old _ c.requires.stands mid c.args.number c.args.outputs c.args.row.now node links refl c.requires.next.0 c.requires.next.1
    (c.in_ok-path.ensures ∙ (λ i. c.deref.ensures.value i ++ plain_step (c.in_ok-narrow.ensures i) ∷ []))
    c.in_ok-outputs.ensures
    (c.in_ok-kind.ensures c.requires.stands.state.visit.body.scope (groups_here c.args.self.now c.requires.stands))
    c.in_ok-push.ensures.items
    makes
