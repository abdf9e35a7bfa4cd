use Rattle.std.proofs.Common.{◌≡◌, ap, ◌∙◌, arith}
use Rattle.gn_readers.specs.declared.place.Place.TheVariants.{Input}
use Rattle.gn_readers.proofs.Places.{node_at}
use Rattle.gn_delivery.proofs.Marking.{choice_made}
use Rattle.gn_delivery.proofs.plan.chosen_at.Goals as goal

pub returns-in-Some-2 : goal.returns-in-Some-2
returns-in-Some-2 g c =
    let kind = g.N.NodeSet.kind_of c.in-Some.at.now.kind in
    let there = node_at (λ x. x.now) c.args.graph.now.nodes c.in-Input-default-eq0.node c.node.result c.in-Some.at c.in-Some.is c.node.ensures.node in
    let zero : c.in-Input-default-eq0.input ≡ 0 = omega (arith, c.in-Input-default-eq0.input-is, c.in-Input-default-eq0.input-test) in
    let made = choice_made (g.N.NodeSet.meanings.rows.role kind) c.in_ok-choice.field-0 c.in-Some-2.choice (g.N.NodeSet.meanings.rows.choice kind (g.N.NodeSet.content c.args.condition.now)) c.in-Some-2.is c.in_ok-choice.ensures.choice c.in_ok-choice.ensures.has_chosen in (
      c.in-Input-default-eq0.is ∙ ap (Input c.in-Input-default-eq0.node) zero,
      (c.in-Some.at.now, there, made.0, made.1),
    )
