use Rattle.std.proofs.Common.{sym, ap, subst, ◌∙◌, true≢false}
use Rattle.std.specs.Prelude.{option_map}
use Rattle.gn_node_set.proofs.Lists.{not_both}
use Rattle.gn_pending.specs.Flags.{IsFirstOf}
use Rattle.gn_pending.proofs.Firsts.{first_keeps, first_found, first_goes, first_stays, first_there, node_at}
use Rattle.gn_pending.proofs.first.earlier.Goals as goal

pub returns-in_default : goal.returns-in_default
returns-in_default g c ns =
    first_keeps c.args.graph.now.nodes c.args.flags.now ns c.args.first c.args.number (λ at flagged. not_both (sym c.node.ensures.node ∙ ap (option_map (λ x. x.now)) c.in_default.is) flagged.there)

pub returns-then-not-flag_at : goal.returns-then-not-flag_at
returns-then-not-flag_at g c ns =
    first_keeps c.args.graph.now.nodes c.args.flags.now ns c.args.first c.args.number (λ at flagged. true≢false (sym flagged.flag ∙ (sym c.flag_at.ensures ∙ c.if-not-flag_at.true)))

pub returns-in_default-first : goal.returns-in_default-first
returns-in_default-first g c ns first =
    let here = node_at (λ x. x.now) c.args.graph.now.nodes c.args.number c.node.result c.in-Some.at c.in-Some.is c.node.ensures.node in
    first_found c.args.graph.now.nodes c.args.flags.now ns c.args.number c.in-Some.at.now (record { there = here; flag = sym c.flag_at.ensures ∙ c.if-not-flag_at.false })
    (subst (IsFirstOf c.args.graph.now.nodes c.args.flags.now ns) c.in_default-first.is first)

pub returns-then-is_before : goal.returns-then-is_before
returns-then-is_before g c ns first =
    let here = node_at (λ x. x.now) c.args.graph.now.nodes c.args.number c.node.result c.in-Some.at c.in-Some.is c.node.ensures.node in
    let there = node_at (λ x. x.now) c.args.graph.now.nodes c.in-Some-first.so_far c.node-2.result c.in-Some-node.other c.in-Some-node.is c.node-2.ensures.node in
    first_goes c.args.graph.now.nodes c.args.flags.now ns c.in-Some-first.so_far c.args.number c.in-Some.at.now c.in-Some-node.other.now (record { there = here; flag = sym c.flag_at.ensures ∙ c.if-not-flag_at.false }) there
    (sym c.is_before.ensures.before ∙ c.if-is_before.true) (subst (IsFirstOf c.args.graph.now.nodes c.args.flags.now ns) c.in-Some-first.is first)

pub returns-in_default-node : goal.returns-in_default-node
returns-in_default-node g c ns first =
    absurd (first_there c.args.graph.now.nodes c.args.flags.now ns c.in-Some-first.so_far (subst (IsFirstOf c.args.graph.now.nodes c.args.flags.now ns) c.in-Some-first.is first) (sym c.node-2.ensures.node ∙ ap (option_map (λ x. x.now)) c.in_default-node.is))

pub returns : goal.returns
returns g c ns first =
    let here = node_at (λ x. x.now) c.args.graph.now.nodes c.args.number c.node.result c.in-Some.at c.in-Some.is c.node.ensures.node in
    let there = node_at (λ x. x.now) c.args.graph.now.nodes c.in-Some-first.so_far c.node-2.result c.in-Some-node.other c.in-Some-node.is c.node-2.ensures.node in
    first_stays c.args.graph.now.nodes c.args.flags.now ns c.in-Some-first.so_far c.args.number c.in-Some.at.now c.in-Some-node.other.now here there
    (sym c.is_before.ensures.before ∙ c.if-is_before.false) (subst (IsFirstOf c.args.graph.now.nodes c.args.flags.now ns) c.in-Some-first.is first)
