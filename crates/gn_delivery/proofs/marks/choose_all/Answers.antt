use Rattle.std.proofs.Common.{◌≤◌, length, take, sym, ap, subst, ◌∙◌, refl, arith}
use Rattle.gn_delivery.specs.Marks.{Chooses}
use Rattle.gn_delivery.proofs.Marking.{none_chosen, more_chosen, with_next, take_all}
use Rattle.gn_delivery.proofs.marks.choose_all.Goals as goal

pub loop-one-init : goal.loop-one-init
loop-one-init c = record { nodes = none_chosen c.args.uses.now.nodes; taken = refl; choices = c.requires.same }

pub choose_one-requires-clause-whole : goal.choose_one-requires-clause-whole
choose_one-requires-clause-whole c = c.loop-one.invariant.nodes.len ∙ c.requires.whole ∙ sym (ap (λ g. length g.sizes) c.loop-one.invariant.nodes.same)

pub loop-one-preserved : goal.loop-one-preserved
loop-one-preserved c = record {
  nodes = with_next (λ cs. Chooses c.args.uses.now.nodes cs c.choose_one.new.uses.nodes) c.args.chosen.now c.loop-one.one-index _ c.loop-one-test.true
      (more_chosen c.args.uses.now.nodes c.loop-one.uses.nodes c.choose_one.new.uses.nodes (take c.loop-one.one-index c.args.chosen.now) _ c.loop-one.invariant.nodes c.choose_one.ensures.nodes);
  taken = c.choose_one.ensures.taken ∙ c.loop-one.invariant.taken;
  choices = c.choose_one.ensures.choices;
}

pub returns-clause-nodes : goal.returns-clause-nodes
returns-clause-nodes c =
    let past : length c.args.chosen.now ≤ c.loop-one.one-index = omega (arith, c.loop-one-test.false) in
    subst (λ cs. Chooses c.args.uses.now.nodes cs c.loop-one.uses.nodes) (take_all c.args.chosen.now c.loop-one.one-index past) c.loop-one.invariant.nodes
