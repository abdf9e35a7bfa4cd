use Rattle.std.proofs.Common.{◌≡◌, ◌≤◌, ℕ, length, take, subst, ◌∙◌, refl, arith}
use Rattle.gn_uses.specs.Uses.{HasInput}
use Rattle.gn_readers.specs.declared.place.Place.TheVariants.{Input}
use Rattle.gn_delivery.specs.Marks.{Fills}
use Rattle.gn_delivery.proofs.Marking.{none_filled, more_filled, input_stays, with_next, next_has, take_all}
use Rattle.gn_delivery.proofs.marks.fill_all.Goals as goal

pub loop-reader-init : goal.loop-reader-init
loop-reader-init c = record { nodes = none_filled c.args.uses.now.nodes; taken = refl }

pub fill_one-requires : goal.fill_one-requires
fill_one-requires c =
    next_has (λ r. (n i : ℕ) → r.place ≡ Input n i → HasInput c.loop-reader.uses.nodes n i) c.args.readers.now c.loop-reader.reader-index _ c.loop-reader-test.true
    (λ r h n i e. input_stays c.args.uses.now.nodes c.loop-reader.uses.nodes (take c.loop-reader.reader-index c.args.readers.now) n i c.loop-reader.invariant.nodes (c.requires r n i h e))

pub loop-reader-preserved : goal.loop-reader-preserved
loop-reader-preserved c = record {
  nodes = with_next (λ rs. Fills c.args.uses.now.nodes rs c.fill_one.new.uses.nodes) c.args.readers.now c.loop-reader.reader-index _ c.loop-reader-test.true
      (more_filled c.args.uses.now.nodes c.loop-reader.uses.nodes c.fill_one.new.uses.nodes (take c.loop-reader.reader-index c.args.readers.now) _ c.loop-reader.invariant.nodes c.fill_one.ensures.nodes);
  taken = c.fill_one.ensures.taken ∙ c.loop-reader.invariant.taken;
}

pub returns-clause-nodes : goal.returns-clause-nodes
returns-clause-nodes c =
    let past : length c.args.readers.now ≤ c.loop-reader.reader-index = omega (arith, c.loop-reader-test.false) in
    subst (λ rs. Fills c.args.uses.now.nodes rs c.loop-reader.uses.nodes) (take_all c.args.readers.now c.loop-reader.reader-index past) c.loop-reader.invariant.nodes
