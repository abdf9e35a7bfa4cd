use Rattle.std.proofs.Common.{◌≡◌, length, map, get_or, ap, sym, subst, arith}
use Rattle.gn_field.proofs.Grown.{below_at}
use Rattle.gn_schedule.specs.Plans.{held, Hold, IsPlanning}
use Rattle.gn_schedule.proofs.Planning.{held_slots}
use Rattle.gn_schedule.proofs.plan.plan_of.Goals as goal

pub slots_of-requires : goal.slots_of-requires
slots_of-requires g c = λ k d h. omega (arith, below_at (length c.args.steps.now) c.args.roots.now k d c.requires.within h, ap length c.deref-2.ensures.value, c.in_ok-planning.ensures.done)

pub returns : goal.returns
returns g c =
    let src = g.S.Source.sources in
    let xs = c.args.steps.now in
    let roots = c.args.roots.now in
    let readers = c.in_ok-readers.readers.items in
    let p = c.in_ok-planning.planning in
    let m : IsPlanning src xs readers (length xs) p = subst (λ rs. IsPlanning src xs rs (length xs) p) c.deref.ensures.value c.in_ok-planning.ensures in
    let slots : c.in_ok-roots.roots.items ≡ map (λ a. get_or p.slots.items a 0) roots = subst (λ ss. c.in_ok-roots.roots.items ≡ map (λ a. get_or ss a 0) roots) c.deref-2.ensures.value c.in_ok-roots.ensures in
    record {
      instructions = m.each;
      only = λ needed all closed i x here. c.in_ok-readers.ensures.only needed all closed x.step (m.read i x here);
      ends = subst (λ ss. Hold (held p.instructions.items) ss roots) (sym slots) (held_slots src xs readers (length xs) p m roots c.requires.within c.in_ok-readers.ensures.roots);
    }
