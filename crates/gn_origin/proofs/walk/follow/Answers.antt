use Rattle.std.proofs.Common.{◌<◌, sym, ◌∙◌, subst, arith}
use Rattle.gn_tree.specs.Seen.{tree_of}
use Rattle.gn_origin.specs.declared.walk.Progress.TheVariants.{Moved, Arrived}
use Rattle.gn_origin.specs.Reading.{IsElsewhere}
use Rattle.gn_origin.specs.Walking.{Steps, Leads, IsOrigin, tree_by, read_by, IsFoundBelow, AreSame}
use Rattle.gn_origin.proofs.Back.{leads_same, same_then, elsewhere_too, found_sooner, fewer_left, steps_left}
use Rattle.gn_origin.proofs.walk.follow.Goals as goal

pub back-smaller : goal.back-smaller
back-smaller g c =
    let old = c.back.walk in
    let new = c.step.new.self in
    let inv = c.back.invariant in
    let stepped : Steps old new Moved = subst (Steps old new) c.in-Moved.is c.in_ok-step.ensures in
    let found : IsFoundBelow (tree_by old) g.steps (read_by old).from = subst (λ l. IsFoundBelow (tree_of l.now.tree.now) g.steps (read_by old).from) (sym inv.lists) inv.found in
    subst (λ l. steps_left (tree_of l.now.tree.now) g.steps (read_by new).from < steps_left (tree_by old) g.steps (read_by old).from) (sym stepped.0)
    (fewer_left (tree_by old) (read_by old) (read_by new) stepped.1 g.steps found.0 found.1 found.2)

pub back-preserved : goal.back-preserved
back-preserved g c =
    let old = c.back.walk in
    let new = c.step.new.self in
    let t = tree_by c.args.walk in
    let inv = c.back.invariant in
    let stepped : Steps old new Moved = subst (Steps old new) c.in-Moved.is c.in_ok-step.ensures in
    let leads : Leads (tree_by c.args.walk) (read_by old) (read_by new) = subst (λ l. Leads (tree_of l.now.tree.now) (read_by old) (read_by new)) inv.lists stepped.1 in
    let sooner = found_sooner t (read_by old) (read_by new) leads inv.found.0 inv.found.2 in
    record {
      stands = stepped.2;
      lists = stepped.0 ∙ inv.lists;
      same = same_then t (read_by c.args.walk) (read_by old) (read_by new) inv.same (leads_same t (read_by old) (read_by new) leads);
      found = (sooner.0, omega (arith, sooner.1, inv.found.1), sooner.2);
    }

pub returns-in-Arrived : goal.returns-in-Arrived
returns-in-Arrived g c =
    let old = c.back.walk in
    let new = c.step.new.self in
    let inv = c.back.invariant in
    let stepped : Steps old new Arrived = subst (Steps old new) c.in-Arrived.is c.in_ok-step.ensures in (
      stepped.0 ∙ inv.lists,
      subst (AreSame (tree_by c.args.walk) (read_by c.args.walk)) (sym stepped.1) inv.same,
      subst (λ r. IsOrigin (tree_by c.args.walk) r.from) (sym stepped.1) (subst (λ l. IsOrigin (tree_of l.now.tree.now) (read_by old).from) inv.lists stepped.2),
      stepped.3,
    )

pub returns-in-Lost : goal.returns-in-Lost
returns-in-Lost g c =
    let old = c.back.walk in
    let inv = c.back.invariant in
    let lost : IsElsewhere (tree_by old) (read_by old) = subst (Steps old c.step.new.self) c.in-Lost.is c.in_ok-step.ensures in
    elsewhere_too (tree_by c.args.walk) (read_by c.args.walk) (read_by old) inv.same (subst (λ l. IsElsewhere (tree_of l.now.tree.now) (read_by old)) inv.lists lost)
