use Rattle.std.proofs.Common.{◌≡◌, ◌<◌, suc, List, [], ◌∷◌, length, drop, refl, sym, ◌∙◌, ap, subst, arith}
use Rattle.gn_order.specs.declared.heights.Visit.{Visit}
use Rattle.gn_cycle.specs.Graph.{Graph, lists}
use Rattle.gn_order.specs.Walk.{AreOpen, BeganAt, left}
use Rattle.gn_order.proofs.heights.find_from.Goals as goal

pub step-requires : goal.step-requires
step-requires c =
    let graph : Graph = lists c.args.targets.now in
    record { acyclic = c.requires.acyclic; found = c.walk.invariant.found; «open» = subst (AreOpen graph c.walk.heights 0) c.in-Some.ensures.items c.walk.invariant.way }

pub walk-smaller : goal.walk-smaller
walk-smaller c =
    let graph : Graph = lists c.args.targets.now in
    subst (λ way. left graph c.step.new.heights c.step.new.way.items < left graph c.walk.heights way) (sym c.in-Some.ensures.items) c.in_ok-step.ensures.less

pub walk-preserved : goal.walk-preserved
walk-preserved c =
    let graph : Graph = lists c.args.targets.now in
    let gone = c.in_ok-step.ensures in
    record {
      found = gone.found;
      way = gone.way;
      keeps = λ n k. gone.keeps n (c.walk.invariant.keeps n k);
      began = gone.began c.args.start (subst (BeganAt graph c.args.start c.walk.heights) c.in-Some.ensures.items c.walk.invariant.began);
    }

none_left : (way : List Visit) → way ≡ drop 1 way → way ≡ []
none_left [] e = refl
none_left (visit ∷ way) e = absurd (let same : suc (length way) ≡ length way = ap length e in omega (arith, same))

pub returns : goal.returns
returns c =
    let graph : Graph = lists c.args.targets.now in
    let empty : c.walk.way.items ≡ [] = none_left c.walk.way.items (c.in_default.ensures.items ∙ c.in_default.ensures.rest) in
    (sym c.in_default.ensures.items ∙ empty, c.walk.invariant.found, c.walk.invariant.keeps, subst (BeganAt graph c.args.start c.walk.heights) empty c.walk.invariant.began)
