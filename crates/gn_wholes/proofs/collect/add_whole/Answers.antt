use Rattle.std.proofs.Common.{◌≡◌, ◌∙◌, ◌+◌, ◌*◌, Option, Some, false, rules, ap, sym, subst, arith}
use Rattle.std.specs.Prelude.{option_map}
use Rattle.std.specs.Option.{option_eq}
use Rattle.gn_value.specs.Values.{position_of_place}
use Rattle.gn_plain.specs.Equality.{same_place}
use Rattle.gn_field.specs.Contexts.{place_of, on_place}
use Rattle.gn_schedule.specs.Asked.{asked}
use Rattle.gn_wholes.specs.Covers.{AreSoFar}
use Rattle.gn_wholes.proofs.Collecting.{added, there_here, added_moved, there_moved_on, there_not, grows_none, on_ok, on_ok_both, so_far_moved}
use Rattle.gn_wholes.proofs.Ordering.{ordered_wider}
use Rattle.gn_wholes.proofs.Places.{none_is, not_on, other_is, false-true}
use Rattle.gn_wholes.proofs.collect.add_whole.Goals as goal

-- the step is not asked for on the place
pub returns-then-not-has : goal.returns-then-not-has
returns-then-not-has g c =
    let ws = c.args.wholes.now.items in
    let n = 6 * c.args.at + position_of_place c.args.place in
    record {
      order = ordered_wider n (n + 1) ws (omega arith) c.requires.order;
      so_far = c.requires.so_far;
      grows = grows_none ws;
      there = λ is.
          let not_asked : asked c.args.table.now c.args.place c.args.at ≡ false = search rules in
          absurd (false-true (sym not_asked ∙ is));
    }

-- it is asked for on the place of the context
pub returns-then-eq : goal.returns-then-eq
returns-then-eq g c =
    let src = g.S.Source.sources in
    let ctx = g.C.Context.meaning c.args.context.now in
    let table = c.args.table.now in
    let xs = c.args.steps.now in
    let at = c.args.at in
    let place = c.args.place in
    let ws = c.args.wholes.now.items in
    let more = c.add_on.new.wholes.items in
    let here : place_of ctx ≡ Some place = search rules in
    record {
      order = c.add_on.ensures.order;
      so_far = on_ok_both c.add_on.result _ _ _ (added src ctx table xs at ws more c.requires.so_far) c.add_on.ensures.whole c.add_on.ensures.grows;
      grows = c.add_on.ensures.grows;
      there = on_ok c.add_on.result _ _ (λ there asks. there_here src ctx table xs at ws more c.requires.so_far place here there) c.add_on.ensures.there;
    }

-- the context has another on the place
pub add_on-requires-in-Some-clause-so_far : goal.add_on-requires-in-Some-clause-so_far
add_on-requires-in-Some-clause-so_far g c κs within =
    let src = g.S.Source.sources in
    let ctx = g.C.Context.meaning c.args.context.now in
    let place = c.args.place in
    let other = g.C.Context.meaning c.in-Some.other in
    let is = other_is ctx place other (subst (λ (o : Option g.row.C.Denot). option_map g.C.Context.meaning o ≡ on_place ctx place) c.in-Some.is c.in_ok-other.ensures) in
    subst (λ d. AreSoFar src d c.args.table.now c.args.steps.now c.args.at c.args.wholes.now.items) (sym is.1)
    (so_far_moved src ctx place c.args.table.now c.args.steps.now c.args.at c.args.wholes.now.items is.0 c.requires.so_far)

pub returns-in-Some : goal.returns-in-Some
returns-in-Some g c =
    let src = g.S.Source.sources in
    let ctx = g.C.Context.meaning c.args.context.now in
    let table = c.args.table.now in
    let xs = c.args.steps.now in
    let at = c.args.at in
    let place = c.args.place in
    let ws = c.args.wholes.now.items in
    let more = c.add_on-in-Some.new.wholes.items in
    let other = g.C.Context.meaning c.in-Some.other in
    let is = other_is ctx place other (subst (λ (o : Option g.row.C.Denot). option_map g.C.Context.meaning o ≡ on_place ctx place) c.in-Some.is c.in_ok-other.ensures) in
    record {
      order = c.add_on-in-Some.ensures.order;
      so_far = on_ok_both c.add_on-in-Some.result _ _ _ (added_moved src ctx table xs at ws more c.requires.so_far place other is.1) c.add_on-in-Some.ensures.whole c.add_on-in-Some.ensures.grows;
      grows = c.add_on-in-Some.ensures.grows;
      there = on_ok c.add_on-in-Some.result _ _ (λ there asks. there_moved_on src ctx table xs at ws more c.requires.so_far place other is.1 there) c.add_on-in-Some.ensures.there;
    }

-- the context does not reach the place
pub returns-in-None : goal.returns-in-None
returns-in-None g c =
    let ctx = g.C.Context.meaning c.args.context.now in
    let place = c.args.place in
    let ws = c.args.wholes.now.items in
    let n = 6 * c.args.at + position_of_place place in
    let without = none_is ctx place (subst (λ (o : Option g.row.C.Denot). option_map g.C.Context.meaning o ≡ on_place ctx place) c.in-None.is c.in_ok-other.ensures) in
    record {
      order = ordered_wider n (n + 1) ws (omega arith) c.requires.order;
      so_far = c.requires.so_far;
      grows = grows_none ws;
      there = λ asks. there_not ctx place c.args.steps.now c.args.at ws (not_on ctx place (ap (λ o. option_eq same_place o (Some place)) (sym c.place.ensures) ∙ (sym c.eq.ensures ∙ c.if-eq.false))) without;
    }
