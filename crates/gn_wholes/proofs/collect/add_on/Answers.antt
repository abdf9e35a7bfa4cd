use Rattle.std.proofs.Common.{◌≡◌, ◌∙◌, ◌≤◌, ◌+◌, ◌*◌, ◌++◌, ◌∷◌, [], ℕ, List, length, map, Some, refl, ap, sym, subst, arith}
use Rattle.std.specs.Prelude.{slice_get}
use Rattle.std.proofs.lemmas.Option.{slice_get_read}
use Rattle.gn_value.specs.Values.{position_of_place}
use Rattle.gn_plain.specs.Fields.{Expr, elsewhere}
use Rattle.gn_field.specs.Kinds.{kinds_in, step_takes}
use Rattle.gn_field.specs.Steps.{AreBelow, built, named, exprs_of, step_of}
use Rattle.gn_field.specs.declared.step.FieldStep.TheVariants.{Elsewhere}
use Rattle.gn_schedule.proofs.Reading.{wider}
use Rattle.gn_slots.specs.declared.whole.Whole.{Whole}
use Rattle.gn_slots.specs.Registers.{AreWhole, IsCovered}
use Rattle.gn_wholes.specs.Covers.{AreInOrder, CoversArguments, GivesWhole}
use Rattle.gn_wholes.proofs.Covering.{arguments_before, arguments_taken, arguments_covered, field_is}
use Rattle.gn_wholes.proofs.Collecting.{whole_more, covered_more, grows_more, grows_none, not_elsewhere}
use Rattle.gn_wholes.proofs.Ordering.{ordered_more, ordered_wider}
use Rattle.gn_wholes.proofs.collect.add_on.Goals as goal

pub step_values-requires-clause-within : goal.step_values-requires-clause-within
step_values-requires-clause-within g c κs within =
    let xs = c.args.steps.now in
    let at = c.args.at in
    let args = c.in-Elsewhere.args in
    let here : slice_get xs at ≡ Some (Elsewhere c.in-Elsewhere.step args) = slice_get_read xs (length xs) at c.index-steps-at.result refl c.requires.within c.index-steps-at.is ∙ ap Some c.in-Elsewhere.is in
    let le : at ≤ length xs = omega (arith, c.requires.within) in
    subst (λ (js : List ℕ). AreBelow (length xs) js) (sym c.as_slice.ensures.value) (wider at (length xs) args.items le (arguments_before g.S.Source.sources g.S.Source.taken xs c.requires.steps at c.in-Elsewhere.step args here))

pub step_values-requires-clause-kinds : goal.step_values-requires-clause-kinds
step_values-requires-clause-kinds g c κs within =
    let src = g.S.Source.sources in
    let xs = c.args.steps.now in
    let at = c.args.at in
    let args = c.in-Elsewhere.args in
    let here : slice_get xs at ≡ Some (Elsewhere c.in-Elsewhere.step args) = slice_get_read xs (length xs) at c.index-steps-at.result refl c.requires.within c.index-steps-at.is ∙ ap Some c.in-Elsewhere.is in
    subst (λ (js : List ℕ). kinds_in src (exprs_of (map (named (built xs)) js)) ≡ step_takes (step_of c.in-Elsewhere.step)) (sym c.as_slice.ensures.value) (arguments_taken src g.S.Source.taken xs c.requires.steps at c.in-Elsewhere.step args here)

pub step_values-requires-clause-covers : goal.step_values-requires-clause-covers
step_values-requires-clause-covers g c κs within =
    let ctx = g.C.Context.meaning c.args.context.now in
    let xs = c.args.steps.now in
    let at = c.args.at in
    let step = c.in-Elsewhere.step in
    let args = c.in-Elsewhere.args in
    let ws = c.args.wholes.now.items in
    let here : slice_get xs at ≡ Some (Elsewhere step args) = slice_get_read xs (length xs) at c.index-steps-at.result refl c.requires.within c.index-steps-at.is ∙ ap Some c.in-Elsewhere.is in
    let covered : CoversArguments ctx xs (step_of step) args.items ws = arguments_covered g.S.Source.sources g.S.Source.taken xs c.requires.steps at step args here ctx c.args.place c.args.table.now ws c.requires.place c.requires.table c.requires.asked c.requires.so_far.there in
    subst (λ (vs : List Whole). CoversArguments ctx xs (step_of step) c.as_slice.result.now vs) (sym c.deref.ensures.value) (subst (λ (js : List ℕ). CoversArguments ctx xs (step_of step) js ws) (sym c.as_slice.ensures.value) covered)

pub returns-in_ok-push-in-Elsewhere-clause-order : goal.returns-in_ok-push-in-Elsewhere-clause-order
returns-in_ok-push-in-Elsewhere-clause-order g c =
    let at = c.args.at in
    let place = c.args.place in
    let ws = c.args.wholes.now.items in
    let w : Whole = record { step = at; place = place; values = c.in_ok-values-in-Elsewhere.values } in
    let items : c.push.new.self.items ≡ ws ++ w ∷ [] = c.in_ok-push-in-Elsewhere.ensures.items in
    let n = 6 * at + position_of_place place in
    subst (AreInOrder (n + 1)) (sym items) (ordered_more n (n + 1) ws w c.requires.order (omega arith) (omega arith))

pub returns-in_ok-push-in-Elsewhere-clause-whole : goal.returns-in_ok-push-in-Elsewhere-clause-whole
returns-in_ok-push-in-Elsewhere-clause-whole g c =
    let src = g.S.Source.sources in
    let ctx = g.C.Context.meaning c.args.context.now in
    let xs = c.args.steps.now in
    let at = c.args.at in
    let step = c.in-Elsewhere.step in
    let args = c.in-Elsewhere.args in
    let values = c.in_ok-values-in-Elsewhere.values in
    let ws = c.args.wholes.now.items in
    let w : Whole = record { step = at; place = c.args.place; values = values } in
    let items : c.push.new.self.items ≡ ws ++ w ∷ [] = c.in_ok-push-in-Elsewhere.ensures.items in
    let here : slice_get xs at ≡ Some (Elsewhere step args) = slice_get_read xs (length xs) at c.index-steps-at.result refl c.requires.within c.index-steps-at.is ∙ ap Some c.in-Elsewhere.is in
    let made : GivesWhole src ctx (elsewhere (step_of step) (exprs_of (map (named (built xs)) args.items))) values =
    subst (λ (js : List ℕ). GivesWhole src ctx (elsewhere (step_of step) (exprs_of (map (named (built xs)) js))) values) c.as_slice.ensures.value c.in_ok-values-in-Elsewhere.ensures in
    let gives : GivesWhole src ctx (named (built xs) at) values =
    subst (λ (e : Expr g.row.S.Denot). GivesWhole src ctx e values) (sym (field_is src g.S.Source.taken xs c.requires.steps at step args here)) made in
    subst (AreWhole src (built xs) ctx) (sym items) (whole_more src xs ws w ctx c.requires.place gives c.requires.so_far.whole)

pub returns-in_ok-push-in-Elsewhere-clause-grows : goal.returns-in_ok-push-in-Elsewhere-clause-grows
returns-in_ok-push-in-Elsewhere-clause-grows g c = λ i v h.
    let ws = c.args.wholes.now.items in
    let w : Whole = record { step = c.args.at; place = c.args.place; values = c.in_ok-values-in-Elsewhere.values } in
    let items : c.push.new.self.items ≡ ws ++ w ∷ [] = c.in_ok-push-in-Elsewhere.ensures.items in
    subst (λ (vs : List Whole). slice_get vs i ≡ Some v) (sym items) (grows_more ws w i v h)

pub returns-in_ok-push-in-Elsewhere-clause-there : goal.returns-in_ok-push-in-Elsewhere-clause-there
returns-in_ok-push-in-Elsewhere-clause-there g c = λ x h.
    let ctx = g.C.Context.meaning c.args.context.now in
    let ws = c.args.wholes.now.items in
    let w : Whole = record { step = c.args.at; place = c.args.place; values = c.in_ok-values-in-Elsewhere.values } in
    let items : c.push.new.self.items ≡ ws ++ w ∷ [] = c.in_ok-push-in-Elsewhere.ensures.items in
    subst (λ (vs : List Whole). IsCovered ctx vs c.args.at x) (sym items) (covered_more g.S.Source.sources c.args.steps.now ws w ctx x c.requires.place)

pub returns-in_default : goal.returns-in_default
returns-in_default g c =
    let xs = c.args.steps.now in
    let at = c.args.at in
    let ws = c.args.wholes.now.items in
    let n = 6 * at + position_of_place c.args.place in
    record {
      order = ordered_wider n (n + 1) ws (omega arith) c.requires.order;
      whole = c.requires.so_far.whole;
      grows = grows_none ws;
      there = λ x h.
          let read : slice_get xs at ≡ Some c.index-steps-at.result = slice_get_read xs (length xs) at c.index-steps-at.result refl c.requires.within c.index-steps-at.is in
          let same : Some c.index-steps-at.result ≡ Some x = sym read ∙ h in
          let is : c.index-steps-at.result ≡ x = cc in
          not_elsewhere (g.C.Context.meaning c.args.context.now) ws at x (λ step args e. c.in_default.not-Elsewhere step args (is ∙ e));
    }
