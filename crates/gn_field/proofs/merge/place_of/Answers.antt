use Rattle.std.proofs.Common.{◌≡◌, ◌+◌, ◌++◌, ◌∷◌, [], inl, inr, sym, ◌∙◌, ap, subst, take, true, false, length, Some, refl}
use Rattle.std.proofs.lemmas.Option.{slice_get_read}
use Rattle.std.proofs.lemmas.List.{take_more}
use Rattle.gn_node_set.specs.Meanings.{Has}
use Rattle.gn_node_set.proofs.Lists.{map_append, has_either, at_image}
use Rattle.gn_field.proofs.Merging.{none_before, map_take}
use Rattle.gn_field.specs.Steps.{key_of, keys}
use Rattle.gn_field.proofs.merge.place_of.Goals as goal

pub loop-at-init : goal.loop-at-init
loop-at-init g c h =
    let steps = c.args.steps.now in
    let n = c.first_place-at.result in
    none_before (keys steps) (key_of c.args.step.now) n c.requires c.first_place-at.ensures (subst (λ ks. Has ks (key_of c.args.step.now)) (map_take key_of n steps) h)

pub returns-then-is_same-clause-found : goal.returns-then-is_same-clause-found
returns-then-is_same-clause-found g c =
    let steps = c.args.steps.now in
    let at = c.loop-at.at in
    let x = c.index-steps-at.result in
    let key : key_of x ≡ key_of c.args.step.now = c.is_same.ensures.0 c.if-is_same.true in
    at_image key_of steps at x (slice_get_read steps (length steps) at x refl c.loop-at-test.true c.index-steps-at.is) ∙ ap Some key

pub loop-at-preserved : goal.loop-at-preserved
loop-at-preserved g c h =
    let steps = c.args.steps.now in
    let at = c.loop-at.at in
    let key = key_of c.args.step.now in
    let x = c.index-steps-at.result in
    let more : keys (take (at + 1) steps) ≡ keys (take at steps) ++ key_of x ∷ [] =
    ap keys (take_more steps at x c.loop-at-test.true ∙ ap (λ y. take at steps ++ y ∷ []) (sym c.index-steps-at.is)) ∙ map_append key_of (take at steps) (x ∷ []) in
    elim (has_either (keys (take at steps)) (key_of x ∷ []) key (subst (λ ks. Has ks key) more h)) [
      | inl a ↦ c.loop-at.invariant a
      | inr b ↦ elim b [ inl e ↦ (let n : c.is_same.result ≡ true = c.is_same.ensures.1 (sym e) in let f : c.is_same.result ≡ false = c.if-is_same.false in cc) | inr n ↦ absurd n ]
    ]
