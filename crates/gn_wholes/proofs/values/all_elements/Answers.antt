use Rattle.std.proofs.Common.{◌≡◌, ◌++◌, [], ◌∷◌, ap, sym, ◌∙◌}
use Rattle.gn_wholes.proofs.Arguments.{range_more}
use Rattle.gn_wholes.proofs.values.all_elements.Goals as goal

pub loop-element-preserved : goal.loop-element-preserved
loop-element-preserved g c =
    let l = c.loop-element in
    let items : c.push.new.self.items ≡ l.elements.items ++ l.element ∷ [] = c.in_ok-push.ensures.items in
    items ∙ (ap (λ xs. xs ++ l.element ∷ []) l.invariant ∙ sym (range_more l.element))
