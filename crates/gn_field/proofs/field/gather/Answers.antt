use Rattle.std.proofs.Common.{◌≡◌, ◌+◌, ◌∷◌, [], ◌++◌, sym, ◌∙◌, ap, take}
use Rattle.std.proofs.lemmas.List.{take_more}
use Rattle.gn_field.proofs.Joining.{gathers_more}
use Rattle.gn_field.proofs.field.gather.Goals as goal

pub loop-field-preserved : goal.loop-field-preserved
loop-field-preserved g c =
    let l = c.loop-field in
    let e = c.field-item.result in
    let fields = c.args.fields.now in
    let more : take (l.field-index + 1) fields ≡ take l.field-index fields ++ e ∷ [] =
    take_more fields l.field-index e c.loop-field-test.true ∙ ap (λ x. take l.field-index fields ++ x ∷ []) (sym c.field-item.is) in
    let items : c.push.new.self.items ≡ l.roots.items ++ c.in_ok-root.root ∷ [] = c.in_ok-push.ensures.items in
    rw (items, more) (gathers_more g.S.Source.sources g.S.Source.taken (take l.field-index fields) l.steps.items l.roots.items e c.in_ok-root.root c.join.new.steps.items l.invariant c.in_ok-root.ensures)
