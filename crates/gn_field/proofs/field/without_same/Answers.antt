use Rattle.std.proofs.Common.{◌≡◌, ◌++◌, ◌∷◌, []}
use Rattle.gn_field.proofs.Owned.{left_push}
use Rattle.gn_field.proofs.field.without_same.Goals as goal

pub loop-field-preserved : goal.loop-field-preserved
loop-field-preserved g c =
    let l = c.loop-field in
    let items : c.push.new.self.items ≡ l.rest.items ++ c.unless_same.result ∷ [] = c.in_ok-push.ensures.items in
    rw items (left_push g.S.Source.sources g.S.Source.taken c.args.base.now l.yielded l.rest.items c.in-Some.field c.unless_same.result l.invariant c.unless_same.ensures)
