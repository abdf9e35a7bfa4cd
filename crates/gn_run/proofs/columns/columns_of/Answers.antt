use Rattle.std.proofs.Common.{◌≡◌, ◌++◌, ◌∷◌, [], sym, subst}
use Rattle.std.specs.List.{AllZip}
use Rattle.gn_run.specs.Evaluated.{Holds}
use Rattle.gn_run.proofs.Putting.{holds_more}
use Rattle.gn_run.proofs.columns.columns_of.Goals as goal

pub loop-register-preserved : goal.loop-register-preserved
loop-register-preserved c =
    let l = c.loop-register in
    let r = c.in-Some.register in
    let column = c.in_ok-column_of.field-0 in
    let items : c.push.new.self.items ≡ l.columns.items ++ column ∷ [] = c.in_ok-push.ensures.items in
    subst (AllZip Holds (l.yielded ++ r ∷ [])) (sym items) (holds_more l.yielded l.columns.items r column l.invariant c.in_ok-column_of.ensures)
