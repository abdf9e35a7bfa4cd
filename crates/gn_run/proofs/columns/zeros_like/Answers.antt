use Rattle.std.proofs.Common.{◌≡◌, ◌+◌, ◌++◌, ◌∷◌, [], ◌∙◌, take, subst, sym, ap}
use Rattle.std.specs.List.{AllZip}
use Rattle.std.proofs.lemmas.List.{take_more, take_all}
use Rattle.gn_value.specs.Values.{zero_of}
use Rattle.gn_run.specs.Putting.{IsZeroOf}
use Rattle.gn_run.proofs.Putting.{zero_more}
use Rattle.gn_run.proofs.columns.zeros_like.Goals as goal

pub loop-register-preserved : goal.loop-register-preserved
loop-register-preserved c =
    let l = c.loop-register in
    let n = c.args.count in
    let rs = c.args.registers.now in
    let r = c.register-item.result in
    let z = c.in_ok-zeros.field-0 in
    let one : IsZeroOf n r z = record { kind = c.in_ok-zeros.ensures.kind ∙ c.kind_of.ensures; len = c.in_ok-zeros.ensures.len; values = λ i h. c.in_ok-zeros.ensures.values i h ∙ ap zero_of c.kind_of.ensures } in
    let more : take (l.register-index + 1) rs ≡ take l.register-index rs ++ r ∷ [] = take_more rs l.register-index r c.loop-register-test.true ∙ ap (λ x. take l.register-index rs ++ x ∷ []) (sym c.register-item.is) in
    let items : c.push.new.self.items ≡ l.list.items ++ z ∷ [] = c.in_ok-push.ensures.items in
    subst (λ ys. AllZip (IsZeroOf n) ys c.push.new.self.items) (sym more)
    (subst (AllZip (IsZeroOf n) (take l.register-index rs ++ r ∷ [])) (sym items)
    (zero_more n (take l.register-index rs) l.list.items r z l.invariant one))

pub returns : goal.returns
returns c =
    let l = c.loop-register in
    subst (λ rs. AllZip (IsZeroOf c.args.count) rs l.list.items) (take_all l.register-index c.args.registers.now c.loop-register-test.false) l.invariant
