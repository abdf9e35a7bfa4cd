use Rattle.std.proofs.Common.{◌≡◌, ◌+◌, ◌++◌, ◌∷◌, [], subst, take, arith}
use Rattle.std.specs.Prelude.{unwrap_or}
use Rattle.gn_field.specs.Merged.{IsGathering, filled}
use Rattle.gn_field.proofs.Owned.{begun, left_more, filled_take, filled_all}
use Rattle.gn_field.proofs.field.gather_behind.Goals as goal

pub loop-field-init : goal.loop-field-init
loop-field-init g c =
    let t = c.in_ok-taken.taken in
    rw c.in_ok-roots.ensures.items (begun g.S.Source.sources g.S.Source.taken c.args.base t.root t.steps.items c.in_ok-taken.ensures)

pub loop-field-preserved : goal.loop-field-preserved
loop-field-preserved g c =
    let l = c.loop-field in
    let base = c.args.base in
    let rest = c.args.rest.now in
    let o = c.field-item.result in
    let root = c.in_ok-taken.taken.root in
    let place = c.in_ok-place.place in
    let more : take (l.field-index + 1) (filled base rest) ≡ take l.field-index (filled base rest) ++ unwrap_or o base ∷ [] = filled_take g.S.Source.sources g.S.Source.taken base rest l.field-index o c.loop-field-test.true c.field-item.is in
    let items : c.push.new.self.items ≡ l.roots.items ++ place ∷ [] = c.in_ok-push.ensures.items in
    rw (items, more) (left_more g.S.Source.sources g.S.Source.taken base root (take l.field-index (filled base rest)) l.steps.items l.roots.items o place c.join_left.new.steps.items l.invariant c.in_ok-place.ensures)

pub returns : goal.returns
returns g c =
    let l = c.loop-field in
    let base = c.args.base in
    let rest = c.args.rest.now in
    let root = c.in_ok-taken.taken.root in
    let all : take l.field-index (filled base rest) ≡ filled base rest = filled_all g.S.Source.sources g.S.Source.taken base rest l.field-index (omega (arith, c.loop-field-test.false)) in
    (root, subst (λ es. IsGathering g.S.Source.sources g.S.Source.taken base root es l.steps.items l.roots.items) all l.invariant)
